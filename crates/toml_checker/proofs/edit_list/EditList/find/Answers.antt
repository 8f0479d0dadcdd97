use Rattle.std.proofs.Common.{subst}
use Rattle.std.specs.Prelude.{IfSome}
use Rattle.toml_edits.specs.Lists.{carried}
use Rattle.toml_edits.specs.Told.{IsWhere, TellsOf}
use Rattle.toml_checker.specs.EditLists.{changes}
use Rattle.toml_checker.proofs.Sighted.{found_so}
use Rattle.toml_checker.proofs.edit_list.EditList.find.Goals as goal

pub returns-in-Some : goal.returns-in-Some
returns-in-Some c =
    let list = c.args.self.now in
    found_so c.find.result (IsWhere (carried (changes list) c.args.at.now)) list.tells (λ h. c.find.ensures (changes list) (subst (λ o. IfSome o (TellsOf (changes list))) c.in-Some.is h) list.few)
