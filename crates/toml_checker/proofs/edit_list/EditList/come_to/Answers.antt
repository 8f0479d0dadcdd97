use Rattle.std.proofs.Common.{sym, subst}
use Rattle.std.proofs.Math.Logic.{∥∥₁_map}
use Rattle.std.specs.Prelude.{IfSome}
use Rattle.toml_edits.specs.Told.{TellsOf}
use Rattle.toml_checker.specs.EditLists.{changes}
use Rattle.toml_checker.specs.Sights.{HasSight}
use Rattle.toml_checker.proofs.edit_list.EditList.come_to.Goals as goal

pub returns-in-Some-Some : goal.returns-in-Some-Some
returns-in-Some-Some c =
    let list = c.args.self.now in
    subst (λ o. HasSight list o c.look.result) (sym c.in-Some-Some.is-0)
    (∥∥₁_map list.tells (λ h. c.look.ensures (changes list) (subst (λ o. IfSome o (TellsOf (changes list))) c.in-Some-Some.is-1 h) list.few))
