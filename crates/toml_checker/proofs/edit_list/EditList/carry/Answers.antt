use Rattle.std.proofs.Common.{sym, subst}
use Rattle.std.proofs.Math.Logic.{∥∥₁_elim}
use Rattle.std.proofs.Props.{props}
use Rattle.toml_edits.specs.Lists.{carried}
use Rattle.toml_edits.specs.Told.{IsWhere}
use Rattle.toml_checker.specs.EditLists.{changes}
use Rattle.toml_checker.proofs.edit_list.EditList.carry.Goals as goal

pub returns-in-To : goal.returns-in-To
returns-in-To c = ∥∥₁_elim (subst (λ x. ∥ IsWhere (carried (changes c.args.self.now) c.args.at.now) x ∥₁) c.in-To.is c.in_ok-find.ensures) (hlevel props) (λ e. sym e)
