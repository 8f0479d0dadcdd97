use Rattle.std.proofs.Common.{OnOk, subst}
use mathlib.Core.Path.{fun_ext}
use Rattle.toml_edits.specs.Applied.{IsApplied}
use Rattle.toml_edits.specs.Drafts.{drafted}
use Rattle.toml_edits.specs.Edits.{change}
use Rattle.toml_edits.proofs.draft.Draft.apply_to_element.Goals as goal

pub returns-clause-ok : goal.returns-clause-ok
returns-clause-ok c =
    subst (λ f. OnOk c.apply_turned.result (IsApplied c.args.profile (change c.args.edit.now) f (drafted c.apply_turned.new.self)))
    (fun_ext c.turn_to_element.ensures.same) c.apply_turned.ensures.ok
