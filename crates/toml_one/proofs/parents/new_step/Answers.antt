use Rattle.std.proofs.Common.{not, sym, ap, ◌∙◌}
use Rattle.toml_places.specs.Parts.{IsStepOf, kinds_in}
use Rattle.toml_one.specs.Parents.{IsNewStepOf}
use Rattle.toml_one.proofs.Standing.{if_ok, some_there, step_not_behind, step_there}
use Rattle.toml_one.proofs.parents.new_step.Goals as goal
use Rattle.toml_one.proofs.parents.new_step.Goals.{else-is_none-via-then-is_none+else-is_behind, else-is_none-via-else-is_none}

pub returns : goal.returns
returns c =
    let kinds = kinds_in c.args.names.now c.args.part in
    let s = c.args.step.now in
    elim c.else-is_none.branch [
      | else-is_none-via-then-is_none+else-is_behind w ↦
          if_ok (IsStepOf kinds s) (IsNewStepOf kinds s) c.step_in.result (λ found is. step_not_behind kinds s found (sym w.is_behind.ensures ∙ w.if-is_behind.false) is) c.step_in.ensures
      | else-is_none-via-else-is_none w ↦
          if_ok (IsStepOf kinds s) (IsNewStepOf kinds s) c.step_in.result
          (λ found is. step_there kinds s found (some_there c.args.names.now c.args.part c.requires (c.is_none.ensures ∙ ap not w.if-is_none.false)) is) c.step_in.ensures
    ]
