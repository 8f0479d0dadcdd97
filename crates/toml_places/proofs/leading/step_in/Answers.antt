use Rattle.std.proofs.Common.{subst, None, option_map, refl}
use Rattle.toml_names.specs.declared.model.address.Step.TheVariants as steps
use Rattle.toml_places.specs.declared.place.PlaceStep.TheVariants.{FromEnd, Behind}
use Rattle.toml_places.specs.Parts.{IsLengthOf, kinds_in}
use Rattle.toml_places.proofs.Parts.{from_end_is, from_end_none, behind_is, step_is}
use Rattle.toml_places.proofs.leading.step_in.Goals as goal

pub returns-in-Some : goal.returns-in-Some
returns-in-Some c =
    let kinds = kinds_in c.args.names.now c.args.part in
    let n = c.in-FromEnd.n in
    let array = subst (IsLengthOf kinds) c.in-Some.is c.in_ok-len-in-FromEnd.ensures in
    step_is kinds c.args.step.now (FromEnd n) c.index_step.result (option_map steps.Index c.from_end.result) c.in-FromEnd.is c.index_step.ensures
    (from_end_is kinds c.in-Some.len n array c.from_end.result c.from_end.ensures)

pub returns-in-None : goal.returns-in-None
returns-in-None c =
    let kinds = kinds_in c.args.names.now c.args.part in
    step_is kinds c.args.step.now (FromEnd c.in-FromEnd.n) None None c.in-FromEnd.is refl
    (from_end_none kinds c.in-FromEnd.n (subst (IsLengthOf kinds) c.in-None.is c.in_ok-len-in-FromEnd.ensures))

pub returns-in_ok-array_len-in-Behind : goal.returns-in_ok-array_len-in-Behind
returns-in_ok-array_len-in-Behind c =
    let kinds = kinds_in c.args.names.now c.args.part in
    let found = c.in_ok-array_len-in-Behind in
    step_is kinds c.args.step.now Behind c.index_step-in-Behind.result (option_map steps.Index found.field-0) c.in-Behind.is c.index_step-in-Behind.ensures (behind_is kinds found.field-0 found.ensures)
