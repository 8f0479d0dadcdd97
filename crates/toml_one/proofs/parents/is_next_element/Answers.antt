use Rattle.std.proofs.Common.{Some, not, ap, ◌∙◌, subst}
use Rattle.std.proofs.lemmas.Bool.{false≢true}
use Rattle.toml_places.specs.declared.place.PlaceStep.TheVariants.{Behind}
use Rattle.toml_places.specs.Parts.{IsStepOf, kinds_in}
use Rattle.toml_one.proofs.Standing.{no_next, some_there, test_is}
use Rattle.toml_one.proofs.parents.is_next_element.Goals as goal

pub returns-in-Some-Index : goal.returns-in-Some-Index
returns-in-Some-Index c =
    let kinds = kinds_in c.args.names.now c.args.part in
    test_is kinds c.in-Some-Index.len c.args.index (subst (IsStepOf kinds Behind) (c.in-Some-Index.is ∙ ap Some c.in-Some-Index.field-0-is) c.in_ok-len.ensures)

pub returns : goal.returns
returns c =
    let kinds = kinds_in c.args.names.now c.args.part in
    let there = some_there c.args.names.now c.args.part c.requires (c.is_none.ensures ∙ ap not c.if-is_none.false) in
    (λ t. absurd (false≢true t), λ h. absurd (no_next kinds c.args.index there (subst (IsStepOf kinds Behind) c.in-None.is c.in_ok-len.ensures) h))
