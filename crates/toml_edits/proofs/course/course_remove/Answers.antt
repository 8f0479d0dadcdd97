use Rattle.std.proofs.Common.{[], ◌∷◌, ◌++◌, ◌∙◌, ap, sym}
use Rattle.toml_names.specs.declared.model.address.Step.TheVariants.{Name, Index}
use Rattle.toml_edits.specs.Carry.{nowhere}
use Rattle.toml_edits.proofs.Ways.{parted_of, carry_joined}
use Rattle.toml_edits.proofs.course.course_remove.Goals as goal

pub returns-in-Name : goal.returns-in-Name
returns-in-Name c =
    rw (parted_of c.args.place.now c.in-Some.parent.now c.in-Some.last.now (Name c.in-Name.field-0) c.in-Some.ensures.cases.0 c.in-Name.is, sym (carry_joined c.in-Some.parent.now (Name c.in-Name.field-0 ∷ []) nowhere c.args.steps.now))
    (rw (sym (c.in-Some.ensures.cases.0 ∙ ap (λ s. c.in-Some.parent.now ++ s ∷ []) c.in-Name.is)) c.course_away.ensures)

pub returns-in-Index : goal.returns-in-Index
returns-in-Index c = rw (parted_of c.args.place.now c.in-Some.parent.now c.in-Some.last.now (Index c.in-Index.index) c.in-Some.ensures.cases.0 c.in-Index.is) c.course_down.ensures
