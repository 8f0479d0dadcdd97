use Rattle.std.proofs.Common.{None, refl, sym}
use Rattle.toml_edits.specs.Carry.{nowhere}
use Rattle.toml_edits.proofs.Ways.{carried, carry_past}
use Rattle.toml_edits.proofs.course.course_away.Goals as goal

pub returns-in-Some : goal.returns-in-Some
returns-in-Some c = sym (carried c.args.place.now nowhere c.args.steps.now c.in-Some.field-0.now None c.in-Some.ensures refl)

pub returns-in-None : goal.returns-in-None
returns-in-None c = sym (carry_past c.args.place.now nowhere c.args.steps.now c.in-None.ensures)
