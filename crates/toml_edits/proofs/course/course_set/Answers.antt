use Rattle.std.proofs.Common.{◌∙◌, sym}
use Rattle.toml_edits.specs.Carry.{emptied}
use Rattle.toml_edits.proofs.Ways.{setting_below, set_here, set_below, carry_past}
use Rattle.toml_edits.proofs.course.course_set.Goals as goal

pub returns-in_default : goal.returns-in_default
returns-in_default c =
    sym (setting_below c.args.place.now c.args.steps.now (sym c.is_empty.ensures ∙ c.if-is_empty.false) ∙ carry_past c.args.place.now emptied c.args.steps.now c.in_default.ensures)

pub returns-then-is_empty-2 : goal.returns-then-is_empty-2
returns-then-is_empty-2 c =
    sym (set_here c.args.place.now c.args.steps.now c.in-Some.rest.now (sym c.is_empty.ensures ∙ c.if-is_empty.false) c.in-Some.ensures (sym c.is_empty-2.ensures ∙ c.if-is_empty-2.true))

pub returns : goal.returns
returns c = sym (set_below c.args.place.now c.args.steps.now c.in-Some.rest.now (sym c.is_empty.ensures ∙ c.if-is_empty.false) c.in-Some.ensures (sym c.is_empty-2.ensures ∙ c.if-is_empty-2.false))
