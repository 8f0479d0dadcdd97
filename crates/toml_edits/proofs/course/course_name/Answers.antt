use Rattle.std.proofs.Common.{length, refl, sym}
use Rattle.toml_names.specs.declared.model.address.Step.TheVariants.{Name, Index}
use Rattle.toml_edits.specs.Carry.{to_name}
use Rattle.toml_edits.proofs.Ways.{carry_elsewhere, turned_step, kept_step, name_new, name_other}
use Rattle.toml_edits.proofs.course.course_name.Goals as goal

pub returns-in_default : goal.returns-in_default
returns-in_default c = sym (carry_elsewhere c.args.parent.now (to_name c.args.from.now c.args.to.now) c.args.steps.now refl c.in_default.ensures)

pub returns-in_default-step : goal.returns-in_default-step
returns-in_default-step c =
    sym (kept_step c.args.parent.now (to_name c.args.from.now c.args.to.now) c.args.steps.now c.in-Some.field-0-1.now c.in-Some.step.now (Index c.in_default-step.field-0) c.in-Some.ensures c.in_default-step.is refl)

pub returns-then-ne : goal.returns-then-ne
returns-then-ne c =
    sym (kept_step c.args.parent.now (to_name c.args.from.now c.args.to.now) c.args.steps.now c.in-Some.field-0-1.now c.in-Some.step.now (Name c.in-Name.name) c.in-Some.ensures c.in-Name.is (name_other c.args.from.now c.args.to.now c.in-Name.name c.as_str.result.now c.as_str-2.result.now c.ne.result c.in-Some.field-0-1.now c.as_str.ensures c.as_str-2.ensures c.ne.ensures c.if-ne.true))

pub returns : goal.returns
returns c =
    turned_step c.args.parent.now (to_name c.args.from.now c.args.to.now) c.args.steps.now c.in-Some.field-0-1.now c.in-Some.step.now (Name c.in-Name.name) (Name c.args.to.now) (length c.args.parent.now) refl c.in-Some.ensures c.in-Name.is (name_new c.args.from.now c.args.to.now c.in-Name.name c.as_str.result.now c.as_str-2.result.now c.ne.result c.in-Some.field-0-1.now c.as_str.ensures c.as_str-2.ensures c.ne.ensures c.if-ne.false)
