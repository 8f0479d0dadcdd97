use Rattle.std.proofs.Common.{length, ◌-◌, ◌<◌, None, refl, sym, arith}
use Rattle.toml_names.specs.declared.model.address.Step.TheVariants.{Index}
use Rattle.toml_edits.specs.Carry.{down_above}
use Rattle.toml_edits.proofs.Ways.{carry_no_index, carried_step, turned_step, kept_step, down_low, down_here, down_high}
use Rattle.toml_edits.proofs.course.course_down.Goals as goal

pub returns-in_default : goal.returns-in_default
returns-in_default c = sym (carry_no_index c.args.parent.now (down_above c.args.removed) c.args.steps.now refl (λ n r. refl) c.in_default.ensures)

pub returns-then-index-removed : goal.returns-then-index-removed
returns-then-index-removed c =
    let way = c.in-Some.ensures in
    let step = Index c.in-Some.index in
    sym (kept_step c.args.parent.now (down_above c.args.removed) c.args.steps.now way.0 step step way.1 refl (down_low c.args.removed c.in-Some.index way.0 c.if-index-removed.true))

pub returns-then-index-removed-2 : goal.returns-then-index-removed-2
returns-then-index-removed-2 c =
    let way = c.in-Some.ensures in
    let step = Index c.in-Some.index in
    sym (carried_step c.args.parent.now (down_above c.args.removed) c.args.steps.now way.0 step step None way.1 refl (down_here c.args.removed c.in-Some.index way.0 c.if-index-removed-2.true))

pub returns : goal.returns
returns c =
    let way = c.in-Some.ensures in
    let step = Index c.in-Some.index in
    let high : c.args.removed < c.in-Some.index = omega arith in
    turned_step c.args.parent.now (down_above c.args.removed) c.args.steps.now way.0 step step (Index (c.in-Some.index - 1)) (length c.args.parent.now) refl way.1 refl (down_high c.args.removed c.in-Some.index way.0 high)
