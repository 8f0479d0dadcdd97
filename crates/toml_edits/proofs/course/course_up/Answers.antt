use Rattle.std.proofs.Common.{length, ◌+◌, ◌^◌, ◌≤◌, ◌<◌, None, refl, sym, arith}
use Rattle.toml_names.specs.declared.model.address.Step.TheVariants.{Index}
use Rattle.toml_edits.specs.Carry.{up_from}
use Rattle.toml_edits.proofs.Ways.{carry_no_index, carried_step, turned_step, kept_step, up_low, up_high, up_end}
use Rattle.toml_edits.proofs.course.course_up.Goals as goal

pub returns-in_default : goal.returns-in_default
returns-in_default c = sym (carry_no_index c.args.parent.now (up_from c.args.from) c.args.steps.now refl (λ n r. refl) c.in_default.ensures)

pub returns-then-index-from : goal.returns-then-index-from
returns-then-index-from c =
    let way = c.in-Some.ensures in
    let step = Index c.in-Some.index in
    sym (kept_step c.args.parent.now (up_from c.args.from) c.args.steps.now way.0 step step way.1 refl (up_low c.args.from c.in-Some.index way.0 c.if-index-from.true))

pub returns-then-index : goal.returns-then-index
returns-then-index c =
    let way = c.in-Some.ensures in
    let step = Index c.in-Some.index in
    let full : 2 ^ 64 ≤ c.in-Some.index + 1 = omega arith in
    sym (carried_step c.args.parent.now (up_from c.args.from) c.args.steps.now way.0 step step None way.1 refl (up_end c.args.from c.in-Some.index way.0 c.if-index-from.false full))

pub returns : goal.returns
returns c =
    let way = c.in-Some.ensures in
    let step = Index c.in-Some.index in
    let fits : c.in-Some.index + 1 < 2 ^ 64 = omega arith in
    turned_step c.args.parent.now (up_from c.args.from) c.args.steps.now way.0 step step (Index (c.in-Some.index + 1)) (length c.args.parent.now) refl way.1 refl (up_high c.args.from c.in-Some.index way.0 c.if-index-from.false fits)
