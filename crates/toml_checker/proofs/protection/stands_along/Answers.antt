use Rattle.std.proofs.Common.{◌≡◌, false, None, sym, ap, ◌∙◌}
use Rattle.toml_edits.specs.Carry.{carry}
use Rattle.toml_edits.specs.Edits.{change, place}
use Rattle.toml_edits.specs.Sides.{side}
use Rattle.toml_checker.specs.Plain.{is_named}
use Rattle.toml_checker.proofs.Walked.{nowhere_left}
use Rattle.toml_checker.proofs.protection.stands_along.Goals as goal

pub returns-in-None : goal.returns-in-None
returns-in-None c =
    let e = change c.edit-item.result in
    let at = c.loop-edit.here in
    let lies : c.side_of-side.result ≡ side (place e) at =
    c.side_of-side.ensures ∙ ap (λ p. side p c.steps-in-loop-edit.result.now) (c.steps.ensures ∙ c.place.ensures) ∙ ap (side (place e)) c.steps-in-loop-edit.ensures in
    let named : is_named c.args.part e c.args.base (side (place e) at) ≡ false = ap (is_named c.args.part e c.args.base) (sym lies) ∙ sym c.is_named.ensures ∙ c.if-is_named.false in
    let away : carry e at ≡ None = sym c.in_ok-next.ensures ∙ c.in-None.is in
    sym (sym c.loop-edit.invariant ∙ nowhere_left c.args.part c.args.edits.now c.loop-edit.edit-index c.edit-item.result at c.args.base c.loop-edit-test.true c.edit-item.is named away)
