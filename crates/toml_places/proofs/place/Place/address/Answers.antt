use Rattle.std.proofs.Common.{◌≡◌, ◌+◌, [], ◌∷◌, Some, drop, sym, ap, subst}
use Rattle.toml_names.specs.reader.Parts.{IsPart, part_kinds}
use Rattle.toml_places.specs.Leading.{LeadsTo, LeadsNowhere}
use Rattle.toml_places.specs.Parts.{IsStepOf, kinds_in}
use Rattle.toml_places.proofs.Led.{Led, led_start, led_next, led_end, led_nowhere, left_is, left_none}
use Rattle.toml_places.proofs.place.Place.address.Goals as goal

pub loop-place_step-init : goal.loop-place_step-init
loop-place_step-init c =
    let parts = c.args.names.now in
    let place = c.steps-place_step-items.result.now in
    let start : Led (part_kinds parts 0) place parts [] place (Some 0) = led_start parts place (subst (IsPart parts) c.root.ensures.root c.root.ensures.part) in
    subst (λ o. Led (part_kinds parts 0) place parts c.in_ok-steps.steps.items place o) (sym (ap Some c.root.ensures.root))
    (subst (λ l. Led (part_kinds parts 0) place parts l place (Some 0)) (sym c.in_ok-steps.ensures.items) start)

pub returns-in_default : goal.returns-in_default
returns-in_default c =
    let place = c.steps-place_step-items.result.now in
    let i = c.loop-place_step.place_step-index in
    let s = c.place_step-item.result in
    let next : drop i place ≡ s ∷ drop (i + 1) place = left_is place i s _ c.loop-place_step-test.true c.place_step-item.is in
    let none = subst (IsStepOf (kinds_in c.args.names.now c.loop-place_step.part) s) c.in_default.is c.in_ok-step.ensures in
    let led = subst (λ l. Led (part_kinds c.args.names.now 0) place c.args.names.now c.loop-place_step.steps.items l c.loop-place_step.part) next c.loop-place_step.invariant in
    subst (LeadsNowhere (part_kinds c.args.names.now 0)) c.steps-place_step-items.ensures
    (led_nowhere (part_kinds c.args.names.now 0) place c.args.names.now c.loop-place_step.steps.items c.loop-place_step.part s (drop (i + 1) place) led none)

pub loop-place_step-preserved : goal.loop-place_step-preserved
loop-place_step-preserved c =
    let place = c.steps-place_step-items.result.now in
    let i = c.loop-place_step.place_step-index in
    let s = c.place_step-item.result in
    let next : drop i place ≡ s ∷ drop (i + 1) place = left_is place i s _ c.loop-place_step-test.true c.place_step-item.is in
    let is = subst (IsStepOf (kinds_in c.args.names.now c.loop-place_step.part) s) c.in-Some.is c.in_ok-step.ensures in
    let led = subst (λ l. Led (part_kinds c.args.names.now 0) place c.args.names.now c.loop-place_step.steps.items l c.loop-place_step.part) next c.loop-place_step.invariant in
    subst (λ l. Led (part_kinds c.args.names.now 0) place c.args.names.now l (drop (i + 1) place) c.in_ok-part.part) (sym c.in_ok-push.ensures.items)
    (led_next (part_kinds c.args.names.now 0) place c.args.names.now c.loop-place_step.steps.items c.loop-place_step.part s (drop (i + 1) place) c.in-Some.step c.in_ok-part.part led is c.in_ok-part.ensures)

pub returns : goal.returns
returns c =
    let place = c.steps-place_step-items.result.now in
    let none = left_none place c.loop-place_step.place_step-index c.loop-place_step-test.false in
    let led = subst (λ l. Led (part_kinds c.args.names.now 0) place c.args.names.now c.loop-place_step.steps.items l c.loop-place_step.part) none c.loop-place_step.invariant in
    subst (λ p. LeadsTo (part_kinds c.args.names.now 0) p c.of.result) c.steps-place_step-items.ensures
    (subst (LeadsTo (part_kinds c.args.names.now 0) place) (sym c.of.ensures)
    (led_end (part_kinds c.args.names.now 0) place c.args.names.now c.loop-place_step.steps.items c.loop-place_step.part led))
