use Rattle.std.proofs.Common.{◌≡◌, ◌+◌, ◌∷◌, Some, drop, sym, ap, subst}
use Rattle.toml_names.specs.reader.Parts.{IsPart, part_kinds}
use Rattle.toml_places.proofs.LedTo.{LedTo, led_to_start, led_to_next, led_to_end, steps_left, no_steps_left}
use Rattle.toml_places.proofs.leading.part_at.Goals as goal

pub loop-step-init : goal.loop-step-init
loop-step-init c =
    let parts = c.args.names.now in
    let at = c.args.at.now in
    let start : LedTo (part_kinds parts 0) at parts at (Some 0) = led_to_start parts at (subst (IsPart parts) c.root.ensures.root c.root.ensures.part) in
    subst (λ o. LedTo (part_kinds parts 0) at parts at o) (sym (ap Some c.root.ensures.root)) start

pub loop-step-preserved : goal.loop-step-preserved
loop-step-preserved c =
    let parts = c.args.names.now in
    let at = c.args.at.now in
    let i = c.loop-step.step-index in
    let s = c.step-item.result in
    let next : drop i at ≡ s ∷ drop (i + 1) at = steps_left at i s _ c.loop-step-test.true c.step-item.is in
    let led = subst (λ l. LedTo (part_kinds parts 0) at parts l c.loop-step.part) next c.loop-step.invariant in
    led_to_next (part_kinds parts 0) at parts c.loop-step.part s (drop (i + 1) at) c.in_ok-part.part led c.in_ok-part.ensures

pub returns : goal.returns
returns c =
    let parts = c.args.names.now in
    let at = c.args.at.now in
    let none = no_steps_left at c.loop-step.step-index c.loop-step-test.false in
    let led = subst (λ l. LedTo (part_kinds parts 0) at parts l c.loop-step.part) none c.loop-step.invariant in
    led_to_end (part_kinds parts 0) at parts c.loop-step.part led
