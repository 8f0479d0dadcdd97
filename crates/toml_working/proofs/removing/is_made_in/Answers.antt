use Rattle.std.proofs.Common.{◌∙◌, ◌||◌, ◌≤◌, length, ap, ap₂, arith, sym}
use Rattle.std.specs.List.{list_any}
use Rattle.std.proofs.lemmas.List.{take_all}
use Rattle.std.proofs.lemmas.List.Folds.{list_any_at, list_any_more}
use Rattle.toml_working.specs.Seeing.{read_by}
use Rattle.toml_working.proofs.MadeBeside.{has_maker, slots_have}
use Rattle.toml_working.proofs.removing.is_made_in.Goals as goal

pub returns-then-is_made : goal.returns-then-is_made
returns-then-is_made c lines =
    let read = read_by c.args.units.now lines in
    let has = has_maker c.args.address.now c.args.other.now read in
    let here = ap has (sym c.slot-item.is) ∙ sym (c.is_made.ensures lines) ∙ c.if-is_made.true in
    sym (slots_have c.args.address.now c.args.other.now read c.args.slots.now
    ∙ list_any_at has c.args.slots.now c.loop-slot.slot-index c.slot-item.result c.loop-slot-test.true here)

pub loop-slot-preserved : goal.loop-slot-preserved
loop-slot-preserved c lines =
    let read = read_by c.args.units.now lines in
    let has = has_maker c.args.address.now c.args.other.now read in
    let here = ap has (sym c.slot-item.is) ∙ sym (c.is_made.ensures lines) ∙ c.if-is_made.false in
    list_any_more has c.args.slots.now c.loop-slot.slot-index c.slot-item.result c.loop-slot-test.true ∙ ap₂ (λ a b. a || b) (c.loop-slot.invariant lines) here

pub returns : goal.returns
returns c lines =
    let read = read_by c.args.units.now lines in
    let has = has_maker c.args.address.now c.args.other.now read in
    let past : length c.args.slots.now ≤ c.loop-slot.slot-index = omega (arith, c.loop-slot-test.false) in
    sym (slots_have c.args.address.now c.args.other.now read c.args.slots.now
    ∙ ap (list_any has) (sym (take_all c.loop-slot.slot-index c.args.slots.now past)) ∙ c.loop-slot.invariant lines)
