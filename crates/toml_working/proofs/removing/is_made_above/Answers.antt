use Rattle.std.proofs.Common.{◌≡◌, ◌∙◌, ◌-◌, drop, ap, arith, sym}
use Rattle.std.specs.List.{list_any}
use Rattle.std.proofs.lemmas.List.Folds.{list_any_at}
use Rattle.toml_working.specs.Seeing.{read_by}
use Rattle.toml_working.proofs.MadeBeside.{has_maker, slots_have}
use Rattle.toml_working.proofs.removing.is_made_above.Goals as goal

pub returns-then-is_made : goal.returns-then-is_made
returns-then-is_made c lines =
    let read = read_by c.args.units.now lines in
    let has = has_maker c.args.address.now c.args.other.now read in
    let here = ap has (sym c.index-slots-place.is) ∙ sym (c.is_made.ensures lines) ∙ c.if-is_made.true in
    sym (slots_have c.args.address.now c.args.other.now read c.args.slots.now
    ∙ list_any_at has c.args.slots.now (c.loop-place.place - 1) c.index-slots-place.result (omega arith) here)

pub returns : goal.returns
returns c lines =
    let read = read_by c.args.units.now lines in
    let has = has_maker c.args.address.now c.args.other.now read in
    let none : c.loop-place.place ≡ 0 = omega (arith, c.loop-place-test.false) in
    sym (slots_have c.args.address.now c.args.other.now read c.args.slots.now
    ∙ ap (λ n. list_any has (drop n c.args.slots.now)) (sym none) ∙ c.loop-place.invariant lines)
