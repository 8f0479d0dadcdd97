use Rattle.std.proofs.Common.{◌≡◌, ◌<◌, ◌≤◌, ◌-◌, ◌∙◌, ℕ, zero, suc, Some, length, refl, ap, sym, arith}
use Rattle.std.specs.Prelude.{slice_get}
use Rattle.std.proofs.lemmas.Option.{slice_get-get_or}
use Rattle.toml_working.proofs.HeaderPut.{end_here, none_here, none_of_all}
use Rattle.toml_working.proofs.Placed.{past_all}
use Rattle.toml_working.proofs.working.Tree.last_line.Goals as goal

pub loop-slot-init : goal.loop-slot-init
loop-slot-init c read = past_all read c.args.self.now.slots.items c.len-slot.result 0 (let e = c.len-slot.ensures in omega (arith, e))

pub returns-in-Some : goal.returns-in-Some
returns-in-Some c read =
    let slots = c.args.self.now.slots.items in
    let some : 0 < c.loop-slot.slot = omega (arith, c.loop-slot-test.true) in
    let low : c.loop-slot.slot - 1 < length slots = let e = c.len-slot.ensures in let h = c.loop-slot.auto.slot in omega (arith, some, e, h) in
    let there : slice_get slots (c.loop-slot.slot - 1) ≡ Some c.index.result.now =
    slice_get-get_or slots (c.loop-slot.slot - 1) c.index.result.now low ∙ ap Some (sym c.index.ensures) in
    end_here read slots c.loop-slot.slot c.count.result c.index.result.now some there (c.count.ensures read) (c.loop-slot.invariant read) c.in-Some.index
    (let h = c.in-Some.ensures in omega (arith, h.0, h.1)) c.count.type_inv

pub loop-slot-preserved : goal.loop-slot-preserved
loop-slot-preserved c read =
    let slots = c.args.self.now.slots.items in
    let some : 0 < c.loop-slot.slot = omega (arith, c.loop-slot-test.true) in
    let low : c.loop-slot.slot - 1 < length slots = let e = c.len-slot.ensures in let h = c.loop-slot.auto.slot in omega (arith, some, e, h) in
    let there : slice_get slots (c.loop-slot.slot - 1) ≡ Some c.index.result.now =
    slice_get-get_or slots (c.loop-slot.slot - 1) c.index.result.now low ∙ ap Some (sym c.index.ensures) in
    none_here read slots c.loop-slot.slot c.count.result c.index.result.now some there (c.count.ensures read) (c.loop-slot.invariant read)
    (empty_count c.count.result c.in_default.ensures)
  where
    empty_count : (n : ℕ) → (1 ≤ n → ⊥) → n ≡ 0
    empty_count zero h = refl
    empty_count (suc n) h = absurd (h (omega arith))

pub returns : goal.returns
returns c read = none_of_all read c.args.self.now.slots.items c.loop-slot.slot (omega (arith, c.loop-slot-test.false)) (c.loop-slot.invariant read)
