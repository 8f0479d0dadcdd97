use Rattle.std.proofs.Common.{ℕ, ◌≡◌, ◌<◌, Bool, IsTrue, not, rules}
use Rattle.std.specs.Prelude.{◌==◌}
use Rattle.toml_tree.specs.View.{expr}
use Rattle.toml_units.proofs.OpenedLines.{items_few, items_long}
use Rattle.toml_units.proofs.opened.has_items.Goals as goal

some_items : (n m : ℕ) (b : Bool) → n ≡ m → n < 18446744073709551616 → b ≡ (m == 0)
    → (IsTrue (not b) → (0 < n) × (n < 18446744073709551616)) × ((0 < n) × (n < 18446744073709551616) → IsTrue (not b))
some_items n m b is few empty = search rules

pub returns-in-Some : goal.returns-in-Some
returns-in-Some c =
    let e = expr c.args.e.now in
    let a = c.in-Some.array.now in
    let tail = c.in-Some.field-0-1.now in
    some_items _ _ c.is_empty.result (items_long e a tail c.in-Some.ensures) (items_few e a tail c.in-Some.ensures) c.is_empty.ensures
