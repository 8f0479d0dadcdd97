-- What crates above cite: an item by where it lies.
use Rattle.std.proofs.Common.{◌≡◌, ◌++◌, ℕ, reverse, set, sym, ap, ◌∙◌}
use Rattle.std.specs.Prelude.{slice_get}
use Rattle.toml_lists.specs.Gaps.{LiesAt, items}
use Rattle.toml_lists.specs.declared.gap_list.GapList.{GapList}
use Rattle.toml_lists.specs.declared.gap_list.Side.TheVariants.{Before, Behind}
use Rattle.toml_lists.proofs.Sides.{near_get, far_get, near_set, far_set}
pub use Rattle.toml_lists.proofs.Sides.{some_at}

module _ {T : Type 0} (g : GapList T) (i place : ℕ) where
  pub before_get : LiesAt g i (Before place) → slice_get (items g) i ≡ slice_get g.before.items place
  before_get (is, low) = near_get g.before.items g.behind.items i low ∙ ap (slice_get g.before.items) (sym is)

  pub before_set : LiesAt g i (Before place) → (x : T) → set g.before.items place x ++ reverse g.behind.items ≡ set (items g) i x
  before_set (is, low) x = ap (λ p. set g.before.items p x ++ reverse g.behind.items) is ∙ near_set g.before.items g.behind.items i x low

  pub behind_get : LiesAt g i (Behind place) → slice_get (items g) i ≡ slice_get g.behind.items place
  behind_get (low, is) = far_get g.before.items g.behind.items i place low is

  pub behind_set : LiesAt g i (Behind place) → (x : T) → g.before.items ++ reverse (set g.behind.items place x) ≡ set (items g) i x
  behind_set (low, is) x = far_set g.before.items g.behind.items i place x low is
