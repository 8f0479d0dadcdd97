-- What lies in two units that are alike, by places.
use Rattle.std.specs.Prelude.{◌≡◌, ◌<◌, ◌+◌, ℕ, suc, List, Some, slice_get}
use Rattle.toml_tree.specs.Spells.{Spells}
use Rattle.toml_tree.specs.Tree.{Doc}
use Rattle.toml_units.specs.Alike.{Relative, unit_in}
use Rattle.toml_units.specs.Places.{size}
use Rattle.toml_units.specs.Units.{TextUnit, units}

-- the units at one distance behind two lie in them alike
pub record Twin (us ws : List TextUnit) (i k m : ℕ) (u w : TextUnit) : Type 0 where
  pub relative : Relative
  pub first : slice_get us (i + suc m) ≡ Some (unit_in u relative)
  pub second : slice_get ws (k + suc m) ≡ Some (unit_in w relative)

-- as many units lie in the one as in the other, each alike
abbrev pub AreTwins : List TextUnit → List TextUnit → ℕ → ℕ → TextUnit → TextUnit → Type 0
AreTwins us ws i k u w = (size us i ≡ size ws k) × ((m : ℕ) → m < size us i → Twin us ws i k m u w)

-- Law: so it is with two units of one kind and with the same bytes.
abbrev pub UnitsAreTwins : Type 0
UnitsAreTwins = (d e : Doc) (text other : List ℕ) → Spells d text → Spells e other → (i k : ℕ) (u w : TextUnit) → slice_get (units d.lines) i ≡ Some u → slice_get (units e.lines) k ≡ Some w
    → u.kind ≡ w.kind → u.piece.text ≡ w.piece.text → AreTwins (units d.lines) (units e.lines) i k u w
