-- How the place of an edit and an address lie to each other.
use Rattle.std.specs.Prelude.{◌≡◌, ◌↔◌, Bool, true, false, [], ◌∷◌, if◌then◌else◌}
use Rattle.toml_names.specs.model.Addresses.{Address, IsAbove, same_step}
use Rattle.toml_edits.specs.declared.side.Side.{Side}
use Rattle.toml_edits.specs.declared.side.Side.TheVariants.{Apart, Above, At, Below}

-- where the place, the first address, lies, seen from the second
abbrev pub side : Address → Address → Side
side [] [] = At
side [] (t ∷ a) = Above
side (s ∷ p) [] = Below
side (s ∷ p) (t ∷ a) = if same_step s t then side p a else Apart

abbrev pub is_at_or_above : Side → Bool
is_at_or_above Apart = false
is_at_or_above Above = true
is_at_or_above At = true
is_at_or_above Below = false

abbrev pub is_above : Side → Bool
is_above Above = true
is_above _ = false

abbrev pub is_at : Side → Bool
is_at At = true
is_at _ = false

abbrev pub is_below : Side → Bool
is_below Below = true
is_below _ = false

-- Law: that is where it lies.
pub record Lies (p a : Address) : Type 0 where
  pub above : (side p a ≡ Above) ↔ IsAbove p a
  pub at : (side p a ≡ At) ↔ (p ≡ a)
  pub below : (side p a ≡ Below) ↔ IsAbove a p

abbrev pub SidesAreRight : Type 0
SidesAreRight = (p a : Address) → Lies p a
