-- Of which edits and addresses a tree tells: no edit is at the root, and no index is near the end of the numbers.
use Rattle.std.specs.Prelude.{◌≡◌, ℕ, ◌+◌, ◌^◌, ◌-◌, Bool, false, List, [], ◌∷◌, IfSome, is_some, not}
use Rattle.toml_names.specs.model.Addresses.{Address}
use Rattle.toml_names.specs.model.Indices.{IsLow}
use Rattle.toml_edits.specs.declared.side.Side.{Side}
use Rattle.toml_edits.specs.Carry.{carry}
use Rattle.toml_edits.specs.Edits.{Change, set, remove, place}
use Rattle.toml_edits.specs.Sides.{is_above, is_at_or_above, side}

pub record FitsOne (c : Change) (a : Address) : Type 0 where
  pub placed : ¬ (place c ≡ [])
  pub low : IsLow (2 ^ 64 - 1) a

-- each place is below the root
abbrev pub ArePlaced : List Change → Type 0
ArePlaced [] = Unit {0}
ArePlaced (c ∷ cs) = ¬ (place c ≡ []) × ArePlaced cs

-- the edit carries what lies so to its place away
abbrev pub takes_away : Change → Side → Bool
takes_away (set at value) s = is_above s
takes_away (remove at) s = is_at_or_above s
takes_away _ s = false

-- Laws: an edit carries that away, and nothing else;
abbrev pub CarriesRest : Type 0
CarriesRest = (c : Change) (a : Address) → FitsOne c a → is_some (carry c a) ≡ not (takes_away c (side (place c) a))

-- and indices rise by one at most.
abbrev pub CarriedStayLow : Type 0
CarriedStayLow = (n : ℕ) (c : Change) (a : Address) → IsLow n a → IfSome (carry c a) (IsLow (n + 1))
