-- Marks on units, by their places.
use Rattle.std.specs.Prelude.{◌≡◌, ◌↔◌, ◌⊎◌, ◌<◌, ◌≤◌, ℕ, Bool, true, false, if◌then◌else◌, List, length, map, Option, Some, None, nat_le, slice_index_or}
use Rattle.toml_units.specs.declared.unit.Unit.{Unit as Made}
use Rattle.toml_units.specs.Plain.{Spanned}
use Rattle.toml_units.specs.View.{all_units}

-- the unit at the place is marked
abbrev pub IsSet : List Bool → ℕ → Type 0
IsSet marks i = slice_index_or marks i false ≡ true

-- the places behind units
abbrev pub stops : List Spanned → List ℕ
stops us = map (λ (u : Spanned). u.stop) us

-- of the units that end there, the one at the place ends no further than a marked one before it
abbrev pub EndsWithin : List ℕ → List Bool → ℕ → Type 0
EndsWithin ends marks i = (j : ℕ) × (j < i) × IsSet marks j × (slice_index_or ends i 0 ≤ slice_index_or ends j 0)

-- it is marked, or ends so
abbrev pub IsHeld : List ℕ → List Bool → ℕ → Type 0
IsHeld ends marks i = IsSet marks i ⊎ EndsWithin ends marks i

-- it is marked, and does not end so
abbrev pub IsFree : List ℕ → List Bool → ℕ → Type 0
IsFree ends marks i = IsSet marks i × ¬ (EndsWithin ends marks i)

-- the flags tell so of each of the code's units
abbrev pub TellFree : List Made → List Bool → List Bool → Type 0
TellFree us marks flags = (i : ℕ) → i < length us → (IsSet flags i ↔ IsFree (stops (all_units us)) marks i)

-- the furthest end of marked units so far, and behind one more that may be marked
abbrev pub further : ℕ → ℕ → ℕ
further far end = if nat_le end far then far else end

abbrev pub reach_with : Option ℕ → Bool → ℕ → Option ℕ
reach_with reach false end = reach
reach_with None true end = Some end
reach_with (Some far) true end = Some (further far end)

-- the end is no further
abbrev pub reaches : Option ℕ → ℕ → Bool
reaches None end = false
reaches (Some far) end = nat_le end far
