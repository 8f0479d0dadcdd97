-- Which steps of a place are names, and which are indices.
use Rattle.std.specs.Prelude.{◌-◌, Bool, true, false, List, length, Option, slice_get}
use Rattle.std.specs.Option.{option_map_or}
use Rattle.toml_places.specs.declared.place.PlaceStep.{PlaceStep}
use Rattle.toml_places.specs.declared.place.PlaceStep.TheVariants.{Name, Index, FromEnd, Behind}

abbrev pub is_name : PlaceStep → Bool
is_name (Name name) = true
is_name (Index i) = false
is_name (FromEnd n) = false
is_name Behind = false

-- a step that an array has
abbrev pub is_index : PlaceStep → Bool
is_index (Name name) = false
is_index (Index i) = true
is_index (FromEnd n) = true
is_index Behind = true

abbrev pub is_behind : PlaceStep → Bool
is_behind (Name name) = false
is_behind (Index i) = false
is_behind (FromEnd n) = false
is_behind Behind = true

-- the last step, if there is one
abbrev pub last_step : List PlaceStep → Option PlaceStep
last_step place = slice_get place (length place - 1)

abbrev pub ends_in_name : List PlaceStep → Bool
ends_in_name place = option_map_or is_name (last_step place) false

-- the place ends in `[+]`
abbrev pub ends_behind : List PlaceStep → Bool
ends_behind place = option_map_or is_behind (last_step place) false
