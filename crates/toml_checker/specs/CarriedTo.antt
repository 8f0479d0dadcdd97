-- Where edits carry a thing that may have an address, and what lies at or above an address.
use Rattle.std.specs.Prelude.{◌≡◌, List, ◌++◌, Option, Some, None}
use Rattle.toml_names.specs.model.Addresses.{Address}
use Rattle.toml_edits.specs.Edits.{Change}
use Rattle.toml_edits.specs.Lists.{carried}

-- the first address is the second or a beginning of it
abbrev pub IsAtOrAbove : Address → Address → Type 0
IsAtOrAbove p a = (rest : Address) × (a ≡ p ++ rest)

-- neither has an address, or the one's is carried to the other's
abbrev pub IsCarriedTo : List Change → Option Address → Option Address → Type 0
IsCarriedTo cs None None = Unit {0}
IsCarriedTo cs (Some a) (Some b) = carried cs a ≡ Some b
IsCarriedTo cs _ _ = ⊥

-- there is an address, and so it is of it
abbrev pub At : Option Address → (Address → Type 0) → Type 0
At None P = ⊥
At (Some a) P = P a
