-- Where things stand in the text, by the nodes of the tree of names.
use Rattle.std.specs.Prelude.{◌≡◌, ◌++◌, ◌∷◌, ℕ, List, [], Option, Some, None, if◌then◌else◌, slice_index_or}
use Rattle.toml_tree.specs.Tree.{Line}
use Rattle.toml_names.specs.declared.mentions.mention.Role.{Role}
use Rattle.toml_names.specs.declared.mentions.mention.Role.TheVariants.{Passed, Header, Dotted, Valued, Tables, Element, Bare}
use Rattle.toml_names.specs.declared.model.place.Place.{Place}
use Rattle.toml_names.specs.declared.model.place.Place.TheVariants as places
use Rattle.toml_names.specs.model.Addresses.{Address}
use Rattle.toml_names.specs.tree.Nodes.{Spot, addresses, place_of, nowhere}
use Rattle.toml_names.specs.mentions.Mentions.{named}
use Rattle.toml_names.specs.model.Places.{place, same_role}
use Rattle.toml_names.specs.tree.NameTree.{IsTreeOf}

-- a line, or else another
abbrev pub first_of : Option ℕ → Option ℕ → Option ℕ
first_of None other = other
first_of (Some line) other = Some line

-- the line of a node that is a value
abbrev pub value_line : Spot → Option ℕ
value_line s = if same_role s.role Valued then Some s.line else None

-- that of the node at a place
abbrev pub value_there : List Spot → Option ℕ → Option ℕ
value_there nodes None = None
value_there nodes (Some k) = value_line (slice_index_or nodes k nowhere)

-- the line of the first value at the address or further along the steps, before their end
abbrev pub value_along : List Spot → Address → Address → Option ℕ
value_along nodes at [] = None
value_along nodes at (s ∷ rest) = first_of (value_there nodes (place_of at (addresses nodes))) (value_along nodes (at ++ s ∷ []) rest)

-- the place of what stands at the address, for whichever lines the nodes stand
abbrev pub IsPlaceOf : List Spot → Address → Option Place → Type 0
IsPlaceOf nodes at p = (lines : List Line) → IsTreeOf nodes (named lines) → p ≡ place (named lines) at

-- the node at the address, and the line of the first value above it
abbrev pub IsWalked : List Spot → Address → Option (ℕ × Option ℕ) → Type 0
IsWalked nodes at None = place_of at (addresses nodes) ≡ None
IsWalked nodes at (Some found) = (place_of at (addresses nodes) ≡ Some found.0) × (found.1 ≡ value_along nodes [] at)

-- the place of a node that stands in no value
abbrev pub place_of_mark : Role → ℕ → Option Place
place_of_mark Valued line = Some (places.KeyVal line)
place_of_mark Header line = Some (places.Header line)
place_of_mark Element line = Some (places.Header line)
place_of_mark Dotted line = Some (places.Dotted line)
place_of_mark Tables line = Some (places.Tables line)
place_of_mark Passed line = Some (places.Implicit line)
place_of_mark Bare line = None

abbrev pub own_place : Spot → Option Place
own_place s = place_of_mark s.role s.line
