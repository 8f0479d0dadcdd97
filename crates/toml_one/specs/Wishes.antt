-- The edits that one line of words stands for.
use Rattle.std.specs.Prelude.{◌≡◌, ◌⊎◌, ◌&&◌, ℕ, Bool, true, false, List, [], ◌∷◌, ◌++◌, Option, Some, None, is_some}
use Rattle.toml_names.specs.mentions.Mentions.{Named, a_table}
use Rattle.toml_names.specs.model.Addresses.{Address, child}
use Rattle.toml_names.specs.model.Data.{Kinds}
use Rattle.toml_places.specs.declared.place.PlaceStep.{PlaceStep}
use Rattle.toml_places.specs.Leading.{IsAddressOf, below_steps}
use Rattle.toml_edits.specs.Edits.{Change, set, insert, rename, remove}
use Rattle.toml_one.specs.Parents.{Front, Makes, nowhere, root}
use Rattle.toml_one.specs.Steps.{ends_behind, ends_in_name}
use Rattle.toml_one.specs.declared.wish.Wish.{Wish}
use Rattle.toml_one.specs.declared.wish.Wish.TheVariants as wishes

-- what is wished at a place, its texts as their bytes
pub data Wished : Type 0 where
  to_set : (value : List ℕ) (parents : Bool) → Wished
  to_insert : (value : List ℕ) (parents : Bool) → Wished
  to_rename : (name : List ℕ) → Wished
  to_remove : Wished

abbrev pub wished : Wish → Wished
wished (wishes.Set value parents) = to_set value.now parents
wished (wishes.Insert value parents) = to_insert value.now parents
wished (wishes.Rename name) = to_rename name.now
wished wishes.Remove = to_remove

-- the address to which a place leads, or one at which nothing stands
abbrev pub or_nowhere : Option Address → Address
or_nowhere None = nowhere
or_nowhere (Some at) = at

-- nothing stands at the address, and a table does at the one above
abbrev pub IsFree : Kinds → Address → Address → Type 0
IsFree kinds at parent = (below_steps at kinds [] ≡ None) × (below_steps parent kinds [] ≡ Some a_table)

-- a new member belongs at the address: nothing stands there, its last step is a name, and a table stands at its parent
abbrev pub IsNewMember : Kinds → Address → Type 0
IsNewMember kinds at = (parent : Address) × (name : List ℕ) × (at ≡ child parent name) × IsFree kinds at parent

-- `set` puts a new value in: its place is behind the last element, or that of a new member
abbrev pub PutsIn : Kinds → List PlaceStep → Option Address → Type 0
PutsIn kinds place None = ends_behind place ≡ true
PutsIn kinds place (Some at) = (ends_behind place ≡ true) ⊎ IsNewMember kinds at

-- the edit of a `set` at the address to which the place leads
abbrev pub IsSet : Kinds → List PlaceStep → List ℕ → Option Address → List Change → Type 0
IsSet kinds place value found cs =
    (PutsIn kinds place found × (cs ≡ insert (or_nowhere found) value ∷ [])) ⊎ ((¬ PutsIn kinds place found) × (cs ≡ set (or_nowhere found) value ∷ []))

-- what is put at the end of a place: a value for what stands there, where that may be set, or a new one
abbrev pub put_at : Bool → Address → List ℕ → Change
put_at true at value = set at value
put_at false at value = insert at value

-- the edits of a value whose missing parents are made
abbrev pub IsWithParents : Bool → Kinds → List Named → List PlaceStep → List ℕ → List Change → Type 0
IsWithParents may_set kinds ms place value cs =
    (first : List Change) × (end : Front) × Makes ms (root kinds) place first end × (cs ≡ first ++ put_at (may_set && is_some (end.kinds [])) end.at value ∷ [])

-- one edit at the address to which the place leads
abbrev pub IsOne : Kinds → List PlaceStep → (Address → Change) → List Change → Type 0
IsOne kinds place edit cs = (found : Option Address) × IsAddressOf kinds place found × (cs ≡ edit (or_nowhere found) ∷ [])

-- so by whether parents are made
abbrev pub IsInserted : Bool → Kinds → List Named → List PlaceStep → List ℕ → List Change → Type 0
IsInserted true kinds ms place value cs = IsWithParents false kinds ms place value cs
IsInserted false kinds ms place value cs = IsOne kinds place (λ at. insert at value) cs

abbrev pub IsSetAlone : Kinds → List PlaceStep → List ℕ → List Change → Type 0
IsSetAlone kinds place value cs = (found : Option Address) × IsAddressOf kinds place found × IsSet kinds place value found cs

abbrev pub IsSetAt : Bool → Kinds → List Named → List PlaceStep → List ℕ → List Change → Type 0
IsSetAt true kinds ms place value cs = IsWithParents true kinds ms place value cs
IsSetAt false kinds ms place value cs = IsSetAlone kinds place value cs

-- The edits that stand for a wish at a place, in data and over what the lines name. Parents are made of a place that ends in a name alone.
abbrev pub AreEditsAt : Kinds → List Named → List PlaceStep → Wished → List Change → Type 0
AreEditsAt kinds ms place (to_set value parents) cs = IsSetAt (parents && ends_in_name place) kinds ms place value cs
AreEditsAt kinds ms place (to_insert value parents) cs = IsInserted (parents && ends_in_name place) kinds ms place value cs
AreEditsAt kinds ms place (to_rename name) cs = IsOne kinds place (λ at. rename at name) cs
AreEditsAt kinds ms place to_remove cs = IsOne kinds place remove cs
