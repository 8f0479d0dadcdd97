-- What lines that come or go name: the numbers of lines aside, a block in what the others name.
use Rattle.std.specs.Prelude.{◌≡◌, ℕ, List, [], ◌∷◌, ◌++◌, map, Any}
use Rattle.toml_tree.specs.Spells.{EachIs}
use Rattle.toml_tree.specs.Tree.{Value, Line}
use Rattle.toml_names.specs.declared.mentions.mention.Role.TheVariants.{Passed, Valued, Tables, Element}
use Rattle.toml_names.specs.declared.model.address.Step.TheVariants.{Name, Index}
use Rattle.toml_names.specs.model.Addresses.{Address, child, element}
use Rattle.toml_names.specs.mentions.Mentions.{Named, a_table, an_array, named, table_at, ends_table, value_named, inside}

-- the same thing, as of the first line
abbrev pub unnumbered : Named → Named
unnumbered m = record { address = m.address; role = m.role; kind = m.kind; line = 0 }

-- what lines name, the numbers of lines aside
abbrev pub named_plain : List Line → List Named
named_plain lines = map unnumbered (named lines)

-- the second list is the first with the block put in somewhere
pub record IsPut (old block new : List Named) : Type 0 where
  pub front : List Named
  pub back : List Named
  pub before : old ≡ front ++ back
  pub after : new ≡ front ++ (block ++ back)

-- tables that are named, each at the address or above it, and named once more
abbrev pub AreTablesAgain : Address → List Named → List Named → Type 0
AreTablesAgain q old =
    EachIs (λ t. (t.kind ≡ a_table) × ((rest : Address) × (q ≡ t.address ++ rest)) × Any (λ m. (m.address ≡ t.address) × (m.kind ≡ a_table)) old)

-- what a value at an address names: itself, and what is in it
abbrev pub value_block : Address → Value → List Named
value_block at v = value_named 0 Valued at v ∷ inside 0 at v

-- what a header names below an address: each table, or element of an array of tables, that its key passes, and what stands at its end
abbrev pub passed_from : (Address → List Named) → Address → Address → List Named
passed_from end at [] = []
passed_from end at (Index i ∷ steps) = passed_from end (element at i) steps
passed_from end at (Name n ∷ []) = end (child at n)
passed_from end at (Name n ∷ Name m ∷ steps) = table_at 0 Passed (child at n) ∷ passed_from end (child at n) (Name m ∷ steps)
passed_from end at (Name n ∷ Index i ∷ steps) = table_at 0 Passed (element (child at n) i) ∷ passed_from end (element (child at n) i) steps

-- what the header of a table names: each table that its key passes, and the table
abbrev pub section_block : Address → List Named
section_block = passed_from (ends_table 0) []

-- an array of tables, and this element
abbrev pub ends_element : ℕ → Address → List Named
ends_element i at = record { address = at; role = Tables; kind = an_array; line = 0 } ∷ table_at 0 Element (element at i) ∷ []

-- what the header of an element names: each table that its key passes, the array and the element
abbrev pub element_block : Address → ℕ → List Named
element_block q i = passed_from (ends_element i) [] q
