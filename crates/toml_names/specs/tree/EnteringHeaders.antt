-- What entering a header leaves.
use Rattle.std.specs.Prelude.{ℕ, ◌≡◌, ◌<◌, List, [], ◌++◌, length, None}
use Rattle.toml_names.specs.model.Addresses.{Address, child, element}
use Rattle.toml_names.specs.tree.Headers.{header_fronts}
use Rattle.toml_names.specs.mentions.Keys.{Key}
use Rattle.toml_names.specs.mentions.Mentions.{Named, followed, ends_table, ends_tables, count_tables}
use Rattle.toml_names.specs.reader.Names.{header_end}
use Rattle.toml_names.specs.tree.NameTree.{IsTree, IsTreeOf, KeepsAddresses}
use Rattle.toml_names.specs.tree.Nodes.{Spot, address_at}
use Rattle.toml_names.specs.mentions.Rules.{misfit}

-- what a table's header names
abbrev pub table_names : ℕ → Key → List Named → List Named
table_names line key ms = followed line ms (ends_table line) [] key

-- what a header of an array of tables names
abbrev pub tables_names : ℕ → Key → List Named → List Named
tables_names line key ms = followed line ms (ends_tables line ms) [] key

-- the address of the element that such a header begins
abbrev pub next_table : List Named → Key → Address
next_table ms key = element (header_end ms [] key) (count_tables ms (header_end ms [] key))

-- the nodes stand for what was named before, and now for what the header names after that, and the node has the address that the header
-- has after that
pub record EntersHeader (old new : List Spot) (id : ℕ) (made : List Named → List Named) (own : List Named → Address) : Type 0 where
  pub tree : IsTree new
  pub kept : KeepsAddresses old new
  pub within : id < length new
  pub stands : (ms : List Named) → IsTreeOf old ms → IsTreeOf new (ms ++ made ms)
  pub goes : (ms : List Named) → IsTreeOf old ms → misfit ms (made ms) ≡ None
  pub leads : (ms : List Named) → IsTreeOf old ms → address_at new id ≡ own ms

-- one more table of the array at the address
abbrev pub AddsTable : List Spot → List Spot → ℕ → ℕ → Address → Type 0
AddsTable old new id line at = EntersHeader old new id (λ ms. ends_tables line ms at) (λ ms. element at (count_tables ms at))

-- the fronts of a key were passed, and a name in the table of the node is the key's end
pub record PassedFronts (old now : List Spot) (line here : ℕ) (part : List ℕ) (key : Key) : Type 0 where
  pub tree : IsTree now
  pub kept : KeepsAddresses old now
  pub within : here < length now
  pub stands : (ms : List Named) → IsTreeOf old ms → IsTreeOf now (ms ++ header_fronts line ms [] key)
  pub goes : (ms : List Named) → IsTreeOf old ms → misfit ms (header_fronts line ms [] key) ≡ None
  pub last : (ms : List Named) → IsTreeOf old ms → child (address_at now here) part ≡ header_end ms [] key
