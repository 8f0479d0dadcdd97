-- What is told of a line by the first names of a key that is too long, where the next one is new.
use Rattle.std.specs.Prelude.{ℕ, ◌≡◌, ◌<◌, ◌+◌, List, ◌∷◌, [], ◌++◌, length, None}
use Rattle.toml_tree.specs.Tree.{Expr}
use Rattle.toml_names.specs.declared.mentions.mention.Role.TheVariants.{Valued}
use Rattle.toml_names.specs.model.Addresses.{Address, child, below}
use Rattle.toml_names.specs.tree.EnteringHeaders.{EntersHeader, table_names, tables_names, next_table}
use Rattle.toml_names.specs.mentions.Keys.{Key}
use Rattle.toml_names.specs.mentions.Mentions.{Named, Kind, fronts, named_by, section}
use Rattle.toml_names.specs.reader.Names.{header_end}
use Rattle.toml_names.specs.tree.NameTree.{IsTreeOf, KeepsElements, Enters}
use Rattle.toml_names.specs.tree.Nodes.{Spot, address_at}
use Rattle.toml_names.specs.mentions.Rules.{IsShort, max_steps, misfit}

-- nodes could be added that stand for what is made too
abbrev pub CanEnter : List Spot → List Named → Type 0
CanEnter old made = (new : List Spot) × Enters old new made

-- nodes could be added that stand for what the header names too
abbrev pub CanEnterHeader : List Spot → (List Named → List Named) → (List Named → Address) → Type 0
CanEnterHeader old made own = (new : List Spot) × (id : ℕ) × EntersHeader old new id made own

-- nodes could be added that stand for what a table's header with the key names too, and one of tables
pub record CanEnterHeaders (old : List Spot) (line : ℕ) (key : Key) : Type 0 where
  pub table : CanEnterHeader old (table_names line key) (λ ms. header_end ms [] key)
  pub tables : CanEnterHeader old (tables_names line key) (λ ms. next_table ms key)

-- what a key names in the table at the address, with a value that names nothing inside
abbrev pub key_named : ℕ → Address → Key → Kind → List Named
key_named line at key k = fronts line at key ++ record { address = below at key; role = Valued; kind = k; line = line } ∷ []

-- nodes could be added that stand for what the key names with such a value, whatever it is
abbrev pub CanEnterKey : List Spot → ℕ → Address → Key → Type 0
CanEnterKey old line at key = (k : Kind) → CanEnter old (key_named line at key k)

-- the fronts of a dotted key were entered, and a name in the table of the node is the whole key
pub record FollowedFronts (old now : List Spot) (line : ℕ) (at : Address) (here : ℕ) (part : List ℕ) (key : Key) : Type 0 where
  pub entered : Enters old now (fronts line at key)
  pub within : here < length now
  pub last : child (address_at now here) part ≡ below at key
  pub elements : KeepsElements old now

-- a key from the address has more parts than an address may have steps
abbrev pub IsLongKey : Address → Key → Type 0
IsLongKey at key = max_steps < length at + length key

-- what the line names keeps the rules, and has a longer address
abbrev pub IsLongEntry : List Spot → ℕ → ℕ → Expr → Type 0
IsLongEntry nodes at line e =
    (ms : List Named) → IsTreeOf nodes ms → address_at nodes at ≡ section ms → (misfit ms (named_by ms line e) ≡ None) × ¬ IsShort (ms ++ named_by ms line e)
