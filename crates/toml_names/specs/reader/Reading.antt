-- What a reader of lines stands for, and what it answers to one more line.
use Rattle.std.specs.Prelude.{◌≡◌, ◌<◌, ℕ, List, [], ◌∷◌, ◌++◌, length, map, Option, Some, None, option_map, slice_get, slice_index_or, Result, Ok, Err, refl}
use denote.Ref.{NamedLft}
use mir.Syntax.{static}
use Rattle.std.specs.Coded.{Coded, code_by, coded×, coded_list, coded_ℕ}
use Rattle.toml_tree.specs.contracts.line.Line as line_contract
use Rattle.toml_tree.specs.declared.line.Line.{Line}
use Rattle.toml_tree.specs.Lines.{line as tree_line}
use Rattle.toml_tree.specs.Tree as spelled
use Rattle.toml_tree.specs.Tree.{Expr}
use Rattle.toml_names.specs.declared.fault.NameFault.{NameFault}
use Rattle.toml_names.specs.declared.fault.NameFault.TheVariants as faults
use Rattle.toml_names.specs.declared.tree.headers.Entered.{Entered}
use Rattle.toml_names.specs.model.Addresses.{Address}
use Rattle.toml_names.specs.model.Data.{Kinds, IsDataOf}
use Rattle.toml_names.specs.tree.EnteringLines.{IsWithin, EntersLine, ClashesInLine}
use Rattle.toml_names.specs.mentions.FirstMentions.{first_mentions}
use Rattle.toml_names.specs.mentions.Mentions.{Named, named, named_by, section}
use Rattle.toml_names.specs.reader.Names.{IsRedefined, IsLong, line_address}
use Rattle.toml_names.specs.tree.Nodes.{Spot, address_at}
use Rattle.toml_names.specs.tree.NameTree.{IsTreeOf}
use Rattle.toml_names.specs.mentions.Rules.{IsShort, misfit}

-- what contracts see of a reader: the lines that it took, and the count of its look-ups
pub record ReaderState : Type 0 where
  pub taken : List Line
  pub lookups : ℕ

-- A model needs a code for its value, by which proofs tell values apart (`Rattle.std.specs.Coded`). That of a line is made for a lifetime, and
-- is the same at each.
abbrev pub always : NamedLft
always = record { mir = static; lft = [] }

abbrev pub reader_code : Coded ReaderState
reader_code =
    code_by (List Line × ℕ) (coded× (coded_list (line_contract.the_row always).coded) coded_ℕ) (λ r. (r.taken, r.lookups)) (λ p. record { taken = p.0; lookups = p.1 }) (λ _. refl)

-- the lines as trees
abbrev pub lines_of : ReaderState → List spelled.Line
lines_of r = map tree_line r.taken

-- what names tell: what the lines name, and how many look-ups were made
pub record Known : Type 0 where
  pub named : List Named
  pub lookups : ℕ

-- The nodes stand for what the lines name, the last header's table is at the node `at`, and each line's own address is that of its node.
pub record IsReader (nodes : List Spot) (lines : List spelled.Line) (own : List (Option ℕ)) (at : ℕ) : Type 0 where
  pub stands : IsTreeOf nodes (named lines)
  pub short : IsShort (named lines)
  pub within : at < length nodes
  pub table : address_at nodes at ≡ section (named lines)
  pub own_count : length own ≡ length lines
  pub own_within : (l : ℕ) (d : Option ℕ) → l < length own → IsWithin (slice_index_or own l d) nodes
  pub owns : (l : ℕ) (d : Option ℕ) → l < length own → option_map (address_at nodes) (slice_index_or own l d) ≡ line_address (named lines) l

-- why one more line is refused: all lines being good, it breaks the rules, or keeps them and has a longer address; want of memory says
-- nothing of it
abbrev pub RefusesLine : List spelled.Line → spelled.Line → NameFault → Type 0
RefusesLine lines l (faults.Redefined n at) = (n ≡ length lines) × IsRedefined (lines ++ l ∷ []) n at
RefusesLine lines l (faults.LongAddress n) = (n ≡ length lines) × IsLong (lines ++ l ∷ []) n
RefusesLine lines l faults.NoMemory = Unit {0}

-- what one more line names, after what was named before, has no address that is too long
abbrev pub StaysShort : List Spot → ℕ → ℕ → Expr → Type 0
StaysShort nodes at line e = (ms : List Named) → IsTreeOf nodes ms → address_at nodes at ≡ section ms → IsShort ms → IsShort (ms ++ named_by ms line e)

-- the line was entered, and has no address that is too long
pub record EntersShort (old new : List Spot) (at line : ℕ) (e : Expr) (result : Entered) : Type 0 where
  pub enters : EntersLine old new at line e result
  pub short : StaysShort old at line e

-- why a line was not entered
abbrev pub RefusesEntry : List Spot → ℕ → ℕ → Expr → NameFault → Type 0
RefusesEntry nodes at line e (faults.Redefined n a) = (n ≡ line) × ClashesInLine nodes at line e a
RefusesEntry nodes at line e (faults.LongAddress n) =
    (n ≡ line) × ((ms : List Named) → IsTreeOf nodes ms → address_at nodes at ≡ section ms
    → (misfit ms (named_by ms line e) ≡ None) × ¬ IsShort (ms ++ named_by ms line e))
RefusesEntry nodes at line e faults.NoMemory = Unit {0}

-- a line was entered whole, or else the nodes are as they were
abbrev pub TakesEntry : List Spot → List Spot → ℕ → ℕ → Expr → Result Entered NameFault → Type 0
TakesEntry old new at line e (Ok result) = EntersShort old new at line e result
TakesEntry old new at line e (Err fault) = RefusesEntry old at line e fault × (new ≡ old)

-- the address of a rank, if there is one
abbrev pub ranked : List Address → Option ℕ → Option Address
ranked first None = None
ranked first (Some rank) = slice_get first rank

-- the rank of a node, if there is one
abbrev pub rank_in : List ℕ → Option ℕ → Option ℕ
rank_in ranks None = None
rank_in ranks (Some id) = slice_get ranks id

-- The nodes stand for what the lines name; the map is its data; the first mentions are in their order, and each line's own address is
-- the one of its rank among them.
pub record AreNames (nodes : List Spot) (lines : List spelled.Line) (kinds : Kinds) (first : List Address) (own : List (Option ℕ)) : Type 0 where
  pub stands : IsTreeOf nodes (named lines)
  pub facts : IsDataOf (named lines) kinds
  pub firsts : first ≡ first_mentions (named lines)
  pub own_count : length own ≡ length lines
  pub owns : (l : ℕ) (d : Option ℕ) → l < length own → ranked first (slice_index_or own l d) ≡ line_address (named lines) l
