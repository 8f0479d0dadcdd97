-- What entering a whole line leaves.
use Rattle.std.specs.Prelude.{ℕ, ◌≡◌, ◌<◌, List, ◌++◌, length, Option, Some, None, option_map}
use Rattle.toml_tree.specs.Tree.{Expr}
use Rattle.toml_names.specs.declared.tree.headers.Entered.{Entered}
use Rattle.toml_names.specs.model.Addresses.{Address}
use Rattle.toml_names.specs.mentions.Mentions.{Named, named_by, section}
use Rattle.toml_names.specs.reader.Names.{own_address}
use Rattle.toml_names.specs.tree.Nodes.{Spot, address_at}
use Rattle.toml_names.specs.tree.NameTree.{IsTree, IsTreeOf, KeepsAddresses}
use Rattle.toml_names.specs.mentions.Rules.{misfit}

-- the node, if there is one, is among the nodes
abbrev pub IsWithin : Option ℕ → List Spot → Type 0
IsWithin None nodes = Unit {0}
IsWithin (Some k) nodes = k < length nodes

-- the nodes stand for what was named before, the last header's table being at the node `at`, and now for what the line names too, which
-- keeps the rules
pub record EntersLine (old new : List Spot) (at line : ℕ) (e : Expr) (result : Entered) : Type 0 where
  pub tree : IsTree new
  pub kept : KeepsAddresses old new
  pub within : result.section < length new
  pub own_within : IsWithin result.own new
  pub stands : (ms : List Named) → IsTreeOf old ms → address_at old at ≡ section ms → IsTreeOf new (ms ++ named_by ms line e)
  pub goes : (ms : List Named) → IsTreeOf old ms → address_at old at ≡ section ms → misfit ms (named_by ms line e) ≡ None
  pub table : (ms : List Named) → IsTreeOf old ms → address_at old at ≡ section ms → address_at new result.section ≡ section (ms ++ named_by ms line e)
  pub own : (ms : List Named) → IsTreeOf old ms → address_at old at ≡ section ms → option_map (address_at new) result.own ≡ own_address ms e

-- the first of what the line names that breaks the rules is at the address
abbrev pub ClashesInLine : List Spot → ℕ → ℕ → Expr → Address → Type 0
ClashesInLine nodes at line e a = (ms : List Named) → IsTreeOf nodes ms → address_at nodes at ≡ section ms → misfit ms (named_by ms line e) ≡ Some a
