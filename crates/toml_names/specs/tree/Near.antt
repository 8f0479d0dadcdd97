-- The data at a node of the tree of names and below it, of all that a set of addresses does not hide.
use Rattle.std.specs.Prelude.{◌≡◌, ℕ, List, Option}
use Rattle.toml_names.specs.declared.model.address.Step.{Step}
use Rattle.toml_names.specs.declared.model.address_set.AddressSet.{AddressSet}
use Rattle.toml_names.specs.declared.model.datum.Datum.{Datum}
use Rattle.toml_names.specs.mentions.Joining.{Joined}
use Rattle.toml_names.specs.mentions.Mentions.{Named}
use Rattle.toml_names.specs.model.Addresses.{Address}
use Rattle.toml_names.specs.model.AddressSets.{hides, is_hidden}
use Rattle.toml_names.specs.model.Data.{kind_at, kind_in}
use Rattle.toml_names.specs.model.Hidden.{near}
use Rattle.toml_names.specs.tree.Held.{below_node, below_in}
use Rattle.toml_names.specs.tree.NameTree.{IsTreeOf}
use Rattle.toml_names.specs.tree.Nodes.{Spot}

-- the nodes stand for things named of which each joins those before it
pub record IsSound (nodes : List Spot) : Type 0 where
  pub things : List Named
  pub stands : IsTreeOf nodes things
  pub joined : Joined things

-- the datum has what stands at the node and below it where the set hides nothing
abbrev pub IsNearDatum : List Spot → ℕ → AddressSet → Datum → Type 0
IsNearDatum nodes id set d = (at : Address) → kind_at d at ≡ near (is_hidden set) (below_node nodes id) at

-- the same at a step, with what a set has there
abbrev pub IsNearIn : List Spot → Step → Option AddressSet → Option ℕ → Option Datum → Type 0
IsNearIn nodes s part o d = (at : Address) → kind_in d at ≡ near (hides part s) (below_in nodes o) at
