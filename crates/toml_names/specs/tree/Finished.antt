-- What the finished tree of names tells.
use Rattle.std.specs.Prelude.{◌≡◌, ◌<◌, ◌≤◌, ◌++◌, ℕ, List, length, Some, slice_get, slice_index_or}
use Rattle.toml_names.specs.declared.mentions.mention.Role.TheVariants.{Bare}
use Rattle.toml_names.specs.declared.model.datum.Datum.{Datum}
use Rattle.toml_names.specs.model.Addresses.{Address}
use Rattle.toml_names.specs.model.Data.{kind_at, fact_at}
use Rattle.toml_names.specs.mentions.FirstMentions.{first_mentions}
use Rattle.toml_names.specs.mentions.Joining.{Joined}
use Rattle.toml_names.specs.mentions.Mentions.{Kind, Named}
use Rattle.toml_names.specs.mentions.Rules.{max_steps}
use Rattle.toml_names.specs.tree.NameTree.{IsTreeOf}
use Rattle.toml_names.specs.tree.Nodes.{Spot, address_at}

-- the datum has what is named at the node's address and below
abbrev pub IsDatumAt : List Spot → ℕ → Datum → Type 0
IsDatumAt nodes id d = (ms : List Named) → IsTreeOf nodes ms → Joined ms → (at : Address) → kind_at d at ≡ fact_at ms (address_at nodes id ++ at)

-- the addresses are the first mentions of what the nodes stand for
abbrev pub AreFirstMentions : List Spot → List Address → Type 0
AreFirstMentions nodes ats = (ms : List Named) → IsTreeOf nodes ms → Joined ms → ats ≡ first_mentions ms

-- each node that is a mention has the number of its address among the first mentions
abbrev pub AreRanks : List Spot → List ℕ → Type 0
AreRanks nodes ranks = (ms : List Named) (k : ℕ) (d : Spot) → IsTreeOf nodes ms → Joined ms → k < length nodes
    → ((slice_index_or nodes k d).role ≡ Bare → ⊥)
    → slice_get (first_mentions ms) (slice_index_or ranks k 0) ≡ Some (address_at nodes k)

-- the addresses of the nodes from this one on are within the bound
abbrev pub AreShortFrom : ℕ → List Spot → Type 0
AreShortFrom start nodes = (k : ℕ) → start ≤ k → k < length nodes → length (address_at nodes k) ≤ max_steps

-- the node is of the kind
abbrev pub IsOfKind : List Spot → ℕ → Kind → Type 0
IsOfKind nodes id k = (d : Spot) → (slice_index_or nodes id d).kind ≡ k
