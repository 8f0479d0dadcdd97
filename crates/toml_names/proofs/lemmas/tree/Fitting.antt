-- What stands for all that was named, the counts of tables left out; what goes with it, tested at one node.
use Rattle.toml_names.proofs.Common.{◌≡◌, ℕ, ◌<◌, true, cond, List, [], ◌∷◌, ◌++◌, length, Some, None, refl, ap, ◌∙◌, slice_index_or, rules, Address, fact_at, first_named, mark_after, mark_of, allows, Named, count_tables, Spot, addresses, address_at, place_of, IsTree, IsTreeOf, table_count, first_line, may_follow, fits, misfit}
use Rattle.toml_names.proofs.lemmas.tree.EnterSteps.{misfit-append}
use Rattle.toml_names.proofs.lemmas.mentions.Local.{AreMarked-more, mark_of-push}
use Rattle.toml_names.proofs.lemmas.mentions.Offences.{misfit-later}
use Rattle.toml_names.proofs.lemmas.tree.NodePlaces.{same_address-apart, same_address-here}

-- a node at the address stands for what was named there
pub record Stands (ms : List Named) (at : Address) (spot : Spot) : Type 0 where
  pub mark : mark_of ms at ≡ Some spot.role
  pub fact : fact_at ms at ≡ Some spot.kind
  pub line : first_line ms at spot.role ≡ Some spot.line

-- the nodes stand for what was named, but for the counts of tables
pub record StandsButCounts (nodes : List Spot) (ms : List Named) : Type 0 where
  pub tree : IsTree nodes
  pub each : (k : ℕ) (d : Spot) → k < length nodes → Stands ms (address_at nodes k) (slice_index_or nodes k d)
  pub no_marks : (at : Address) → place_of at (addresses nodes) ≡ None → mark_of ms at ≡ None
  pub no_facts : (at : Address) → place_of at (addresses nodes) ≡ None → fact_at ms at ≡ None
  pub no_counts : (at : Address) → place_of at (addresses nodes) ≡ None → count_tables ms at ≡ 0
  pub firsts : addresses nodes ≡ first_named [] ms
  pub good : misfit [] ms ≡ None

-- each array of tables has as many elements as headers
abbrev pub Counts : List Spot → List Named → Type 0
Counts nodes ms = (k : ℕ) (d : Spot) → k < length nodes → count_tables ms (address_at nodes k) ≡ table_count (slice_index_or nodes k d)

pub but_counts : (nodes : List Spot) (ms : List Named) → IsTreeOf nodes ms → StandsButCounts nodes ms
but_counts nodes ms stands = search rules

pub with_counts : (nodes : List Spot) (ms : List Named) → StandsButCounts nodes ms → Counts nodes ms → IsTreeOf nodes ms
with_counts nodes ms stands counts = search rules

-- the mark, with one more mention
module _ (ms : List Named) (m : Named) (at : Address) where
  pub mark_here : m.address ≡ at → mark_of (ms ++ m ∷ []) at ≡ mark_after (mark_of ms at) m.role
  mark_here is = mark_of-push ms m at ∙ ap (λ b. cond b (mark_after (mark_of ms at) m.role) (mark_of ms at)) (same_address-here m.address at is)

  pub mark_elsewhere : (m.address ≡ at → ⊥) → mark_of (ms ++ m ∷ []) at ≡ mark_of ms at
  mark_elsewhere apart = mark_of-push ms m at ∙ ap (λ b. cond b (mark_after (mark_of ms at) m.role) (mark_of ms at)) (same_address-apart m.address at apart)

-- the test at the mark is the test against all
pub fits-marked : (ms : List Named) (m : Named) → misfit [] ms ≡ None → fits ms m ≡ allows (mark_of ms m.address) m.role
fits-marked ms m good = AreMarked-more ms [] (λ x. refl) good m

-- a mention that goes with all keeps the rules
pub good_more : (ms : List Named) (m : Named) → misfit [] ms ≡ None → fits ms m ≡ true → misfit [] (ms ++ m ∷ []) ≡ None
good_more ms m good goes = misfit-append ms [] (m ∷ []) good ∙ misfit-later ms [] m goes

module _ (nodes : List Spot) (ms : List Named) (stands : StandsButCounts nodes ms) where
  -- the test at the node is the test against all that was named
  pub fits-at_node : (k : ℕ) (d : Spot) (m : Named) → k < length nodes → m.address ≡ address_at nodes k → fits ms m ≡ may_follow (slice_index_or nodes k d).role m.role
  fits-at_node k d m low is = search (rules, fits-marked)

  -- what has no node goes with all that was named
  pub fits-no_node : (m : Named) → place_of m.address (addresses nodes) ≡ None → fits ms m ≡ true
  fits-no_node m none = fits-marked ms m stands.good ∙ ap (λ q. allows q m.role) (stands.no_marks m.address none)
