-- What the lines of a reader name, by its nodes: data are those of the lines where they have what the nodes have.
use Rattle.toml_names.proofs.Common.{◌≡◌, ◌↔◌, ℕ, List, ◌++◌, Bool, IsTrue, IfOk, Result, Ok, Err, cond, Datum, kind_at, Option, Some, None, refl, sym, ap, ◌∙◌, none-some, Line, Address, Kinds, IsDataOf, fact_at, below_node, Joined, Kind, Named, named, Spot, address_at, IsReader}
use Rattle.toml_names.specs.declared.model.address_set.AddressSet.{AddressSet}
use Rattle.toml_names.specs.model.AddressSets.{is_hidden}
use Rattle.toml_names.specs.model.Hidden.{beside, near}
use Rattle.toml_names.specs.tree.Near.{IsSound}
use Rattle.toml_names.specs.tree.HeldBeside.{HoldsBeside}
use Rattle.toml_names.proofs.lemmas.tree.LineRanks.{joined, root_facts}
use Rattle.toml_names.proofs.lemmas.mentions.OfOneKind.{first_is_data}
use Rattle.toml_names.proofs.lemmas.tree.NearData.{facts_by_nodes}
use Rattle.toml_names.proofs.lemmas.tree.NodePlaces.{root_address}

-- data have at each address the kind of the first thing named there
facts_of : (ms : List Named) (kinds : Kinds) → Joined ms → IsDataOf ms kinds → (at : Address) → kinds at ≡ fact_at ms at
facts_of ms kinds all are at = by (kinds at) (fact_at ms at) refl refl
  where
    by : (o p : Option Kind) → kinds at ≡ o → fact_at ms at ≡ p → kinds at ≡ fact_at ms at
    by None None is to = is ∙ sym to
    by (Some k) p is to = is ∙ sym ((first_is_data ms all at k).1 ((are at k).0 is))
    by None (Some k) is to = absurd (none-some k (sym is ∙ (are at k).1 ((first_is_data ms all at k).0 to)))

module _ (nodes : List Spot) (lines : List Line) (own : List (Option ℕ)) (at : ℕ) (reads : IsReader nodes lines own at) where
  at_root : (rest : Address) → fact_at (named lines) (address_at nodes 0 ++ rest) ≡ fact_at (named lines) rest
  at_root rest = ap (λ (a : Address). fact_at (named lines) (a ++ rest)) (root_address nodes reads.stands.tree)

  below_root : (rest : Address) → below_node nodes 0 rest ≡ fact_at (named lines) (address_at nodes 0 ++ rest)
  below_root rest = facts_by_nodes nodes (named lines) reads.stands (address_at nodes 0 ++ rest)

  -- what the nodes have below the root is the data of the lines
  pub root_data : IsDataOf (named lines) (below_node nodes 0)
  root_data = root_facts nodes lines own at reads (below_node nodes 0) below_root

  -- data that are what the nodes have are those of the lines, and there are no others
  pub data_by_nodes : (kinds : Kinds) → ((rest : Address) → kinds rest ≡ below_node nodes 0 rest) ↔ IsDataOf (named lines) kinds
  data_by_nodes kinds = (
    λ told. root_facts nodes lines own at reads kinds (λ rest. told rest ∙ below_root rest),
    λ are rest. facts_of (named lines) kinds (joined nodes lines own at reads) are rest ∙ sym (at_root rest) ∙ sym (below_root rest),
  )

  -- what the nodes have near the ways of a set is what the data of the lines have there
  pub near_data : (set : AddressSet) (kinds near_kinds : Kinds) → IsDataOf (named lines) kinds → ((rest : Address) → near_kinds rest ≡ near (is_hidden set) (below_node nodes 0) rest)
      → (rest : Address) → near_kinds rest ≡ near (is_hidden set) kinds rest
  near_data set kinds near_kinds are told rest = told rest ∙ ap (cond (is_hidden set rest) None) (sym ((data_by_nodes kinds).1 are rest))

  pub is_sound : IsSound nodes
  is_sound = record { things = named lines; stands = reads.stands; joined = joined nodes lines own at reads }

-- data beside those of another reader, where the nodes have them
module _ (nodes : List Spot) (lines : List Line) (own : List (Option ℕ)) (at : ℕ) (reads : IsReader nodes lines own at)
    (others : List Spot) (other_lines : List Line) (other_own : List (Option ℕ)) (other_at : ℕ) (other_reads : IsReader others other_lines other_own other_at) where
  beside_data : (set : AddressSet) (d : Datum) (old : Kinds) → IsDataOf (named other_lines) old → HoldsBeside nodes 0 others (Some 0) set d ↔ IsDataOf (named lines) (beside (is_hidden set) old (kind_at d))
  beside_data set d old are =
      let same : (rest : Address) → beside (is_hidden set) old (kind_at d) rest ≡ beside (is_hidden set) (below_node others 0) (kind_at d) rest =
      λ rest. ap (λ k. cond (is_hidden set rest) k (kind_at d rest)) ((data_by_nodes others other_lines other_own other_at other_reads old).1 are rest) in
      let by_nodes = data_by_nodes nodes lines own at reads (beside (is_hidden set) old (kind_at d)) in (
        λ holds. by_nodes.0 (λ rest. same rest ∙ holds rest),
        λ told rest. sym (same rest) ∙ by_nodes.1 told rest,
      )

  pub told_beside : {E : Type 0} (set : AddressSet) (d : Datum) (r : Result Bool E) → IfOk r (λ b. IsTrue b ↔ HoldsBeside nodes 0 others (Some 0) set d)
      → IfOk r (λ b. (old : Kinds) → IsDataOf (named other_lines) old → (IsTrue b ↔ IsDataOf (named lines) (beside (is_hidden set) old (kind_at d))))
  told_beside set d (Ok b) told = λ old are. (λ h. (beside_data set d old are).0 (told.0 h), λ data_are. told.1 ((beside_data set d old are).1 data_are))
  told_beside set d (Err e) told = told
