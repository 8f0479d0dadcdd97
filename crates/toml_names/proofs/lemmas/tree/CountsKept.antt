-- One more mention that is no array of tables keeps the counts, so the nodes stand for all with it.
use Rattle.toml_names.proofs.Common.{◌≡◌, false, true, ℕ, ◌+◌, ◌<◌, List, [], ◌∷◌, ◌++◌, length, Some, None, sym, ap, ◌∙◌, slice_index_or, ◌⊎◌, inl, inr, rules, cases_eq, Step, Name, Index, Role, Bare, Kind, Named, is_tables, count_tables, IsTreeOf, table_count, Spot, addresses, address_at, place_of, leaf, linked, grown, noted, may_follow}
use Rattle.toml_names.proofs.lemmas.mentions.Counting.{count_plain}
use Rattle.toml_names.proofs.lemmas.tree.Fitting.{Counts, but_counts, with_counts}
use Rattle.toml_names.proofs.lemmas.tree.NodePlaces.{table_count-plain, table_count-marked}
use Rattle.toml_names.proofs.lemmas.tree.StandsGrown.{StandsButCounts-grown, StandsButCounts-noted}
use Rattle.toml_names.proofs.lemmas.tree.TreeGrown.{address-old, address-new, node-last, node-above, node-other, node-parts, length-noted, address-noted, node-noted, node-beside}

module _ (nodes : List Spot) (p : ℕ) (d : Spot) (s : Step) (r : Role) (kind : Kind) (line : ℕ) (low : p < length nodes) (plain : is_tables r ≡ false)
    (same : table_count (linked (slice_index_or nodes p d) s (length nodes)) ≡ table_count (slice_index_or nodes p d)) where
  abbrev parent : Spot
  parent = slice_index_or nodes p d

  abbrev after : List Spot
  after = grown nodes p parent s r kind line

  abbrev last : Spot
  last = leaf (Some (p, s)) (parent.depth + 1) r kind line

  abbrev m : Named
  m = record { address = address_at nodes p ++ s ∷ []; role = r; kind = kind; line = line }

  pub Counts-grown : (ms : List Named) → count_tables ms m.address ≡ 0 → Counts nodes ms → Counts after (ms ++ m ∷ [])
  Counts-grown ms none counts k e high = count_plain ms m (address_at after k) plain ∙ by (node-parts nodes p d s r kind line low k high)
    where
      by : (k ≡ length nodes) ⊎ ((k ≡ p) ⊎ ((k < length nodes) × (k ≡ p → ⊥))) → count_tables ms (address_at after k) ≡ table_count (slice_index_or after k e)
      by (inl is) =
          ap (count_tables ms) (address-new nodes p d s r kind line low k is) ∙ none
          ∙ sym (ap table_count (node-last nodes p d s r kind line low k e is) ∙ table_count-plain last plain)
      by (inr (inl is)) =
          ap (count_tables ms) (ap (address_at after) is ∙ address-old nodes p d s r kind line low p low) ∙ counts p d low
          ∙ sym (ap table_count (node-above nodes p d s r kind line low k e is) ∙ same)
      by (inr (inr (within, apart))) =
          ap (count_tables ms) (address-old nodes p d s r kind line low k within) ∙ counts k e within
          ∙ sym (ap table_count (node-other nodes p d s r kind line low k e within apart))

  pub IsTreeOf-grown : place_of m.address (addresses nodes) ≡ None → ((i : ℕ) → s ≡ Index i → i ≡ length parent.elements) → ((n : List ℕ) → s ≡ Name n → r ≡ Bare → ⊥)
      → (ms : List Named) → IsTreeOf nodes ms → IsTreeOf after (ms ++ m ∷ [])
  IsTreeOf-grown fresh next mention ms stands =
      with_counts after (ms ++ m ∷ []) (StandsButCounts-grown nodes p d s r kind line low fresh next mention ms (but_counts nodes ms stands))
      (Counts-grown ms (stands.no_counts m.address fresh) stands.counts)

module _ (nodes : List Spot) (k : ℕ) (d : Spot) (low : k < length nodes) (m : Named) (plain : is_tables m.role ≡ false)
    (goes : may_follow (slice_index_or nodes k d).role m.role ≡ true) where
  abbrev here : Spot
  here = slice_index_or nodes k d

  abbrev noted_after : List Spot
  noted_after = noted nodes k here m.role m.line

  pub Counts-noted : (ms : List Named) → Counts nodes ms → Counts noted_after (ms ++ m ∷ [])
  Counts-noted ms counts j e high =
      count_plain ms m (address_at noted_after j) plain
      ∙ ap (count_tables ms) (address-noted nodes k d m.role m.line low j)
      ∙ by (rw (length-noted nodes k d m.role m.line low) at high) (cases_eq j k)
    where
      by : j < length nodes → (j ≡ k) ⊎ (j ≡ k → ⊥) → count_tables ms (address_at nodes j) ≡ table_count (slice_index_or noted_after j e)
      by within (inl is) =
          ap (λ i. count_tables ms (address_at nodes i)) is ∙ counts k d low
          ∙ sym (ap (λ i. table_count (slice_index_or noted_after i e)) is ∙ ap table_count (node-noted nodes k d m.role m.line low e) ∙ table_count-marked here m.role m.line goes plain)
      by within (inr apart) = counts j e within ∙ sym (ap table_count (node-beside nodes k d m.role m.line low j e apart))

  pub IsTreeOf-noted : m.address ≡ address_at nodes k → (ms : List Named) → IsTreeOf nodes ms → IsTreeOf noted_after (ms ++ m ∷ [])
  IsTreeOf-noted is ms stands = search (rules, with_counts, StandsButCounts-noted, but_counts, Counts-noted)
