-- The nodes with one more, or with one named once more, stand for what was named with one more mention.
use Rattle.toml_names.proofs.Common.{◌≡◌, ℕ, ◌+◌, ◌<◌, List, [], ◌∷◌, ◌++◌, length, Some, None, refl, sym, ap, ◌∙◌, slice_index_or, ◌⊎◌, inl, inr, rules, Step, Name, Index, Role, Bare, Address, mark_after, Kind, Named, Spot, addresses, address_at, place_of, leaf, linked, grown, true, subst, cases_eq, fact_at, marked, noted, may_follow}
use Rattle.toml_names.proofs.lemmas.mentions.FirstMentioned.{first-new, first-again}
use Rattle.toml_names.proofs.lemmas.tree.Fitting.{Stands, StandsButCounts, mark_here, mark_elsewhere, fits-no_node, good_more, fits-at_node}
use Rattle.toml_names.proofs.lemmas.mentions.LineMore.{line_elsewhere, line_new, line_absent, line_noted}
use Rattle.toml_names.proofs.lemmas.tree.NodePlaces.{none_is_some, none_before, count_elsewhere}
use Rattle.toml_names.proofs.lemmas.mentions.FactAt.{fact_new, fact_other, fact_kept}
use Rattle.toml_names.proofs.lemmas.tree.TreeGrown.{own_place, addresses-grown, address-old, address-new, node-last, node-above, node-other, node-parts, IsTree-grown, addresses-noted, length-noted, address-noted, node-noted, node-beside, IsTree-noted}

-- a mention of another address
pub stands_elsewhere : (ms : List Named) (m : Named) (at : Address) (spot : Spot) → (m.address ≡ at → ⊥) → Stands ms at spot → Stands (ms ++ m ∷ []) at spot
stands_elsewhere ms m at spot apart stands = search (rules, mark_elsewhere, fact_other, line_elsewhere)

-- a further way down
stands_linked : (ms : List Named) (at : Address) (parent : Spot) (s : Step) (id : ℕ) → Stands ms at parent → Stands ms at (linked parent s id)
stands_linked ms at parent s id stands = search rules

module _ (nodes : List Spot) (p : ℕ) (d : Spot) (s : Step) (r : Role) (kind : Kind) (line : ℕ) (low : p < length nodes)
    (fresh : place_of (address_at nodes p ++ s ∷ []) (addresses nodes) ≡ None)
    (next : (i : ℕ) → s ≡ Index i → i ≡ length (slice_index_or nodes p d).elements) (mention : (n : List ℕ) → s ≡ Name n → r ≡ Bare → ⊥)
    (ms : List Named) (stands : StandsButCounts nodes ms) where
  abbrev parent : Spot
  parent = slice_index_or nodes p d

  abbrev after : List Spot
  after = grown nodes p parent s r kind line

  abbrev last : Spot
  last = leaf (Some (p, s)) (parent.depth + 1) r kind line

  abbrev m : Named
  m = record { address = address_at nodes p ++ s ∷ []; role = r; kind = kind; line = line }

  -- it has an address of its own
  pub apart_from_old : (k : ℕ) → k < length nodes → m.address ≡ address_at nodes k → ⊥
  apart_from_old k within is = none_is_some k (sym fresh ∙ ap (λ a. place_of a (addresses nodes)) is ∙ own_place nodes stands.tree k within)

  none_before_it : (at : Address) → place_of at (addresses after) ≡ None → (m.address ≡ at → ⊥) × (place_of at (addresses nodes) ≡ None)
  none_before_it at none = none_before (addresses nodes) m.address at fresh (ap (place_of at) (sym (addresses-grown nodes p d s r kind line low)) ∙ none)

  new_stands : Stands (ms ++ m ∷ []) m.address last
  new_stands = record {
    mark = mark_here ms m m.address refl ∙ ap (λ q. mark_after q r) (stands.no_marks m.address fresh);
    fact = fact_new ms m (stands.no_facts m.address fresh);
    line = line_new ms m m.address refl (line_absent ms m.address r (stands.no_facts m.address fresh));
  }

  old_stands : (k : ℕ) (e : Spot) → k < length nodes → Stands (ms ++ m ∷ []) (address_at nodes k) (slice_index_or nodes k e)
  old_stands k e within = stands_elsewhere ms m (address_at nodes k) (slice_index_or nodes k e) (apart_from_old k within) (stands.each k e within)

  all_stand : (k : ℕ) (e : Spot) → k < length after → Stands (ms ++ m ∷ []) (address_at after k) (slice_index_or after k e)
  all_stand k e high = by (node-parts nodes p d s r kind line low k high)
    where
      by : (k ≡ length nodes) ⊎ ((k ≡ p) ⊎ ((k < length nodes) × (k ≡ p → ⊥))) → Stands (ms ++ m ∷ []) (address_at after k) (slice_index_or after k e)
      by (inl is) = rw (address-new nodes p d s r kind line low k is, node-last nodes p d s r kind line low k e is) new_stands
      by (inr (inl is)) =
          rw (node-above nodes p d s r kind line low k e is, address-old nodes p d s r kind line low k (rw is low), is)
          (stands_linked (ms ++ m ∷ []) (address_at nodes p) parent s (length nodes) (old_stands p d low))
      by (inr (inr (within, apart))) =
          rw (node-other nodes p d s r kind line low k e within apart, address-old nodes p d s r kind line low k within) (old_stands k e within)

  pub StandsButCounts-grown : StandsButCounts after (ms ++ m ∷ [])
  StandsButCounts-grown = record {
    tree = IsTree-grown nodes p d s r kind line low stands.tree fresh next mention;
    each = all_stand;
    no_marks = λ at none. let parts = none_before_it at none in mark_elsewhere ms m at parts.0 ∙ stands.no_marks at parts.1;
    no_facts = λ at none. let parts = none_before_it at none in fact_other ms m at parts.0 ∙ stands.no_facts at parts.1;
    no_counts = λ at none. let parts = none_before_it at none in count_elsewhere ms m at parts.0 ∙ stands.no_counts at parts.1;
    firsts = addresses-grown nodes p d s r kind line low ∙ ap (λ l. l ++ m.address ∷ []) stands.firsts ∙ sym (first-new ms m (stands.no_facts m.address fresh));
    good = good_more ms m stands.good (fits-no_node nodes ms stands m fresh);
  }

-- two nodes have two addresses
pub other_node : (nodes : List Spot) (ms : List Named) → StandsButCounts nodes ms → (j k : ℕ) → j < length nodes → k < length nodes → (j ≡ k → ⊥) → address_at nodes k ≡ address_at nodes j → ⊥
other_node nodes ms stands j k low high apart is =
    apart (let h : Some j ≡ Some k = sym (own_place nodes stands.tree j low) ∙ ap (λ a. place_of a (addresses nodes)) (sym is) ∙ own_place nodes stands.tree k high in cc)

module _ (nodes : List Spot) (k : ℕ) (d : Spot) (low : k < length nodes) (m : Named) (is : m.address ≡ address_at nodes k)
    (goes : may_follow (slice_index_or nodes k d).role m.role ≡ true) (ms : List Named) (stands : StandsButCounts nodes ms) where
  abbrev here : Spot
  here = slice_index_or nodes k d

  abbrev once_more : List Spot
  once_more = noted nodes k here m.role m.line

  here_stands : Stands (ms ++ m ∷ []) (address_at nodes k) (marked here m.role m.line)
  here_stands = search (rules, mark_here, fact_kept, line_noted)

  beside_stands : (j : ℕ) (e : Spot) → j < length nodes → (j ≡ k → ⊥) → Stands (ms ++ m ∷ []) (address_at nodes j) (slice_index_or nodes j e)
  beside_stands j e within apart =
      stands_elsewhere ms m (address_at nodes j) (slice_index_or nodes j e) (λ same. other_node nodes ms stands j k within low apart (sym is ∙ same)) (stands.each j e within)

  all_stand_again : (j : ℕ) (e : Spot) → j < length nodes → Stands (ms ++ m ∷ []) (address_at once_more j) (slice_index_or once_more j e)
  all_stand_again j e within = subst (λ a. Stands (ms ++ m ∷ []) a (slice_index_or once_more j e)) (sym (address-noted nodes k d m.role m.line low j)) (by (cases_eq j k))
    where
      by : (j ≡ k) ⊎ (j ≡ k → ⊥) → Stands (ms ++ m ∷ []) (address_at nodes j) (slice_index_or once_more j e)
      by (inl same) = rw same (rw (node-noted nodes k d m.role m.line low e) here_stands)
      by (inr apart) = rw (node-beside nodes k d m.role m.line low j e apart) (beside_stands j e within apart)

  none_as_before : (at : Address) → place_of at (addresses once_more) ≡ None → (m.address ≡ at → ⊥) × (place_of at (addresses nodes) ≡ None)
  none_as_before at none = search (rules, addresses-noted, none_is_some, own_place)

  pub StandsButCounts-noted : StandsButCounts once_more (ms ++ m ∷ [])
  StandsButCounts-noted = record {
    tree = IsTree-noted nodes k d m.role m.line low stands.tree;
    each = λ j e within. all_stand_again j e (rw (length-noted nodes k d m.role m.line low) at within);
    no_marks = λ at none. let parts = none_as_before at none in mark_elsewhere ms m at parts.0 ∙ stands.no_marks at parts.1;
    no_facts = λ at none. let parts = none_as_before at none in fact_other ms m at parts.0 ∙ stands.no_facts at parts.1;
    no_counts = λ at none. let parts = none_as_before at none in count_elsewhere ms m at parts.0 ∙ stands.no_counts at parts.1;
    firsts =
        addresses-noted nodes k d m.role m.line low ∙ stands.firsts
        ∙ sym (first-again ms m here.kind (ap (λ a. fact_at ms a) is ∙ (stands.each k d low).fact));
    good = good_more ms m stands.good (fits-at_node nodes ms stands k d m low is ∙ goes);
  }
