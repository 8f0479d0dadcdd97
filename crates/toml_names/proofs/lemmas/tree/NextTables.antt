-- A header of an array of tables: once the array is named, the counts of tables wait for its next element, which makes them right again.
use Rattle.toml_names.proofs.Common.{◌≡◌, ℕ, ◌+◌, ◌<◌, true, List, [], ◌∷◌, ◌++◌, length, Some, None, refl, sym, ap, subst, ◌∙◌, arith, slice_index_or, ◌⊎◌, inl, inr, rules, append_assoc, length_push, slice_get_past, Name, Index, Tables, Element, Bare, New, Address, child, element, role_after, Named, a_table, an_array, is_tables, count_tables, table_at, ends_tables, IsTree, IsTreeOf, IsFound, KeepsAddresses, ClashesAfter, table_count, AddsTable, Spot, nowhere, addresses, address_at, place_of, linked, grown, noted, may_follow, misfit, Grows, IsBarred, IsNode, IsNoted}
use Rattle.toml_names.proofs.lemmas.mentions.Counting.{count_plain}
use Rattle.toml_names.proofs.lemmas.tree.EnterSteps.{misfit-append, KeepsAddresses-then}
use Rattle.toml_names.proofs.lemmas.tree.Fitting.{StandsButCounts, Counts, but_counts, with_counts, fits-at_node}
use Rattle.toml_names.proofs.lemmas.mentions.Offences.{misfit-here}
use Rattle.toml_names.proofs.lemmas.tree.NodePlaces.{count_here, count_elsewhere, table_count-tables}
use Rattle.toml_names.proofs.lemmas.tree.StandsGrown.{StandsButCounts-grown, StandsButCounts-noted, other_node}
use Rattle.toml_names.proofs.lemmas.mentions.Growing.{tables_before}
use Rattle.toml_names.proofs.lemmas.mentions.TablesJoin.{tables_at}
use Rattle.toml_names.proofs.lemmas.tree.TreeGrown.{length-grown, address-old, address-new, node-last, node-above, node-other, node-parts, KeepsAddresses-grown, IsTree-grown, length-noted, address-noted, node-noted, node-beside, KeepsAddresses-noted, IsTree-noted}

-- an array of tables was named at the node, and its next element not yet
pub record Opened (mid : List Spot) (id line : ℕ) (ms : List Named) : Type 0 where
  pub stands : StandsButCounts mid (ms ++ tables_at line (address_at mid id) ∷ [])
  pub role : (d : Spot) → is_tables (slice_index_or mid id d).role ≡ true
  pub here : (d : Spot) → count_tables ms (address_at mid id) ≡ length (slice_index_or mid id d).elements
  pub others : (k : ℕ) (d : Spot) → k < length mid → (k ≡ id → ⊥) → count_tables ms (address_at mid k) ≡ table_count (slice_index_or mid k d)

-- what follows and keeps the rules
goes-from_good : (ms new : List Named) → misfit [] ms ≡ None → misfit [] (ms ++ new) ≡ None → misfit ms new ≡ None
goes-from_good ms new good all = sym (misfit-append ms [] new good) ∙ all

module _ (mid : List Spot) (id : ℕ) (d : Spot) (line : ℕ) (low : id < length mid) (tree : IsTree mid) where
  abbrev array : Spot
  array = slice_index_or mid id d

  abbrev index : ℕ
  index = length array.elements

  abbrev after : List Spot
  after = grown mid id array (Index index) Element a_table line

  abbrev m : Named
  m = table_at line Element (element (address_at mid id) index)

  fresh : place_of (element (address_at mid id) index) (addresses mid) ≡ None
  fresh = sym (tree.indices id d index low) ∙ slice_get_past array.elements index (omega arith)

  next : (i : ℕ) → Index index ≡ Index i → i ≡ index
  next i is = cc

  no_name : (n : List ℕ) → Index index ≡ Name n → Element ≡ Bare → ⊥
  no_name n is = cc

  module _ (ms : List Named) (opened : Opened mid id line ms) where
    abbrev opening : Named
    opening = tables_at line (address_at mid id)

    abbrev with_array : List Named
    with_array = ms ++ opening ∷ []

    counted_here : count_tables with_array (address_at mid id) ≡ table_count (linked array (Index index) (length mid))
    counted_here = search (rules, count_here, length_push, table_count-tables)

    counts : Counts after (with_array ++ m ∷ [])
    counts k e high = count_plain with_array m (address_at after k) refl ∙ by (node-parts mid id d (Index index) Element a_table line low k high)
      where
        by : (k ≡ length mid) ⊎ ((k ≡ id) ⊎ ((k < length mid) × (k ≡ id → ⊥))) → count_tables with_array (address_at after k) ≡ table_count (slice_index_or after k e)
        by (inl is) =
            ap (count_tables with_array) (address-new mid id d (Index index) Element a_table line low k is)
            ∙ opened.stands.no_counts (element (address_at mid id) index) fresh
            ∙ sym (ap table_count (node-last mid id d (Index index) Element a_table line low k e is))
        by (inr (inl is)) =
            ap (count_tables with_array) (ap (address_at after) is ∙ address-old mid id d (Index index) Element a_table line low id low)
            ∙ counted_here
            ∙ sym (ap table_count (node-above mid id d (Index index) Element a_table line low k e is))
        by (inr (inr (within, apart))) =
            ap (count_tables with_array) (address-old mid id d (Index index) Element a_table line low k within)
            ∙ count_elsewhere ms opening (address_at mid k) (other_node mid with_array opened.stands k id within low apart)
            ∙ opened.others k e within apart
            ∙ sym (ap table_count (node-other mid id d (Index index) Element a_table line low k e within apart))

    stands_after : IsTreeOf after (with_array ++ m ∷ [])
    stands_after = search (rules, with_counts, StandsButCounts-grown, fresh, next, no_name, counts)

    made : with_array ++ m ∷ [] ≡ ms ++ ends_tables line ms (address_at mid id)
    made = append_assoc ms (opening ∷ []) (m ∷ []) ∙ ap (λ n. ms ++ (opening ∷ table_at line Element (element (address_at mid id) n) ∷ [])) (sym (opened.here d))

  -- the array's next element, once the array is named
  pub adds_element : (old : List Spot) (at : Address) → KeepsAddresses old mid → address_at mid id ≡ at
      → ((ms : List Named) → IsTreeOf old ms → Opened mid id line ms) → AddsTable old after (length mid) line at
  adds_element old at kept is opens = subst (AddsTable old after (length mid) line) is adds
    where
      long : length after ≡ length mid + 1
      long = length-grown mid id d (Index index) Element a_table line low

      stands_all : (ms : List Named) → IsTreeOf old ms → IsTreeOf after (ms ++ ends_tables line ms (address_at mid id))
      stands_all ms stands = subst (IsTreeOf after) (made ms (opens ms stands)) (stands_after ms (opens ms stands))

      adds : AddsTable old after (length mid) line (address_at mid id)
      adds = record {
        tree = IsTree-grown mid id d (Index index) Element a_table line low tree fresh next no_name;
        kept = KeepsAddresses-then kept (KeepsAddresses-grown mid id d (Index index) Element a_table line low);
        within = omega (arith, long);
        stands = stands_all;
        goes = λ ms stands. goes-from_good ms (ends_tables line ms (address_at mid id)) stands.good (stands_all ms stands).good;
        leads = λ ms stands. address-new mid id d (Index index) Element a_table line low (length mid) refl ∙ ap (element (address_at mid id)) (sym ((opens ms stands).here d));
      }

-- an array of tables that is there
module _ (nodes : List Spot) (id : ℕ) (d : Spot) (line : ℕ) (low : id < length nodes) (role : (slice_index_or nodes id d).role ≡ Tables) where
  abbrev there : Spot
  there = slice_index_or nodes id d

  abbrev noted_there : List Spot
  noted_there = noted nodes id there Tables line

  pub Opened-noted : (ms : List Named) → IsTreeOf nodes ms → Opened noted_there id line ms
  Opened-noted ms stands = record {
    stands =
        subst (λ a. StandsButCounts noted_there (ms ++ tables_at line a ∷ [])) (sym (address-noted nodes id d Tables line low id))
        (StandsButCounts-noted nodes id d low (tables_at line (address_at nodes id)) refl (ap (λ q. may_follow q Tables) role) ms (but_counts nodes ms stands));
    role = λ e. ap (λ (s : Spot). is_tables s.role) (node-noted nodes id d Tables line low e) ∙ ap (λ q. is_tables (role_after q Tables)) role;
    here = λ e.
        ap (count_tables ms) (address-noted nodes id d Tables line low id) ∙ stands.counts id d low ∙ table_count-tables there (ap is_tables role)
        ∙ sym (ap (λ (s : Spot). length s.elements) (node-noted nodes id d Tables line low e));
    others = λ k e within apart.
        ap (count_tables ms) (address-noted nodes id d Tables line low k)
        ∙ stands.counts k e (rw (length-noted nodes id d Tables line low) at within)
        ∙ sym (ap table_count (node-beside nodes id d Tables line low k e apart));
  }

  pub adds_next : IsTree nodes → (e : Spot)
      → AddsTable nodes (grown noted_there id (slice_index_or noted_there id e) (Index (length (slice_index_or noted_there id e).elements)) Element a_table line) (length noted_there) line (address_at nodes id)
  adds_next tree e = search (rules, adds_element, length-noted, IsTree-noted, KeepsAddresses-noted, address-noted, Opened-noted)

-- a new array of tables
module _ (nodes : List Spot) (p : ℕ) (d : Spot) (n : List ℕ) (line : ℕ) (low : p < length nodes) (fresh : place_of (address_at nodes p ++ Name n ∷ []) (addresses nodes) ≡ None) where
  abbrev parent : Spot
  parent = slice_index_or nodes p d

  abbrev with_name : List Spot
  with_name = grown nodes p parent (Name n) Tables an_array line

  no_index : (i : ℕ) → Name n ≡ Index i → i ≡ length parent.elements
  no_index i is = cc

  a_mention : (m : List ℕ) → Name n ≡ Name m → Tables ≡ Bare → ⊥
  a_mention m is h = cc

  pub IsTree-array : IsTree nodes → IsTree with_name
  IsTree-array tree = IsTree-grown nodes p d (Name n) Tables an_array line low tree fresh no_index a_mention

  pub Opened-new : (ms : List Named) → IsTreeOf nodes ms → Opened with_name (length nodes) line ms
  Opened-new ms stands = record {
    stands =
        subst (λ a. StandsButCounts with_name (ms ++ tables_at line a ∷ [])) (sym (address-new nodes p d (Name n) Tables an_array line low (length nodes) refl))
        (StandsButCounts-grown nodes p d (Name n) Tables an_array line low fresh no_index a_mention ms (but_counts nodes ms stands));
    role = λ e. ap (λ (s : Spot). is_tables s.role) (node-last nodes p d (Name n) Tables an_array line low (length nodes) e refl);
    here = λ e.
        ap (count_tables ms) (address-new nodes p d (Name n) Tables an_array line low (length nodes) refl)
        ∙ stands.no_counts (address_at nodes p ++ Name n ∷ []) fresh
        ∙ sym (ap (λ (s : Spot). length s.elements) (node-last nodes p d (Name n) Tables an_array line low (length nodes) e refl));
    others = λ k e within apart. by k e apart (node-parts nodes p d (Name n) Tables an_array line low k within);
  }
    where
      by : (k : ℕ) (e : Spot) → (k ≡ length nodes → ⊥) → (k ≡ length nodes) ⊎ ((k ≡ p) ⊎ ((k < length nodes) × (k ≡ p → ⊥)))
          → count_tables ms (address_at with_name k) ≡ table_count (slice_index_or with_name k e)
      by k e apart (inl is) = absurd (apart is)
      by k e apart (inr (inl is)) =
          ap (count_tables ms) (ap (address_at with_name) is ∙ address-old nodes p d (Name n) Tables an_array line low p low) ∙ stands.counts p d low
          ∙ sym (ap table_count (node-above nodes p d (Name n) Tables an_array line low k e is))
      by k e apart (inr (inr (within, other))) =
          ap (count_tables ms) (address-old nodes p d (Name n) Tables an_array line low k within) ∙ stands.counts k e within
          ∙ sym (ap table_count (node-other nodes p d (Name n) Tables an_array line low k e within other))

  pub adds_first : IsTree nodes → (e : Spot)
      → AddsTable nodes (grown with_name (length nodes) (slice_index_or with_name (length nodes) e) (Index (length (slice_index_or with_name (length nodes) e).elements)) Element a_table line)
      (length with_name) line (address_at nodes p ++ Name n ∷ [])
  adds_first tree e =
      adds_element with_name (length nodes) e line (let long = length-grown nodes p d (Name n) Tables an_array line low in omega arith) (IsTree-array tree) nodes (address_at nodes p ++ Name n ∷ [])
      (KeepsAddresses-grown nodes p d (Name n) Tables an_array line low) (address-new nodes p d (Name n) Tables an_array line low (length nodes) refl) Opened-new

-- the array's name led nowhere before
module _ (old new : List Spot) (at : ℕ) (there : IsNode old at) (n : List ℕ) (line id : ℕ) (led : IsFound old new at n Tables an_array line (New id)) where
  fresh_name : place_of (child (address_at old at) n) (addresses old) ≡ None
  fresh_name = sym (there.tree.names at nowhere n there.within) ∙ led.1 nowhere

  pub new_array-there : IsNode new id
  new_array-there = record {
    tree = rw (led.2 nowhere) (IsTree-array old at nowhere n line there.within fresh_name there.tree);
    within = let long = ap length (led.2 nowhere) ∙ length-grown old at nowhere (Name n) Tables an_array line there.within in let last = led.0 in omega arith;
  }

  pub new_array-adds : (then : List Spot) (last : ℕ) → Grows new then id Element a_table line last → AddsTable old then last line (child (address_at old at) n)
  new_array-adds then last grows = rw (grows.grown_is nowhere, grows.last, led.0, led.2 nowhere) (adds_first old at nowhere n line there.within fresh_name there.tree nowhere)

-- the array was named once more
module _ (old mid : List Spot) (id : ℕ) (there : IsNode old id) (line : ℕ) (again : IsNoted old mid id Tables line) where
  pub noted_array-there : IsNode mid id
  noted_array-there = rw (again.nodes nowhere) (record {
    tree = IsTree-noted old id nowhere Tables line there.within there.tree;
    within = rw (length-noted old id nowhere Tables line there.within) there.within;
  })

  pub noted_array-adds : ((d : Spot) → (slice_index_or old id d).role ≡ Bare → ⊥) → (then : List Spot) (last : ℕ) → Grows mid then id Element a_table line last
      → AddsTable old then last line (address_at old id)
  noted_array-adds mention then last grows =
      rw (grows.grown_is nowhere, grows.last, again.nodes nowhere)
      (adds_next old id nowhere line there.within (tables_before _ (again.goes nowhere) (mention nowhere)) there.tree nowhere)

-- something else that is there
pub clash_next : (nodes : List Spot) (id line : ℕ) → id < length nodes → (a : Address) → IsBarred nodes id Tables a → ClashesAfter nodes (λ ms. ends_tables line ms (address_at nodes id)) a
clash_next nodes id line low a barred ms stands =
    misfit-here ms (table_at line Element (element (address_at nodes id) (count_tables ms (address_at nodes id))) ∷ []) (tables_at line (address_at nodes id))
    (fits-at_node nodes ms (but_counts nodes ms stands) id nowhere (tables_at line (address_at nodes id)) low refl ∙ barred.bad nowhere)
    ∙ ap Some barred.address
