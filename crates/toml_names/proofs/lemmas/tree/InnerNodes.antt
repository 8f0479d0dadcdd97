-- Where a header goes on at a node: in the last table of an array, or in the table itself; and what passing it leaves.
use Rattle.toml_names.proofs.Common.{◌≡◌, ℕ, ◌-◌, ◌<◌, ◌≤◌, ◌==◌, true, false, cond, List, [], ◌∷◌, ◌++◌, length, Option, Some, None, refl, sym, ap, subst, ◌∙◌, arith, slice_get, slice_index_or, ◌⊎◌, inl, inr, rules, cases_lt, ne_eqb, get_or_default, none-some, slice_get-get_or, slice_get_within, lookup, unwrap_or, bytes_eq, Name, Passed, Tables, Address, child, element, Named, a_table, is_tables, count_tables, entered, table_at, IsTree, IsTreeOf, ClashesAfter, Passes, Spot, nowhere, addresses, address_at, place_of, grown, noted, may_follow, misfit, IsBarred, IsNode, IsNoted}
use Rattle.toml_names.proofs.lemmas.tree.CountsKept.{IsTreeOf-noted}
use Rattle.toml_names.proofs.lemmas.tree.EnterName.{Enters-new, LeadsTo-new, IsKnown, known-address}
use Rattle.toml_names.proofs.lemmas.tree.Fitting.{but_counts, fits-at_node}
use Rattle.toml_names.proofs.lemmas.mentions.Offences.{misfit-here, misfit-later}
use Rattle.toml_names.proofs.lemmas.tree.NodeAddresses.{length-addresses}
use Rattle.toml_names.proofs.lemmas.tree.NodePlaces.{place_of-at, table_count-tables}
use Rattle.toml_names.proofs.lemmas.tree.TreeGrown.{length-noted, address-noted, KeepsAddresses-noted, IsTree-noted}

-- a node that was read twice
pub read_twice : (nodes : List Spot) (id : ℕ) (v w : Spot) → id < length nodes → v ≡ slice_index_or nodes id v → w ≡ slice_index_or nodes id w → v ≡ w
read_twice nodes id v w low first then = first ∙ get_or_default nodes id v w low ∙ sym then

-- where as many tables are counted
pub entered_counted : (ms : List Named) (at : Address) (n : ℕ) → count_tables ms at ≡ n → entered ms at ≡ cond (n == 0) at (element at (n - 1))
entered_counted ms at n is = ap (λ n. cond (n == 0) at (element at (n - 1))) is

-- a header goes on at the node `id` from the address
abbrev pub GoesOnAt : List Spot → Address → ℕ → Type 0
GoesOnAt nodes at id = (ms : List Named) → IsTreeOf nodes ms → address_at nodes id ≡ entered ms at

module _ (nodes : List Spot) (tree : IsTree nodes) (id : ℕ) (v : Spot) (low : id < length nodes) (read : v ≡ slice_index_or nodes id v) (role : v.role ≡ Tables) where
  tables : is_tables (slice_index_or nodes id v).role ≡ true
  tables = ap (λ (s : Spot). is_tables s.role) (sym read) ∙ ap is_tables role

  counted : (ms : List Named) → IsTreeOf nodes ms → count_tables ms (address_at nodes id) ≡ length v.elements
  counted ms stands = stands.counts id v low ∙ table_count-tables (slice_index_or nodes id v) tables ∙ ap (λ (s : Spot). length s.elements) (sym read)

  place : (i to : ℕ) → slice_get v.elements i ≡ Some to → place_of (element (address_at nodes id) i) (addresses nodes) ≡ Some to
  place i to is = sym (tree.indices id v i low) ∙ ap (λ (s : Spot). slice_get s.elements i) (sym read) ∙ is

  -- the last element's node, or the array's own where it has none
  pub last_element : (o : Option ℕ) → o ≡ slice_get v.elements (length v.elements - 1) → (unwrap_or o id < length nodes) × GoesOnAt nodes (address_at nodes id) (unwrap_or o id)
  last_element None is = (low, λ ms stands. sym (entered_counted ms (address_at nodes id) 0 (counted ms stands ∙ empty (cases_lt 0 (length v.elements)))))
    where
      empty : (0 < length v.elements) ⊎ (length v.elements ≤ 0) → length v.elements ≡ 0
      empty (inl some) = absurd (none-some _ (is ∙ slice_get-get_or v.elements (length v.elements - 1) 0 (omega arith)))
      empty (inr none) = omega arith
  last_element (Some to) is =
      let inside : length v.elements - 1 < length v.elements = slice_get_within v.elements (length v.elements - 1) to (sym is) in
      let found = place_of-at (addresses nodes) (element (address_at nodes id) (length v.elements - 1)) [] to (place (length v.elements - 1) to (sym is)) in
      let some : (length v.elements == 0) ≡ false = ne_eqb (length v.elements) 0 (λ z. absurd (omega arith)) in
      let long = length-addresses nodes in (
        omega (arith, found.0),
        λ ms stands.
            found.1
            ∙ sym (entered_counted ms (address_at nodes id) (length v.elements) (counted ms stands)
            ∙ ap (λ b. cond b (address_at nodes id) (element (address_at nodes id) (length v.elements - 1))) some),
      )

module _ (nodes : List Spot) (tree : IsTree nodes) (at : ℕ) (n : List ℕ) (line : ℕ) where
  -- into a node that is there
  module _ (id : ℕ) (d : Spot) (low : id < length nodes) (goes_on : GoesOnAt nodes (child (address_at nodes at) n) id) where
    abbrev m : Address → Named
    m a = table_at line Passed a

    pub Passes-found : may_follow (slice_index_or nodes id d).role Passed ≡ true → Passes nodes (noted nodes id (slice_index_or nodes id d) Passed line) id at line n
    Passes-found goes = record {
      tree = IsTree-noted nodes id d Passed line low tree;
      kept = KeepsAddresses-noted nodes id d Passed line low;
      within = rw (length-noted nodes id d Passed line low) low;
      stands = λ ms stands.
          subst (λ a. IsTreeOf (noted nodes id (slice_index_or nodes id d) Passed line) (ms ++ m a ∷ [])) (goes_on ms stands)
          (IsTreeOf-noted nodes id d low (m (address_at nodes id)) refl goes refl ms stands);
      goes = λ ms stands.
          misfit-later ms [] (m (entered ms (child (address_at nodes at) n)))
          (fits-at_node nodes ms (but_counts nodes ms stands) id d (m (entered ms (child (address_at nodes at) n))) low (sym (goes_on ms stands)) ∙ goes);
      address = λ ms stands. address-noted nodes id d Passed line low id ∙ goes_on ms stands;
    }

    pub clash-found : may_follow (slice_index_or nodes id d).role Passed ≡ false → (ms : List Named) → IsTreeOf nodes ms
        → misfit ms (m (entered ms (child (address_at nodes at) n)) ∷ []) ≡ Some (address_at nodes id)
    clash-found bad ms stands = search (rules, misfit-here, fits-at_node, but_counts)

  -- a new node
  module _ (low : at < length nodes) (d : Spot) (absent : lookup (bytes_eq n) (slice_index_or nodes at d).children ≡ None) (e : Spot) where
    abbrev after : List Spot
    after = grown nodes at (slice_index_or nodes at e) (Name n) Passed a_table line

    -- no table is counted there
    itself : (ms : List Named) → IsTreeOf nodes ms → child (address_at nodes at) n ≡ entered ms (child (address_at nodes at) n)
    itself ms stands = sym (entered_counted ms (child (address_at nodes at) n) 0 (stands.no_counts (child (address_at nodes at) n) (sym (tree.names at d n low) ∙ absent)))

    pub Passes-new : Passes nodes after (length nodes) at line n
    Passes-new =
        let enters = Enters-new nodes tree at low n d absent Passed a_table line e refl (λ h. cc) in
        let leads = LeadsTo-new nodes tree at low n d absent Passed a_table line e in
        record {
          tree = enters.tree;
          kept = enters.kept;
          within = leads.within;
          stands = λ ms stands. subst (λ a. IsTreeOf after (ms ++ table_at line Passed a ∷ [])) (itself ms stands) (enters.stands ms stands);
          goes = λ ms stands. subst (λ a. misfit ms (table_at line Passed a ∷ []) ≡ None) (itself ms stands) (enters.goes ms stands);
          address = λ ms stands. leads.address ∙ itself ms stands;
        }

-- a name led to the node `found`, and the header goes on at `id`
module _ (old new : List Spot) (at : ℕ) (there : IsNode old at) (n : List ℕ) (line found : ℕ) (known : IsKnown old new at n found)
    (id : ℕ) (within : id < length new) (goes_on : GoesOnAt new (address_at new found) id) where
  low_there : id < length old
  low_there = rw known.0 at within

  goes_there : GoesOnAt old (child (address_at old at) n) id
  goes_there = subst (λ l. GoesOnAt l (child (address_at old at) n) id) known.0 (subst (λ a. GoesOnAt new a id) (known-address old new at there n found known) goes_on)

  pub Passes-known : (then : List Spot) → IsNoted new then id Passed line → Passes old then id at line n
  Passes-known then noted_is = rw (rw known.0 at (noted_is.nodes nowhere)) (Passes-found old there.tree at n line id nowhere low_there goes_there (rw known.0 at (noted_is.goes nowhere)))

  pub clash-known : (a : Address) → IsBarred new id Passed a → ClashesAfter old (λ ms. table_at line Passed (entered ms (child (address_at old at) n)) ∷ []) a
  clash-known a barred ms stands =
      clash-found old there.tree at n line id nowhere low_there goes_there (rw known.0 at (barred.bad nowhere)) ms stands ∙ ap Some (rw known.0 at barred.address)
