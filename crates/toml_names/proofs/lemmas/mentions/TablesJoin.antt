-- An array of tables and its next element join.
use Rattle.toml_names.proofs.Common.{common_steps, ◌≡◌, ◌⊎◌, ℕ, ◌+◌, ◌<◌, ◌≤◌, ◌&&◌, Bool, true, false, List, [], ◌∷◌, ◌++◌, Some, None, refl, sym, ap, ◌∙◌, subst, inl, inr, arith, le_refl, rules, cond-true, cond-false, append_assoc, All-push, none-some, Index, Tables, Element, Address, same_address, child, element, fact_at, Joins, Kind, a_table, an_array, Named, table_at, count_tables, fits}
use Rattle.toml_names.proofs.lemmas.mentions.Adding.{IsAdded}
use Rattle.toml_names.proofs.lemmas.mentions.Counting.{adds, count_push, count_plain, count_there}
use Rattle.toml_names.proofs.lemmas.mentions.FactAt.{any_with, found, fact_kept, there_is, fact_other}
use Rattle.toml_names.proofs.lemmas.mentions.Growing.{NoneLone, AreCounted, IsGrown, IsClosed-push, joins_at_name, IsSuited, suited_mention, tables_before}
use Rattle.toml_names.proofs.lemmas.mentions.InsideJoins.{not_longer}
use Rattle.toml_names.proofs.lemmas.mentions.OfOneKind.{AreOfOneKind, AreOfOneKind-push, one_kind_new}
use Rattle.toml_names.proofs.lemmas.mentions.Offences.{Goes, at_each}
use Rattle.toml_names.proofs.lemmas.model.Equal.{same_address-equal, same_address-self, child_is_no_element, element_parts}

abbrev pub tables_at : ℕ → Address → Named
tables_at line at = record { address = at; role = Tables; kind = an_array; line = line }

less_or_even : (j c : ℕ) → j < c + 1 → (j < c) ⊎ (j ≡ c)
less_or_even j c low = grind arith

-- where nothing stands nothing lone does
none_lone : (ms : List Named) (at : Address) → AreOfOneKind ms → fact_at ms at ≡ None → NoneLone ms at
none_lone ms at kinds none i d low same = absurd (none-some _ (sym none ∙ ap (fact_at ms) (sym same) ∙ kinds i d low))

module _ (line : ℕ) (ms : List Named) (at : Address) (n : List ℕ) (grown : IsGrown ms) (table : fact_at ms at ≡ Some a_table) (good : fits ms (tables_at line (child at n)) ≡ true) where
  abbrev here : Address
  here = child at n

  abbrev array : Named
  array = tables_at line here

  abbrev count : ℕ
  count = count_tables ms here

  abbrev next : Named
  next = table_at line Element (element here count)

  abbrev with_array : List Named
  with_array = ms ++ array ∷ []

  abbrev after : List Named
  after = with_array ++ next ∷ []

  array_suited : IsSuited array
  array_suited = suited_mention array refl (λ h. cc)

  array_joins : Joins ms array
  array_joins = joins_at_name ms array at n grown array_suited (λ h. cc) good refl table

  -- an array of tables that is there has a table
  has_tables : (k : Kind) → fact_at ms here ≡ Some k → 0 < count
  has_tables k there =
      count_there ms here (any_with (λ e. IsSuited e × Goes e array) (λ e. (e.address ≡ here) × (e.kind ≡ k)) (λ e. (e.address ≡ here) × (e.role ≡ Tables)) ms
      (λ i d low. (grown.suited i d low, at_each ms array good i d low)) (found ms here k there)
      (λ e both has. (has.0, tables_before e.role (both.1 has.0) (λ bare. both.0.bare bare at n has.0))))

  no_more : (j : ℕ) → count ≤ j → fact_at ms (element here j) ≡ None
  no_more j past = search (rules, has_tables)

  next_absent : fact_at with_array (element here count) ≡ None
  next_absent = fact_other ms array (element here count) (λ same. not_longer here here (Index count) (le_refl _) (sym same)) ∙ no_more count (le_refl count)

  next_joins : Joins with_array next
  next_joins = inl (record {
    parent = here;
    last = Index count;
    is = refl;
    absent = next_absent;
    next = (one_kind_new ms array array_joins, λ j low. there_is _ a_table (fact_kept ms (array ∷ []) (element here j) a_table (grown.counted.there here j low)));
  })

  -- the count is one more here, and elsewhere as it was
  count_after : (q : Address) → ((here ≡ q) × (count_tables after q ≡ count + 1)) ⊎ (¬ (here ≡ q) × (count_tables after q ≡ count_tables ms q))
  count_after q = by (same_address here q) refl
    where
      by : (b : Bool) → same_address here q ≡ b → ((here ≡ q) × (count_tables after q ≡ count + 1)) ⊎ (¬ (here ≡ q) × (count_tables after q ≡ count_tables ms q))
      by true h =
          let same = same_address-equal here q h in
          let one : adds q array ≡ 1 = cond-true _ _ _ (ap (λ b. b && true) h) in
          let there : count_tables ms q ≡ count = ap (count_tables ms) (sym same) in
          inl (same, omega (arith, count_plain with_array next q refl, count_push ms array q))
      by false h =
          let none : adds q array ≡ 0 = cond-false _ _ _ (ap (λ b. b && true) h) in
          inr ((λ same. (let self : true ≡ false = sym (same_address-self here) ∙ ap (same_address here) same ∙ h in cc)), omega (arith, count_plain with_array next q refl, count_push ms array q))

  kept_after : (q : Address) (k : Kind) → fact_at ms q ≡ Some k → fact_at after q ≡ Some k
  kept_after q k h = fact_kept with_array (next ∷ []) q k (fact_kept ms (array ∷ []) q k h)

  lone_after : (q : Address) → NoneLone ms q → NoneLone after q
  lone_after q none = grind (arith, common_steps)

  -- a table that is counted was counted, or is the next
  old_or_next : (q : Address) (j : ℕ) → j < count_tables after q → (j < count_tables ms q) ⊎ (element here count ≡ element q j)
  old_or_next q j low = by (count_after q)
    where
      later : here ≡ q → (j < count) ⊎ (j ≡ count) → (j < count_tables ms q) ⊎ (element here count ≡ element q j)
      later same (inl less) = inl (subst (λ a. j < count_tables ms a) same less)
      later same (inr even) = inr (ap (element here) (sym even) ∙ ap (λ a. element a j) same)

      by : ((here ≡ q) × (count_tables after q ≡ count + 1)) ⊎ (¬ (here ≡ q) × (count_tables after q ≡ count_tables ms q)) → (j < count_tables ms q) ⊎ (element here count ≡ element q j)
      by (inl (same, is)) = later same (less_or_even j count (omega arith))
      by (inr (apart, is)) = inl (omega arith)

  counted_after : AreCounted after
  counted_after = record {
    there = λ q j low. there_by q j (old_or_next q j low);
    shared = λ q j low. shared_by q j (old_or_next q j low);
    ends = λ q j some past. ends_by q j some past (count_after q);
  }
    where
      there_by : (q : Address) (j : ℕ) → (j < count_tables ms q) ⊎ (element here count ≡ element q j) → fact_at after (element q j) ≡ Some a_table
      there_by q j (inl old) = kept_after (element q j) a_table (grown.counted.there q j old)
      there_by q j (inr is) = subst (λ a. fact_at after a ≡ Some a_table) is (one_kind_new with_array next next_joins)

      shared_by : (q : Address) (j : ℕ) → (j < count_tables ms q) ⊎ (element here count ≡ element q j) → NoneLone after (element q j)
      shared_by q j (inl old) = lone_after (element q j) (grown.counted.shared q j old)
      shared_by q j (inr is) = subst (NoneLone after) is (lone_after (element here count) (none_lone ms (element here count) grown.kinds (no_more count (le_refl count))))

      unchanged : (q : Address) (j : ℕ) → ¬ (element here count ≡ element q j) → fact_at after (element q j) ≡ fact_at ms (element q j)
      unchanged q j apart = fact_other with_array next (element q j) apart ∙ fact_other ms array (element q j) (child_is_no_element at q n j)

      ends_by : (q : Address) (j : ℕ) → 0 < count_tables after q → count_tables after q ≤ j
          → ((here ≡ q) × (count_tables after q ≡ count + 1)) ⊎ (¬ (here ≡ q) × (count_tables after q ≡ count_tables ms q)) → fact_at after (element q j) ≡ None
      ends_by q j some past (inl (same, is)) =
          unchanged q j (λ e. (let number = (element_parts here q count j e).1 in omega arith))
          ∙ subst (λ a. fact_at ms (element a j) ≡ None) same (no_more j (omega arith))
      ends_by q j some past (inr (apart, is)) =
          unchanged q j (λ e. apart (element_parts here q count j e).0) ∙ grown.counted.ends q j (omega arith) (omega arith)

  grown_after : IsGrown after
  grown_after = record {
    suited = All-push IsSuited with_array next (All-push IsSuited ms array grown.suited array_suited) (suited_mention next refl (λ h. cc));
    kinds = AreOfOneKind-push with_array next (AreOfOneKind-push ms array grown.kinds array_joins) next_joins;
    closed = IsClosed-push with_array next (IsClosed-push ms array grown.closed array_joins) next_joins;
    counted = counted_after;
  }

  pub tables_added : IsAdded ms (array ∷ next ∷ [])
  tables_added = record { joins = (array_joins, (next_joins, tt)); grown = subst IsGrown (append_assoc ms (array ∷ []) (next ∷ [])) grown_after }
