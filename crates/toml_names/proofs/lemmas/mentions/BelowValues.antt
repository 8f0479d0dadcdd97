-- What stands strictly below a value is named by the value's line.
use Rattle.toml_names.proofs.Common.{◌≡◌, ◌⊎◌, inl, inr, ℕ, ◌+◌, ◌-◌, ◌==◌, Bool, true, false, cond, List, [], ◌∷◌, ◌++◌, map, refl, sym, ap, ◌∙◌, subst, true≢false, append_assoc, rules, cond-false, EachIs, Assign, Value, Scalar, Array, Inline, Items, Close, Last, More, Pairs, ClosePairs, LastPair, MorePairs, Expr, BlankLine, KeyValLine, TableLine, ArrayTableLine, Line, Name, Index, Valued, Address, IsAbove, same_address, child, element, below, AreClear, AreValuesAt, HeadersAreClear, IsClear, SectionIsClear, Key, key_names, part_name, rest_names, Named, root, named, named_by, named_from, value_named, inside, elements, members, fronts, pair_named, section, is_section, count_tables, entered, followed, ends_table, ends_tables}
use Rattle.toml_names.proofs.lemmas.mentions.Clear.{not_above_next, clear_more, clear_of_root, clear_cond}
use Rattle.toml_names.proofs.lemmas.mentions.Counting.{adds, count_cons}
use Rattle.toml_names.proofs.Each.{Has, each_append, each_left, each_right, each_weaker, has_left, has_right, has_each}
use Rattle.toml_names.proofs.lemmas.model.Equal.{same_address-equal, same_address-self}
use Rattle.toml_names.proofs.lemmas.mentions.LineAddresses.{AreOf, named_has_line}
use Rattle.toml_names.proofs.lemmas.mentions.NextLine.{section_from-append, section_pair}

below-cons : (at : Address) (n : List ℕ) (ns : Key) → below (child at n) ns ≡ below at (n ∷ ns)
below-cons at n ns = append_assoc at (Name n ∷ []) (map Name ns)

-- of what was named before
each_from : (P : Named → Type 0) (ls : List Line) (xs : List Named) (n : ℕ) → EachIs P (named_from xs n ls) → EachIs P xs
each_from P [] xs n h = h
each_from P (l ∷ ls) xs n h = each_left P xs (named_by xs n l.expr) (each_from P ls (xs ++ named_by xs n l.expr) (n + 1) h)

module _ (p : Address) where
  -- ---- headers go past it

  no_tables : (ms : List Named) → AreValuesAt p ms → count_tables ms p ≡ 0
  no_tables [] values = refl
  no_tables (m ∷ ms) values = search (rules, same_address-equal, adds, cond-false, count_cons, no_tables ms values.1)

  entered_clear : (earlier : List Named) (here : Address) → count_tables earlier p ≡ 0 → ¬ IsAbove p here → ¬ (p ≡ entered earlier here) → IsClear p (entered earlier here)
  entered_clear earlier here none not_above apart = by (count_tables earlier here == 0) refl apart
    where
      last : Address
      last = element here (count_tables earlier here - 1)

      by : (b : Bool) → (count_tables earlier here == 0) ≡ b → ¬ (p ≡ cond b here last) → IsClear p (cond b here last)
      by true is apart = record { apart = apart; not_above = not_above }
      by false other apart =
          let there : ¬ (p ≡ here) = λ is. true≢false (sym (ap (λ k. k == 0) (subst (λ a. count_tables earlier a ≡ 0) is none)) ∙ other) in
          clear_more (Index (count_tables earlier here - 1)) (record { apart = there; not_above = not_above }) apart

  followed_clear : (ns : Key) (n : List ℕ) (line : ℕ) (earlier : List Named) (end : Address → List Named) (at : Address) → count_tables earlier p ≡ 0
      → ((here : Address) → ¬ IsAbove p here → AreValuesAt p (end here) → AreClear p (end here))
      → IsClear p at → AreValuesAt p (followed line earlier end at (n ∷ ns)) → AreClear p (followed line earlier end at (n ∷ ns))
  followed_clear [] n line earlier end at none ends clear values = ends (child at n) (not_above_next p at (Name n) clear) values
  followed_clear (m ∷ ns) n line earlier end at none ends clear values =
      let here = entered_clear earlier (child at n) none (not_above_next p at (Name n) clear) (λ is. true≢false (sym (values.0 (sym is)))) in
      (here, followed_clear ns m line earlier end (entered earlier (child at n)) none ends here values.1)

  table_clear : (line : ℕ) (here : Address) → ¬ IsAbove p here → AreValuesAt p (ends_table line here) → AreClear p (ends_table line here)
  table_clear line here not_above values = (record { apart = λ is. true≢false (sym (values.0 (sym is))); not_above = not_above }, tt)

  tables_clear : (line : ℕ) (earlier : List Named) (here : Address) → ¬ IsAbove p here → AreValuesAt p (ends_tables line earlier here) → AreClear p (ends_tables line earlier here)
  tables_clear line earlier here not_above values =
      let array : IsClear p here = record { apart = λ is. true≢false (sym (values.0 (sym is))); not_above = not_above } in
      (array, (clear_more (Index (count_tables earlier here)) array (λ is. true≢false (sym (values.1.0 (sym is)))), tt))

pub section_is_clear : SectionIsClear
section_is_clear p [] at clear all = clear
section_is_clear p (m ∷ ms) at clear all = section_is_clear p ms (cond (is_section m.role) m.address at) (clear_cond p m.address at (is_section m.role) all.0 clear) all.1

pub headers_are_clear : HeadersAreClear
headers_are_clear p xs n (BlankLine b) apart no_pair values = tt
headers_are_clear p xs n (KeyValLine ws pair tail) apart no_pair values = absurd no_pair
headers_are_clear p xs n (TableLine ws header tail) apart no_pair values =
    let new = named_by xs n (TableLine ws header tail) in
    followed_clear p (rest_names header.key.rest) (part_name header.key.first) n xs (ends_table n) [] (no_tables p xs (each_left _ xs new values)) (table_clear p n) (clear_of_root p apart) (each_right _ xs new values)
headers_are_clear p xs n (ArrayTableLine ws header tail) apart no_pair values =
    let new = named_by xs n (ArrayTableLine ws header tail) in
    followed_clear p (rest_names header.key.rest) (part_name header.key.first) n xs (ends_tables n xs) [] (no_tables p xs (each_left _ xs new values)) (tables_clear p n xs) (clear_of_root p apart) (each_right _ xs new values)

module _ (p : Address) where
  abbrev NoneAt : List Named → Type 0
  NoneAt = EachIs (λ m. ¬ (m.address ≡ p))

  -- ---- a pair that names nothing at it

  fronts_clear : (line : ℕ) (key : Key) (at : Address) → IsClear p at → NoneAt (fronts line at key) → AreClear p (fronts line at key)
  fronts_clear line [] at clear none = tt
  fronts_clear line (n ∷ []) at clear none = tt
  fronts_clear line (n ∷ m ∷ more) at clear none =
      let here = clear_more (Name n) clear (λ is. none.0 (sym is)) in
      (here, fronts_clear line (m ∷ more) (child at n) here none.1)

  end_not_above : (line : ℕ) (ns : Key) (n : List ℕ) (at : Address) → IsClear p at → NoneAt (fronts line at (n ∷ ns)) → ¬ IsAbove p (below at (n ∷ ns))
  end_not_above line [] n at clear none = not_above_next p at (Name n) clear
  end_not_above line (m ∷ ns) n at clear none =
      let here = clear_more (Name n) clear (λ is. none.0 (sym is)) in
      subst (λ a. ¬ IsAbove p a) (below-cons at n (m ∷ ns)) (end_not_above line ns m (child at n) here none.1)

  pair_clear : (a : Assign) (v : Value) (line : ℕ) (at : Address) → IsClear p at → NoneAt (pair_named line at a v)
      → ((to : Address) → IsClear p to → NoneAt (inside line to v) → AreClear p (inside line to v)) → AreClear p (pair_named line at a v)
  pair_clear a v line at clear none within =
      let key = key_names a.key in
      let to = below at key in
      let front = each_left _ (fronts line at key) (value_named line Valued to v ∷ inside line to v) none in
      let rest = each_right _ (fronts line at key) (value_named line Valued to v ∷ inside line to v) none in
      let here : IsClear p to = record { apart = λ is. rest.0 (sym is); not_above = end_not_above line (rest_names a.key.rest) (part_name a.key.first) at clear front } in
      each_append (λ m. IsClear p m.address) (fronts line at key) (value_named line Valued to v ∷ inside line to v) (fronts_clear line key at clear front) (here, within to here rest.1)

  mutual
    inside_clear : (v : Value) (line : ℕ) (at : Address) → IsClear p at → NoneAt (inside line at v) → AreClear p (inside line at v)
    inside_clear (Scalar kind text) line at clear none = tt
    inside_clear (Array whole items) line at clear none = elements_clear items line at 0 clear none
    inside_clear (Inline whole pairs) line at clear none = members_clear pairs line at clear none

    elements_clear : (items : Items) (line : ℕ) (at : Address) (i : ℕ) → IsClear p at → NoneAt (elements line at i items) → AreClear p (elements line at i items)
    elements_clear (Close g) line at i clear none = tt
    elements_clear (Last g v h) line at i clear none =
        let here = clear_more (Index i) clear (λ is. none.0 (sym is)) in
        (here, inside_clear v line (element at i) here none.1)
    elements_clear (More g v h is) line at i clear none =
        let here = clear_more (Index i) clear (λ e. none.0 (sym e)) in
        let first = each_left _ (inside line (element at i) v) (elements line at (i + 1) is) none.1 in
        let later = each_right _ (inside line (element at i) v) (elements line at (i + 1) is) none.1 in
        (here, each_append (λ m. IsClear p m.address) (inside line (element at i) v) (elements line at (i + 1) is) (inside_clear v line (element at i) here first) (elements_clear is line at (i + 1) clear later))

    members_clear : (pairs : Pairs) (line : ℕ) (at : Address) → IsClear p at → NoneAt (members line at pairs) → AreClear p (members line at pairs)
    members_clear (ClosePairs g) line at clear none = tt
    members_clear (LastPair g a v h) line at clear none = pair_clear a v line at clear none (λ to c n. inside_clear v line to c n)
    members_clear (MorePairs g a v h ps) line at clear none =
        each_append (λ m. IsClear p m.address) (pair_named line at a v) (members line at ps)
        (pair_clear a v line at clear (each_left _ (pair_named line at a v) (members line at ps) none) (λ to c n. inside_clear v line to c n))
        (members_clear ps line at clear (each_right _ (pair_named line at a v) (members line at ps) none))

  -- ---- lines

  has_or_none : (ms : List Named) → Has (λ m. m.address ≡ p) ms ⊎ NoneAt ms
  has_or_none [] = inr tt
  has_or_none (m ∷ ms) = by (same_address m.address p) refl (has_or_none ms)
    where
      by : (b : Bool) → same_address m.address p ≡ b → Has (λ m. m.address ≡ p) ms ⊎ NoneAt ms → Has (λ m. m.address ≡ p) (m ∷ ms) ⊎ NoneAt (m ∷ ms)
      by true same rest = inl (inl (same_address-equal m.address p same))
      by false other (inl h) = inl (inr h)
      by false other (inr h) = inr ((λ is. true≢false (sym (subst (λ a. same_address m.address a ≡ true) is (same_address-self m.address)) ∙ other)), h)

  -- a line names something at the address, or nothing at it or below
  line_new : (xs : List Named) (n : ℕ) (e : Expr) → ¬ (p ≡ []) → IsClear p (section xs) → AreValuesAt p (xs ++ named_by xs n e) → Has (λ m. m.address ≡ p) (named_by xs n e) ⊎ AreClear p (named_by xs n e)
  line_new xs n (BlankLine b) apart clear values = inr tt
  line_new xs n (KeyValLine ws kv tail) apart clear values = search (rules, has_or_none, pair_clear, inside_clear)
  line_new xs n (TableLine ws header tail) apart clear values = inr (headers_are_clear p xs n (TableLine ws header tail) apart tt values)
  line_new xs n (ArrayTableLine ws header tail) apart clear values = inr (headers_are_clear p xs n (ArrayTableLine ws header tail) apart tt values)

  section_next : (xs new : List Named) → IsClear p (section xs) → AreClear p new → IsClear p (section (xs ++ new))
  section_next xs new clear all = subst (IsClear p) (sym (section_from-append xs new [])) (section_is_clear p new (section xs) clear all)

  line_section : (xs : List Named) (n : ℕ) (e : Expr) → ¬ (p ≡ []) → IsClear p (section xs) → AreValuesAt p (xs ++ named_by xs n e) → IsClear p (section (xs ++ named_by xs n e))
  line_section xs n (BlankLine b) apart clear values = section_next xs [] clear tt
  line_section xs n (KeyValLine ws kv tail) apart clear values = subst (IsClear p) (sym (section_pair xs n (section xs) kv.assign kv.value)) clear
  line_section xs n (TableLine ws header tail) apart clear values = section_next xs (named_by xs n (TableLine ws header tail)) clear (headers_are_clear p xs n (TableLine ws header tail) apart tt values)
  line_section xs n (ArrayTableLine ws header tail) apart clear values = section_next xs (named_by xs n (ArrayTableLine ws header tail)) clear (headers_are_clear p xs n (ArrayTableLine ws header tail) apart tt values)

  -- something of the line is at the address
  abbrev pub IsHere : ℕ → Named → Type 0
  IsHere line v = (v.address ≡ p) × (v.line ≡ line)

  -- what is below the address is of a line that names something at it
  abbrev pub AreOfTheirs : List Named → List Named → Type 0
  AreOfTheirs all = EachIs (λ m. IsAbove p m.address → Has (IsHere m.line) all)

  new_of_theirs : (xs new : List Named) (n : ℕ) → AreOf n new → Has (λ m. m.address ≡ p) new ⊎ AreClear p new → AreOfTheirs (xs ++ new) new
  new_of_theirs xs new n of h2 = search (rules, each_weaker, has_right, has_each)

  old_of_theirs : (xs new : List Named) → AreOfTheirs xs xs → AreOfTheirs (xs ++ new) xs
  old_of_theirs xs new = each_weaker (λ m. IsAbove p m.address → Has (IsHere m.line) xs) (λ m. IsAbove p m.address → Has (IsHere m.line) (xs ++ new)) (λ m f above. has_left (IsHere m.line) xs new (f above)) xs

  all_of_theirs : (ls : List Line) (xs : List Named) (n : ℕ) → ¬ (p ≡ []) → IsClear p (section xs) → AreValuesAt p (named_from xs n ls) → AreOfTheirs xs xs → AreOfTheirs (named_from xs n ls) (named_from xs n ls)
  all_of_theirs [] xs n apart clear values theirs = theirs
  all_of_theirs (l ∷ ls) xs n apart clear values theirs =
      let new = named_by xs n l.expr in
      let so_far = each_from _ ls (xs ++ new) (n + 1) values in
      all_of_theirs ls (xs ++ new) (n + 1) apart (line_section xs n l.expr apart clear so_far) values
      (each_append _ xs new (old_of_theirs xs new theirs) (new_of_theirs xs new n (named_has_line xs n l.expr) (line_new xs n l.expr apart clear so_far)))

  pub below_values : (lines : List Line) → ¬ (p ≡ []) → AreValuesAt p (named lines) → AreOfTheirs (named lines) (named lines)
  below_values lines apart values =
      let clear = clear_of_root p apart in
      all_of_theirs lines (root ∷ []) 0 apart clear values ((λ above. absurd (clear.not_above above)), tt)
