-- By the data an array of tables has as many tables as elements.
use Rattle.std.proofs.Common.{◌≡◌, ◌∙◌, ◌⊎◌, inl, inr, ℕ, zero, suc, ◌+◌, ◌<◌, ◌≤◌, Bool, true, false, ◌||◌, Some, None, IsSome, List, [], ◌∷◌, ◌++◌, length, length-append, refl, sym, ap, ap₂, subst, true≢false, append-nil, append_assoc, arith}
use Rattle.std.specs.Bool.{nat_lt}
use Rattle.std.specs.List.{list_any}
use Rattle.std.proofs.lemmas.Bool.Decides.{nat_tests}
use Rattle.toml_tree.specs.Spells.{EachIs}
use Rattle.toml_tree.specs.Tree.{Expr, BlankLine, KeyValLine, TableLine, ArrayTableLine, Line}
use Rattle.toml_names.specs.declared.model.address.Step.TheVariants.{Index}
use Rattle.toml_names.specs.mentions.Keys.{Key, key_names, part_name, rest_names}
use Rattle.toml_names.specs.mentions.Mentions.{Kind, Named, count_tables, ends_tables, named, named_by, named_from, root, section}
use Rattle.toml_names.specs.model.Addresses.{Address, below, child, element, same_address}
use Rattle.toml_names.specs.model.Data.{IsDataOf, Kinds}
use Rattle.toml_names.specs.reader.Names.{header_end, own_address}
use Rattle.toml_names.proofs.Proved.{count-append}
use Rattle.toml_units.specs.Units.{line_base}
use Rattle.toml_layout.specs.Beginnings.{begins}
use Rattle.toml_working.specs.declared.lines.Sought.TheVariants as sought
use Rattle.toml_working.specs.Headers.{has_below}
use Rattle.toml_working.specs.Seeing.{is_sought_line}
use Rattle.toml_working.specs.Standing.{Standing, holds, is_below, leads_to, lies_below, standing, standing_from}
use Rattle.toml_editor.proofs.written.Clear.{below-cons, same_is}
use Rattle.toml_editor.proofs.written.Counted.{count_array, count_next, count_none, count_pair, count_table, counts_grow, last_or_earlier, one_if, own_counts}
use Rattle.toml_editor.proofs.written.CountedArrays.{IsNamedLast, element_unnamed, followed_has}
use Rattle.toml_editor.proofs.written.DocumentSections.{line_of, named_next}
use Rattle.toml_editor.proofs.written.ElementHeaded.{some_named, unheaded_unnamed}
use Rattle.toml_editor.proofs.written.EmptyAlone.{not_any}
use Rattle.toml_editor.proofs.written.HeaderPlace.{below_is}
use Rattle.toml_editor.proofs.written.OneSection.{among_of}
use Rattle.toml_editor.proofs.written.Pairwise.{Has, any_of_has, has_append_left, has_append_right}
use Rattle.toml_editor.proofs.written.SectionLeads.{IsNamedAt}
use Rattle.toml_editor.proofs.written.StandingOrder.{begins_is}
use Rattle.toml_editor.proofs.written.TablesStay.{under_begins}

-- what is named somewhere is of some kind
has_kind : (ms : List Named) (a : Address) → Has (IsNamedAt a) ms → (k : Kind) × Has (λ m. (m.address ≡ a) × (m.kind ≡ k)) ms
has_kind [] a has = absurd has
has_kind (m ∷ ms) a (inl at) = (m.kind, inl (at, refl))
has_kind (m ∷ ms) a (inr more) = let (k, there) = has_kind ms a more in (k, inr there)

module _ (q : Address) where
  -- ---- the elements that are counted are named

  abbrev AreElements : List Named → Type 0
  AreElements xs = (j : ℕ) → j < count_tables xs q → Has (IsNamedAt (element q j)) xs

  -- a line that counts for the array names one element, the next
  line_element : (xs : List Named) (line : ℕ) (e : Expr) → ¬ (count_tables (named_by xs line e) q ≡ 0)
      → (count_tables (named_by xs line e) q ≡ 1) × Has (IsNamedAt (element q (count_tables xs q))) (named_by xs line e)
  line_element xs line (BlankLine b) some = absurd (some refl)
  line_element xs line (KeyValLine ws pair tail) some = absurd (some (count_pair line (section xs) pair.assign pair.value q))
  line_element xs line (TableLine ws header tail) some = absurd (some (count_table xs line q (part_name header.key.first) (rest_names header.key.rest)))
  line_element xs line (ArrayTableLine ws header tail) some = by (same_address at q) refl
    where
      at : Address
      at = header_end xs [] (key_names header.key)

      counted : count_tables (named_by xs line (ArrayTableLine ws header tail)) q ≡ one_if (same_address at q)
      counted = count_array xs line q (part_name header.key.first) (rest_names header.key.rest)

      by : (b : Bool) → same_address at q ≡ b
          → (count_tables (named_by xs line (ArrayTableLine ws header tail)) q ≡ 1)
          × Has (IsNamedAt (element q (count_tables xs q))) (named_by xs line (ArrayTableLine ws header tail))
      by true same =
          let one : element at (count_tables xs at) ≡ element q (count_tables xs q) = ap (λ x. element x (count_tables xs x)) (same_is at q same) in (
            counted ∙ ap one_if same,
            followed_has (IsNamedAt (element q (count_tables xs q))) xs line (ends_tables line xs) (rest_names header.key.rest) (part_name header.key.first) []
                (inr (inl one)),
          )
      by false other = absurd (some (counted ∙ ap one_if other))

  line_elements : (xs : List Named) (line : ℕ) (e : Expr) → AreElements xs → AreElements (xs ++ named_by xs line e)
  line_elements xs line e are j low = by (count_tables (named_by xs line e) q) refl
    where
      all : count_tables (xs ++ named_by xs line e) q ≡ count_tables xs q + count_tables (named_by xs line e) q
      all = count-append xs (named_by xs line e) q

      in_front : j < count_tables xs q → Has (IsNamedAt (element q j)) (xs ++ named_by xs line e)
      in_front lower = has_append_left (IsNamedAt (element q j)) xs (named_by xs line e) (are j lower)

      by : (k : ℕ) → count_tables (named_by xs line e) q ≡ k → Has (IsNamedAt (element q j)) (xs ++ named_by xs line e)
      by zero none = in_front (omega (arith, all, none, low))
      by (suc k) is =
          let one = line_element xs line e (λ no. absurd (omega (arith, is, no))) in
          elim (split j (count_tables xs q) (let two = one.0 in omega (arith, all, two, low))) [
            | inl lower ↦ in_front lower
            | inr here ↦ has_append_right (IsNamedAt (element q j)) xs (named_by xs line e)
                (subst (λ c. Has (IsNamedAt (element q c)) (named_by xs line e)) (sym here) one.1)
          ]
        where
          split : (x y : ℕ) → x < y + 1 → (x < y) ⊎ (x ≡ y)
          split x y h = less (nat_lt x y) refl
            where
              less : (b : Bool) → nat_lt x y ≡ b → (x < y) ⊎ (x ≡ y)
              less true is = inl (let e : x < y = grind (arith, nat_tests, is) in e)
              less false is = inr (let e : y ≤ x = grind (arith, nat_tests, is) in omega (arith, e, h))

  elements_from : (ls : List Line) (xs : List Named) (n : ℕ) → AreElements xs → AreElements (named_from xs n ls)
  elements_from [] xs n are = are
  elements_from (l ∷ ls) xs n are = elements_from ls (xs ++ named_by xs n l.expr) (n + 1) (line_elements xs n l.expr are)

  counted_named : (lines : List Line) → AreElements (named lines)
  counted_named lines = elements_from lines (root ∷ []) 0 (λ j low. absurd (none q j low))
    where
      none : (r : Address) (j : ℕ) → j < count_tables (root ∷ []) r → ⊥
      none r j low = let e = count_none r root [] refl in omega (arith, low, e)

  -- ---- lines that do not stand at the array or below it do not count

  uncounted : (xs : List Named) (n : ℕ) (e : Expr) → lies_below q (own_address xs e) ≡ false → count_tables (named_by xs n e) q ≡ 0
  uncounted xs n (BlankLine b) away = refl
  uncounted xs n (KeyValLine ws pair tail) away = count_pair n (section xs) pair.assign pair.value q
  uncounted xs n (TableLine ws header tail) away = count_table xs n q (part_name header.key.first) (rest_names header.key.rest)
  uncounted xs n (ArrayTableLine ws header tail) away =
      count_array xs n q (part_name header.key.first) (rest_names header.key.rest) ∙ ap one_if (by (same_address at q) refl)
    where
      at : Address
      at = header_end xs [] (key_names header.key)

      by : (b : Bool) → same_address at q ≡ b → same_address at q ≡ false
      by false other = other
      by true same =
          let c = count_tables xs at in
          absurd (true≢false (sym (under_begins q (element at c) (Index c ∷ [], ap (λ x. element x c) (same_is at q same))) ∙ away))

  pub count_away : (back front : List Line) → EachIs (λ s. is_below q s ≡ false) (standing_from (named front) (length front) back)
      → count_tables (named (front ++ back)) q ≡ count_tables (named front) q
  count_away [] front away = ap (λ ls. count_tables (named ls) q) (append-nil front)
  count_away (l ∷ back) front away =
      let next = count_next front l q in
      let none = uncounted (named front) (length front) l.expr away.0 in
      let same : count_tables (named (front ++ l ∷ [])) q ≡ count_tables (named front) q = omega (arith, next, none) in
      ap (λ ls. count_tables (named ls) q) (sym (append_assoc front (l ∷ []) back))
      ∙ count_away back (front ++ l ∷ [])
      (subst (EachIs (λ s. is_below q s ≡ false)) (ap₂ (λ xs n. standing_from xs n back) (sym (named_next front l)) (sym (length-append front (l ∷ [])))) away.1)
      ∙ same

  -- ---- so many elements as the data have

  -- the address of a line with a key ends in a name
  named_below : (names : Key) (n : List ℕ) (at : Address) → IsNamedLast (below at (n ∷ names))
  named_below [] n at = (at, n, refl)
  named_below (m ∷ names) n at = subst IsNamedLast (below-cons at n (m ∷ names)) (named_below names m (child at n))

  -- what holds an element holds the array
  holds_array : (j : ℕ) (xs : List Named) (e : Expr) → leads_to q (line_base xs e) (own_address xs e) ≡ false
      → leads_to (element q j) (line_base xs e) (own_address xs e) ≡ false
  holds_array j xs (BlankLine b) none = refl
  holds_array j xs (TableLine ws header tail) none = refl
  holds_array j xs (ArrayTableLine ws header tail) none = refl
  holds_array j xs (KeyValLine ws pair tail) none = by (begins a (element q j)) refl
    where
      a : Address
      a = below (section xs) (key_names pair.assign.key)

      by : (b : Bool) → begins a (element q j) ≡ b → begins a (element q j) ≡ false
      by false is = is
      by true is = absurd (elim (begins_is a (element q j) is) [
        | inl same ↦ element_unnamed q j (subst IsNamedLast same (named_below (rest_names pair.assign.key.rest) (part_name pair.assign.key.first) (section xs)))
        | inr above ↦ elim (last_or_earlier q a (Index j) above.0 above.1 above.2) [
          | inl here ↦ true≢false (sym (under_begins a q ([], here.0 ∙ sym (append-nil a))) ∙ none)
          | inr more ↦ true≢false (sym (under_begins a q (above.0 ∷ more.0, more.1)) ∙ none)
        ]
      ])

  element_held : (j : ℕ) (ls : List Line) (xs : List Named) (n : ℕ) → EachIs (λ s. holds q s ≡ false) (standing_from xs n ls)
      → list_any (holds (element q j)) (standing_from xs n ls) ≡ false
  element_held j [] xs n none = refl
  element_held j (l ∷ ls) xs n none =
      ap₂ (λ a b. a || b) (holds_array j xs l.expr none.0) (element_held j ls (xs ++ named_by xs n l.expr) (n + 1) none.1)

  module _ (lines : List Line) (kinds : Kinds) (facts : IsDataOf (named lines) kinds) (outside : list_any (holds q) (standing lines) ≡ false) where
    -- an element that the data have is counted
    element_counted : (j : ℕ) → IsSome (kinds (element q j)) → j < count_tables (named lines) q
    element_counted j some = by (has_below (element q j) (standing lines)) refl
      where
        by : (b : Bool) → has_below (element q j) (standing lines) ≡ b → j < count_tables (named lines) q
        by false none =
            absurd (unheaded_unnamed (element q j) q j refl lines
            (element_held j lines (root ∷ []) 0 (not_any (holds q) (standing lines) outside)) none (some_named lines kinds facts (element q j) some))
        by true headed =
            let among = among_of (is_sought_line sought.HeaderBelow (element q j)) (standing lines) headed in
            let it = line_of among.front lines [] among.line among.back among.is in
            let at = below_is (element q j) among.line.base among.line.address among.holds in
            let own : own_address (named it.first) it.line.expr ≡ Some at.0 = sym (ap (λ (x : Standing). x.address) it.is) ∙ at.1 in
            let here : count_tables (named (it.first ++ it.line ∷ [])) q ≡ j + 1 =
            own_counts it.first it.line at.0 q at.2 j own (at.3 ∙ append_assoc q (Index j ∷ []) at.2) in
            let grow = counts_grow (it.first ++ it.line ∷ []) it.rest q in
            let all : count_tables (named lines) q ≡ count_tables (named ((it.first ++ it.line ∷ []) ++ it.rest)) q =
            ap (λ ls. count_tables (named ls) q) (it.lines_are ∙ sym (append_assoc it.first (it.line ∷ []) it.rest)) in
            omega (arith, here, grow, all)

    -- So the array has as many tables as the data have elements.
    pub count_is : (i : ℕ) → kinds (element q i) ≡ None → ((j : ℕ) → j < i → IsSome (kinds (element q j))) → count_tables (named lines) q ≡ i
    count_is i free there = by (nat_lt i (count_tables (named lines) q)) refl
      where
        c : ℕ
        c = count_tables (named lines) q

        at_least : (k : ℕ) → k ≡ i → k ≤ c
        at_least zero is = omega arith
        at_least (suc j) is = let low = element_counted j (there j (omega (arith, is))) in omega (arith, low)

        by : (b : Bool) → nat_lt i c ≡ b → c ≡ i
        by true more =
            let low : i < c = grind (arith, nat_tests, more) in
            let (k, named_so) = has_kind (named lines) (element q i) (counted_named lines i low) in
            absurd (let is : None ≡ Some k =
            sym free ∙ (facts (element q i) k).1 (any_of_has (λ m. (m.address ≡ element q i) × (m.kind ≡ k)) (named lines) named_so) in cc)
        by false not_more =
            let high : c ≤ i = grind (arith, nat_tests, not_more) in
            let low = at_least i refl in
            omega (arith, high, low)
