-- Of the only element of an array of tables: no other line makes the array, and no line's value stands at an element of it or above that.
use Rattle.std.proofs.Common.{◌≡◌, ◌∙◌, ◌⊎◌, inl, inr, ℕ, zero, suc, ◌+◌, ◌<◌, ◌≤◌, Bool, true, false, ◌||◌, Option, Some, None, IsSome, List, [], ◌∷◌, ◌++◌, length, length-append, refl, sym, ap, ap₂, subst, true≢false, append-nil, append_assoc, arith}
use Rattle.std.specs.Bool.{nat_lt}
use Rattle.std.specs.List.{list_any}
use Rattle.std.specs.Prelude.{not}
use Rattle.std.proofs.lemmas.Bool.{and_parts, or_cases, or_parts}
use Rattle.std.proofs.lemmas.Bool.Decides.{nat_tests}
use Rattle.std.proofs.lemmas.Option.{same_Some}
use Rattle.toml_tree.specs.Spells.{AreLines}
use Rattle.toml_tree.specs.Tree.{Expr, BlankLine, KeyValLine, TableLine, ArrayTableLine, Line}
use Rattle.toml_names.specs.declared.model.address.Step.TheVariants.{Name, Index}
use Rattle.toml_names.specs.mentions.Keys.{Key, key_names, part_name, rest_names}
use Rattle.toml_names.specs.mentions.Mentions.{Named, a_table, an_array, count_tables, ends_table, ends_tables, fronts, named, named_by, section}
use Rattle.toml_names.specs.mentions.Rules.{KeepsRules}
use Rattle.toml_names.specs.model.Addresses.{Address, IsAbove, below, child, element, is_above}
use Rattle.toml_names.specs.model.Data.{IsDataOf, Kinds}
use Rattle.toml_names.specs.reader.Names.{own_address}
use Rattle.toml_names.proofs.Proved.{above_is_above, line_is_named}
use Rattle.toml_units.specs.Units.{line_base}
use Rattle.toml_layout.specs.Beginnings.{begins}
use Rattle.toml_working.specs.Premises.{IsInNoValue}
use Rattle.toml_working.specs.RemoveStanding.{makes, makes_beside}
use Rattle.toml_working.specs.Seeing.{heads_below, is_dotted}
use Rattle.toml_working.specs.Standing.{Standing, holds, is_below, leads_to, lies_below, standing, standing_from}
use Rattle.toml_editor.proofs.written.Clear.{below-cons}
use Rattle.toml_editor.proofs.written.Counted.{counts_grow, last_or_earlier, own_counts}
use Rattle.toml_editor.proofs.written.CountedArrays.{IsNamedLast, counted_arrays, element_unnamed, followed_has}
use Rattle.toml_editor.proofs.written.DocumentSections.{IsLineOf, begins_longer, line_of}
use Rattle.toml_editor.proofs.written.ElementCounted.{count_is}
use Rattle.toml_editor.proofs.written.HeaderPlace.{below_is}
use Rattle.toml_editor.proofs.written.HeadersAlone.{is_less}
use Rattle.toml_editor.proofs.written.OneSection.{among_of, same_begin}
use Rattle.toml_editor.proofs.written.Pairwise.{Has, any_of_has, has_append_left, has_append_right}
use Rattle.toml_editor.proofs.written.SectionLeads.{IsKindAt, fronts_are_tables}
use Rattle.toml_editor.proofs.written.StandingOrder.{begins_is}
use Rattle.toml_editor.proofs.written.TablesStay.{under_begins}

-- ---- values above an element

-- the address of a line with a key ends in a name
named_below : (names : Key) (n : List ℕ) (at : Address) → IsNamedLast (below at (n ∷ names))
named_below [] n at = (at, n, refl)
named_below (m ∷ names) n at = subst IsNamedLast (below-cons at n (m ∷ names)) (named_below names m (child at n))

module _ (q : Address) (i : ℕ) where
  -- the value of one line
  line_held : (xs : List Named) (e : Expr) → leads_to q (line_base xs e) (own_address xs e) ≡ false
      → leads_to (element q i) (line_base xs e) (own_address xs e) ≡ false
  line_held xs (BlankLine b) none = refl
  line_held xs (TableLine ws header tail) none = refl
  line_held xs (ArrayTableLine ws header tail) none = refl
  line_held xs (KeyValLine ws pair tail) none = by (begins a (element q i)) refl
    where
      a : Address
      a = below (section xs) (key_names pair.assign.key)

      over : (rest : Address) → ¬ (q ≡ a ++ rest)
      over rest is = true≢false (sym (under_begins a q (rest, is)) ∙ none)

      by : (b : Bool) → begins a (element q i) ≡ b → begins a (element q i) ≡ false
      by false is = is
      by true is = absurd (elim (begins_is a (element q i) is) [
        | inl same ↦ element_unnamed q i (subst IsNamedLast same (named_below (rest_names pair.assign.key.rest) (part_name pair.assign.key.first) (section xs)))
        | inr above ↦ elim (last_or_earlier q a (Index i) above.0 above.1 above.2) [
          | inl here ↦ over [] (here.0 ∙ sym (append-nil a))
          | inr more ↦ over (above.0 ∷ more.0) more.1
        ]
      ])

  lines_held : (ls : List Line) (xs : List Named) (n : ℕ) → list_any (holds q) (standing_from xs n ls) ≡ false
      → list_any (holds (element q i)) (standing_from xs n ls) ≡ false
  lines_held [] xs n none = refl
  lines_held (l ∷ ls) xs n none =
      let new = named_by xs n l.expr in
      let (here, rest) = or_parts (leads_to q (line_base xs l.expr) (own_address xs l.expr)) (list_any (holds q) (standing_from (xs ++ new) (n + 1) ls)) none in
      ap₂ (λ a b. a || b) (line_held xs l.expr here) (lines_held ls (xs ++ new) (n + 1) rest)

-- Where no line's value stands at an array or above it, none stands at an element of it or above that.
pub element_in_no_value : (q : Address) (i : ℕ) (lines : List Line) → IsInNoValue lines q → list_any (holds (element q i)) (standing lines) ≡ false
element_in_no_value q i lines outside = lines_held q i lines _ 0 outside

-- ---- what a line makes is a table

-- what a line names is named
line_has : (P : Named → Type 0) (before rest : List Line) (l : Line) → Has P (named_by (named before) (length before) l.expr) → Has P (named (before ++ l ∷ rest))
line_has P before rest l has =
    let (more, is) = line_is_named before rest l in
    let new = named_by (named before) (length before) l.expr in
    subst (Has P) (sym is) (has_append_left P (named before ++ new) more (has_append_right P (named before) new has))

-- what a header line stands for is a table
headed_table : (xs : List Named) (n : ℕ) (e : Expr) (a : Address) → line_base xs e ≡ None → own_address xs e ≡ Some a → Has (IsKindAt a a_table) (named_by xs n e)
headed_table xs n (BlankLine b) a base own = absurd cc
headed_table xs n (KeyValLine ws pair tail) a base own = absurd cc
headed_table xs n (TableLine ws header tail) a base own =
    followed_has (IsKindAt a a_table) xs n (ends_table n) (rest_names header.key.rest) (part_name header.key.first) []
    (inl (same_Some _ a own, refl))
headed_table xs n (ArrayTableLine ws header tail) a base own =
    followed_has (IsKindAt a a_table) xs n (ends_tables n xs) (rest_names header.key.rest) (part_name header.key.first) []
    (inr (inl (same_Some _ a own, refl)))

module _ (q : Address) where
  sizes : (a : Address) → IsAbove q a → length q < length a
  sizes a (t, rest, is) = let e = ap length is ∙ length-append q (t ∷ rest) in omega (arith, e)

  -- what is above an address and longer than a front of it is the next front, or longer than that
  next_or_longer : (s : Address) (n : List ℕ) (rest : Address) → IsAbove q (child s n ++ rest) → length s < length q → (q ≡ child s n) ⊎ (length (child s n) < length q)
  next_or_longer s n rest above long = by (nat_lt (length (child s n)) (length q)) refl
    where
      by : (b : Bool) → nat_lt (length (child s n)) (length q) ≡ b → (q ≡ child s n) ⊎ (length (child s n) < length q)
      by true longer = inr (is_less (length (child s n)) (length q) longer)
      by false not_longer =
          let most : length q ≤ length (child s n) = grind (arith, nat_tests, not_longer) in
          let one = length-append s (Name n ∷ []) in
          inl (same_begin q (child s n) (child s n ++ rest) (under_begins q (child s n ++ rest) (above.0 ∷ above.1, above.2)) (begins_longer (child s n) rest)
          (omega (arith, most, one, long)))

  -- a front of a key that is longer than the address of its table is a table
  front_table : (n : ℕ) (s : Address) (key : Key) → IsAbove q (below s key) → length s < length q → Has (IsKindAt q a_table) (fronts n s key)
  front_table n s [] above long =
      let short = sizes (below s []) above in
      let e = ap length (append-nil s) in absurd (omega (arith, short, e, long))
  front_table n s (m ∷ []) above long =
      let short = sizes (child s m) above in
      let e = length-append s (Name m ∷ []) in absurd (omega (arith, short, e, long))
  front_table n s (m ∷ o ∷ more) above long =
      let again : IsAbove q (below (child s m) (o ∷ more)) = subst (IsAbove q) (sym (below-cons s m (o ∷ more))) above in
      elim (next_or_longer s m _ again long) [
        | inl is ↦ inl (sym is, refl)
        | inr longer ↦ inr (front_table n (child s m) (o ∷ more) again longer)
      ]

  -- what a dotted key makes is a table
  dotted_table : (xs : List Named) (n : ℕ) (e : Expr) → is_dotted q (line_base xs e) (own_address xs e) ≡ true → Has (IsKindAt q a_table) (named_by xs n e)
  dotted_table xs n (BlankLine b) is = absurd (true≢false (sym is))
  dotted_table xs n (TableLine ws header tail) is = absurd (true≢false (sym is))
  dotted_table xs n (ArrayTableLine ws header tail) is = absurd (true≢false (sym is))
  dotted_table xs n (KeyValLine ws pair tail) is =
      let key = key_names pair.assign.key in
      let (long, above) = and_parts (nat_lt (length (section xs)) (length q)) (is_above q (below (section xs) key)) is in
      has_append_left (IsKindAt q a_table) (fronts n (section xs) key) _
      (front_table n (section xs) key ((above_is_above q (below (section xs) key)).0 above) (is_less (length (section xs)) (length q) long))

-- ---- what makes the array

-- a header line has no base
headed_base : (q : Address) (base : Option ℕ) (own : Option Address) → heads_below q base own ≡ true → base ≡ None
headed_base q (Some n) own is = absurd (true≢false (sym is))
headed_base q None own is = refl

module _ (q : Address) (lines : List Line) (kinds : Kinds) (keeps : KeepsRules (named lines)) (facts : IsDataOf (named lines) kinds)
    (some : IsSome (kinds (element q 0))) (only : kinds (element q 1) ≡ None) (outside : IsInNoValue lines q) where
  one_table : count_tables (named lines) q ≡ 1
  one_table = count_is q lines kinds facts outside 1 only first
    where
      first : (j : ℕ) → j < 1 → IsSome (kinds (element q j))
      first zero low = some
      first (suc j) low = absurd (omega (arith, low))

  -- what is counted is an array, so no table
  no_table : ¬ (kinds q ≡ Some a_table)
  no_table table =
      let arrays = counted_arrays lines q (λ no. absurd (omega (arith, no, one_table))) in
      let array : kinds q ≡ Some an_array = (facts q an_array).1 (any_of_has (IsKindAt q an_array) (named lines) arrays.1) in
      let e : Some a_table ≡ Some an_array = sym table ∙ array in cc

  module _ (front : List Standing) (s : Standing) (back : List Standing) (it : IsLineOf [] lines front s back) where
    abbrev xs : List Named
    xs = named it.first

    -- what the line names as a table is one in the data
    table_there : (a : Address) → Has (IsKindAt a a_table) (named_by xs (length it.first) it.line.expr) → kinds a ≡ Some a_table
    table_there a has =
        (facts a a_table).1 (any_of_has (IsKindAt a a_table) (named lines)
        (subst (λ ls. Has (IsKindAt a a_table) (named ls)) (sym it.lines_are) (line_has (IsKindAt a a_table) it.first it.rest it.line has)))

    base_is : s.base ≡ line_base xs it.line.expr
    base_is = ap (λ (t : Standing). t.base) it.is

    own_is : s.address ≡ own_address xs it.line.expr
    own_is = ap (λ (t : Standing). t.address) it.is

    no_dotted : ¬ (is_dotted q s.base s.address ≡ true)
    no_dotted is =
        no_table (table_there q (dotted_table q xs (length it.first) it.line.expr (ap₂ (λ b o. is_dotted q b o) (sym base_is) (sym own_is) ∙ is)))

    -- a header line of the array, or below it, stands at its first element or below that
    no_header : is_below (element q 0) s ≡ false → ¬ (heads_below q s.base s.address ≡ true)
    no_header beside is = by rest a_is
      where
        at : (a : Address) × (s.address ≡ Some a) × (rest : Address) × (a ≡ q ++ rest)
        at = below_is q s.base s.address is

        a : Address
        a = at.0

        own : s.address ≡ Some a
        own = at.1

        rest : Address
        rest = at.2

        a_is : a ≡ q ++ rest
        a_is = at.3

        table : kinds a ≡ Some a_table
        table =
            table_there a
            (headed_table xs (length it.first) it.line.expr a (sym base_is ∙ headed_base q s.base s.address is) (sym own_is ∙ own))

        by : (r : Address) → a ≡ q ++ r → ⊥
        by [] here = no_table (ap kinds (sym (here ∙ append-nil q)) ∙ table)
        by (Name n ∷ more) here =
            no_table (fronts_are_tables lines kinds keeps facts a [] table q (more ++ Name [] ∷ []) n
            (ap (λ x. child x []) here ∙ append_assoc q (Name n ∷ more) (Name [] ∷ [])))
        by (Index zero ∷ more) here =
            let under = under_begins (element q 0) a (more, here ∙ sym (append_assoc q (Index 0 ∷ []) more)) in
            true≢false (sym (ap (lies_below (element q 0)) own ∙ under) ∙ beside)
        by (Index (suc j) ∷ more) here =
            let behind : count_tables (named (it.first ++ it.line ∷ [])) q ≡ suc j + 1 =
            own_counts it.first it.line a q more (suc j) (sym own_is ∙ own) here in
            let grow = counts_grow (it.first ++ it.line ∷ []) it.rest q in
            let all : count_tables (named lines) q ≡ count_tables (named ((it.first ++ it.line ∷ []) ++ it.rest)) q =
            ap (λ ls. count_tables (named ls) q) (it.lines_are ∙ sym (append_assoc it.first (it.line ∷ []) it.rest)) in
            omega (arith, behind, grow, all, one_table)

    no_maker : ¬ (makes_beside q (element q 0) s ≡ true)
    no_maker is =
        let (made, beside) = and_parts (makes q s.base s.address) (not (is_below (element q 0) s)) is in
        elim (or_cases (is_dotted q s.base s.address) (heads_below q s.base s.address) made) [
          | inl dotted ↦ no_dotted dotted
          | inr headed ↦ no_header (is_not (is_below (element q 0) s) beside) headed
        ]
      where
        is_not : (b : Bool) → not b ≡ true → b ≡ false
        is_not false h = refl
        is_not true h = sym h

-- No line that is not at the only element of an array of tables, nor below it, makes the array.
pub only_element : (q : Address) (lines : List Line) (kinds : Kinds) → AreLines lines → KeepsRules (named lines) → IsDataOf (named lines) kinds
    → IsSome (kinds (element q 0)) → kinds (element q 1) ≡ None → IsInNoValue lines q
    → list_any (makes_beside q (element q 0)) (standing lines) ≡ false
only_element q lines kinds forms keeps facts some only outside = by (list_any (makes_beside q (element q 0)) (standing lines)) refl
  where
    by : (b : Bool) → list_any (makes_beside q (element q 0)) (standing lines) ≡ b → list_any (makes_beside q (element q 0)) (standing lines) ≡ false
    by false is = is
    by true is =
        let among = among_of (makes_beside q (element q 0)) (standing lines) is in
        absurd (no_maker q lines kinds keeps facts some only outside among.front among.line among.back
        (line_of among.front lines [] among.line among.back among.is) among.holds)
