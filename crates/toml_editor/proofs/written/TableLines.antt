-- The lines of a document at a table or below it stand together.
use Rattle.std.proofs.Common.{◌≡◌, ◌∙◌, inl, inr, ℕ, suc, ◌+◌, ◌<◌, Bool, true, false, ◌||◌, Option, Some, None, List, [], ◌∷◌, ◌++◌, length, length-append, refl, sym, ap, ap₂, subst, true≢false, arith}
use Rattle.std.specs.Bool.{nat_lt}
use Rattle.std.specs.List.{list_any}
use Rattle.std.specs.Prelude.{is_some, option_map}
use Rattle.std.proofs.lemmas.Bool.{and_parts}
use Rattle.std.proofs.lemmas.Option.{same_Some}
use Rattle.toml_tree.specs.Spells.{AreLines}
use Rattle.toml_tree.specs.Tree.{Expr, BlankLine, KeyValLine, TableLine, ArrayTableLine, Line}
use Rattle.toml_names.specs.declared.model.address.Step.{Step}
use Rattle.toml_names.specs.declared.model.address.Step.TheVariants.{Index, Name}
use Rattle.toml_names.specs.mentions.Keys.{part_name, rest_names}
use Rattle.toml_names.specs.mentions.Mentions.{Named, a_table, count_tables, ends_table, ends_tables, named, named_by, root, section}
use Rattle.toml_names.specs.mentions.Rules.{KeepsRules}
use Rattle.toml_names.specs.model.Addresses.{Address, same_address}
use Rattle.toml_names.specs.model.Data.{IsDataOf, Kinds}
use Rattle.toml_names.specs.reader.Names.{header_end, own_address}
use Rattle.toml_names.proofs.Proved.{line_is_named}
use Rattle.toml_units.specs.Units.{line_base}
use Rattle.toml_layout.specs.Beginnings.{begins}
use Rattle.toml_layout.specs.declared.layout.Layout.TheVariants as layouts
use Rattle.toml_working.specs.declared.lines.Sought.TheVariants as sought
use Rattle.toml_working.specs.Headers.{ElementStands, StandInTurn, begins_later, element_of, inner_of, innermost, is_later, later_in}
use Rattle.toml_working.specs.RemovingTables.{HeaderIsFirst, NoneBehindLater, StandTogether}
use Rattle.toml_working.specs.Seeing.{heads, heads_below, is_sought_line}
use Rattle.toml_working.specs.Standing.{Standing, holds, line_stands, standing, standing_from}
use Rattle.toml_editor.proofs.written.Clear.{differ, same_is, self}
use Rattle.toml_editor.proofs.written.Closed.{no_end}
use Rattle.toml_editor.proofs.written.Counted.{names_last}
use Rattle.toml_editor.proofs.written.CountedArrays.{end_named, followed_has}
use Rattle.toml_editor.proofs.written.DocumentSections.{document_sectioned, headers_differ, line_of}
use Rattle.toml_editor.proofs.written.DottedKeys.{maker_keys}
use Rattle.toml_editor.proofs.written.ElementHeaded.{inner_is}
use Rattle.toml_editor.proofs.written.HeadersAlone.{header_is_alone, is_less}
use Rattle.toml_editor.proofs.written.InTurn.{documents_are_ready}
use Rattle.toml_editor.proofs.written.Pairwise.{Has, any_of_has, has_append_left, has_append_right}
use Rattle.toml_editor.proofs.written.StandingOrder.{begins_is}
use Rattle.toml_editor.proofs.written.TableSections.{AreItsOwn, flat_ahead, flat_section, header_first, none_later}

-- ---- elements

-- an element is its own innermost one
innermost_self : (p : Address) → is_some (element_of p) ≡ true → innermost p ≡ Some p
innermost_self [] is = absurd (true≢false (sym is))
innermost_self (Name n ∷ []) is = absurd (true≢false (sym is))
innermost_self (Index i ∷ []) is = refl
innermost_self (s ∷ t ∷ steps) is = ap (λ o. inner_of o s) (innermost_self (t ∷ steps) (by (element_of (t ∷ steps)) is))
  where
    behind : Address × ℕ → Address × ℕ
    behind e = (s ∷ e.0, e.1)

    by : (o : Option (Address × ℕ)) → is_some (option_map behind o) ≡ true → is_some o ≡ true
    by None h = h
    by (Some e) h = refl

-- and has one step more than its array
element_long : (e r : Address) (i : ℕ) → element_of e ≡ Some (r, i) → length e ≡ length r + 1
element_long [] r i is = absurd cc
element_long (Name n ∷ []) r i is = absurd cc
element_long (Index j ∷ []) r i is =
    let e : ◌≡◌ {A = Address} [] r = ap (λ (x : Address × ℕ). x.0) (same_Some ([], j) (r, i) is) in
    let long : 0 ≡ length r = ap length e in omega (arith, long)
element_long (s ∷ t ∷ steps) r i is = by (element_of (t ∷ steps)) refl is (element_long (t ∷ steps))
  where
    behind : Address × ℕ → Address × ℕ
    behind e = (s ∷ e.0, e.1)

    by : (o : Option (Address × ℕ)) → element_of (t ∷ steps) ≡ o → option_map behind o ≡ Some (r, i)
        → ((a : Address) (k : ℕ) → element_of (t ∷ steps) ≡ Some (a, k) → length (t ∷ steps) ≡ length a + 1) → length (s ∷ t ∷ steps) ≡ length r + 1
    by None there here again = absurd cc
    by (Some (array, index)) there here again =
        let inner = again array index there in
        let outer : suc (length array) ≡ length r = ap (λ (x : Address × ℕ). length x.0) (same_Some (s ∷ array, index) (r, i) here) in
        omega (arith, inner, outer)

-- a later element does not lie below an earlier one, and that is one
later_apart : (e a : Address) → is_later e a ≡ true → (is_some (element_of e) ≡ true) × (begins e a ≡ false)
later_apart e a later = by (element_of e) refl (element_of a) refl later
  where
    same_long : (r : Address) (i : ℕ) (q : Address) (j : ℕ) → element_of e ≡ Some (r, i) → element_of a ≡ Some (q, j) → q ≡ r → i < j → (b : Bool) → begins e a ≡ b → b ≡ false
    same_long r i q j first second same low false is = refl
    same_long r i q j first second same low true is = absurd (elim (begins_is e a is) [
      | inl equal ↦
          let both : (r, i) ≡ (q, j) = same_Some (r, i) (q, j) (sym first ∙ ap element_of equal ∙ second) in
          let index : i ≡ j = ap (λ (x : Address × ℕ). x.1) both in omega (arith, index, low)
      | inr (s, rest, above) ↦
          let one = element_long e r i first in
          let two = element_long a q j second in
          let arrays : length q ≡ length r = ap length same in
          let long = ap length above ∙ length-append e (s ∷ rest) in
          omega (arith, one, two, arrays, long)
    ])

    by : (o : Option (Address × ℕ)) → element_of e ≡ o → (p : Option (Address × ℕ)) → element_of a ≡ p → later_in o p ≡ true
        → (is_some (element_of e) ≡ true) × (begins e a ≡ false)
    by None first p second is = absurd (true≢false (sym is))
    by (Some (r, i)) first None second is = absurd (true≢false (sym is))
    by (Some (r, i)) first (Some (q, j)) second is =
        let (low, same) = and_parts (nat_lt i j) (same_address q r) is in
        (ap is_some first, same_long r i q j first second (same_is q r same) (is_less i j low) (begins e a) refl)

-- what a header line of a later element has
later_own : (e : Address) (base : Option ℕ) (own : Option Address) → begins_later e base own ≡ true
    → (a : Address) × (base ≡ None) × (own ≡ Some a) × (is_later e a ≡ true)
later_own e (Some n) own is = absurd (true≢false (sym is))
later_own e None None is = absurd (true≢false (sym is))
later_own e None (Some a) is = (a, refl, refl, is)

-- no dotted key makes an element
module _ (p array : Address) (i : ℕ) (ends : p ≡ array ++ Index i ∷ []) where
  line_not_made : (xs : List Named) (l : Line) (b : Bool) → is_sought_line sought.Dotted p (line_stands xs l) ≡ b → b ≡ false
  line_not_made xs l false is = refl
  line_not_made xs l true is =
      let made = maker_keys p xs l is in
      let (n, names, at) = made.key in
      let (more, inner) = names_last (n ∷ names) (section xs) array [] i (sym at ∙ ends) in
      let whole = ap length ends ∙ length-append array (Index i ∷ []) in
      let longer = ap length at ∙ length-append (section xs) (Name n ∷ _) in
      let shorter = ap length inner ∙ length-append array (Index i ∷ more) in
      absurd (omega (arith, whole, longer, shorter))

  not_made : (ls : List Line) (xs : List Named) (n : ℕ) → list_any (is_sought_line sought.Dotted p) (standing_from xs n ls) ≡ false
  not_made [] xs n = refl
  not_made (l ∷ ls) xs n =
      let new = named_by xs n l.expr in
      ap (λ b. b || list_any (is_sought_line sought.Dotted p) (standing_from (xs ++ new) (n + 1) ls)) (line_not_made xs l _ refl) ∙ not_made ls (xs ++ new) (n + 1)

-- ---- header lines

-- what a header line at the address or below it has
below_own : (p : Address) (base : Option ℕ) (own : Option Address) → heads_below p base own ≡ true
    → (a : Address) × (base ≡ None) × (own ≡ Some a) × (begins p a ≡ true)
below_own p (Some n) own is = absurd (true≢false (sym is))
below_own p None None is = absurd (true≢false (sym is))
below_own p None (Some a) is = (a, refl, refl, is)

-- no header line is the root's
headed_root : (xs : List Named) (e : Expr) → heads [] (line_base xs e) (own_address xs e) ≡ false
headed_root xs (BlankLine b) = refl
headed_root xs (KeyValLine ws pair tail) = refl
headed_root xs (TableLine ws header tail) =
    let last = end_named xs (rest_names header.key.rest) (part_name header.key.first) [] in
    ap (λ a. same_address a []) last.2 ∙ differ (last.0 ++ Name last.1 ∷ []) [] (λ is. no_end last.0 (Name last.1) [] (sym is))
headed_root xs (ArrayTableLine ws header tail) =
    let at = header_end xs [] (part_name header.key.first ∷ rest_names header.key.rest) in
    differ (at ++ Index (count_tables xs at) ∷ []) [] (λ is. no_end at (Index (count_tables xs at)) [] (sym is))

rootless : (ls : List Line) (xs : List Named) (n : ℕ) → list_any (is_sought_line sought.Header []) (standing_from xs n ls) ≡ false
rootless [] xs n = refl
rootless (l ∷ ls) xs n =
    let new = named_by xs n l.expr in
    ap (λ b. b || list_any (is_sought_line sought.Header []) (standing_from (xs ++ new) (n + 1) ls)) (headed_root xs l.expr) ∙ rootless ls (xs ++ new) (n + 1)

-- a header line names a table at its address
abbrev IsTableAt : Address → Named → Type 0
IsTableAt a m = (m.address ≡ a) × (m.kind ≡ a_table)

names_table : (xs : List Named) (n : ℕ) (e : Expr) (a : Address) → line_base xs e ≡ None → own_address xs e ≡ Some a → Has (IsTableAt a) (named_by xs n e)
names_table xs n (BlankLine b) a base own = cc
names_table xs n (KeyValLine ws pair tail) a base own = cc
names_table xs n (TableLine ws header tail) a base own =
    followed_has (IsTableAt a) xs n (ends_table n) (rest_names header.key.rest) (part_name header.key.first) [] (inl (same_Some _ a own, refl))
names_table xs n (ArrayTableLine ws header tail) a base own =
    followed_has (IsTableAt a) xs n (ends_tables n xs) (rest_names header.key.rest) (part_name header.key.first) [] (inr (inl (same_Some _ a own, refl)))

header_table : (lines : List Line) (kinds : Kinds) → IsDataOf (named lines) kinds → (front : List Standing) (s : Standing) (back : List Standing) → standing lines ≡ front ++ s ∷ back
    → (a : Address) → s.base ≡ None → s.address ≡ Some a → kinds a ≡ Some a_table
header_table lines kinds facts front s back split a base own =
    let it = line_of front lines [] s back split in
    let xs = named it.first in
    let new = named_by xs (length it.first) it.line.expr in
    let (rest, whole) = line_is_named it.first it.rest it.line in
    let here : Has (IsTableAt a) new =
    names_table xs (length it.first) it.line.expr a (ap (λ (x : Standing). x.base) (sym it.is) ∙ base) (ap (λ (x : Standing). x.address) (sym it.is) ∙ own) in
    let there : Has (IsTableAt a) (named lines) =
    subst (Has (IsTableAt a)) (sym (ap named it.lines_are ∙ whole)) (has_append_left (IsTableAt a) (xs ++ new) rest (has_append_right (IsTableAt a) xs new here)) in
    (facts a a_table).1 (any_of_has (IsTableAt a) (named lines) there)

-- ---- together

module _ (p : Address) (lines : List Line) (kinds : Kinds) (are : AreLines lines) (keeps : KeepsRules (named lines)) (facts : IsDataOf (named lines) kinds)
    (some : ¬ (p ≡ [])) (out : list_any (holds p) (standing lines) ≡ false) where
  abbrev ss : List Standing
  ss = standing lines

  alone : (q : Address) → list_any (is_sought_line sought.Header q) ss ≡ true → list_any (is_sought_line sought.Dotted q) ss ≡ false
  alone q there = (header_is_alone q lines keeps there).no_dotted

  in_turn : is_some (element_of p) ≡ true → StandInTurn p ss
  in_turn element = subst (λ o. ElementStands o ss) (innermost_self p element) (documents_are_ready layouts.Plain p lines are keeps).element

  element_first : is_some (element_of p) ≡ true → HeaderIsFirst p ss
  element_first element =
      header_first ss (document_sectioned lines) (headers_differ lines keeps) alone p some out (in_turn element).first

  behind_later : NoneBehindLater p ss
  behind_later front h back split later =
      let (a, base, own, is) = later_own p h.base h.address later in
      let element = (later_apart p a is).0 in
      let it = inner_is p p (innermost_self p element) in
      none_later ss (document_sectioned lines) (headers_differ lines keeps) alone p some out
      (λ f t b at behind.
      let (c, c_base, c_own, c_is) = later_own p t.base t.address behind in
      ((in_turn element).last f t b at behind, c, c_base, c_own, (later_apart p c c_is).1))
      (not_made p it.array it.index it.is lines (root ∷ []) 0)
      front h back split later

  -- where no table stands below it, each header line there is its own
  its_own : ((s : Step) (a : Address) → ¬ (kinds (p ++ s ∷ a) ≡ Some a_table)) → AreItsOwn p ss
  its_own none front s back split there =
      let (a, base, own, begun) = below_own p s.base s.address there in
      elim (begins_is p a begun) [
        | inl same ↦ ap₂ (heads p) base own ∙ ap (λ x. same_address x p) (sym same) ∙ self p
        | inr (t, rest, above) ↦ absurd (none t rest (sym (ap kinds above) ∙ header_table lines kinds facts front s back split a base own))
      ]

pub stand_together : (p : Address) (flat : Bool) (lines : List Line) (kinds : Kinds) → AreLines lines → KeepsRules (named lines) → IsDataOf (named lines) kinds
    → ¬ (p ≡ []) → list_any (holds p) (standing lines) ≡ false
    → (flat ≡ true → (s : Step) (a : Address) → ¬ (kinds (p ++ s ∷ a) ≡ Some a_table))
    → StandTogether p flat (standing lines)
stand_together p flat lines kinds are keeps facts some out none = record {
  first = by flat refl;
  section = λ is. flat_section (standing lines) (document_sectioned lines) (headers_differ lines keeps) (alone p lines kinds are keeps facts some out) p some out
      (its_own p lines kinds are keeps facts some out (none is)) (rootless lines (root ∷ []) 0);
  later = behind_later p lines kinds are keeps facts some out;
}
  where
    by : (b : Bool) → flat ≡ b → (b || is_some (element_of p)) ≡ true → HeaderIsFirst p (standing lines)
    by true is either =
        header_first (standing lines) (document_sectioned lines) (headers_differ lines keeps) (alone p lines kinds are keeps facts some out) p some out
        (flat_ahead (standing lines) (document_sectioned lines) (headers_differ lines keeps) (alone p lines kinds are keeps facts some out) p some out
        (its_own p lines kinds are keeps facts some out (none is)))
    by false is element = element_first p lines kinds are keeps facts some out element
