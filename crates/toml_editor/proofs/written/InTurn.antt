-- The header lines of the elements of an array of tables stand in turn.
use Rattle.std.proofs.Common.{◌≡◌, ◌∙◌, inl, inr, ℕ, ◌+◌, ◌<◌, Bool, true, false, Option, Some, None, List, [], ◌∷◌, ◌++◌, refl, sym, ap, append_assoc, arith}
use Rattle.std.proofs.lemmas.List.{same_from_push}
use Rattle.std.specs.Bool.{nat_lt}
use Rattle.std.specs.Prelude.{option_map}
use Rattle.std.proofs.lemmas.Bool.{and_parts}
use Rattle.std.proofs.lemmas.Option.{same_Some}
use Rattle.toml_tree.specs.Tree.{Expr, BlankLine, KeyValLine, TableLine, ArrayTableLine, Line}
use Rattle.toml_names.specs.declared.model.address.Step.{Step}
use Rattle.toml_names.specs.declared.model.address.Step.TheVariants.{Name, Index}
use Rattle.toml_names.specs.mentions.Keys.{part_name, rest_names}
use Rattle.toml_names.specs.mentions.Mentions.{Named, count_tables, named}
use Rattle.toml_names.specs.model.Addresses.{Address, element, same_address}
use Rattle.toml_names.specs.reader.Names.{header_end, own_address}
use Rattle.toml_units.specs.Units.{line_base}
use Rattle.toml_layout.specs.Beginnings.{begins}
use Rattle.toml_layout.specs.declared.layout.Layout.TheVariants as layouts
use Rattle.toml_working.specs.HeaderStanding.{ElementIn}
use Rattle.toml_working.specs.Headers.{ElementStands, StandInTurn, begins_later, element_of, has_below, innermost, is_later, later_in}
use Rattle.toml_working.specs.Seeing.{heads, heads_below, is_sought_line}
use Rattle.toml_working.specs.Standing.{Standing, standing}
use Rattle.toml_working.specs.declared.lines.Sought.TheVariants as sought
use Rattle.toml_editor.specs.HeaderLaws.{DocumentsAreReady}
use Rattle.toml_editor.proofs.written.Clear.{same_is}
use Rattle.toml_editor.proofs.written.Counted.{counts_grow, own_counts}
use Rattle.toml_editor.proofs.written.CountedArrays.{element_unnamed, end_named}
use Rattle.toml_editor.proofs.written.DocumentSections.{IsLineOf, headed_at, line_of}
use Rattle.toml_editor.proofs.written.ElementHeaded.{inner_is}
use Rattle.toml_editor.proofs.written.HeadersAlone.{is_less}
use Rattle.toml_editor.proofs.written.InsertStands.{root_comes_first}
use Rattle.toml_editor.proofs.written.OneSection.{among_of}
use Rattle.toml_editor.proofs.written.StandingOrder.{begins_is}

-- ---- addresses

abbrev element_at : Address × ℕ → Address
element_at p = element p.0 p.1

element_same : (p q : Address × ℕ) → Some p ≡ Some q → element_at p ≡ element_at q
element_same p q is = ap element_at (same_Some p q is)

abbrev behind : Step → Address × ℕ → Address × ℕ
behind s p = (s ∷ p.0, p.1)

-- the array and the index that are found are those of the element
element_is : (e r : Address) (i : ℕ) → element_of e ≡ Some (r, i) → e ≡ element r i
element_is [] r i is = absurd cc
element_is (Name n ∷ []) r i is = absurd cc
element_is (Index j ∷ []) r i is = element_same ([], j) (r, i) is
element_is (s ∷ t ∷ steps) r i is = by (element_of (t ∷ steps)) refl is (element_is (t ∷ steps))
  where
    by : (o : Option (Address × ℕ)) → element_of (t ∷ steps) ≡ o → option_map (behind s) o ≡ Some (r, i)
        → ((a : Address) (k : ℕ) → element_of (t ∷ steps) ≡ Some (a, k) → t ∷ steps ≡ element a k) → s ∷ t ∷ steps ≡ element r i
    by None there here again = absurd cc
    by (Some (array, index)) there here again = ap (λ a. s ∷ a) (again array index there) ∙ element_same (s ∷ array, index) (r, i) here

module _ (e r : Address) (i : ℕ) (e_is : e ≡ element r i) where
  -- an address at the element or below it
  below_element : (a : Address) → begins e a ≡ true → (rest : Address) × (a ≡ r ++ Index i ∷ rest)
  below_element a is = elim (begins_is e a is) [
    | inl same ↦ ([], sym same ∙ e_is)
    | inr (s, rest, above) ↦ (s ∷ rest, above ∙ ap (λ x. x ++ s ∷ rest) e_is ∙ append_assoc r (Index i ∷ []) (s ∷ rest))
  ]

  -- a later element
  later_element : (a : Address) → is_later e a ≡ true → (j : ℕ) × (i < j) × (a ≡ element r j)
  later_element a is = by (element_of e) refl (element_of a) refl is
    where
      by : (o : Option (Address × ℕ)) → element_of e ≡ o → (p : Option (Address × ℕ)) → element_of a ≡ p → later_in o p ≡ true → (j : ℕ) × (i < j) × (a ≡ element r j)
      by None first p second later = absurd cc
      by (Some (array, index)) first None second later = absurd cc
      by (Some (array, index)) first (Some (other, number)) second later =
          let (low, same) = and_parts (nat_lt index number) (same_address other array) later in
          let one = same_from_push r array (Index i) (Index index) (sym e_is ∙ element_is e array index first) in
          let index_is = one.1 in
          let index_same : i ≡ index = cc in (
            number,
            (let h = is_less index number low in omega (arith, h, index_same)),
            element_is a other number second ∙ ap (λ (x : Address). element x number) (same_is other array same ∙ sym one.0),
          )

-- what a header line has that is found
below_at : (e : Address) (base : Option ℕ) (own : Option Address) → heads_below e base own ≡ true → (a : Address) × (own ≡ Some a) × (begins e a ≡ true)
below_at e (Some n) own is = absurd cc
below_at e None None is = absurd cc
below_at e None (Some a) is = (a, refl, is)

later_at : (e : Address) (base : Option ℕ) (own : Option Address) → begins_later e base own ≡ true → (a : Address) × (own ≡ Some a) × (is_later e a ≡ true)
later_at e (Some n) own is = absurd cc
later_at e None None is = absurd cc
later_at e None (Some a) is = (a, refl, is)

headed_base : (e : Address) (base : Option ℕ) (own : Option Address) → heads e base own ≡ true → base ≡ None
headed_base e (Some n) own is = absurd cc
headed_base e None own is = refl

-- ---- counts

-- before the header of an element its array has as many tables as its index says
header_index : (xs : List Named) (x : Expr) (r : Address) (i : ℕ) → line_base xs x ≡ None → own_address xs x ≡ Some (element r i) → count_tables xs r ≡ i
header_index xs (BlankLine b) r i base own = absurd cc
header_index xs (KeyValLine ws pair tail) r i base own = absurd cc
header_index xs (TableLine ws header tail) r i base own =
    let named_last = end_named xs (rest_names header.key.rest) (part_name header.key.first) [] in
    absurd (element_unnamed r i (named_last.0, named_last.1, sym (same_Some _ (element r i) own) ∙ named_last.2))
header_index xs (ArrayTableLine ws header tail) r i base own =
    let at = header_end xs [] (part_name header.key.first ∷ rest_names header.key.rest) in
    let same = same_from_push at r (Index (count_tables xs at)) (Index i) (same_Some _ (element r i) own) in
    let index_is = same.1 in
    let index : count_tables xs at ≡ i = cc in
    sym (ap (count_tables xs) same.0) ∙ index

-- one line of a document before another
module _ (lines : List Line) (front : List Standing) (s : Standing) (mid : List Standing) (t : Standing) (back : List Standing)
    (split : standing lines ≡ front ++ s ∷ (mid ++ t ∷ back)) where
  abbrev one : IsLineOf [] lines front s (mid ++ t ∷ back)
  one = line_of front lines [] s (mid ++ t ∷ back) split

  abbrev until : List Line
  until = one.first ++ one.line ∷ []

  abbrev two : IsLineOf until one.rest mid t back
  two = line_of mid one.rest until t back (sym one.back_is)

  first_own : (a : Address) → s.address ≡ Some a → own_address (named one.first) one.line.expr ≡ Some a
  first_own a is = sym (ap (λ (x : Standing). x.address) one.is) ∙ is

  then_own : (a : Address) → t.address ≡ Some a → own_address (named (until ++ two.first)) two.line.expr ≡ Some a
  then_own a is = sym (ap (λ (x : Standing). x.address) two.is) ∙ is

  module _ (r : Address) where
    -- the header of an element stands behind no line of a later one, nor of itself
    before_header : (i j : ℕ) (a rest : Address) → s.address ≡ Some a → a ≡ r ++ Index j ∷ rest → t.base ≡ None → t.address ≡ Some (element r i) → j < i
    before_header i j a rest first a_is base then =
        let behind : count_tables (named until) r ≡ j + 1 = own_counts one.first one.line a r rest j (first_own a first) a_is in
        let grow = counts_grow until two.first r in
        let index : count_tables (named (until ++ two.first)) r ≡ i =
        header_index (named (until ++ two.first)) two.line.expr r i (sym (ap (λ (x : Standing). x.base) two.is) ∙ base) (then_own (element r i) then) in
        omega (arith, behind, grow, index)

    -- elements come in the order of their indices
    in_order : (i j : ℕ) (a rest b more : Address) → s.address ≡ Some a → a ≡ r ++ Index i ∷ rest → t.address ≡ Some b → b ≡ r ++ Index j ∷ more → i < j + 1
    in_order i j a rest b more first a_is then b_is =
        let behind : count_tables (named until) r ≡ i + 1 = own_counts one.first one.line a r rest i (first_own a first) a_is in
        let grow = counts_grow until two.first r in
        let grow_more = counts_grow (until ++ two.first) (two.line ∷ []) r in
        let there : count_tables (named ((until ++ two.first) ++ two.line ∷ [])) r ≡ j + 1 =
        own_counts (until ++ two.first) two.line b r more j (then_own b then) b_is in
        omega (arith, behind, grow, grow_more, there)

-- ---- the law

module _ (lines : List Line) (e r : Address) (i : ℕ) (e_is : e ≡ element r i) where
  -- before the element's header stands none below it
  first_stands : (front : List Standing) (h : Standing) (back : List Standing) → standing lines ≡ front ++ h ∷ back → is_sought_line sought.Header e h ≡ true
      → has_below e front ≡ false
  first_stands front h back split heads_it = by (has_below e front) refl
    where
      by : (b : Bool) → has_below e front ≡ b → b ≡ false
      by false is = refl
      by true is =
          let among = among_of (is_sought_line sought.HeaderBelow e) front is in
          let at = below_at e among.line.base among.line.address among.holds in
          let under = below_element e r i e_is at.0 at.2 in
          let parts : standing lines ≡ among.front ++ among.line ∷ (among.back ++ h ∷ back) =
          split ∙ ap (λ f. f ++ h ∷ back) among.is ∙ append_assoc among.front (among.line ∷ among.back) (h ∷ back) in
          let low : i < i =
          before_header lines among.front among.line among.back h back parts r i i at.0 under.0 at.1 under.1 (headed_base e h.base h.address heads_it)
          (headed_at e h.base h.address heads_it ∙ ap Some e_is) in
          absurd (omega (arith, low))

  -- behind that of a later element stands none at or below it
  last_stands : (front : List Standing) (h : Standing) (back : List Standing) → standing lines ≡ front ++ h ∷ back → begins_later e h.base h.address ≡ true
      → has_below e back ≡ false
  last_stands front h back split later = by (has_below e back) refl
    where
      by : (b : Bool) → has_below e back ≡ b → b ≡ false
      by false is = refl
      by true is =
          let head = later_at e h.base h.address later in
          let element_later = later_element e r i e_is head.0 head.2 in
          let among = among_of (is_sought_line sought.HeaderBelow e) back is in
          let at = below_at e among.line.base among.line.address among.holds in
          let under = below_element e r i e_is at.0 at.2 in
          let parts : standing lines ≡ front ++ h ∷ (among.front ++ among.line ∷ among.back) = split ∙ ap (λ b. front ++ h ∷ b) among.is in
          let low : element_later.0 < i + 1 =
          in_order lines front h among.front among.line among.back parts r element_later.0 i head.0 [] at.0 under.0 head.1 element_later.2 at.1 under.1 in
          let high = element_later.1 in
          absurd (omega (arith, low, high))

  stand_in_turn : StandInTurn e (standing lines)
  stand_in_turn = record { first = first_stands; last = last_stands }

pub documents_are_ready : DocumentsAreReady
documents_are_ready layout q lines are keeps =
    let rooted = root_comes_first lines are in
    record { some = rooted.some; root = rooted.none; element = by layout }
  where
    inner : (o : Option Address) → innermost q ≡ o → ElementStands o (standing lines)
    inner None is = tt
    inner (Some e) is = let it = inner_is q e is in stand_in_turn lines e it.array it.index it.is

    by : (l : _) → ElementIn l q (standing lines)
    by layouts.Plain = inner (innermost q) refl
    by layouts.Follow = tt
