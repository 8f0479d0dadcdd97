-- The headers below a table that longer headers imply, and the key of its own before them.
use Rattle.std.proofs.Common.{◌≡◌, ◌∙◌, inl, inr, ℕ, ◌+◌, Bool, true, false, ◌&&◌, ◌||◌, Option, Some, None, List, [], ◌∷◌, ◌++◌, length, length-append, refl, sym, ap, ap₂, true≢false, append_assoc, append-nil, arith}
use Rattle.std.specs.List.{list_any}
use Rattle.std.proofs.lemmas.Bool.{and_parts}
use Rattle.std.proofs.lemmas.List.Folds.{list_any-append}
use Rattle.toml_tree.specs.Tree.{Line}
use Rattle.toml_names.specs.declared.model.address.Step.TheVariants.{Index, Name}
use Rattle.toml_names.specs.mentions.Keys.{Key, key_names}
use Rattle.toml_names.specs.mentions.Mentions.{Named, count_tables, named, named_by}
use Rattle.toml_names.specs.model.Addresses.{Address, same_step}
use Rattle.toml_names.specs.reader.Names.{header_end, own_address}
use Rattle.toml_names.proofs.Proved.{same_step-equal, same_step-self}
use Rattle.toml_units.specs.Units.{line_base}
use Rattle.toml_layout.specs.declared.tree.Brackets.TheVariants.{One}
use Rattle.toml_working.specs.declared.lines.Sought.TheVariants as sought
use Rattle.toml_working.specs.FreshKeys.{key_named}
use Rattle.toml_working.specs.Heading.{header_expr}
use Rattle.toml_working.specs.Headers.{names_of}
use Rattle.toml_working.specs.Premises.{HasImplied, implies, is_child_below}
use Rattle.toml_working.specs.Seeing.{heads, heads_below, is_sought_line}
use Rattle.toml_working.specs.Standing.{Standing, line_stands, standing, standing_from}
use Rattle.toml_editor.proofs.written.BelowPlace.{standing_behind}
use Rattle.toml_editor.proofs.written.Clear.{self}
use Rattle.toml_editor.proofs.written.Counted.{counts_grow, own_counts}
use Rattle.toml_editor.proofs.written.DocumentSections.{begins_longer, line_of, named_next}
use Rattle.toml_editor.proofs.written.FreshKeys.{key_again}
use Rattle.toml_editor.proofs.written.HeaderPlace.{below_is}
use Rattle.toml_editor.proofs.written.ImpliedWay.{last_headed, passed_by}
use Rattle.toml_editor.proofs.written.OneSection.{among_of}
use Rattle.toml_editor.proofs.written.TablesStay.{any_at}

-- ---- headers below a table

child_is : (q a : Address) → is_child_below q a ≡ true → (n : List ℕ) × (rest : Address) × (a ≡ q ++ Name n ∷ rest)
child_is [] [] is = absurd (true≢false (sym is))
child_is [] (Name n ∷ a) is = (n, a, refl)
child_is [] (Index i ∷ a) is = absurd (true≢false (sym is))
child_is (s ∷ q) [] is = absurd (true≢false (sym is))
child_is (s ∷ q) (t ∷ a) is =
    let (same, more) = and_parts (same_step s t) (is_child_below q a) is in
    by (same_step-equal s t same) (child_is q a more)
  where
    by : s ≡ t → (n : List ℕ) × (rest : Address) × (a ≡ q ++ Name n ∷ rest) → (n : List ℕ) × (rest : Address) × (t ∷ a ≡ s ∷ q ++ Name n ∷ rest)
    by e (n, rest, at) = (n, rest, ap (λ r. t ∷ r) at ∙ ap (λ u. u ∷ (q ++ Name n ∷ rest)) (sym e))

pub child_there : (q rest : Address) (n : List ℕ) → is_child_below q (q ++ Name n ∷ rest) ≡ true
child_there [] rest n = refl
child_there (s ∷ q) rest n = ap₂ (λ a b. a && b) (same_step-self s) (child_there q rest n)

-- such a header by its base and address
pub implied_is : (q : Address) (base : Option ℕ) (own : Option Address) → implies q base own ≡ true
    → (base ≡ None) × (n : List ℕ) × (rest : Address) × (own ≡ Some (q ++ Name n ∷ rest))
implied_is q (Some n) own is = absurd (true≢false (sym is))
implied_is q None None is = absurd (true≢false (sym is))
implied_is q None (Some a) is = let (n, rest, at) = child_is q a is in (refl, n, rest, ap Some at)

abbrev pub is_implying : Address → Standing → Bool
is_implying q s = implies q s.base s.address

-- it is one at the table or below it
pub implied_below : (q : Address) (s : Standing) → is_implying q s ≡ true → is_sought_line sought.HeaderBelow q s ≡ true
implied_below q s is =
    let (base, n, rest, own) = implied_is q s.base s.address is in
    ap₂ (heads_below q) base own ∙ begins_longer q (Name n ∷ rest)

headed_base : (q : Address) (base : Option ℕ) (own : Option Address) → heads_below q base own ≡ true → base ≡ None
headed_base q (Some n) own is = absurd (true≢false (sym is))
headed_base q None own is = refl

-- what is found of lines, one of them is
pub any_weaker : (P Q : Standing → Bool) → ((s : Standing) → P s ≡ true → Q s ≡ true) → (ss : List Standing) → list_any P ss ≡ true → list_any Q ss ≡ true
any_weaker P Q f ss there =
    let one = among_of P ss there in ap (list_any Q) one.is ∙ any_at Q one.front one.line one.back (f one.line one.holds)

-- where none of some lines is so, none of the first ones is
pub none_front : (test : Standing → Bool) (xs ys : List Standing) → list_any test (xs ++ ys) ≡ false → list_any test xs ≡ false
none_front test xs ys none = by (list_any test xs) refl
  where
    by : (b : Bool) → list_any test xs ≡ b → list_any test xs ≡ false
    by false is = is
    by true is =
        absurd (true≢false (sym (ap (λ b. b || list_any test ys) is) ∙ sym (list_any-append test xs ys) ∙ none))

-- ---- the first header at the table or below it

module _ (q : Address) (lines : List Line) (some : ¬ (q ≡ [])) (has : HasImplied lines q) where
  -- no line in front is a header of the table
  unheaded : (front back : List Line) → lines ≡ front ++ back → list_any (is_sought_line sought.Header q) (standing front) ≡ false
  unheaded front back is =
      none_front (is_sought_line sought.Header q) (standing front) (standing_from (named front) (length front) back)
      (ap (list_any (is_sought_line sought.Header q)) (sym (standing_behind front back []) ∙ ap standing (sym is)) ∙ has.no_header)

  -- a header below it by a name passes it
  abbrev pub Passes : List Line → Type 0
  Passes front = (header_end (named front) [] (names_of q) ≡ q) × (count_tables (named front) q ≡ 0)

  passes : (front back : List Line) (l : Line) → lines ≡ front ++ l ∷ back → (n : List ℕ) (rest : Address) → line_base (named front) l.expr ≡ None
      → own_address (named front) l.expr ≡ Some (q ++ Name n ∷ rest) → Passes front
  passes front back l is n rest base own = elim (passed_by (named front) l.expr q rest n some base own) [
    | inl passed ↦ passed
    | inr last ↦ absurd (true≢false (sym (last_headed front q last) ∙ unheaded front (l ∷ back) is))
  ]

  module _ (front back : List Line) (l : Line) (is : lines ≡ front ++ l ∷ back) (below : is_sought_line sought.HeaderBelow q (line_stands (named front) l) ≡ true)
      (none : list_any (is_implying q) (standing front) ≡ false) where
    abbrev xs : List Named
    xs = named front

    base : line_base xs l.expr ≡ None
    base = headed_base q (line_base xs l.expr) (own_address xs l.expr) below

    whole : standing lines ≡ standing front ++ line_stands xs l ∷ standing_from (xs ++ named_by xs (length front) l.expr) (length front + 1) back
    whole = ap standing is ∙ standing_behind front (l ∷ back) []

    -- where the line is the header of an element, no header below the table by a name is behind it
    not_element : (i : ℕ) (rest : Address) → own_address xs l.expr ≡ Some (q ++ Index i ∷ rest)
        → list_any (is_implying q) (standing_from (xs ++ named_by xs (length front) l.expr) (length front + 1) back) ≡ true → ⊥
    not_element i rest own there =
        let next = front ++ l ∷ [] in
        let one = among_of (is_implying q)
        (standing_from (xs ++ named_by xs (length front) l.expr) (length front + 1) back) there in
        let at = line_of one.front back next one.line one.back
        (ap₂ (λ ys k. standing_from ys k back) (named_next front l) (length-append front (l ∷ [])) ∙ one.is) in
        let (base, n, more, child) = implied_is q one.line.base one.line.address one.holds in
        let split : lines ≡ (next ++ at.first) ++ at.line ∷ at.rest =
        is ∙ sym (append_assoc front (l ∷ []) back) ∙ ap (λ r. next ++ r) at.lines_are ∙ sym (append_assoc next at.first (at.line ∷ at.rest)) in
        let passed = passes (next ++ at.first) at.rest at.line split n more
        (ap (λ (s : Standing). s.base) (sym at.is) ∙ base) (ap (λ (s : Standing). s.address) (sym at.is) ∙ child) in
        let counted = own_counts front l (q ++ Index i ∷ rest) q rest i own refl in
        let grow = counts_grow next at.first q in
        let zero = passed.1 in
        omega (arith, counted, grow, zero)

    pub first_passes : Passes front
    first_passes = by (implies q (line_base xs l.expr) (own_address xs l.expr)) refl
      where
        rest_implied : implies q (line_base xs l.expr) (own_address xs l.expr) ≡ false
            → list_any (is_implying q) (standing_from (xs ++ named_by xs (length front) l.expr) (length front + 1) back) ≡ true
        rest_implied lacks =
            let test = is_implying q in
            let behind = standing_from (xs ++ named_by xs (length front) l.expr) (length front + 1) back in
            sym (ap₂ (λ a b. a || (b || list_any test behind)) none lacks)
            ∙ sym (list_any-append test (standing front) (line_stands xs l ∷ behind)) ∙ ap (list_any test) (sym whole) ∙ has.implied

        other : implies q (line_base xs l.expr) (own_address xs l.expr) ≡ false → (a rest : Address) → own_address xs l.expr ≡ Some a → a ≡ q ++ rest → Passes front
        other lacks a [] own at =
            let header : is_sought_line sought.Header q (line_stands xs l) ≡ true =
            ap₂ (heads q) base (own ∙ ap Some (at ∙ append-nil q)) ∙ self q in
            let heads_it = is_sought_line sought.Header q in
            absurd (true≢false (sym (ap (list_any heads_it) whole ∙ any_at heads_it (standing front) (line_stands xs l) _ header) ∙ has.no_header))
        other lacks a (Name n ∷ rest) own at = absurd (true≢false (sym (ap₂ (implies q) base (own ∙ ap Some at) ∙ child_there q rest n) ∙ lacks))
        other lacks a (Index i ∷ rest) own at = absurd (not_element i rest (own ∙ ap Some at) (rest_implied lacks))

        by : (b : Bool) → implies q (line_base xs l.expr) (own_address xs l.expr) ≡ b → Passes front
        by true so = let (b, n, rest, own) = implied_is q (line_base xs l.expr) (own_address xs l.expr) so in passes front back l is n rest b own
        by false lacks = let (a, own, rest, at) = below_is q (line_base xs l.expr) (own_address xs l.expr) below in other lacks a rest own at

  -- the key of its header leads to it there
  pub leads_so : (front : List Line) (ws : List ℕ) → Passes front → own_address (named front) (header_expr One q ws) ≡ Some q
  leads_so front ws passed = by (names_of q) refl passed.0
    where
      by : (names : Key) → names_of q ≡ names → header_end (named front) [] (names_of q) ≡ q
          → Some (header_end (named front) [] (key_names (key_named (names_of q)))) ≡ Some q
      by [] none leads = absurd (some (sym leads ∙ ap (header_end (named front) []) none))
      by (n ∷ ns) are leads =
          ap (λ k. Some (header_end (named front) [] (key_names (key_named k)))) are ∙ ap (λ k. Some (header_end (named front) [] k)) (key_again n ns)
          ∙ ap (λ k. Some (header_end (named front) [] k)) (sym are) ∙ ap Some leads
