-- The key of a new section's header leads to its address.
use Rattle.std.proofs.Common.{◌≡◌, ◌∙◌, inl, inr, ℕ, zero, suc, ◌+◌, ◌-◌, ◌==◌, Bool, true, false, cond, Option, Some, None, List, [], ◌∷◌, ◌++◌, refl, sym, ap, ap₂, subst, append_assoc, append-nil, arith}
use Rattle.std.proofs.lemmas.Bool.Decides.{nat_tests}
use Rattle.std.proofs.lemmas.List.{same_from_push}
use Rattle.std.proofs.lemmas.Option.{same_Some}
use Rattle.toml_tree.specs.Tree.{Line}
use Rattle.toml_names.specs.declared.model.address.Step.{Step}
use Rattle.toml_names.specs.declared.model.address.Step.TheVariants.{Name, Index}
use Rattle.toml_names.specs.mentions.Joining.{Joins, JoinAll, Joined, IsNext}
use Rattle.toml_names.specs.mentions.Mentions.{Kind, Named, a_table, an_array, count_tables, entered, named, named_by, named_from, root}
use Rattle.toml_names.specs.mentions.Rules.{KeepsRules}
use Rattle.toml_names.specs.model.Addresses.{Address, child, element, same_address}
use Rattle.toml_names.specs.model.Data.{IsDataOf, Kinds, fact_at}
use Rattle.toml_names.specs.reader.Names.{header_end, own_address}
use Rattle.toml_names.proofs.Proved.{lines_are_closed, lines_join}
use Rattle.toml_layout.specs.declared.tree.Brackets.TheVariants.{One}
use Rattle.toml_working.specs.Heading.{header_expr}
use Rattle.toml_working.specs.Headers.{names_of}
use Rattle.toml_editor.proofs.written.Clear.{same_is}
use Rattle.toml_editor.proofs.written.Closed.{no_end}
use Rattle.toml_editor.proofs.written.Counted.{AreLast, counts_grow, last_child, last_or_earlier}
use Rattle.toml_editor.proofs.written.CountedArrays.{IsNamedLast, count_unnamed, counted_arrays, element_unnamed, root_unnamed}
use Rattle.toml_editor.proofs.written.FreshKeys.{key_again}
use Rattle.toml_editor.proofs.written.Pairwise.{Has, any_of_has, has_append_left, has_of_any, has_parts, has_weaker}
use Rattle.toml_editor.proofs.written.TablesStay.{closed_down}

-- ---- a name is put in a table, an index in an array

-- what is named at an address, and is of this kind
abbrev pub IsKindAt : Address → Kind → Named → Type 0
IsKindAt at k m = (m.address ≡ at) × (m.kind ≡ k)

abbrev pub IsNamedAt : Address → Named → Type 0
IsNamedAt at m = m.address ≡ at

-- what the step is put in
abbrev pub holder : Step → Kind
holder (Name n) = a_table
holder (Index i) = an_array

next_holder : (kinds : Kinds) (u : Address) (s : Step) → IsNext kinds u s → kinds u ≡ Some (holder s)
next_holder kinds u (Name n) next = next
next_holder kinds u (Index i) next = next.0

-- where a step stands below an address, what holds it is named there
abbrev pub StepsAreHeld : List Named → Type 0
StepsAreHeld ms = (u : Address) (s : Step) → Has (IsNamedAt (u ++ s ∷ [])) ms → Has (IsKindAt u (holder s)) ms

-- the first kind at an address is named there
fact_named : (ms : List Named) (at : Address) (k : Kind) → fact_at ms at ≡ Some k → Has (IsKindAt at k) ms
fact_named [] at k is = absurd cc
fact_named (m ∷ ms) at k is = by (same_address m.address at) refl is (fact_named ms at k)
  where
    by : (b : Bool) → same_address m.address at ≡ b → cond b (Some m.kind) (fact_at ms at) ≡ Some k → (fact_at ms at ≡ Some k → Has (IsKindAt at k) ms)
        → Has (IsKindAt at k) (m ∷ ms)
    by true same here more = inl (same_is m.address at same, same_Some m.kind k here)
    by false other here more = inr (more here)

kind_is_at : (at : Address) (k : Kind) (ms : List Named) → Has (IsKindAt at k) ms → Has (IsNamedAt at) ms
kind_is_at at k ms = has_weaker (IsKindAt at k) (IsNamedAt at) (λ m h. h.0) ms

-- what joins so is put in what holds it
next_steps : (ms : List Named) (m : Named) → StepsAreHeld ms → Joins ms m → StepsAreHeld (ms ++ m ∷ [])
next_steps ms m are joins u s has = elim (has_parts (IsNamedAt (u ++ s ∷ [])) ms (m ∷ []) has) [
  | inl before ↦ has_append_left (IsKindAt u (holder s)) ms (m ∷ []) (are u s before)
  | inr (inr none) ↦ absurd none
  | inr (inl at) ↦ has_append_left (IsKindAt u (holder s)) ms (m ∷ []) (by joins at)
]
  where
    by : Joins ms m → m.address ≡ u ++ s ∷ [] → Has (IsKindAt u (holder s)) ms
    by (inl free) at =
        let same = same_from_push u free.parent s free.last (sym at ∙ free.is) in
        let next : IsNext (fact_at ms) u s =
        subst (λ t. IsNext (fact_at ms) u t) (sym same.1) (subst (λ (p : Address). IsNext (fact_at ms) p free.last) (sym same.0) free.next) in
        fact_named ms u (holder s) (next_holder (fact_at ms) u s next)
    by (inr again) at = are u s (subst (λ a. Has (IsNamedAt a) ms) at (kind_is_at m.address m.kind ms (fact_named ms m.address m.kind again.there)))

all_steps : (more ms : List Named) → StepsAreHeld ms → JoinAll ms more → StepsAreHeld (ms ++ more)
all_steps [] ms are joins = subst StepsAreHeld (sym (append-nil ms)) are
all_steps (m ∷ more) ms are joins = subst StepsAreHeld (append_assoc ms (m ∷ []) more) (all_steps more (ms ++ m ∷ []) (next_steps ms m are joins.0) joins.1)

-- what was named comes first
named_front : (ls : List Line) (xs : List Named) (n : ℕ) → (more : List Named) × (named_from xs n ls ≡ xs ++ more)
named_front [] xs n = ([], sym (append-nil xs))
named_front (l ∷ ls) xs n =
    let rest = named_front ls (xs ++ named_by xs n l.expr) (n + 1) in
    (named_by xs n l.expr ++ rest.0, rest.1 ∙ append_assoc xs (named_by xs n l.expr) rest.0)

-- so is all that lines name
pub line_steps : (lines : List Line) → KeepsRules (named lines) → StepsAreHeld (named lines)
line_steps lines keeps =
    let front = named_front lines (root ∷ []) 0 in
    subst StepsAreHeld (sym front.1) (all_steps front.0 (root ∷ []) first (subst Joined front.1 (lines_join lines keeps)))
  where
    first : StepsAreHeld (root ∷ [])
    first u s (inl at) = absurd (no_end u s [] at)
    first u s (inr none) = absurd none

module _ (lines : List Line) (kinds : Kinds) (keeps : KeepsRules (named lines)) (data_is : IsDataOf (named lines) kinds) where
  -- what a name follows in the data is a table
  name_in_table : (u : Address) (n : List ℕ) → ¬ (kinds (child u n) ≡ None) → kinds u ≡ Some a_table
  name_in_table u n some = by (kinds (child u n)) refl
    where
      named_so : (k : Kind) → kinds (child u n) ≡ Some k → Has (IsNamedAt (child u n)) (named lines)
      named_so k is = kind_is_at (child u n) k (named lines) (has_of_any (IsKindAt (child u n) k) (named lines) ((data_is (child u n) k).0 is))

      by : (o : Option Kind) → kinds (child u n) ≡ o → kinds u ≡ Some a_table
      by None is = absurd (some is)
      by (Some k) is = (data_is u a_table).1 (any_of_has (IsKindAt u a_table) (named lines) (line_steps lines keeps u (Name n) (named_so k is)))

  -- a table is no array of tables
  table_uncounted : (front back : List Line) (r : Address) → lines ≡ front ++ back → kinds r ≡ Some a_table → count_tables (named front) r ≡ 0
  table_uncounted front back r parts table = by (count_tables (named front) r) refl
    where
      by : (k : ℕ) → count_tables (named front) r ≡ k → count_tables (named front) r ≡ 0
      by zero none = none
      by (suc k) is =
          let grow = counts_grow front back r in
          let all : count_tables (named lines) r ≡ count_tables (named (front ++ back)) r = ap (λ ls. count_tables (named ls) r) parts in
          let arrays = counted_arrays lines r (λ no. absurd (omega (arith, grow, all, is, no))) in
          let array : kinds r ≡ Some an_array = (data_is r an_array).1 (any_of_has (IsKindAt r an_array) (named lines) arrays.1) in
          absurd (let e : Some a_table ≡ Some an_array = sym table ∙ array in cc)

  module _ (q : Address) (name : List ℕ) (table : kinds q ≡ Some a_table) where
    -- each front that a name follows is a table
    pub fronts_are_tables : (r rest : Address) (n : List ℕ) → child q name ≡ r ++ Name n ∷ rest → kinds r ≡ Some a_table
    fronts_are_tables r rest n is = elim (last_or_earlier q r (Name name) (Name n) rest is) [
      | inl same ↦ sym (ap kinds same.0) ∙ table
      | inr more ↦ name_in_table r n (λ none. absurd (let e : None ≡ Some a_table = sym (below more.0 none) ∙ ap kinds (sym more.1) ∙ table in cc))
    ]
      where
        below : (more : Address) → kinds (child r n) ≡ None → kinds (r ++ Name n ∷ more) ≡ None
        below more none = ap kinds (sym (append_assoc r (Name n ∷ []) more)) ∙ closed_down kinds (lines_are_closed lines kinds keeps data_is) more (child r n) none

-- ---- along the key

module _ (lines : List Line) (p : Address) (ends : IsNamedLast p) (last : AreLast (named lines) p)
    (tables : (r rest : Address) (n : List ℕ) → p ≡ r ++ Name n ∷ rest → count_tables (named lines) r ≡ 0) where
  abbrev xs : List Named
  xs = named lines

  -- a header stays in a table, and goes on in the last table of an array
  stays_in : (at : Address) → count_tables xs at ≡ 0 → entered xs at ≡ at
  stays_in at none = ap (λ k. cond (k == 0) at (element at (k - 1))) none

  enters : (at : Address) (i : ℕ) → count_tables xs at ≡ i + 1 → entered xs at ≡ element at i
  enters at i is = ap (λ k. cond (k == 0) at (element at (k - 1))) is ∙ ap₂ (λ b k. cond b at (element at k))
      (let e : (i + 1 == 0) ≡ false = grind (arith, nat_tests) in e) (let e : i + 1 - 1 ≡ i = omega arith in e)

  -- a header's key with the names of the address follows its steps
  along : (steps : Address) (at : Address) (n : List ℕ) → p ≡ child at n ++ steps → header_end xs at (n ∷ names_of steps) ≡ p
  along [] at n is = sym (is ∙ append-nil (child at n))
  along (Name m ∷ steps) at n is =
      ap (λ a. header_end xs a (m ∷ names_of steps)) (stays_in (child at n) (tables (child at n) steps m is))
      ∙ along steps (child at n) m (is ∙ sym (append_assoc (child at n) (Name m ∷ []) steps))
  along (Index i ∷ []) at n is = absurd (element_unnamed (child at n) i (ends.0, ends.1, sym is ∙ ends.2))
  along (Index i ∷ Name m ∷ steps) at n is =
      ap (λ a. header_end xs a (m ∷ names_of steps)) (enters (child at n) i (last (child at n) (Name m ∷ steps) i is))
      ∙ along steps (element (child at n) i) m (is ∙ regroup (child at n) (Index i) (Name m) steps)
    where
      regroup : (a : Address) (s t : Step) (more : Address) → a ++ s ∷ t ∷ more ≡ ((a ++ s ∷ []) ++ t ∷ []) ++ more
      regroup a s t more = sym (append_assoc (a ++ s ∷ []) (t ∷ []) more ∙ append_assoc a (s ∷ []) (t ∷ more))
  along (Index i ∷ Index j ∷ steps) at n is =
      let count = last (element (child at n) i) steps j (is ∙ sym (append_assoc (child at n) (Index i ∷ []) (Index j ∷ steps))) in
      let none = count_unnamed lines (element (child at n) i) (element_unnamed (child at n) i) in
      absurd (omega (arith, count, none))

-- ---- the key of a header

-- The key of a new section's header leads to its address, from where each index of the address is that of the last table of its array.
pub name_leads : (lines front back : List Line) (q : Address) (name ws : List ℕ) (kinds : Kinds) → lines ≡ front ++ back → KeepsRules (named lines)
    → IsDataOf (named lines) kinds → kinds q ≡ Some a_table
    → ((r rest : Address) (i : ℕ) → q ≡ r ++ Index i ∷ rest → count_tables (named front) r ≡ i + 1)
    → own_address (named front) (header_expr One (child q name) ws) ≡ Some (child q name)
name_leads lines front back q name ws kinds parts keeps data_is table last = by q refl
  where
    tables : (r rest : Address) (n : List ℕ) → child q name ≡ r ++ Name n ∷ rest → count_tables (named front) r ≡ 0
    tables r rest n is =
        table_uncounted lines kinds keeps data_is front back r parts (fronts_are_tables lines kinds keeps data_is q name table r rest n is)

    key : (n : List ℕ) (steps : Address) → child q name ≡ Name n ∷ steps → own_address (named front) (header_expr One (child q name) ws) ≡ Some (child q name)
    key n steps is =
        ap (λ p. own_address (named front) (header_expr One p ws)) is
        ∙ ap (λ k. Some (header_end (named front) [] k)) (key_again n (names_of steps))
        ∙ ap Some (along front (child q name) (q, name, refl) (last_child (named front) q name last) tables steps [] n is)

    by : (at : Address) → q ≡ at → own_address (named front) (header_expr One (child q name) ws) ≡ Some (child q name)
    by [] is = key name [] (ap (λ a. child a name) is)
    by (Name n ∷ steps) is = key n (steps ++ Name name ∷ []) (ap (λ a. child a name) is)
    by (Index i ∷ steps) is =
        let count = last [] steps i is in
        let none = count_unnamed front [] root_unnamed in
        absurd (omega (arith, count, none))
