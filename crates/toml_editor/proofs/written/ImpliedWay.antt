-- A longer header goes on its way through each table above it: so the key of a header of such a table leads to the table.
use Rattle.std.proofs.Common.{◌≡◌, ◌∙◌, ◌⊎◌, inl, inr, ℕ, ◌+◌, ◌-◌, ◌==◌, ◌≤◌, Bool, true, false, ◌||◌, cond, Option, Some, None, List, [], ◌∷◌, ◌++◌, length, length-append, refl, sym, ap, ap₂, subst, append_assoc, append-nil, arith}
use Rattle.std.specs.Bool.{nat_lt}
use Rattle.std.specs.List.{list_any}
use Rattle.std.proofs.lemmas.Bool.Decides.{nat_tests}
use Rattle.std.proofs.lemmas.List.{append_cancel_left}
use Rattle.std.proofs.lemmas.Option.{same_Some}
use Rattle.toml_tree.specs.Tree.{Expr, BlankLine, KeyValLine, TableLine, ArrayTableLine, Line}
use Rattle.toml_names.specs.declared.model.address.Step.{Step}
use Rattle.toml_names.specs.declared.model.address.Step.TheVariants.{Name, Index}
use Rattle.toml_names.specs.mentions.Keys.{Key, key_names, part_name, rest_names}
use Rattle.toml_names.specs.mentions.Mentions.{Named, count_tables, entered, named, named_by, root, section}
use Rattle.toml_names.specs.model.Addresses.{Address, child, element, same_address}
use Rattle.toml_names.specs.reader.Names.{header_end, own_address}
use Rattle.toml_units.specs.Units.{line_base}
use Rattle.toml_working.specs.declared.lines.Sought.TheVariants as sought
use Rattle.toml_working.specs.Headers.{names_of}
use Rattle.toml_working.specs.Seeing.{heads, is_sought_line}
use Rattle.toml_working.specs.Standing.{Standing, line_stands, standing, standing_from}
use Rattle.toml_editor.proofs.written.BelowPlace.{standing_next}
use Rattle.toml_editor.proofs.written.Clear.{same_is, self}
use Rattle.toml_editor.proofs.written.Closed.{no_end}
use Rattle.toml_editor.proofs.written.Counted.{count_array, count_next, count_none, count_pair, count_table, last_or_earlier, one_if}
use Rattle.toml_editor.proofs.written.HeaderCounted.{Enters, enters}
use Rattle.toml_editor.proofs.written.HeaderNamed.{end_behind_name}
use Rattle.toml_editor.proofs.written.HeadersAlone.{is_less}

-- ---- the way of a key

module _ (xs : List Named) where
  -- the last element of an array of tables
  abbrev pub IsLastElement : Address → Type 0
  IsLastElement a = (r : Address) × (i : ℕ) × (a ≡ element r i) × (count_tables xs r ≡ i + 1)

  -- The names of these steps lead along them, and to no array of tables, or to the last element of one.
  abbrev Way : Address → Address → Type 0
  Way at steps = ((header_end xs at (names_of steps) ≡ at ++ steps) × (¬ (steps ≡ []) → count_tables xs (at ++ steps) ≡ 0)) ⊎ IsLastElement (at ++ steps)

  -- what a key goes through is no array of tables
  uncounted : (a : Address) → entered xs a ≡ a → count_tables xs a ≡ 0
  uncounted a is = by (count_tables xs a == 0) refl
    where
      by : (b : Bool) → (count_tables xs a == 0) ≡ b → count_tables xs a ≡ 0
      by true none = let e : count_tables xs a ≡ 0 = grind (arith, nat_tests, none) in e
      by false some =
          let e : length (element a (count_tables xs a - 1)) ≡ length a =
          ap length (sym (ap (λ t. cond t a (element a (count_tables xs a - 1))) some) ∙ is) in
          let f : length (element a (count_tables xs a - 1)) ≡ length a + 1 = length-append a (Index (count_tables xs a - 1) ∷ []) in
          absurd (omega (arith, e, f))

  over_table : (k : List ℕ) (at steps : Address) → entered xs (child at k) ≡ child at k → Way (child at k) steps → Way at (Name k ∷ steps)
  over_table k at steps e (inr last) = inr (subst IsLastElement (append_assoc at (Name k ∷ []) steps) last)
  over_table k at steps e (inl (leads, none)) = inl (on (names_of steps) ∙ leads ∙ append_assoc at (Name k ∷ []) steps, λ some. by steps none)
    where
      on : (names : Key) → header_end xs at (k ∷ names) ≡ header_end xs (child at k) names
      on [] = refl
      on (m ∷ ms) = ap (λ a. header_end xs a (m ∷ ms)) e

      by : (rest : Address) → (¬ (rest ≡ []) → count_tables xs (child at k ++ rest) ≡ 0) → count_tables xs (at ++ Name k ∷ rest) ≡ 0
      by [] zero = uncounted (child at k) e
      by (t ∷ rest) zero = ap (count_tables xs) (sym (append_assoc at (Name k ∷ []) (t ∷ rest))) ∙ zero (λ x. cc)

  regroup : (k : List ℕ) (i : ℕ) (at steps : Address) → element (child at k) i ++ steps ≡ at ++ Name k ∷ Index i ∷ steps
  regroup k i at steps = append_assoc (child at k) (Index i ∷ []) steps ∙ append_assoc at (Name k ∷ []) (Index i ∷ steps)

  over_element : (k : List ℕ) (i : ℕ) (at steps : Address) → entered xs (child at k) ≡ element (child at k) i → count_tables xs (child at k) ≡ i + 1
      → Way (element (child at k) i) steps → Way at (Name k ∷ Index i ∷ steps)
  over_element k i at [] e count way = inr (child at k, i, sym (append_assoc at (Name k ∷ []) (Index i ∷ [])), count)
  over_element k i at (t ∷ steps) e count (inr last) = inr (subst IsLastElement (regroup k i at (t ∷ steps)) last)
  over_element k i at (t ∷ steps) e count (inl (leads, none)) =
      inl (by (names_of (t ∷ steps)) leads ∙ regroup k i at (t ∷ steps), λ some. ap (count_tables xs) (sym (regroup k i at (t ∷ steps))) ∙ none (λ x. cc))
    where
      to : Address
      to = element (child at k) i

      by : (names : Key) → header_end xs to names ≡ to ++ t ∷ steps → header_end xs at (k ∷ names) ≡ to ++ t ∷ steps
      by [] is = let f : ◌≡◌ {A = Address} [] (t ∷ steps) = append_cancel_left to [] (t ∷ steps) (append-nil to ∙ is) in absurd (let g : ⊥ = cc in g)
      by (m ∷ ms) is = ap (λ a. header_end xs a (m ∷ ms)) e ∙ is

  -- where a key leads on by a name, each of its steps
  module _ (n : List ℕ) (rest : Address) where
    abbrev Reaches : Key → Address → Address → Type 0
    Reaches key at steps = header_end xs at key ≡ at ++ (steps ++ Name n ∷ rest)

    short : (s : Step) (steps at : Address) → Reaches [] at (s ∷ steps) → ⊥
    short s steps at is =
        let f : ◌≡◌ {A = Address} [] (s ∷ (steps ++ Name n ∷ rest)) = append_cancel_left at [] (s ∷ (steps ++ Name n ∷ rest)) (append-nil at ∙ is) in
        let g : ⊥ = cc in g

    one : (s : Step) (steps at : Address) (k : List ℕ) → Reaches (k ∷ []) at (s ∷ steps) → ⊥
    one s steps at k is =
        let f : ◌≡◌ {A = Address} (Name k ∷ []) (s ∷ (steps ++ Name n ∷ rest)) = append_cancel_left at (Name k ∷ []) (s ∷ (steps ++ Name n ∷ rest)) is in
        let tail : ◌≡◌ {A = Address} [] (steps ++ Name n ∷ rest) = cc in
        no_end steps (Name n) rest tail

    module _ (s : Step) (steps at : Address) (k m : List ℕ) (ks : Key) (is : Reaches (k ∷ m ∷ ks) at (s ∷ steps)) where
      abbrev Entered : Address → Type 0
      Entered to = entered xs (child at k) ≡ to

      -- the key goes on with a name
      abbrev behind : (to : Address) → (r : Address) × (header_end xs to (m ∷ ks) ≡ to ++ Name m ∷ r)
      behind to = end_behind_name xs ks to m

      on_from : (to : Address) → Entered to → header_end xs to (m ∷ ks) ≡ at ++ s ∷ (steps ++ Name n ∷ rest)
      on_from to e = ap (λ a. header_end xs a (m ∷ ks)) (sym e) ∙ is

      table_steps : Entered (child at k) → ◌≡◌ {A = Address} (Name k ∷ Name m ∷ (behind (child at k)).0) (s ∷ (steps ++ Name n ∷ rest))
      table_steps e =
          append_cancel_left at (Name k ∷ Name m ∷ (behind (child at k)).0) (s ∷ (steps ++ Name n ∷ rest))
          (sym (append_assoc at (Name k ∷ []) (Name m ∷ (behind (child at k)).0)) ∙ sym (behind (child at k)).1 ∙ on_from (child at k) e)

      element_steps : (i : ℕ) → Entered (element (child at k) i)
          → ◌≡◌ {A = Address} (Name k ∷ Index i ∷ Name m ∷ (behind (element (child at k) i)).0) (s ∷ (steps ++ Name n ∷ rest))
      element_steps i e =
          let to = element (child at k) i in
          append_cancel_left at (Name k ∷ Index i ∷ Name m ∷ (behind to).0) (s ∷ (steps ++ Name n ∷ rest))
          (sym (regroup k i at (Name m ∷ (behind to).0)) ∙ sym (behind to).1 ∙ on_from to e)

    way : (steps : Address) (key : Key) (at : Address) → Reaches key at steps → Way at steps
    way [] key at is = inl (sym (append-nil at), λ some. absurd (some refl))
    way (s ∷ steps) [] at is = absurd (short s steps at is)
    way (s ∷ steps) (k ∷ []) at is = absurd (one s steps at k is)
    way (s ∷ []) (k ∷ m ∷ ks) at is = by (enters xs (child at k))
      where
        by : Enters xs (child at k) → Way at (s ∷ [])
        by (inl e) =
            let f = table_steps s [] at k m ks is e in
            let head : Name k ≡ s = cc in
            subst (λ t. Way at (t ∷ [])) head (over_table k at [] e (inl (sym (append-nil (child at k)), λ some. absurd (some refl))))
        by (inr (i, e, count)) = let f = element_steps s [] at k m ks is i e in absurd (let g : ⊥ = cc in g)
    way (s ∷ t ∷ steps) (k ∷ m ∷ ks) at is = by (enters xs (child at k)) (λ to h. way (t ∷ steps) (m ∷ ks) to h) (λ to h. way steps (m ∷ ks) to h)
      where
        by : Enters xs (child at k) → ((to : Address) → Reaches (m ∷ ks) to (t ∷ steps) → Way to (t ∷ steps))
            → ((to : Address) → Reaches (m ∷ ks) to steps → Way to steps) → Way at (s ∷ t ∷ steps)
        by (inl e) more most =
            let f = table_steps s (t ∷ steps) at k m ks is e in
            let head : Name k ≡ s = cc in
            let on : Reaches (m ∷ ks) (child at k) (t ∷ steps) =
            on_from s (t ∷ steps) at k m ks is (child at k) e ∙ ap (λ u. at ++ u ∷ t ∷ (steps ++ Name n ∷ rest)) (sym head)
            ∙ sym (append_assoc at (Name k ∷ []) (t ∷ (steps ++ Name n ∷ rest))) in
            subst (λ u. Way at (u ∷ t ∷ steps)) head (over_table k at (t ∷ steps) e (more (child at k) on))
        by (inr (i, e, count)) more most =
            let f = element_steps s (t ∷ steps) at k m ks is i e in
            let head : Name k ≡ s = cc in
            let next : Index i ≡ t = cc in
            let to = element (child at k) i in
            let on : Reaches (m ∷ ks) to steps =
            on_from s (t ∷ steps) at k m ks is to e ∙ ap₂ (λ u w. at ++ u ∷ w ∷ (steps ++ Name n ∷ rest)) (sym head) (sym next)
            ∙ sym (regroup k i at (steps ++ Name n ∷ rest)) in
            subst (λ u. Way at (u ∷ t ∷ steps)) head (subst (λ w. Way at (Name k ∷ w ∷ steps)) next (over_element k i at steps e count (most to on)))

  -- ---- the way to a header line

  -- the names of a table above it by a name lead to the table, which is no array of tables, or the last element of one
  abbrev pub IsPassed : Address → Type 0
  IsPassed q = ((header_end xs [] (names_of q) ≡ q) × (count_tables xs q ≡ 0)) ⊎ IsLastElement q

  some_way : (q : Address) → ¬ (q ≡ []) → Way [] q → IsPassed q
  some_way q some (inl (leads, none)) = inl (leads, none some)
  some_way q some (inr last) = inr last

  pub passed_by : (e : Expr) (q rest : Address) (n : List ℕ) → ¬ (q ≡ []) → line_base xs e ≡ None → own_address xs e ≡ Some (q ++ Name n ∷ rest) → IsPassed q
  passed_by (BlankLine b) q rest n some base own = absurd (let x : ◌≡◌ {A = Option Address} None (Some (q ++ Name n ∷ rest)) = own in let g : ⊥ = cc in g)
  passed_by (KeyValLine ws pair tail) q rest n some base own = absurd (let x : Some (length (section xs)) ≡ None = base in let g : ⊥ = cc in g)
  passed_by (TableLine ws header tail) q rest n some base own =
      some_way q some (way n rest q (key_names header.key) [] (same_Some _ _ own))
  passed_by (ArrayTableLine ws header tail) q rest n some base own =
      let at = header_end xs [] (key_names header.key) in
      elim (last_or_earlier at q (Index (count_tables xs at)) (Name n) rest (same_Some (element at (count_tables xs at)) (q ++ Name n ∷ rest) own)) [
        | inl same ↦ absurd (let x : Index (count_tables xs at) ≡ Name n = same.1 in let g : ⊥ = cc in g)
        | inr more ↦ some_way q some (way n more.0 q (key_names header.key) [] more.1)
      ]

-- ---- the last element has a header

or_true : (b : Bool) → (b || true) ≡ true
or_true true = refl
or_true false = refl

-- a line counts nothing, or is the header of the next element
abbrev Counts : List Named → ℕ → Expr → Address → Type 0
Counts xs n e r = (count_tables (named_by xs n e) r ≡ 0)
    ⊎ ((heads (element r (count_tables xs r)) (line_base xs e) (own_address xs e) ≡ true) × (count_tables (named_by xs n e) r ≡ 1))

line_counts : (xs : List Named) (n : ℕ) (e : Expr) (r : Address) → Counts xs n e r
line_counts xs n (BlankLine b) r = inl refl
line_counts xs n (KeyValLine ws pair tail) r = inl (count_pair n (section xs) pair.assign pair.value r)
line_counts xs n (TableLine ws header tail) r = inl (count_table xs n r (part_name header.key.first) (rest_names header.key.rest))
line_counts xs n (ArrayTableLine ws header tail) r = by (same_address at r) refl
  where
    at : Address
    at = header_end xs [] (key_names header.key)

    by : (b : Bool) → same_address at r ≡ b → Counts xs n (ArrayTableLine ws header tail) r
    by true same = inr (
      ap (λ a. same_address (element a (count_tables xs a)) (element r (count_tables xs r))) (same_is at r same) ∙ self (element r (count_tables xs r)),
      count_array xs n r (part_name header.key.first) (rest_names header.key.rest) ∙ ap one_if same,
    )
    by false other = inl (count_array xs n r (part_name header.key.first) (rest_names header.key.rest) ∙ ap one_if other)

module _ (r : Address) (i : ℕ) where
  abbrev has_header : List Standing → Bool
  has_header = list_any (is_sought_line sought.Header (element r i))

  abbrev standing_over : List Line → List Line → List Standing
  standing_over before ls = standing_from (named before) (length before) ls

  -- a line before which the array has no more tables than the index is the element's header, or one behind it is, where it has one more there
  headed_next : (before : List Line) (l : Line) (ls : List Line) → count_tables (named before) r ≤ i
      → (count_tables (named (before ++ l ∷ [])) r ≤ i → has_header (standing_over (before ++ l ∷ []) ls) ≡ true)
      → has_header (line_stands (named before) l ∷ standing_over (before ++ l ∷ []) ls) ≡ true
  headed_next before l ls low more = by (line_counts xs (length before) l.expr r)
    where
      xs : List Named
      xs = named before

      next : count_tables (named (before ++ l ∷ [])) r ≡ count_tables xs r + count_tables (named_by xs (length before) l.expr) r
      next = count_next before l r

      later : has_header (standing_over (before ++ l ∷ []) ls) ≡ true → has_header (line_stands xs l ∷ standing_over (before ++ l ∷ []) ls) ≡ true
      later found = ap (λ b. is_sought_line sought.Header (element r i) (line_stands xs l) || b) found ∙ or_true (is_sought_line sought.Header (element r i) (line_stands xs l))

      by : Counts xs (length before) l.expr r → has_header (line_stands xs l ∷ standing_over (before ++ l ∷ []) ls) ≡ true
      by (inl none) = later (more (omega (arith, next, none, low)))
      by (inr (header, one)) = at (nat_lt (count_tables xs r) i) refl
        where
          at : (b : Bool) → nat_lt (count_tables xs r) i ≡ b → has_header (line_stands xs l ∷ standing_over (before ++ l ∷ []) ls) ≡ true
          at true less = later (more (let f = is_less (count_tables xs r) i less in omega (arith, next, one, f)))
          at false last =
              let same : count_tables xs r ≡ i = grind (arith, nat_tests, last, low) in
              ap (λ b. b || has_header (standing_over (before ++ l ∷ []) ls)) (ap (λ k. heads (element r k) (line_base xs l.expr) (own_address xs l.expr)) (sym same) ∙ header)

  headed_from : (ls before : List Line) → count_tables (named before) r ≤ i → count_tables (named (before ++ ls)) r ≡ i + 1 → has_header (standing_over before ls) ≡ true
  headed_from [] before low is =
      let e = ap (λ bs. count_tables (named bs) r) (append-nil before) in absurd (omega (arith, e, low, is))
  headed_from (l ∷ ls) before low is =
      ap (λ ss. has_header (line_stands (named before) l ∷ ss)) (standing_next before l ls)
      ∙ headed_next before l ls low (λ h. headed_from ls (before ++ l ∷ []) h (ap (λ bs. count_tables (named bs) r) (append_assoc before (l ∷ []) ls) ∙ is))

-- So has the last element of an array of tables.
pub last_headed : (lines : List Line) (q : Address) → IsLastElement (named lines) q → list_any (is_sought_line sought.Header q) (standing lines) ≡ true
last_headed lines q (r, i, at, count) =
    subst (λ a. list_any (is_sought_line sought.Header a) (standing lines) ≡ true) (sym at)
    (headed_from r i lines [] (let e : count_tables (root ∷ []) r ≡ 0 = count_none r root [] refl in omega (arith, e)) count)
