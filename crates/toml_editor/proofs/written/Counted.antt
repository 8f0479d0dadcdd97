-- How many tables the arrays of tables have before a line and behind it, and what the indices in the address of a line say of that.
use Rattle.std.proofs.Common.{◌≡◌, ◌∙◌, ◌⊎◌, inl, inr, ℕ, ◌+◌, ◌-◌, ◌==◌, ◌≤◌, ◌&&◌, Bool, true, false, cond, Some, None, List, [], ◌∷◌, ◌++◌, length, refl, sym, ap, subst, append_assoc, append-nil, arith}
use Rattle.std.proofs.lemmas.Bool.Decides.{nat_tests}
use Rattle.std.proofs.lemmas.Option.{same_Some}
use Rattle.toml_tree.specs.Spells.{EachIs}
use Rattle.toml_tree.specs.Tree.{Assign, Value, Expr, BlankLine, KeyValLine, TableLine, ArrayTableLine, Line}
use Rattle.toml_names.specs.declared.mentions.mention.Role.TheVariants.{Passed, Header, Tables, Element}
use Rattle.toml_names.specs.declared.model.address.Step.{Step}
use Rattle.toml_names.specs.declared.model.address.Step.TheVariants.{Name, Index}
use Rattle.toml_names.specs.mentions.Keys.{Key, key_names, part_name, rest_names}
use Rattle.toml_names.specs.mentions.Mentions.{Named, an_array, count_tables, ends_table, ends_tables, entered, followed, is_tables, named, named_by, pair_named, root, section, table_at}
use Rattle.toml_names.specs.mentions.OwnAddresses.{IsHeaderLine}
use Rattle.toml_names.specs.model.Addresses.{Address, below, child, element, same_address}
use Rattle.toml_names.specs.reader.Names.{header_end, own_address}
use Rattle.toml_names.proofs.Proved.{count-append, header_is_section, pairs_leave_alike}
use Rattle.toml_editor.proofs.written.Alike.{adds, count_cons, section_pair}
use Rattle.toml_editor.proofs.written.Clear.{above_apart, below-cons, differ, self}
use Rattle.toml_editor.proofs.written.Closed.{no_end}
use Rattle.toml_editor.proofs.written.DocumentSections.{named_next}
use Rattle.toml_editor.proofs.written.InsertPlace.{IsHeadless}

-- ---- what one line counts

-- one for yes, none for no
abbrev pub one_if : Bool → ℕ
one_if b = cond b 1 0

-- what is no array of tables counts nothing
adds_none : (r : Address) (m : Named) → is_tables m.role ≡ false → adds r m ≡ 0
adds_none r m plain = by (same_address m.address r)
  where
    by : (b : Bool) → one_if (b && is_tables m.role) ≡ 0
    by true = ap one_if plain
    by false = refl

-- so it may be left out
pub count_none : (r : Address) (m : Named) (ms : List Named) → is_tables m.role ≡ false → count_tables (m ∷ ms) r ≡ count_tables ms r
count_none r m ms plain = let e = adds_none r m plain in omega (arith, e, count_cons m ms r)

-- a pair counts nothing
pub count_pair : (line : ℕ) (at : Address) (a : Assign) (v : Value) (r : Address) → count_tables (pair_named line at a v) r ≡ 0
count_pair line at a v r = (pairs_leave_alike [] line at a v).counts r

-- a line without a header counts nothing
count_headless : (xs : List Named) (n : ℕ) (e : Expr) (r : Address) → IsHeadless e → count_tables (named_by xs n e) r ≡ 0
count_headless xs n (BlankLine b) r head = refl
count_headless xs n (KeyValLine ws pair tail) r head = count_pair n (section xs) pair.assign pair.value r
count_headless xs n (TableLine ws header tail) r head = absurd head
count_headless xs n (ArrayTableLine ws header tail) r head = absurd head

-- a header counts what its end counts
count_followed : (xs : List Named) (line : ℕ) (end : Address → List Named) (r : Address) (key : Key) (n : List ℕ) (at : Address)
    → count_tables (followed line xs end at (n ∷ key)) r ≡ count_tables (end (header_end xs at (n ∷ key))) r
count_followed xs line end r [] n at = refl
count_followed xs line end r (m ∷ more) n at =
    let next = entered xs (child at n) in
    count_none r (table_at line Passed next) (followed line xs end next (m ∷ more)) refl ∙ count_followed xs line end r more m next

-- the header of a table counts nothing, that of an array of tables one table for the array
pub count_table : (xs : List Named) (line : ℕ) (r : Address) (n : List ℕ) (key : Key) → count_tables (followed line xs (ends_table line) [] (n ∷ key)) r ≡ 0
count_table xs line r n key = count_followed xs line (ends_table line) r key n [] ∙ count_none r (table_at line Header (header_end xs [] (n ∷ key))) [] refl

pub count_array : (xs : List Named) (line : ℕ) (r : Address) (n : List ℕ) (key : Key)
    → count_tables (followed line xs (ends_tables line xs) [] (n ∷ key)) r ≡ one_if (same_address (header_end xs [] (n ∷ key)) r)
count_array xs line r n key =
    let at = header_end xs [] (n ∷ key) in
    let tables : Named = record { address = at; role = Tables; kind = an_array; line = line } in
    let one = table_at line Element (element at (count_tables xs at)) in
    let e : count_tables (tables ∷ one ∷ []) r ≡ adds r tables + count_tables (one ∷ []) r = count_cons tables (one ∷ []) r in
    let f : count_tables (one ∷ []) r ≡ 0 = count_none r one [] refl in
    let g : adds r tables ≡ one_if (same_address at r) = by (same_address at r) in
    let h : count_tables (tables ∷ one ∷ []) r ≡ one_if (same_address at r) = omega (arith, e, f, g) in
    count_followed xs line (ends_tables line xs) r key n [] ∙ h
  where
    by : (b : Bool) → one_if (b && true) ≡ one_if b
    by true = refl
    by false = refl

-- ---- counts only grow, and headers alone make them grow

-- behind a line an array has as many tables as before it, and those of the line
pub count_next : (before : List Line) (l : Line) (r : Address)
    → count_tables (named (before ++ l ∷ [])) r ≡ count_tables (named before) r + count_tables (named_by (named before) (length before) l.expr) r
count_next before l r = ap (λ ms. count_tables ms r) (named_next before l) ∙ count-append (named before) (named_by (named before) (length before) l.expr) r

regrouped : (before : List Line) (l : Line) (more : List Line) (r : Address)
    → count_tables (named ((before ++ l ∷ []) ++ more)) r ≡ count_tables (named (before ++ l ∷ more)) r
regrouped before l more r = ap (λ bs. count_tables (named bs) r) (append_assoc before (l ∷ []) more)

-- More lines take no table from an array.
pub counts_grow : (before more : List Line) (r : Address) → count_tables (named before) r ≤ count_tables (named (before ++ more)) r
counts_grow before [] r = let e = ap (λ bs. count_tables (named bs) r) (append-nil before) in omega (arith, e)
counts_grow before (l ∷ more) r =
    let next = count_next before l r in
    let rest = counts_grow (before ++ l ∷ []) more r in
    let same = regrouped before l more r in
    omega (arith, next, rest, same)

-- one line without a header, and many, leave the counts
count_stays : (before : List Line) (l : Line) (r : Address) → IsHeadless l.expr → count_tables (named (before ++ l ∷ [])) r ≡ count_tables (named before) r
count_stays before l r head =
    let next = count_next before l r in
    let none = count_headless (named before) (length before) l.expr r head in
    omega (arith, next, none)

pub counts_stay : (before between : List Line) (r : Address) → EachIs (λ (l : Line). IsHeadless l.expr) between
    → count_tables (named (before ++ between)) r ≡ count_tables (named before) r
counts_stay before [] r heads = ap (λ bs. count_tables (named bs) r) (append-nil before)
counts_stay before (l ∷ between) r heads =
    sym (regrouped before l between r) ∙ counts_stay (before ++ l ∷ []) between r heads.1 ∙ count_stays before l r heads.0

-- ---- the steps of an address with one step more

-- a step in it is the last one, or is in the address
pub last_or_earlier : (at r : Address) (s t : Step) (rest : Address) → at ++ s ∷ [] ≡ r ++ t ∷ rest
    → ((at ≡ r) × (s ≡ t)) ⊎ ((more : Address) × (at ≡ r ++ t ∷ more))
last_or_earlier [] [] s t rest is = let e : s ≡ t = cc in inl (refl, e)
last_or_earlier [] (u ∷ r) s t rest is = let tail : ◌≡◌ {A = Address} [] (r ++ t ∷ rest) = cc in absurd (no_end r t rest tail)
last_or_earlier (v ∷ at) [] s t rest is = let e : v ≡ t = cc in inr (at, ap (λ u. u ∷ at) e)
last_or_earlier (v ∷ at) (u ∷ r) s t rest is =
    let e : v ≡ u = cc in
    let tail : at ++ s ∷ [] ≡ r ++ t ∷ rest = cc in
    elim (last_or_earlier at r s t rest tail) [
      | inl here ↦ inl (ap (λ x. x ∷ at) e ∙ ap (λ x. u ∷ x) here.0, here.1)
      | inr there ↦ inr (there.0, ap (λ x. x ∷ at) e ∙ ap (λ x. u ∷ x) there.1)
    ]

-- names add no index
pub names_last : (names : Key) (at r rest : Address) (i : ℕ) → below at names ≡ r ++ Index i ∷ rest → (more : Address) × (at ≡ r ++ Index i ∷ more)
names_last [] at r rest i is = (rest, sym (append-nil at) ∙ is)
names_last (n ∷ names) at r rest i is =
    let inner = names_last names (child at n) r rest i (below-cons at n names ∙ is) in
    elim (last_or_earlier at r (Name n) (Index i) inner.0 inner.1) [
      | inl here ↦ absurd (let is = here.1 in cc)
      | inr there ↦ there
    ]

-- ---- the indices in the address of a line

module _ (xs : List Named) where
  -- each index is that of the last table which the array has
  abbrev pub AreLast : Address → Type 0
  AreLast at = (r rest : Address) (i : ℕ) → at ≡ r ++ Index i ∷ rest → count_tables xs r ≡ i + 1

  pub last_root : AreLast []
  last_root r rest i is = absurd (no_end r (Index i) rest is)

  -- the steps of a header's key keep it so
  pub last_child : (at : Address) (n : List ℕ) → AreLast at → AreLast (child at n)
  last_child at n are r rest i is =
      let inner = names_last (n ∷ []) at r rest i is in
      are r inner.0 i inner.1

  last_entered : (at : Address) → AreLast at → AreLast (entered xs at)
  last_entered at are = by (count_tables xs at == 0) refl
    where
      by : (b : Bool) → (count_tables xs at == 0) ≡ b → AreLast (cond b at (element at (count_tables xs at - 1)))
      by true none = are
      by false some = λ r rest i is. elim (last_or_earlier at r (Index (count_tables xs at - 1)) (Index i) rest is) [
        | inl here ↦
            let same : count_tables xs at ≡ count_tables xs r = ap (count_tables xs) here.0 in
            let index_is = here.1 in
            let index : count_tables xs at - 1 ≡ i = cc in
            let all : count_tables xs r ≡ i + 1 = grind (arith, nat_tests, some, same, index) in all
        | inr there ↦ are r there.0 i there.1
      ]

  last_end : (key : Key) (n : List ℕ) (at : Address) → AreLast at → AreLast (header_end xs at (n ∷ key))
  last_end [] n at are = last_child at n are
  last_end (m ∷ more) n at are = last_end more m (entered xs (child at n)) (last_entered (child at n) (last_child at n are))

-- so it is of what a line stands for, if it is so of the section
module _ (before : List Line) (l : Line) where
  abbrev xs : List Named
  xs = named before

  -- each index in the address is that of the last table behind the line
  abbrev IsCounted : Address → Type 0
  IsCounted at = AreLast (named (before ++ l ∷ [])) at

  -- behind a line without a header it stays so
  headless_counted : IsHeadless l.expr → (at : Address) → AreLast xs at → IsCounted at
  headless_counted head at are r rest i is = count_stays before l r head ∙ are r rest i is

  module _ (n : List ℕ) (key : Key) where
    -- and it is so behind the header of a table or of an element
    table_counted : named_by xs (length before) l.expr ≡ followed (length before) xs (ends_table (length before)) [] (n ∷ key) → IsCounted (header_end xs [] (n ∷ key))
    table_counted names r rest i is =
        let next = count_next before l r in
        let none = ap (λ ms. count_tables ms r) names ∙ count_table xs (length before) r n key in
        let was = last_end xs key n [] (last_root xs) r rest i is in
        omega (arith, next, none, was)

    array_counted : named_by xs (length before) l.expr ≡ followed (length before) xs (ends_tables (length before) xs) [] (n ∷ key)
        → IsCounted (element (header_end xs [] (n ∷ key)) (count_tables xs (header_end xs [] (n ∷ key))))
    array_counted names r rest i is =
        elim (last_or_earlier (header_end xs [] (n ∷ key)) r (Index (count_tables xs (header_end xs [] (n ∷ key)))) (Index i) rest is) [
          | inl here ↦
              let index_is = here.1 in
              let index : count_tables xs (header_end xs [] (n ∷ key)) ≡ i = cc in
              let was = ap (count_tables xs) here.0 in
              let one = new ∙ ap one_if (ap (λ a. same_address a r) here.0 ∙ self r) in
              let all : count_tables (named (before ++ l ∷ [])) r ≡ i + 1 = omega (arith, next, one, was, index) in all
          | inr there ↦
              let was = last_end xs key n [] (last_root xs) r there.0 i there.1 in
              let none = new ∙ ap one_if (differ (header_end xs [] (n ∷ key)) r (above_apart r (header_end xs [] (n ∷ key)) (Index i, there.0, there.1))) in
              let all : count_tables (named (before ++ l ∷ [])) r ≡ i + 1 = omega (arith, next, none, was) in all
        ]
      where
        next : count_tables (named (before ++ l ∷ [])) r ≡ count_tables xs r + count_tables (named_by xs (length before) l.expr) r
        next = count_next before l r

        new : count_tables (named_by xs (length before) l.expr) r ≡ one_if (same_address (header_end xs [] (n ∷ key)) r)
        new = ap (λ ms. count_tables ms r) names ∙ count_array xs (length before) r n key

  -- behind the line it is so of what the line stands for, and of the section
  own_next : AreLast xs (section xs) → (a : Address) → own_address xs l.expr ≡ Some a → IsCounted a
  own_next are a own = by l.expr refl
    where
      there : (b : Address) → own_address xs l.expr ≡ Some b → IsCounted b → IsCounted a
      there b is counted = subst IsCounted (same_Some b a (sym is ∙ own)) counted

      by : (e : Expr) → l.expr ≡ e → IsCounted a
      by (BlankLine b) is = none (sym (ap (own_address xs) is) ∙ own)
        where
          none : None ≡ Some a → IsCounted a
          none x = absurd cc
      by (KeyValLine ws pair tail) is =
          there (below (section xs) (key_names pair.assign.key)) (ap (own_address xs) is)
          (headless_counted (subst IsHeadless (sym is) tt) (below (section xs) (key_names pair.assign.key))
          (λ r rest i at. let inner = names_last (key_names pair.assign.key) (section xs) r rest i at in are r inner.0 i inner.1))
      by (TableLine ws header tail) is =
          there _ (ap (own_address xs) is) (table_counted (part_name header.key.first) (rest_names header.key.rest) (ap (named_by xs (length before)) is))
      by (ArrayTableLine ws header tail) is =
          there _ (ap (own_address xs) is) (array_counted (part_name header.key.first) (rest_names header.key.rest) (ap (named_by xs (length before)) is))

  section_next : AreLast xs (section xs) → IsCounted (section (named (before ++ l ∷ [])))
  section_next are = by l.expr refl
    where
      over : section (named (before ++ l ∷ [])) ≡ section (xs ++ named_by xs (length before) l.expr)
      over = ap section (named_next before l)

      headless : IsHeadless l.expr → section (xs ++ named_by xs (length before) l.expr) ≡ section xs → IsCounted (section (named (before ++ l ∷ [])))
      headless head is = subst IsCounted (sym (over ∙ is)) (headless_counted head (section xs) are)

      header : IsHeaderLine l.expr → IsCounted (section (named (before ++ l ∷ [])))
      header head = own_next are (section (named (before ++ l ∷ []))) (header_is_section before l head)

      by : (e : Expr) → l.expr ≡ e → IsCounted (section (named (before ++ l ∷ [])))
      by (BlankLine b) is = headless (subst IsHeadless (sym is) tt) (ap (λ e. section (xs ++ named_by xs (length before) e)) is ∙ ap section (append-nil xs))
      by (KeyValLine ws pair tail) is =
          headless (subst IsHeadless (sym is) tt)
          (ap (λ e. section (xs ++ named_by xs (length before) e)) is ∙ section_pair xs (length before) (section xs) pair.assign pair.value)
      by (TableLine ws h tail) is = header (subst IsHeaderLine (sym is) tt)
      by (ArrayTableLine ws h tail) is = header (subst IsHeaderLine (sym is) tt)

-- the section is in the last table of each array
section_on : (ls before : List Line) → AreLast (named before) (section (named before)) → AreLast (named (before ++ ls)) (section (named (before ++ ls)))
section_on [] before are = subst (λ bs. AreLast (named bs) (section (named bs))) (sym (append-nil before)) are
section_on (l ∷ ls) before are =
    subst (λ bs. AreLast (named bs) (section (named bs))) (append_assoc before (l ∷ []) ls) (section_on ls (before ++ l ∷ []) (section_next before l are))

section_counts : (before : List Line) → AreLast (named before) (section (named before))
section_counts before = section_on before [] (last_root (root ∷ []))

-- An index in the address of what a line stands for is that of the last table which the array has behind the line.
pub own_counts : (before : List Line) (l : Line) (a r rest : Address) (i : ℕ) → own_address (named before) l.expr ≡ Some a → a ≡ r ++ Index i ∷ rest
    → count_tables (named (before ++ l ∷ [])) r ≡ i + 1
own_counts before l a r rest i own is = own_next before l (section_counts before) a own r rest i is
