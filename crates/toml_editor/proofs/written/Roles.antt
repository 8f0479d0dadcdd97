-- What roles say of what lines name: where values stand, what is a table and what an array, and that elements come in turn.
use Rattle.std.proofs.Common.{◌≡◌, ◌≤◌, ℕ, ◌+◌, false, List, [], ◌∷◌, ◌++◌, refl, sym, ap, ◌∙◌, subst, true≢false, append_assoc, arith}
use Rattle.std.specs.List.{list_any}
use Rattle.std.proofs.lemmas.Bool.{or_parts}
use Rattle.toml_tree.specs.Spells.{EachIs}
use Rattle.toml_tree.specs.Tree.{Assign, Value, Scalar, Array, Inline, Items, Close, Last, More, Pairs, ClosePairs, LastPair, MorePairs, Expr, BlankLine, KeyValLine, TableLine, ArrayTableLine, Line}
use Rattle.toml_names.specs.declared.mentions.mention.Role.{Role}
use Rattle.toml_names.specs.declared.mentions.mention.Role.TheVariants.{Passed, Header, Dotted, Valued, Tables, Element, Bare}
use Rattle.toml_names.specs.mentions.Keys.{Key, key_names}
use Rattle.toml_names.specs.mentions.Mentions.{Kind, Named, a_table, an_array, named, named_by, named_from, root, table_at, fronts, inside, elements, members, pair_named, value_named, entered, followed, ends_table, ends_tables, section, count_tables, is_tables, is_section}
use Rattle.toml_names.specs.model.Addresses.{Address, IsAbove, child, element, below}
use Rattle.toml_names.proofs.Proved.{count-append, inside_is_below}
use Rattle.toml_layout.specs.Beginnings.{begins}
use Rattle.toml_working.specs.Standing.{holds, line_stands, standing, standing_from}
use Rattle.toml_editor.proofs.Each.{each_append, each_weaker}
use Rattle.toml_editor.proofs.written.DocumentSections.{begins_longer}
use Rattle.toml_editor.proofs.written.Plain.{behind}

-- ---- lines

-- what holds of what a header's key passes, and of its end, holds of what it names
followed_each : (P : Named → Type 0) (n : ℕ) (xs : List Named) (e : Address → List Named) → ((a : Address) → P (table_at n Passed a)) → ((to : Address) → EachIs P (e to))
    → (key : Key) (at : Address) → EachIs P (followed n xs e at key)
followed_each P n xs e passed ends [] at = tt
followed_each P n xs e passed ends (k ∷ []) at = ends (child at k)
followed_each P n xs e passed ends (k ∷ l ∷ more) at = (passed (entered xs (child at k)), followed_each P n xs e passed ends (l ∷ more) (entered xs (child at k)))

-- what stands where something is named in the role, but for values and elements in values
abbrev pub RoleHas : Role → Kind → Type 0
RoleHas Valued k = Unit {0}
RoleHas Bare k = Unit {0}
RoleHas Tables k = k ≡ an_array
RoleHas Passed k = k ≡ a_table
RoleHas Header k = k ≡ a_table
RoleHas Dotted k = k ≡ a_table
RoleHas Element k = k ≡ a_table

-- it is of the kind that its role tells
abbrev pub HasKind : Named → Type 0
HasKind m = RoleHas m.role m.kind

-- a header does not pass it
abbrev pub IsUnpassed : Named → Type 0
IsUnpassed m = ¬ (m.role ≡ Passed)

-- nor is it an array of tables, or named by a header
abbrev pub IsPart : Named → Type 0
IsPart m = IsUnpassed m × (is_tables m.role ≡ false) × (is_section m.role ≡ false) × HasKind m

fronts_parts : (n : ℕ) (key : Key) (at : Address) → EachIs IsPart (fronts n at key)
fronts_parts n [] at = tt
fronts_parts n (k ∷ []) at = tt
fronts_parts n (k ∷ l ∷ more) at = (((λ is. cc), refl, refl, refl), fronts_parts n (l ∷ more) (child at k))

pair_by : (n : ℕ) (a : Assign) (v : Value) (at : Address) → ((to : Address) → EachIs IsPart (inside n to v)) → EachIs IsPart (pair_named n at a v)
pair_by n a v at within =
    each_append IsPart (fronts n at (key_names a.key)) _ (fronts_parts n (key_names a.key) at) (((λ is. cc), refl, refl, tt), within (below at (key_names a.key)))

mutual
  inside_parts : (n : ℕ) (v : Value) (at : Address) → EachIs IsPart (inside n at v)
  inside_parts n (Scalar kind p) at = tt
  inside_parts n (Array whole items) at = elements_parts n items at 0
  inside_parts n (Inline whole pairs) at = members_parts n pairs at

  elements_parts : (n : ℕ) (items : Items) (at : Address) (i : ℕ) → EachIs IsPart (elements n at i items)
  elements_parts n (Close g) at i = tt
  elements_parts n (Last g v h) at i = (((λ is. cc), refl, refl, tt), inside_parts n v (element at i))
  elements_parts n (More g v h is) at i =
      (((λ is. cc), refl, refl, tt), each_append IsPart (inside n (element at i) v) _ (inside_parts n v (element at i)) (elements_parts n is at (i + 1)))

  members_parts : (n : ℕ) (pairs : Pairs) (at : Address) → EachIs IsPart (members n at pairs)
  members_parts n (ClosePairs g) at = tt
  members_parts n (LastPair g a v h) at = pair_by n a v at (inside_parts n v)
  members_parts n (MorePairs g a v h ps) at = each_append IsPart (pair_named n at a v) _ (pair_by n a v at (inside_parts n v)) (members_parts n ps at)

pub pair_parts : (n : ℕ) (a : Assign) (v : Value) (at : Address) → EachIs IsPart (pair_named n at a v)
pair_parts n a v at = pair_by n a v at (inside_parts n v)

-- ---- kinds

line_kinds : (xs : List Named) (n : ℕ) (e : Expr) → EachIs HasKind (named_by xs n e)
line_kinds xs n (BlankLine b) = tt
line_kinds xs n (KeyValLine ws pair tail) =
    each_weaker IsPart HasKind (λ m part. part.3) (pair_named n (section xs) pair.assign pair.value) (pair_parts n pair.assign pair.value (section xs))
line_kinds xs n (TableLine ws h tail) = followed_each HasKind n xs (ends_table n) (λ a. refl) (λ to. (refl, tt)) (key_names h.key) []
line_kinds xs n (ArrayTableLine ws h tail) = followed_each HasKind n xs (ends_tables n xs) (λ a. refl) (λ to. (refl, (refl, tt))) (key_names h.key) []

kinds_from : (ls : List Line) (xs : List Named) (n : ℕ) → EachIs HasKind xs → EachIs HasKind (named_from xs n ls)
kinds_from [] xs n are = are
kinds_from (l ∷ ls) xs n are = kinds_from ls (xs ++ named_by xs n l.expr) (n + 1) (each_append HasKind xs (named_by xs n l.expr) are (line_kinds xs n l.expr))

-- An array of tables is an array; what a header names, or passes, or a dotted key passes, is a table.
pub kinds_are : (lines : List Line) → EachIs HasKind (named lines)
kinds_are lines = kinds_from lines (root ∷ []) 0 (tt, tt)

-- ---- elements

-- an element that a header names has at least this many before it
abbrev pub IsLater : List Named → Named → Type 0
IsLater xs m = m.role ≡ Element → (c : Address) × (i : ℕ) × (m.address ≡ element c i) × (count_tables xs c ≤ i)

part_later : (xs : List Named) (m : Named) → IsPart m → IsLater xs m
part_later xs m part is = absurd (true≢false (ap is_section (sym is) ∙ part.2))

line_later : (xs : List Named) (n : ℕ) (e : Expr) → EachIs (IsLater xs) (named_by xs n e)
line_later xs n (BlankLine b) = tt
line_later xs n (KeyValLine ws pair tail) =
    each_weaker IsPart (IsLater xs) (part_later xs) (pair_named n (section xs) pair.assign pair.value) (pair_parts n pair.assign pair.value (section xs))
line_later xs n (TableLine ws h tail) = followed_each (IsLater xs) n xs (ends_table n) (λ a is. cc) (λ to. ((λ is. cc), tt)) (key_names h.key) []
line_later xs n (ArrayTableLine ws h tail) =
    followed_each (IsLater xs) n xs (ends_tables n xs) (λ a is. cc) (λ to. ((λ is. cc), ((λ is. (to, count_tables xs to, refl, omega arith)), tt))) (key_names h.key) []

later_more : (xs new : List Named) (m : Named) → IsLater (xs ++ new) m → IsLater xs m
later_more xs new m later is =
    let (c, i, at, low) = later is in
    (c, i, at, (let both = count-append xs new c in omega (arith, both, low)))

-- Behind what was named before, lines name later elements.
pub all_later : (ls : List Line) (xs : List Named) → EachIs (IsLater xs) (behind xs ls)
all_later [] xs = tt
all_later (l ∷ ls) xs =
    let new = named_by xs 0 l.expr in
    each_append (IsLater xs) new (behind (xs ++ new) ls) (line_later xs 0 l.expr)
    (each_weaker (IsLater (xs ++ new)) (IsLater xs) (later_more xs new) (behind (xs ++ new) ls) (all_later ls (xs ++ new)))

-- ---- values

-- no value of which the other stands at or below it
abbrev pub IsNotOver : Address → Named → Type 0
IsNotOver q m = m.role ≡ Valued → (s : Address) → ¬ (q ≡ m.address ++ s)

module _ (q : Address) where
  not_begun : (to rest : Address) → begins to q ≡ false → ¬ (q ≡ to ++ rest)
  not_begun to rest not is = true≢false (sym (begins_longer to rest) ∙ ap (begins to) (sym is) ∙ not)

  fronts_not_over : (n : ℕ) (key : Key) (at : Address) → EachIs (IsNotOver q) (fronts n at key)
  fronts_not_over n [] at = tt
  fronts_not_over n (k ∷ []) at = tt
  fronts_not_over n (k ∷ l ∷ more) at = ((λ is. cc), fronts_not_over n (l ∷ more) (child at k))

  pair_not_over : (n : ℕ) (a : Assign) (v : Value) (at : Address) → begins (below at (key_names a.key)) q ≡ false → EachIs (IsNotOver q) (pair_named n at a v)
  pair_not_over n a v at not =
      let to = below at (key_names a.key) in
      each_append (IsNotOver q) (fronts n at (key_names a.key)) (value_named n Valued to v ∷ inside n to v) (fronts_not_over n (key_names a.key) at) (
        (λ is s. not_begun to s not),
        each_weaker (λ m. IsAbove to m.address) (IsNotOver q)
            (λ m above is s at_it. not_begun to (above.0 ∷ (above.1 ++ s)) not (at_it ∙ ap (λ (a : Address). a ++ s) above.2 ∙ append_assoc to (above.0 ∷ above.1) s))
            (inside n to v) (inside_is_below n v to),
      )

  line_not_over : (xs : List Named) (n : ℕ) (l : Line) → holds q (line_stands xs l) ≡ false → EachIs (IsNotOver q) (named_by xs n l.expr)
  line_not_over xs n l not = by l.expr refl
    where
      Goal : Expr → Type 0
      Goal e = EachIs (IsNotOver q) (named_by xs n e)

      by : (e : Expr) → l.expr ≡ e → Goal l.expr
      by (BlankLine b) is = subst Goal (sym is) tt
      by (KeyValLine ws pair tail) is =
          subst Goal (sym is)
          (pair_not_over n pair.assign pair.value (section xs) (ap (λ e. holds q (line_stands xs (record { expr = e; newline = l.newline }))) (sym is) ∙ not))
      by (TableLine ws h tail) is = subst Goal (sym is) (followed_each (IsNotOver q) n xs (ends_table n) (λ a is. cc) (λ to. ((λ is. cc), tt)) (key_names h.key) [])
      by (ArrayTableLine ws h tail) is =
          subst Goal (sym is) (followed_each (IsNotOver q) n xs (ends_tables n xs) (λ a is. cc) (λ to. ((λ is. cc), ((λ is. cc), tt))) (key_names h.key) [])

  from_not_over : (ls : List Line) (xs : List Named) (n : ℕ) → list_any (holds q) (standing_from xs n ls) ≡ false → EachIs (IsNotOver q) xs
      → EachIs (IsNotOver q) (named_from xs n ls)
  from_not_over [] xs n none are = are
  from_not_over (l ∷ ls) xs n none are =
      let new = named_by xs n l.expr in
      let (here, rest) = or_parts (holds q (line_stands xs l)) (list_any (holds q) (standing_from (xs ++ new) (n + 1) ls)) none in
      from_not_over ls (xs ++ new) (n + 1) rest (each_append (IsNotOver q) xs new are (line_not_over xs n l here))

  -- where no line's value stands at the address or above it, none does that is named
  pub none_over : (lines : List Line) → list_any (holds q) (standing lines) ≡ false → EachIs (IsNotOver q) (named lines)
  none_over lines none = from_not_over lines (root ∷ []) 0 none ((λ is. cc), tt)
