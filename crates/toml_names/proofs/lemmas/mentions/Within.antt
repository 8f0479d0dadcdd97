-- What holds of each thing that a pair or a value names, by one induction over values: it is of the line, strictly below the address where the
-- value stands, no array of tables, and no header.
use Rattle.toml_names.proofs.Common.{◌≡◌, ℕ, ◌+◌, false, List, [], ◌∷◌, ◌++◌, refl, ap, ◌∙◌, append_assoc, EachIs, Assign, Value, Scalar, Array, Inline, Items, Close, Last, More, Pairs, ClosePairs, LastPair, MorePairs, Name, Index, Address, IsAbove, child, element, below, Key, part_name, key_names, Named, is_tables, is_section, fronts, inside, elements, members, pair_named, arith, sum_by-append, CountsAdd, count_tables}
use Rattle.toml_names.proofs.Each.{each_append, each_weaker}
use Rattle.toml_names.proofs.lemmas.mentions.Counting.{adds, count_plain}

pub record IsWithin (line : ℕ) (at : Address) (m : Named) : Type 0 where
  pub below : IsAbove at m.address
  pub of : m.line ≡ line
  pub plain : is_tables m.role ≡ false
  pub no_header : is_section m.role ≡ false

abbrev pub AreWithin : ℕ → Address → List Named → Type 0
AreWithin line at = EachIs (IsWithin line at)

above-trans : (a b c : Address) → IsAbove a b → IsAbove b c → IsAbove a c
above-trans a b c h g = (h.0, h.1 ++ g.0 ∷ g.1, g.2 ∙ ap (λ x. x ++ g.0 ∷ g.1) h.2 ∙ append_assoc a (h.0 ∷ h.1) (g.0 ∷ g.1))

deeper : (line : ℕ) (a b : Address) (ms : List Named) → IsAbove a b → AreWithin line b ms → AreWithin line a ms
deeper line a b ms h = each_weaker (IsWithin line b) (IsWithin line a) (λ m w. record { below = above-trans a b m.address h w.below; of = w.of; plain = w.plain; no_header = w.no_header }) ms

-- the thing itself, and what is within it
one_within : (line : ℕ) (at : Address) (m : Named) (ms : List Named) → IsWithin line at m → AreWithin line m.address ms → AreWithin line at (m ∷ ms)
one_within line at m ms one within = (one, deeper line at m.address ms one.below within)

fronts_within : (line : ℕ) (key : Key) (at : Address) → AreWithin line at (fronts line at key)
fronts_within line [] at = tt
fronts_within line (n ∷ []) at = tt
fronts_within line (n ∷ m ∷ more) at = one_within line at _ _ (record { below = (Name n, [], refl); of = refl; plain = refl; no_header = refl }) (fronts_within line (m ∷ more) (child at n))

pair_by : (line : ℕ) (at : Address) (a : Assign) (v : Value) → ((to : Address) → AreWithin line to (inside line to v)) → AreWithin line at (pair_named line at a v)
pair_by line at a v within =
    each_append (IsWithin line at) (fronts line at (key_names a.key)) _ (fronts_within line (key_names a.key) at)
    (one_within line at _ _ (record { below = (Name (part_name a.key.first), _, refl); of = refl; plain = refl; no_header = refl }) (within (below at (key_names a.key))))

mutual
  pub inside_within : (line : ℕ) (v : Value) (at : Address) → AreWithin line at (inside line at v)
  inside_within line (Scalar kind p) at = tt
  inside_within line (Array whole items) at = elements_within line items at 0
  inside_within line (Inline whole pairs) at = members_within line pairs at

  elements_within : (line : ℕ) (items : Items) (at : Address) (i : ℕ) → AreWithin line at (elements line at i items)
  elements_within line (Close g) at i = tt
  elements_within line (Last g v h) at i = one_within line at _ _ (record { below = (Index i, [], refl); of = refl; plain = refl; no_header = refl }) (inside_within line v (element at i))
  elements_within line (More g v h is) at i =
      let one = one_within line at _ _ (record { below = (Index i, [], refl); of = refl; plain = refl; no_header = refl }) (inside_within line v (element at i)) in
      (one.0, each_append (IsWithin line at) (inside line (element at i) v) _ one.1 (elements_within line is at (i + 1)))

  members_within : (line : ℕ) (pairs : Pairs) (at : Address) → AreWithin line at (members line at pairs)
  members_within line (ClosePairs g) at = tt
  members_within line (LastPair g a v h) at = pair_by line at a v (inside_within line v)
  members_within line (MorePairs g a v h ps) at = each_append (IsWithin line at) (pair_named line at a v) _ (pair_by line at a v (inside_within line v)) (members_within line ps at)

pub pair_within : (line : ℕ) (at : Address) (a : Assign) (v : Value) → AreWithin line at (pair_named line at a v)
pair_within line at a v = pair_by line at a v (inside_within line v)

-- no array of tables is named
abbrev pub HasNoTables : List Named → Type 0
HasNoTables ms = (at : Address) → count_tables ms at ≡ 0

pub count-append : CountsAdd
count-append xs ys at = sum_by-append (adds at) xs ys

pub no_tables-append : (xs ys : List Named) → HasNoTables xs → HasNoTables ys → HasNoTables (xs ++ ys)
no_tables-append xs ys first then at = let zero_first = first at in let zero_then = then at in omega (arith, count-append xs ys at)

pub no_tables-front : (xs ys : List Named) → HasNoTables (xs ++ ys) → HasNoTables xs
no_tables-front xs ys none at = let all = none at in omega (arith, count-append xs ys at)

no_tables-cons : (m : Named) (ms : List Named) → is_tables m.role ≡ false → HasNoTables ms → HasNoTables (m ∷ ms)
no_tables-cons m ms plain none = no_tables-append (m ∷ []) ms (λ at. count_plain [] m at plain) none

no_tables-within : (line : ℕ) (at : Address) (ms : List Named) → AreWithin line at ms → HasNoTables ms
no_tables-within line at [] within = λ q. refl
no_tables-within line at (m ∷ ms) within = no_tables-cons m ms within.0.plain (no_tables-within line at ms within.1)

pub no_tables-inside : (line : ℕ) (v : Value) (at : Address) → HasNoTables (inside line at v)
no_tables-inside line v at = no_tables-within line at (inside line at v) (inside_within line v at)

pub no_tables-pair : (line : ℕ) (at : Address) (a : Assign) (v : Value) → HasNoTables (pair_named line at a v)
no_tables-pair line at a v = no_tables-within line at (pair_named line at a v) (pair_within line at a v)
