-- What a value names joins: the value at an address where nothing stands, and all inside it.
use Rattle.toml_names.proofs.Common.{◌≡◌, ℕ, ◌+◌, ◌<◌, ◌≤◌, false, List, [], ◌∷◌, ◌++◌, map, length, IsSome, Some, None, refl, sym, ap, ◌∙◌, subst, inl, arith, le_refl, below_more, append_assoc, none-some, Value, Scalar, Array, Inline, Items, Close, Last, More, Pairs, ClosePairs, LastPair, MorePairs, Step, Name, Index, Role, Dotted, Valued, Bare, Address, child, element, below, fact_at, IsFree, Key, part_name, rest_names, a_table, an_array, Named, kind_of, table_at, value_named, is_tables, count_tables, fronts, inside, elements, members, pair_named}
use Rattle.toml_names.proofs.lemmas.mentions.Adding.{IsPut, Puts, IsPut-nil, Puts-append, IsPut-fewer, IsAdded-one, IsAdded-name, IsPut-one}
use Rattle.toml_names.proofs.lemmas.mentions.Counting.{count_absent}
use Rattle.toml_names.proofs.lemmas.mentions.FactAt.{fact_here, fact_kept, fact_behind, there_is, fact_new, fact_other, stays}
use Rattle.toml_names.proofs.lemmas.mentions.Growing.{IsGrown, IsApart, free_at_name, apart_at_name, IsSuited, suited_mention}
use Rattle.toml_names.proofs.lemmas.model.Equal.{child_is_no_element, element_parts, one_longer}
use Rattle.toml_names.proofs.lemmas.mentions.Offences.{fits-from_misfit}
use Rattle.toml_names.proofs.lemmas.mentions.OfOneKind.{one_kind_new}

-- no longer than the address
abbrev pub NotLonger : Address → Address → Type 0
NotLonger at q = length q ≤ length at

-- nor the address itself
abbrev Beside : Address → Address → Type 0
Beside at q = NotLonger at q × ¬ (at ≡ q)

-- the value was just put at the address, and nothing is below it
pub record IsFresh (ms : List Named) (at : Address) (v : Value) : Type 0 where
  pub is : fact_at ms at ≡ Some (kind_of v)
  pub empty : (s : Step) → fact_at ms (at ++ s ∷ []) ≡ None
  pub alone : count_tables ms at ≡ 0

-- an array has its elements before the index, and no other
record IsFilled (ms : List Named) (at : Address) (i : ℕ) : Type 0 where
  array : fact_at ms at ≡ Some an_array
  before : (j : ℕ) → j < i → IsSome (fact_at ms (element at j))
  behind : (j : ℕ) → i ≤ j → fact_at ms (element at j) ≡ None
  alone : count_tables ms at ≡ 0

pub not_longer : (at q : Address) (s : Step) → length q ≤ length at → ¬ (at ++ s ∷ [] ≡ q)
not_longer at q s low same = let even : length (at ++ s ∷ []) ≡ length q = ap length same in omega (arith, one_longer at s)

wider : (at q : Address) (s : Step) → length q ≤ length at → length q ≤ length (at ++ s ∷ [])
wider at q s low = omega (arith, one_longer at s)

pub suited_value : (line : ℕ) (at : Address) (v : Value) → IsSuited (value_named line Valued at v)
suited_value line at v = record { kind = λ k h. absurd (none-some k h); bare = λ h. cc }

suited_element : (line : ℕ) (at : Address) (i : ℕ) (v : Value) → IsSuited (value_named line Bare (element at i) v)
suited_element line at i v = record { kind = λ k h. absurd (none-some k h); bare = λ _ q n same. child_is_no_element q at n i (sym same) }

-- of the value, once it stands somewhere
abbrev pub InsidePuts : ℕ → Value → Type 0
InsidePuts line v = (ms : List Named) (at : Address) → IsGrown ms → IsFresh ms at v → Puts (NotLonger at) ms (inside line at v)

module _ (line : ℕ) (v : Value) (inner : InsidePuts line v) where
  -- the value, and what is inside
  with_inside : (role : Role) (ms : List Named) (at : Address) → IsGrown ms → IsSuited (value_named line role at v) → is_tables role ≡ false
      → IsFree (fact_at ms) at → IsApart ms (value_named line role at v) → Puts (Beside at) ms (value_named line role at v ∷ inside line at v)
  with_inside role ms at grown suited plain free apart =
      let m = value_named line role at v in
      Puts-append (Beside at) (Beside at) ms (m ∷ []) (inside line at v) (λ q k. k)
      (λ none. IsPut-one (Beside at) ms m (IsAdded-one ms m grown (inl free) suited plain apart) plain (λ q k. k.1))
      (λ put none. IsPut-fewer (Beside at) (NotLonger at) (ms ++ m ∷ []) (inside line at v) (λ q k. k.0)
      (inner (ms ++ m ∷ []) at put.added.grown (record {
        is = fact_new ms m free.absent;
        empty = λ s. fact_other ms m (at ++ s ∷ []) (λ same. not_longer at at s (le_refl (length at)) (sym same)) ∙ grown.closed at s free.absent;
        alone = put.counts at ∙ count_absent ms at free.absent;
      }) none))

  element_puts : (ms : List Named) (at : Address) (i : ℕ) → IsGrown ms → IsFilled ms at i
      → Puts (Beside (element at i)) ms (value_named line Bare (element at i) v ∷ inside line (element at i) v)
  element_puts ms at i grown filled =
      with_inside Bare ms (element at i) grown (suited_element line at i v) refl
      (record { parent = at; last = Index i; is = refl; absent = filled.behind i (le_refl i); next = (filled.array, filled.before) })
      (λ q j same none. subst (λ a. count_tables ms a ≡ 0) (element_parts at q i j same).0 filled.alone)

  -- a pair in a table
  pub pair_puts : (ns : Key) (n : List ℕ) (K : Address → Type 0) (ms : List Named) (at : Address) → ((q : Address) → K q → NotLonger at q) → IsGrown ms → fact_at ms at ≡ Some a_table
      → Puts K ms (fronts line at (n ∷ ns) ++ (value_named line Valued (below at (n ∷ ns)) v ∷ inside line (below at (n ∷ ns)) v))
  pair_puts [] n K ms at short grown table = λ none.
      let m = value_named line Valued (child at n) v in
      let suited = suited_value line (child at n) v in
      let good = fits-from_misfit ms (inside line (child at n) v) m none in
      let free = free_at_name ms m at n grown suited (λ h. cc) good refl table refl in
      IsPut-fewer K (Beside (child at n)) ms (m ∷ inside line (child at n) v) (λ q k. (wider at q (Name n) (short q k), not_longer at q (Name n) (short q k)))
      (with_inside Valued ms (child at n) grown suited refl free (apart_at_name ms m at n refl) none)
  pair_puts (o ∷ ns) n K ms at short grown table =
      let m = table_at line Dotted (child at n) in
      let behind = λ (a : Address). fronts line (child at n) (o ∷ ns) ++ (value_named line Valued a v ∷ inside line a v) in
      Puts-append K K ms (m ∷ []) (behind (below at (n ∷ o ∷ ns))) (λ q k. k)
      (λ none.
      let good = fits-from_misfit ms [] m none in
      let added = IsAdded-name ms m at n grown (suited_mention m refl (λ h. cc)) (λ h. cc) refl good refl table in
      IsPut-one K ms m added refl (λ q k. not_longer at q (Name n) (short q k)))
      (λ put. subst (λ a. Puts K (ms ++ m ∷ []) (behind a)) (append_assoc at (Name n ∷ []) (map Name (o ∷ ns)))
      (pair_puts ns o K (ms ++ m ∷ []) (child at n) (λ q k. wider at q (Name n) (short q k)) put.added.grown (one_kind_new ms m put.added.joins.0)))

-- one more element is there
filled_more : (ms xs : List Named) (m : Named) (at : Address) (i : ℕ) → m.address ≡ element at i → IsFilled ms at i → IsPut (Beside (element at i)) ms (m ∷ xs)
    → IsFilled (ms ++ (m ∷ xs)) at (i + 1)
filled_more ms xs m at i is filled put = record {
  array = fact_kept ms (m ∷ xs) at an_array filled.array;
  before = below_more (λ j. IsSome (fact_at (ms ++ (m ∷ xs)) (element at j))) i (λ j low. stays ms (m ∷ xs) (element at j) (filled.before j low))
      (there_is _ m.kind (fact_behind ms (m ∷ xs) (element at i) (filled.behind i (le_refl i)) ∙ fact_here m xs (element at i) is));
  behind = λ j past. put.kept (element at j) (
    omega (arith, one_longer at (Index i), one_longer at (Index j)),
    λ same.
        let number = (element_parts at at i j same).1 in
        absurd (omega arith),
  ) ∙ filled.behind j (omega arith);
  alone = put.counts at ∙ filled.alone;
}

filled_none : (ms : List Named) (at : Address) → fact_at ms at ≡ Some an_array → ((s : Step) → fact_at ms (at ++ s ∷ []) ≡ None) → count_tables ms at ≡ 0 → IsFilled ms at 0
filled_none ms at array empty alone = record { array = array; before = λ j low. absurd (omega arith); behind = λ j past. empty (Index j); alone = alone }

-- what is beside an element has an address at least as long
beside_element : (at : Address) (i : ℕ) (q : Address) → NotLonger at q → Beside (element at i) q
beside_element at i q short = (wider at q (Index i) short, not_longer at q (Index i) short)

mutual
  pub inside_puts : (line : ℕ) (v : Value) → InsidePuts line v
  inside_puts line (Scalar kind p) ms at grown fresh = λ none. IsPut-nil (NotLonger at) ms grown
  inside_puts line (Array whole is) ms at grown fresh = elements_put line is 0 ms at grown (filled_none ms at fresh.is fresh.empty fresh.alone)
  inside_puts line (Inline whole ps) ms at grown fresh = members_put line ps ms at grown fresh.is

  elements_put : (line : ℕ) (is : Items) (i : ℕ) (ms : List Named) (at : Address) → IsGrown ms → IsFilled ms at i → Puts (NotLonger at) ms (elements line at i is)
  elements_put line (Close g) i ms at grown filled = λ none. IsPut-nil (NotLonger at) ms grown
  elements_put line (Last g v h) i ms at grown filled = λ none.
      let new = value_named line Bare (element at i) v ∷ inside line (element at i) v in
      IsPut-fewer (NotLonger at) (Beside (element at i)) ms new (beside_element at i) (element_puts line v (inside_puts line v) ms at i grown filled none)
  elements_put line (More g v h is) i ms at grown filled =
      let m = value_named line Bare (element at i) v in
      let within = inside line (element at i) v in
      Puts-append (NotLonger at) (Beside (element at i)) ms (m ∷ within) (elements line at (i + 1) is) (beside_element at i)
      (element_puts line v (inside_puts line v) ms at i grown filled)
      (λ put. elements_put line is (i + 1) (ms ++ (m ∷ within)) at put.added.grown (filled_more ms within m at i refl filled put))

  members_put : (line : ℕ) (ps : Pairs) (ms : List Named) (at : Address) → IsGrown ms → fact_at ms at ≡ Some a_table → Puts (NotLonger at) ms (members line at ps)
  members_put line (ClosePairs g) ms at grown table = λ none. IsPut-nil (NotLonger at) ms grown
  members_put line (LastPair g a v h) ms at grown table =
      pair_puts line v (inside_puts line v) (rest_names a.key.rest) (part_name a.key.first) (NotLonger at) ms at (λ q k. k) grown table
  members_put line (MorePairs g a v h ps) ms at grown table =
      let pair = pair_named line at a v in
      Puts-append (NotLonger at) (NotLonger at) ms pair (members line at ps) (λ q k. k)
      (pair_puts line v (inside_puts line v) (rest_names a.key.rest) (part_name a.key.first) (NotLonger at) ms at (λ q k. k) grown table)
      (λ put. members_put line ps (ms ++ pair) at put.added.grown (fact_kept ms pair at a_table table))
