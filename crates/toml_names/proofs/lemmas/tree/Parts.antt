-- The parts right below a node: its elements, and its names in the order of their bytes.
use Rattle.toml_names.proofs.Common.{◌≡◌, ℕ, suc, ◌+◌, ◌<◌, Bool, true, false, cond, List, [], ◌∷◌, ◌++◌, length, length-map, map-append, get_or, get_or-map, take, take_more, Vec, Global, Result, Ok, Err, IfOk, Option, Some, None, IsSome, Name, Contains, Bor, refl, sym, ap, subst, ◌∙◌, true≢false, none-some, arith, slice_index_or, slice_get, slice_get-get_or, slice_get_within, get_or_from_slice_get, lookup, keys_of, bytes_eq, bytes_eq-Decides, is_eq, is_eq-slice_cmp, slice_cmp, nat_cmp, nat_list_eq_equiv, AllByRecursion, AreDistinct, IsTree, Spot, nowhere, Address, below_node}
use Rattle.std.proofs.lemmas.Cmp.{nat_cmp_total, nat_list_cmp_total, on_total, then_total}
use Rattle.std.proofs.lemmas.List.Sorted.{Contains-permutation, IsPermutation-map, IsPermutation-refl, IsPermutation-sym, sorted_far, ranks_by}
use Rattle.std.proofs.lemmas.Map.Keys.{IsDistinct-IsPermutation, IsDistinct-head, IsDistinct-tail}
use Rattle.std.specs.Prelude.{OnOk}
use Rattle.std.specs.List.{IsDistinct}
use Rattle.std.specs.List.Sorted.{IsPermutation, IsSortedBy, IsStrictlySortedBy}
use Rattle.std.proofs.Common.{Ordering, Less, Equal, Greater}
use Rattle.std.specs.Ordering.{ordering_reverse, ordering_then, is_lt}
use Rattle.toml_names.specs.reader.Parts.{AreItems, AreMembers, plain_members}
use Rattle.toml_names.proofs.lemmas.tree.Distinct.{found_at}
use Rattle.toml_names.specs.tree.Held.{below_in}
use Rattle.toml_names.proofs.lemmas.tree.Held.{at_name, at_index, children_distinct}
use Rattle.toml_names.proofs.lemmas.tree.NodeData.{below_name, below_element}

abbrev Pairs : Type 0
Pairs = List (List ℕ × ℕ)

-- names that are lent, and nodes
abbrev pub Lent : Type 0
Lent = Bor (List ℕ) × ℕ

abbrev cmp : List ℕ → List ℕ → Ordering
cmp = slice_cmp nat_cmp

-- pairs that sort by name, and then by node
abbrev pub pair_cmp : Lent → Lent → Ordering
pair_cmp x y = ordering_then (cmp x.0.now y.0.now) (nat_cmp x.1 y.1)

-- a pair is among pairs of which its name leads to its node
pair_there : (n : List ℕ) (v : ℕ) (es : Pairs) → lookup (bytes_eq n) es ≡ Some v → Contains es (n, v)
pair_there n v [] is = absurd (none-some v is)
pair_there n v (e ∷ es) is = by (bytes_eq n e.0) refl is (pair_there n v es)
  where
    by : (b : Bool) → bytes_eq n e.0 ≡ b → cond b (Some e.1) (lookup (bytes_eq n) es) ≡ Some v → (lookup (bytes_eq n) es ≡ Some v → Contains es (n, v)) → Contains (e ∷ es) (n, v)
    by true same here behind =
        let name : n ≡ e.0 = (bytes_eq-Decides n e.0).0 same in
        let node : e.1 ≡ v = cc in
        (0, omega arith, rw (name, ← node) refl)
    by false other later behind = let c = behind later in (suc c.0, omega (arith, c.1), c.2)

pair_found : (n : List ℕ) (v : ℕ) (es : Pairs) → AreDistinct es → Contains es (n, v) → lookup (bytes_eq n) es ≡ Some v
pair_found n v es are c = found_at es are c.0 n v (slice_get-get_or es c.0 (n, v) c.1 ∙ ap Some c.2)

-- names lead where they led, when the pairs change places
some_moved : (n : List ℕ) (v : ℕ) (es fs : Pairs) → AreDistinct fs → IsPermutation es fs → lookup (bytes_eq n) es ≡ Some v → lookup (bytes_eq n) fs ≡ Some v
some_moved n v es fs are moves is = pair_found n v fs are (Contains-permutation es fs (n, v) moves (pair_there n v es is))

pub lookup_moved : (n : List ℕ) (es fs : Pairs) → AreDistinct es → AreDistinct fs → IsPermutation es fs → lookup (bytes_eq n) es ≡ lookup (bytes_eq n) fs
lookup_moved n es fs are_es are_fs moves = by (lookup (bytes_eq n) es) (lookup (bytes_eq n) fs) refl refl
  where
    by : (o p : Option ℕ) → lookup (bytes_eq n) es ≡ o → lookup (bytes_eq n) fs ≡ p → lookup (bytes_eq n) es ≡ lookup (bytes_eq n) fs
    by (Some v) p is to = is ∙ sym (some_moved n v es fs are_fs moves is)
    by None (Some v) is to = absurd (none-some v (sym is ∙ some_moved n v fs es are_es (IsPermutation-sym es fs moves) to))
    by None None is to = is ∙ sym to

-- distinct names stay distinct
fresh_back : (n : List ℕ) (es : Pairs) → AllByRecursion (λ y. bytes_eq n y ≡ false) (keys_of es) → lookup (bytes_eq n) es ≡ None
fresh_back n [] all = refl
fresh_back n (e ∷ es) all = rw all.0 (fresh_back n es all.1)

are_distinct : (es : Pairs) → IsDistinct bytes_eq (keys_of es) → AreDistinct es
are_distinct [] are = tt
are_distinct (e ∷ es) are = (fresh_back e.0 es (IsDistinct-head bytes_eq e.0 (keys_of es) are), are_distinct es (IsDistinct-tail bytes_eq e.0 (keys_of es) are))

keys_moved : (es fs : Pairs) → AreDistinct es → IsPermutation es fs → IsDistinct bytes_eq (keys_of fs)
keys_moved es fs are moves =
    IsDistinct-IsPermutation bytes_eq nat_list_eq_equiv.symm (keys_of es) (keys_of fs) (IsPermutation-map (λ e. e.0) es fs moves) (children_distinct es are)

pub distinct_moved : (es fs : Pairs) → AreDistinct es → IsPermutation es fs → AreDistinct fs
distinct_moved es fs are moves = are_distinct fs (keys_moved es fs are moves)

-- another name that comes no earlier comes later
comes_later : (a b : List ℕ) (m n : ℕ) → is_lt (ordering_then (cmp b a) (nat_cmp n m)) ≡ false → bytes_eq a b ≡ false → cmp a b ≡ Less
comes_later a b m n no_less other = by (cmp b a) refl no_less
  where
    by : (o : Ordering) → cmp b a ≡ o → is_lt (ordering_then o (nat_cmp n m)) ≡ false → cmp a b ≡ Less
    by Less is low = absurd (true≢false low)
    by Equal is low = absurd (true≢false (sym (sym (is_eq-slice_cmp a b) ∙ ap is_eq (nat_list_cmp_total.antisymm a b ∙ ap ordering_reverse is)) ∙ other))
    by Greater is low = nat_list_cmp_total.antisymm a b ∙ ap ordering_reverse is

above_all : (e : Lent) (es : List Lent) → ((j : ℕ) → j < length es → is_lt (pair_cmp (get_or es j e) e) ≡ false)
    → AllByRecursion (λ y. bytes_eq e.0.now y ≡ false) (keys_of (plain_members es)) → AllByRecursion (λ y. cmp e.0.now y ≡ Less) (keys_of (plain_members es))
above_all e [] low other = tt
above_all e (x ∷ es) low other = (comes_later e.0.now x.0.now e.1 x.1 (low 0 (omega arith)) other.0, above_all e es (λ j at. low (suc j) (omega arith)) other.1)

abbrev pub IsInOrder : List Lent → Type 0
IsInOrder = IsSortedBy (λ x y. is_lt (pair_cmp x y))

order_tail : (e : Lent) (es : List Lent) → IsInOrder (e ∷ es) → IsInOrder es
order_tail e es up k d low high =
    let next : suc k + 1 ≡ suc (k + 1) = omega arith in
    subst (λ n. is_lt (pair_cmp (get_or (e ∷ es) n d) (get_or es k d)) ≡ false) next (up (suc k) d (omega arith) (omega arith))

-- sorted pairs with distinct names strictly ascend
ascending : (es : List Lent) → IsInOrder es → IsDistinct bytes_eq (keys_of (plain_members es)) → IsStrictlySortedBy cmp (keys_of (plain_members es))
unfolding IsStrictlySortedBy
ascending [] up are = tt
ascending (e ∷ es) up are = (
  above_all e es
      (λ j at. sorted_far (λ x y. is_lt (pair_cmp x y)) (ranks_by (then_total (on_total (λ (x : Lent). x.0.now) nat_list_cmp_total) (on_total (λ (x : Lent). x.1) nat_cmp_total)) (λ x. x)) (e ∷ es) up 0 (suc j) e (omega arith) (omega arith))
      (IsDistinct-head bytes_eq e.0.now (keys_of (plain_members es)) are),
  ascending es (order_tail e es up) (IsDistinct-tail bytes_eq e.0.now (keys_of (plain_members es)) are),
)

pub sorted_ascend : (names : Pairs) (es fs : List Lent) → AreDistinct names → plain_members es ≡ names → IsPermutation es fs → IsInOrder fs
    → IsPermutation names (plain_members fs) × IsStrictlySortedBy cmp (keys_of (plain_members fs))
sorted_ascend names es fs are is moves up =
    let plain : IsPermutation names (plain_members fs) = subst (λ l. IsPermutation l (plain_members fs)) is (IsPermutation-map (λ (e : Lent). (e.0.now, e.1)) es fs moves) in
    (plain, ascending fs up (keys_moved names (plain_members fs) are plain))

-- one pair more, in their first order
pub pairs_more : (names : Pairs) (i : ℕ) (old new : List Lent) (e : Lent) → plain_members old ≡ take i names → Some (e.0.now, e.1) ≡ slice_get names i → new ≡ old ++ e ∷ [] → plain_members new ≡ take (i + 1) names
pairs_more names i old new e so_far is pushed =
    let p : List ℕ × ℕ = (e.0.now, e.1) in
    ap plain_members pushed ∙ map-append (λ (x : Lent). (x.0.now, x.1)) old (e ∷ []) ∙ ap (λ l. l ++ p ∷ []) so_far
    ∙ ap (λ q. take i names ++ q ∷ []) (sym (get_or_from_slice_get names i p p (sym is))) ∙ sym (take_more names i p (slice_get_within names i p (sym is)))

module _ (nodes : List Spot) (tree : IsTree nodes) (id : ℕ) (low : id < length nodes) where
  pub are_items : (elements : List ℕ) → elements ≡ (slice_index_or nodes id nowhere).elements → AreItems nodes id elements
  are_items elements are = record {
    each = λ i at.
        at_index nodes tree id low i at ∙ ap (λ es. below_in nodes (slice_get es i) at) (sym are);
    below = λ i d at. let b = below_element nodes tree id low elements i d are at in record { later = b.1; part = b.0 };
  }

  module _ (names members : Pairs) (are : names ≡ (slice_index_or nodes id nowhere).children) (distinct : AreDistinct names) (moves : IsPermutation names members) where
    leads : (i : ℕ) (e : List ℕ × ℕ) → slice_get members i ≡ Some e → lookup (bytes_eq e.0) names ≡ Some e.1
    leads i e is = let apart = distinct_moved names members distinct moves in lookup_moved e.0 names members distinct apart moves ∙ found_at members apart i e.0 e.1 is

    -- what stands at a name, if anything does
    at_member : (n : List ℕ) (at : Address) → below_node nodes id (Name n ∷ at) ≡ below_in nodes (lookup (bytes_eq n) names) at
    at_member n at = at_name nodes tree id low n at ∙ ap (λ es. below_in nodes (lookup (bytes_eq n) es) at) (sym are)

    key_there : (n : List ℕ) (o : Option ℕ) → lookup (bytes_eq n) names ≡ o → IsSome (below_in nodes o []) → Contains (keys_of members) n
    key_there n None is some = absurd (true≢false (sym some))
    key_there n (Some v) is some =
        let c = Contains-permutation names members (n, v) moves (pair_there n v names is) in
        (c.0, omega (arith, length-map members (λ (e : List ℕ × ℕ). e.0), c.1), get_or-map (λ (e : List ℕ × ℕ). e.0) members c.0 (n, v) n c.1 ∙ ap (λ (e : List ℕ × ℕ). e.0) c.2)

    pub are_members : IsStrictlySortedBy cmp (keys_of members) → AreMembers nodes id members
    are_members up = record {
      each = λ i e is at. at_member e.0 at ∙ ap (λ o. below_in nodes o at) (leads i e is);
      below = λ i e is. let b = below_name nodes tree id low names e.0 e.1 are (leads i e is) in record { later = b.1; part = b.0 };
      all = λ n some. key_there n (lookup (bytes_eq n) names) refl (subst IsSome (at_member n []) some);
      ascending = up;
    }

  pub members_told : {E : Type 0} (names : Pairs) (r : Result (Vec Lent Global) E) → names ≡ (slice_index_or nodes id nowhere).children
      → IfOk r (λ m. IsPermutation names (plain_members m.items)) → OnOk r (AreDistinct names) → IfOk r (λ m. IsStrictlySortedBy cmp (keys_of (plain_members m.items)))
      → IfOk r (λ m. AreMembers nodes id (plain_members m.items))
  members_told names (Ok m) are moves distinct up = are_members names (plain_members m.items) are distinct moves up
  members_told names (Err e) are moves distinct up = tt

  no_names_ascend : IsStrictlySortedBy cmp []
  unfolding IsStrictlySortedBy
  no_names_ascend = tt

  pub no_members_told : (members : List Lent) → [] ≡ (slice_index_or nodes id nowhere).children → members ≡ [] → AreMembers nodes id (plain_members members)
  no_members_told members are none = rw none (are_members [] [] are tt (IsPermutation-refl []) no_names_ascend)
