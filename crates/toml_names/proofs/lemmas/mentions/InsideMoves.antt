-- What a value names at an address is what it names alone, put there.
use Rattle.toml_names.proofs.Common.{◌≡◌, ℕ, ◌+◌, List, [], ◌∷◌, ◌++◌, map, refl, sym, ap, ap₂, ◌∙◌, append_assoc, rules, map-append, Assign, Value, Scalar, Array, Inline, Items, Close, Last, More, Pairs, ClosePairs, LastPair, MorePairs, Name, Index, Dotted, Bare, Address, child, element, shifted, InsideMoves, Key, Named, value_named, table_at, inside, elements, members, fronts, pair_named}

module _ (line old : ℕ) (p : Address) where
  fronts_moved : (key : Key) (at : Address) → fronts line (p ++ at) key ≡ map (shifted line p) (fronts old at key)
  fronts_moved [] at = refl
  fronts_moved (n ∷ []) at = refl
  fronts_moved (n ∷ m ∷ more) at =
      ap (λ (a : Address). table_at line Dotted a ∷ fronts line a (m ∷ more)) (append_assoc p at (Name n ∷ []))
      ∙ ap (λ l. table_at line Dotted (p ++ child at n) ∷ l) (fronts_moved (m ∷ more) (child at n))

  both : (xs ys xs' ys' : List Named) → xs' ≡ map (shifted line p) xs → ys' ≡ map (shifted line p) ys → xs' ++ ys' ≡ map (shifted line p) (xs ++ ys)
  both xs ys xs' ys' a b = ap₂ (λ s t. s ++ t) a b ∙ sym (map-append (shifted line p) xs ys)

  pair_moved : (a : Assign) (v : Value) (at : Address) → ((to : Address) → inside line (p ++ to) v ≡ map (shifted line p) (inside old to v))
      → pair_named line (p ++ at) a v ≡ map (shifted line p) (pair_named old at a v)
  pair_moved a v at within = search (rules, both, fronts_moved, append_assoc)

  mutual
    inside_moved : (v : Value) (at : Address) → inside line (p ++ at) v ≡ map (shifted line p) (inside old at v)
    inside_moved (Scalar kind text) at = refl
    inside_moved (Array whole items) at = elements_moved items at 0
    inside_moved (Inline whole pairs) at = members_moved pairs at

    elements_moved : (items : Items) (at : Address) (i : ℕ) → elements line (p ++ at) i items ≡ map (shifted line p) (elements old at i items)
    elements_moved (Close g) at i = refl
    elements_moved (Last g v h) at i =
        ap (λ (q : Address). value_named line Bare q v ∷ inside line q v) (append_assoc p at (Index i ∷ [])) ∙ ap (λ l. value_named line Bare (p ++ element at i) v ∷ l) (inside_moved v (element at i))
    elements_moved (More g v h is) at i =
        both (value_named old Bare (element at i) v ∷ inside old (element at i) v) (elements old at (i + 1) is) _ _
        (ap (λ (q : Address). value_named line Bare q v ∷ inside line q v) (append_assoc p at (Index i ∷ [])) ∙ ap (λ l. value_named line Bare (p ++ element at i) v ∷ l) (inside_moved v (element at i)))
        (elements_moved is at (i + 1))

    members_moved : (pairs : Pairs) (at : Address) → members line (p ++ at) pairs ≡ map (shifted line p) (members old at pairs)
    members_moved (ClosePairs g) at = refl
    members_moved (LastPair g a v h) at = pair_moved a v at (λ to. inside_moved v to)
    members_moved (MorePairs g a v h ps) at = both (pair_named old at a v) (members old at ps) _ _ (pair_moved a v at (λ to. inside_moved v to)) (members_moved ps at)

pub inside_moves : InsideMoves
inside_moves line old v p at = inside_moved line old p v at
