-- The values around the one at an address hold it.
use Rattle.std.proofs.Common.{◌≡◌, ◌⊎◌, inl, inr, ℕ, ◌+◌, ◌≤◌, Bool, true, false, cond, List, [], ◌∷◌, ◌++◌, refl, sym, ap, ◌∙◌, subst, true≢false, arith}
use Rattle.toml_tree.specs.Spells.{EachIs}
use Rattle.toml_tree.specs.Tree.{Value, Scalar, Array, Inline, Items, Close, Last, More, Pairs, ClosePairs, LastPair, MorePairs}
use Rattle.toml_names.specs.declared.mentions.mention.Role.TheVariants.{Valued, Bare}
use Rattle.toml_names.specs.mentions.Joining.{is_lone}
use Rattle.toml_names.specs.mentions.Keys.{key_names}
use Rattle.toml_names.specs.mentions.Mentions.{Named, fronts, value_named, pair_named}
use Rattle.toml_names.specs.mentions.Mentions as mentions
use Rattle.toml_names.specs.model.Addresses.{Address, IsAbove, same_address, element, below}
use Rattle.toml_units.specs.Units.{element_unit, pair_unit, inside, elements, members}
use Rattle.toml_editor.proofs.written.Clear.{differ, above_apart, same_is}
use Rattle.toml_editor.proofs.written.Closed.{HasAt, IsClosed, AreBelow, further, items_below, pairs_below, items_closed, pairs_closed, element_closed, pair_closed, value_closed}
use Rattle.toml_editor.proofs.written.Pairwise.{PairsAre, pairs_front, pairs_back, pairs_between, Alone, Has, has_append_left, has_append_right, from_has, taken}
use Rattle.toml_editor.proofs.written.WayHeld.{there, held, one_held, value_held, pair_held, items_held, pairs_held, between, at_end}

-- ---- two lists of which no two meet

-- one that is lone, and one at its address, in the other list
apart : (xs ys : List Named) → PairsAre Alone (xs ++ ys) → (x y : Named) → Has (λ z. z ≡ x) xs → Has (λ z. z ≡ y) ys → x.address ≡ y.address
    → (is_lone x.role ≡ true) ⊎ (is_lone y.role ≡ true) → ⊥
apart xs ys alone x y first second same lone =
    from_has (λ e. EachIs (Alone e) ys) (λ e. e ≡ x) ⊥
    (λ e each is. from_has (Alone e) (λ l. l ≡ y) ⊥ (λ l meet are.
    let clear = meet (ap (λ (z : Named). z.address) is ∙ same ∙ ap (λ (z : Named). z.address) (sym are)) in
    elim lone [
      | inl a ↦ true≢false (sym a ∙ ap (λ (z : Named). is_lone z.role) (sym is) ∙ clear.0)
      | inr b ↦ true≢false (sym b ∙ ap (λ (z : Named). is_lone z.role) (sym are) ∙ clear.1)
    ]) ys each second)
    xs (pairs_between Alone xs ys alone) first

module _ (p : Address) where
  none_there : (ms : List Named) → ¬ HasAt p ms → there p ms ≡ 0
  none_there [] not = refl
  none_there (m ∷ ms) not = by (same_address m.address p) refl (none_there ms (λ h. not (inr h)))
    where
      by : (b : Bool) → same_address m.address p ≡ b → there p ms ≡ 0 → cond b 1 0 + there p ms ≡ 0
      by true same more = absurd (not (inl (same_is m.address p same)))
      by false other more = omega (arith, more)

  -- what is named below a lone address of the one list is not named in the other
  not_behind : (at : Address) (xs ys : List Named) → PairsAre Alone (xs ++ ys) → IsClosed at ys → (m : Named) → Has (λ z. z ≡ m) xs
      → is_lone m.role ≡ true → IsAbove at m.address → IsAbove m.address p → ¬ HasAt p ys
  not_behind at xs ys alone closed m here lone above on there =
      taken (λ z. z.address ≡ m.address) ⊥ ys (λ y second same. apart xs ys alone m y here second (sym same) (inl lone))
      (closed m.address p there above on)

  not_before : (at : Address) (xs ys : List Named) → PairsAre Alone (xs ++ ys) → IsClosed at xs → (m : Named) → Has (λ z. z ≡ m) ys
      → is_lone m.role ≡ true → IsAbove at m.address → IsAbove m.address p → ¬ HasAt p xs
  not_before at xs ys alone closed m here lone above on there =
      taken (λ z. z.address ≡ m.address) ⊥ xs (λ x first same. apart xs ys alone x m first here same (inr lone))
      (closed m.address p there above on)

  -- ---- in each value around it the value at the address stands

  abbrev mutual
    pub IsSole : Value → Address → Type 0
    IsSole (Scalar kind text) at = Unit {0}
    IsSole (Array whole items) at = AreSoleItems items at 0
    IsSole (Inline whole pairs) at = AreSolePairs pairs at

    pub AreSoleItems : Items → Address → ℕ → Type 0
    AreSoleItems (Close g) at i = Unit {0}
    AreSoleItems (Last g v h) at i = (IsAbove (element at i) p → held p (inside (element at i) v) ≡ 1) × IsSole v (element at i)
    AreSoleItems (More g v h is) at i =
        ((IsAbove (element at i) p → held p (inside (element at i) v) ≡ 1) × IsSole v (element at i)) × AreSoleItems is at (i + 1)

    pub AreSolePairs : Pairs → Address → Type 0
    AreSolePairs (ClosePairs g) at = Unit {0}
    AreSolePairs (LastPair g a v h) at = (IsAbove (below at (key_names a.key)) p → held p (inside (below at (key_names a.key)) v) ≡ 1)
        × IsSole v (below at (key_names a.key))
    AreSolePairs (MorePairs g a v h ps) at =
        ((IsAbove (below at (key_names a.key)) p → held p (inside (below at (key_names a.key)) v) ≡ 1)
        × IsSole v (below at (key_names a.key))) × AreSolePairs ps at

module _ (p : Address) (line : ℕ) where
  -- all values of the list that are around it have so many in all
  abbrev Around : List Named → ℕ → Type 0
  Around ms n = (m : Named) → Has (λ z. z ≡ m) ms → is_lone m.role ≡ true → IsAbove m.address p → n ≡ 1

  apart_from : (at : Address) → IsAbove at p → same_address at p ≡ false
  apart_from at above = differ at p (λ is. above_apart at p above (sym is))

  elem_count : (v : Value) (at : Address) (i : ℕ)
      → held p (element_unit (element at i) v ∷ inside (element at i) v) ≤ there p
      (value_named line Bare (element at i) v ∷ mentions.inside line (element at i) v)
  elem_count v at i = let w = value_held p v line (element at i) in omega (arith, w)

  around : (ms : List Named) (at : Address) (n : ℕ) → AreBelow at ms → (IsAbove at p → n ≡ 1) → Around ms n
  around ms at n under one m here lone above =
      one (from_has (λ x. IsAbove at x.address) (λ x. x ≡ m) (IsAbove at p)
      (λ x b is. further at m.address p (subst (λ (z : Named). IsAbove at z.address) is b) above) ms under here)

  mutual
    pub sole : (v : Value) (at : Address) → PairsAre Alone (mentions.inside line at v) → (IsAbove at p → held p (inside at v) ≡ 1)
        → IsSole p v at
    sole (Scalar kind text) at alone one = tt
    sole (Array whole items) at alone one = sole_items items at 0 alone
        (around (mentions.elements line at 0 items) at (held p (elements at 0 items)) (items_below line items at 0) one)
    sole (Inline whole pairs) at alone one =
        sole_pairs pairs at alone (around (mentions.members line at pairs) at (held p (members at pairs)) (pairs_below line pairs at) one)

    sole_items : (items : Items) (at : Address) (i : ℕ) → PairsAre Alone (mentions.elements line at i items)
        → Around (mentions.elements line at i items) (held p (elements at i items)) → AreSoleItems p items at i
    sole_items (Close g) at i alone one = tt
    sole_items (Last g v h) at i alone one =
        let to = element at i in
        let here = λ (above : IsAbove to p).
        (let total = one (value_named line Bare to v) (inl refl) refl above in let count = at_end p g h at
        (element_unit to v ∷ inside to v) in let own : ◌≡◌ {A = ℕ} (one_held p (element_unit to v)) 0 =
        ap (λ b. cond {A = ℕ} b 1 0) (apart_from to above) in
        let e : held p (inside to v) ≡ 1 = omega (arith, total, count, own) in e) in
        (here, sole v to alone.1 here)
    sole_items (More g v h is) at i alone one =
        let to = element at i in
        let block = value_named line Bare to v ∷ mentions.inside line to v in
        let rest = mentions.elements line at (i + 1) is in
        let count = between p g h at (element_unit to v ∷ inside to v) (elements at (i + 1) is) in
        let here = λ (above : IsAbove to p).
        (let total = one (value_named line Bare to v) (inl refl) refl above in
        let own : ◌≡◌ {A = ℕ} (one_held p (element_unit to v)) 0 = ap (λ b. cond {A = ℕ} b 1 0) (apart_from to above) in
        let free = none_there p rest
        (not_behind p at block rest alone (items_closed line is at (i + 1)) (value_named line Bare to v) (inl refl) refl
        (_, [], refl) above) in
        let few = items_held p is line at (i + 1) in
        let e : held p (inside to v) ≡ 1 = omega (arith, total, count, own, free, few) in e) in (
          (here, sole v to (pairs_front Alone (mentions.inside line to v) rest alone.1) here),
          sole_items is at (i + 1) (pairs_back Alone block rest alone) (λ m there lone above.
              let total = one m (has_append_right (λ z. z ≡ m) block rest there) lone above in
              let below_it = from_has (λ x. IsAbove at x.address) (λ x. x ≡ m) (IsAbove at m.address)
              (λ x b e. subst (λ (z : Named). IsAbove at z.address) e b) rest (items_below line is at (i + 1)) there in
              let free = none_there p block
              (not_before p at block rest alone (element_closed line v at i (value_closed line v to)) m there lone below_it above) in
              let few = elem_count v at i in
              omega (arith, total, count, free, few)),
        )

    sole_pairs : (pairs : Pairs) (at : Address) → PairsAre Alone (mentions.members line at pairs)
        → Around (mentions.members line at pairs) (held p (members at pairs)) → AreSolePairs p pairs at
    sole_pairs (ClosePairs g) at alone one = tt
    sole_pairs (LastPair g a v h) at alone one =
        let to = below at (key_names a.key) in
        let unit = pair_unit at (record { assign = a; value = v }) in
        let front = fronts line at (key_names a.key) in
        let inner = value_named line Valued to v ∷ mentions.inside line to v in
        let here = λ (above : IsAbove to p).
        (let total = one (value_named line Valued to v)
        (has_append_right (λ z. z ≡ value_named line Valued to v) front inner (inl refl)) refl above in
        let count = at_end p g h at (unit ∷ inside to v) in
        let own : ◌≡◌ {A = ℕ} (one_held p unit) 0 = ap (λ b. cond {A = ℕ} b 1 0) (apart_from to above) in
        let e : held p (inside to v) ≡ 1 = omega (arith, total, count, own) in e) in
        (here, sole v to (pairs_back Alone front inner alone).1 here)
    sole_pairs (MorePairs g a v h ps) at alone one =
        let to = below at (key_names a.key) in
        let unit = pair_unit at (record { assign = a; value = v }) in
        let front = fronts line at (key_names a.key) in
        let inner = value_named line Valued to v ∷ mentions.inside line to v in
        let block = pair_named line at a v in
        let rest = mentions.members line at ps in
        let mine = pairs_front Alone block rest alone in
        let count = between p g h at (unit ∷ inside to v) (members at ps) in
        let in_block = has_append_right (λ z. z ≡ value_named line Valued to v) front inner (inl refl) in
        let below_at : IsAbove at to = (_, _, refl) in
        let here = λ (above : IsAbove to p).
        (let total = one (value_named line Valued to v)
        (has_append_left (λ z. z ≡ value_named line Valued to v) block rest in_block) refl above in
        let own : ◌≡◌ {A = ℕ} (one_held p unit) 0 = ap (λ b. cond {A = ℕ} b 1 0) (apart_from to above) in
        let free = none_there p rest
        (not_behind p at block rest alone (pairs_closed line ps at) (value_named line Valued to v) in_block refl below_at above) in
        let few = pairs_held p ps line at in
        let e : held p (inside to v) ≡ 1 = omega (arith, total, count, own, free, few) in e) in (
          (here, sole v to (pairs_back Alone front inner mine).1 here),
          sole_pairs ps at (pairs_back Alone block rest alone) (λ m there lone above.
              let total = one m (has_append_right (λ z. z ≡ m) block rest there) lone above in
              let below_it = from_has (λ x. IsAbove at x.address) (λ x. x ≡ m) (IsAbove at m.address)
              (λ x b e. subst (λ (z : Named). IsAbove at z.address) e b) rest (pairs_below line ps at) there in
              let free = none_there p block
              (not_before p at block rest alone (pair_closed line a v at (λ b. value_closed line v b)) m there lone below_it above) in
              let few = pair_held p line a v at (value_held p v line to) in
              omega (arith, total, count, free, few)),
        )
