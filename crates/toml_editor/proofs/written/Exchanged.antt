-- Which bytes a `set` leaves in a value: all, or all but those of a value that stands in it at the address.
use Rattle.std.proofs.Common.{◌≡◌, ◌+◌, ℕ, zero, suc, Bool, true, false, cond, List, [], ◌∷◌, ◌++◌, inl, inr, refl, sym, ap, ap₂, ◌∙◌, subst, subst₂, append-nil, append_assoc, arith}
use Rattle.toml_tree.specs.Spells.{Part, joined, symbol, gap_parts, assign_parts, value_parts, items_parts, pairs_parts}
use Rattle.toml_tree.specs.Tree.{Gap, Value, Scalar, Array, Inline, Items, Close, Last, More, Pairs, ClosePairs, LastPair, MorePairs}
use Rattle.toml_tree.proofs.Proved.{parts_join}
use Rattle.toml_names.specs.mentions.Keys.{key_names}
use Rattle.toml_names.specs.model.Addresses.{Address, same_address, element, below}
use Rattle.toml_units.specs.Units.{gap_units, inside, elements, members}
use Rattle.toml_editor.specs.ChangedUnits.{IsExchanged}
use Rattle.toml_editor.specs.Held.{StandsAt, StandsWithin, StandsInItems, StandsInPairs}
use Rattle.toml_working.specs.Setting.{set_within, set_items, set_pairs, set_value}
use Rattle.toml_editor.proofs.written.Clear.{same_is}
use Rattle.toml_editor.proofs.written.UnitsIn.{of_element, of_pair}
use Rattle.toml_editor.proofs.written.WayHeld.{held, between, at_end, gap_held}

-- an exchange within more bytes
pub exchanged_in : (IsOld : Value → Type 0) (new : Value) (front back a b : List ℕ) → IsExchanged IsOld new a b
    → IsExchanged IsOld new (front ++ (a ++ back)) (front ++ (b ++ back))
exchanged_in IsOld new front back a b (old, before, behind, stands, is, are) =
    (old, front ++ before, behind ++ back, stands, spread a (joined (value_parts old)) is, spread b (joined (value_parts new)) are)
  where
    spread : (x mid : List ℕ) → x ≡ before ++ (mid ++ behind) → front ++ (x ++ back) ≡ (front ++ before) ++ (mid ++ (behind ++ back))
    spread x mid e =
        ap (λ y. front ++ (y ++ back)) e
        ∙ ap (λ y. front ++ y) (append_assoc before (mid ++ behind) back ∙ ap (λ y. before ++ y) (append_assoc mid behind back))
        ∙ sym (append_assoc front before (mid ++ (behind ++ back)))

module _ (p : Address) (IsOld : Value → Type 0) (new : Value) where
  -- those of which each is an old value
  abbrev pub AreOld : (Value → Type 0) → Type 0
  AreOld Stand = (v : Value) → Stand v → IsOld v

  -- bytes in which so many values stand at the address, and the bytes behind the `set`
  pub record AreLeft (n : ℕ) (a b : List ℕ) : Type 0 where
    pub none : n ≡ 0 → b ≡ a
    pub one : n ≡ 1 → IsExchanged IsOld new a b

  unmoved : (a : List ℕ) → AreLeft 0 a a
  unmoved a = record { none = λ e. refl; one = λ e. let f : ⊥ = omega (arith, e) in absurd f }

  with_count : {a b : List ℕ} (m n : ℕ) → m ≡ n → AreLeft m a b → AreLeft n a b
  with_count {a} {b} m n is = subst (λ k. AreLeft k a b) is

  both_left : (m n : ℕ) (a b c d : List ℕ) → AreLeft m a b → AreLeft n c d → AreLeft (m + n) (a ++ c) (b ++ d)
  both_left m n a b c d first second = record {
    none = λ e. ap₂ (λ x y. x ++ y) (first.none (omega (arith, e))) (second.none (omega (arith, e)));
    one = λ e. by m refl e;
  }
    where
      by : (k : ℕ) → m ≡ k → m + n ≡ 1 → IsExchanged IsOld new (a ++ c) (b ++ d)
      by zero is e =
          subst (λ x. IsExchanged IsOld new (a ++ c) (x ++ d)) (sym (first.none is))
          (subst₂ (λ x y. IsExchanged IsOld new (a ++ x) (a ++ y)) (append-nil c) (append-nil d)
          (exchanged_in IsOld new a [] c d (second.one (omega (arith, is, e)))))
      by (suc k) is e =
          subst (λ x. IsExchanged IsOld new (a ++ c) (b ++ x)) (sym (second.none (omega (arith, is, e))))
          (exchanged_in IsOld new [] c a b (first.one (omega (arith, is, e))))

  -- of parts, one behind the other
  pub parts_left : (m n : ℕ) (ps qs rs ss : List Part) → AreLeft m (joined ps) (joined qs) → AreLeft n (joined rs) (joined ss)
      → AreLeft (m + n) (joined (ps ++ rs)) (joined (qs ++ ss))
  parts_left m n ps qs rs ss first second =
      subst₂ (AreLeft (m + n)) (sym (parts_join ps rs)) (sym (parts_join qs ss))
      (both_left m n (joined ps) (joined qs) (joined rs) (joined ss) first second)

  -- behind parts that stay, and before some
  pub behind_left : (n : ℕ) (ps qs rs : List Part) → AreLeft n (joined qs) (joined rs) → AreLeft n (joined (ps ++ qs)) (joined (ps ++ rs))
  behind_left n ps qs rs left = with_count (0 + n) n (omega arith) (parts_left 0 n ps ps qs rs (unmoved (joined ps)) left)

  pub before_left : (n : ℕ) (ps qs rs : List Part) → AreLeft n (joined ps) (joined qs) → AreLeft n (joined (ps ++ rs)) (joined (qs ++ rs))
  before_left n ps qs rs left = with_count (n + 0) n (omega arith) (parts_left n 0 ps qs rs rs left (unmoved (joined rs)))

  symbol_left : (n s : ℕ) (a b : List ℕ) → AreLeft n a b → AreLeft n (s ∷ a) (s ∷ b)
  symbol_left n s a b left = with_count (0 + n) n (omega arith) (both_left 0 n (s ∷ []) (s ∷ []) a b (unmoved (s ∷ [])) left)

  -- a value that is the new one, if it stands at the address
  holder_left : (at : Address) (v : Value) (n : ℕ) → AreOld (λ o. StandsAt p o at v) → AreLeft n (joined (value_parts v)) (joined (value_parts (set_within p new at v)))
      → AreLeft (cond (same_address at p) 1 0 + n) (joined (value_parts v)) (joined (value_parts (set_value p new at v)))
  holder_left at v n old left = by (same_address at p) refl
    where
      by : (b : Bool) → same_address at p ≡ b → AreLeft (cond b 1 0 + n) (joined (value_parts v)) (joined (value_parts (cond b new (set_within p new at v))))
      by true same = record {
        none = λ e. let f : ⊥ = omega (arith, e) in absurd f;
        one = λ e.
            (v, [], [], old v (inl (same_is at p same, refl)), sym (append-nil (joined (value_parts v))), sym (append-nil (joined (value_parts new))));
      }
      by false other = with_count n (0 + n) (omega arith) left

  -- ---- what stands in a value

  -- between two gaps, and before the rest
  in_gaps : (m n : ℕ) (g h : Gap) (ps qs rs ss : List Part) → AreLeft m (joined ps) (joined qs) → AreLeft n (joined rs) (joined ss)
      → AreLeft (m + n) (joined (gap_parts g ++ (ps ++ (gap_parts h ++ rs)))) (joined (gap_parts g ++ (qs ++ (gap_parts h ++ ss))))
  in_gaps m n g h ps qs rs ss first second =
      behind_left (m + n) (gap_parts g) (ps ++ (gap_parts h ++ rs)) (qs ++ (gap_parts h ++ ss))
      (parts_left m n ps qs (gap_parts h ++ rs) (gap_parts h ++ ss) first (behind_left n (gap_parts h) rs ss second))

  before_end : (m : ℕ) (g h : Gap) (ps qs rs : List Part) → AreLeft m (joined ps) (joined qs)
      → AreLeft m (joined (gap_parts g ++ (ps ++ (gap_parts h ++ rs)))) (joined (gap_parts g ++ (qs ++ (gap_parts h ++ rs))))
  before_end m g h ps qs rs left = with_count (m + 0) m (omega arith) (in_gaps m 0 g h ps qs rs rs left (unmoved (joined rs)))

  mutual
    pub value_left : (v : Value) (at : Address) → AreOld (λ o. StandsWithin p o at v)
        → AreLeft (held p (inside at v)) (joined (value_parts v)) (joined (value_parts (set_within p new at v)))
    value_left (Scalar kind text) at old = unmoved (joined (value_parts (Scalar kind text)))
    value_left (Array whole items) at old = symbol_left (held p (elements at 0 items)) 0x5B (joined (items_parts items))
        (joined (items_parts (set_items p new at 0 items))) (items_left items at 0 old)
    value_left (Inline whole pairs) at old = symbol_left (held p (members at pairs)) 0x7B (joined (pairs_parts pairs))
        (joined (pairs_parts (set_pairs p new at pairs))) (pairs_left pairs at old)

    items_left : (items : Items) (at : Address) (i : ℕ) → AreOld (λ o. StandsInItems p o at i items)
        → AreLeft (held p (elements at i items)) (joined (items_parts items)) (joined (items_parts (set_items p new at i items)))
    items_left (Close g) at i old =
        with_count 0 (held p (gap_units at g)) (sym (gap_held p g.lines at)) (unmoved (joined (items_parts (Close g))))
    items_left (Last g v h) at i old =
        with_count (held p (of_element at i v)) (held p (elements at i (Last g v h))) (sym (at_end p g h at (of_element at i v)))
        (before_end (held p (of_element at i v)) g h (value_parts v) (value_parts (set_value p new (element at i) v)) (symbol (0x5D ∷ []) ∷ [])
        (holder_left (element at i) v (held p (inside (element at i) v)) old (value_left v (element at i) (λ o there. old o (inr there)))))
    items_left (More g v h is) at i old =
        let rest = elements at (i + 1) is in
        with_count (held p (of_element at i v) + held p rest) (held p (elements at i (More g v h is))) (sym (between p g h at (of_element at i v) rest))
        (in_gaps (held p (of_element at i v)) (held p rest) g h (value_parts v) (value_parts (set_value p new (element at i) v))
        (symbol (0x2C ∷ []) ∷ items_parts is) (symbol (0x2C ∷ []) ∷ items_parts (set_items p new at (i + 1) is))
        (holder_left (element at i) v (held p (inside (element at i) v)) (λ o here. old o (inl here))
        (value_left v (element at i) (λ o there. old o (inl (inr there)))))
        (symbol_left (held p rest) 0x2C (joined (items_parts is)) (joined (items_parts (set_items p new at (i + 1) is)))
        (items_left is at (i + 1) (λ o there. old o (inr there)))))

    pairs_left : (pairs : Pairs) (at : Address) → AreOld (λ o. StandsInPairs p o at pairs)
        → AreLeft (held p (members at pairs)) (joined (pairs_parts pairs)) (joined (pairs_parts (set_pairs p new at pairs)))
    pairs_left (ClosePairs g) at old =
        with_count 0 (held p (gap_units at g)) (sym (gap_held p g.lines at)) (unmoved (joined (pairs_parts (ClosePairs g))))
    pairs_left (LastPair g a v h) at old =
        let to = below at (key_names a.key) in
        let whole = assign_parts a ++ value_parts v in
        with_count (held p (of_pair at a v)) (held p (members at (LastPair g a v h))) (sym (at_end p g h at (of_pair at a v)))
        (subst₂ (λ x y. AreLeft (held p (of_pair at a v)) (joined (gap_parts g ++ x)) (joined (gap_parts g ++ y)))
        (append_assoc (assign_parts a) (value_parts v) (gap_parts h ++ symbol (0x7D ∷ []) ∷ []))
        (append_assoc (assign_parts a) (value_parts (set_value p new to v)) (gap_parts h ++ symbol (0x7D ∷ []) ∷ []))
        (before_end (held p (of_pair at a v)) g h whole (assign_parts a ++ value_parts (set_value p new to v)) (symbol (0x7D ∷ []) ∷ [])
        (behind_left (held p (of_pair at a v)) (assign_parts a) (value_parts v) (value_parts (set_value p new to v))
        (holder_left to v (held p (inside to v)) old (value_left v to (λ o there. old o (inr there)))))))
    pairs_left (MorePairs g a v h ps) at old =
        let to = below at (key_names a.key) in
        let rest = members at ps in
        let here = held p (of_pair at a v) in
        with_count (here + held p rest) (held p (members at (MorePairs g a v h ps))) (sym (between p g h at (of_pair at a v) rest))
        (subst₂ (λ x y. AreLeft (here + held p rest) (joined (gap_parts g ++ x)) (joined (gap_parts g ++ y)))
        (append_assoc (assign_parts a) (value_parts v) (gap_parts h ++ symbol (0x2C ∷ []) ∷ pairs_parts ps))
        (append_assoc (assign_parts a) (value_parts (set_value p new to v))
        (gap_parts h ++ symbol (0x2C ∷ []) ∷ pairs_parts (set_pairs p new at ps)))
        (in_gaps here (held p rest) g h (assign_parts a ++ value_parts v) (assign_parts a ++ value_parts (set_value p new to v))
        (symbol (0x2C ∷ []) ∷ pairs_parts ps) (symbol (0x2C ∷ []) ∷ pairs_parts (set_pairs p new at ps))
        (behind_left here (assign_parts a) (value_parts v) (value_parts (set_value p new to v))
        (holder_left to v (held p (inside to v)) (λ o here. old o (inl here)) (value_left v to (λ o there. old o (inl (inr there))))))
        (symbol_left (held p rest) 0x2C (joined (pairs_parts ps)) (joined (pairs_parts (set_pairs p new at ps))) (pairs_left ps at (λ o there. old o (inr there))))))
