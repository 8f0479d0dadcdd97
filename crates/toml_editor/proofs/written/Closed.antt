-- What is named on the way to what a value names.
use Rattle.std.proofs.Common.{◌≡◌, inl, inr, ℕ, ◌+◌, List, [], ◌∷◌, ◌++◌, refl, sym, ap, ◌∙◌, subst, append_assoc}
use Rattle.std.proofs.lemmas.List.{append_cancel_left}
use Rattle.toml_tree.specs.Spells.{EachIs}
use Rattle.toml_tree.specs.Tree.{Value, Scalar, Array, Inline, Items, Close, Last, More, Pairs, ClosePairs, LastPair, MorePairs, Assign}
use Rattle.toml_names.specs.declared.mentions.mention.Role.TheVariants.{Dotted, Valued, Bare}
use Rattle.toml_names.specs.declared.model.address.Step.{Step}
use Rattle.toml_names.specs.declared.model.address.Step.TheVariants.{Name, Index}
use Rattle.toml_names.specs.mentions.Keys.{Key, part_name, rest_names}
use Rattle.toml_names.specs.mentions.Mentions.{Named, inside, elements, members, fronts, table_at, value_named, pair_named}
use Rattle.toml_names.specs.model.Addresses.{Address, IsAbove, child, element, below}
use Rattle.toml_names.proofs.Proved.{inside_is_below}
use Rattle.toml_editor.proofs.Each.{each_append, each_weaker}
use Rattle.toml_editor.proofs.written.Clear.{below-cons}
use Rattle.toml_editor.proofs.written.Pairwise.{Has, has_parts, has_append_left, has_append_right, from_has}

abbrev pub HasAt : Address → List Named → Type 0
HasAt x = Has (λ m. m.address ≡ x)

-- what lies between the address and what is named is named too
abbrev pub IsClosed : Address → List Named → Type 0
IsClosed at ms = (x y : Address) → HasAt y ms → IsAbove at x → IsAbove x y → HasAt x ms

abbrev pub AreBelow : Address → List Named → Type 0
AreBelow at = EachIs (λ m. IsAbove at m.address)

pub further : (at a b : Address) → IsAbove at a → IsAbove a b → IsAbove at b
further at a b (s, rest, is) (t, more, are) =
    (s, rest ++ t ∷ more, are ∙ ap (λ (x : Address). x ++ t ∷ more) is ∙ append_assoc at (s ∷ rest) (t ∷ more))

closed_append : (at : Address) (ms ns : List Named) → IsClosed at ms → IsClosed at ns → IsClosed at (ms ++ ns)
closed_append at ms ns first second x y here a b = elim (has_parts (λ m. m.address ≡ y) ms ns here) [
  | inl h ↦ has_append_left (λ m. m.address ≡ x) ms ns (first x y h a b)
  | inr h ↦ has_append_right (λ m. m.address ≡ x) ms ns (second x y h a b)
]

-- what has something at its end is not empty
pub no_end : {A : Type 0} (r : List A) (s : A) (more : List A) → ¬ ([] ≡ r ++ s ∷ more)
no_end [] s more is = cc
no_end (t ∷ r) s more is = cc

-- what is one step further, and all below it
module _ (at : Address) (s : Step) (m : Named) (ms : List Named) (there : m.address ≡ at ++ s ∷ []) (under : AreBelow (at ++ s ∷ []) ms)
    (closed : IsClosed (at ++ s ∷ []) ms) where
  spread : (x y : Address) (t u : Step) (r more : Address) → x ≡ at ++ t ∷ r → y ≡ x ++ u ∷ more → y ≡ at ++ (t ∷ (r ++ u ∷ more))
  spread x y t u r more is are = are ∙ ap (λ (z : Address). z ++ u ∷ more) is ∙ append_assoc at (t ∷ r) (u ∷ more)

  at_end : (x y : Address) → y ≡ at ++ s ∷ [] → IsAbove at x → IsAbove x y → ⊥
  at_end x y is (t, r, a) (u, more, b) =
      let e : s ∷ [] ≡ t ∷ (r ++ u ∷ more) = append_cancel_left at (s ∷ []) (t ∷ (r ++ u ∷ more)) (sym is ∙ spread x y t u r more a b) in
      let f : [] ≡ r ++ u ∷ more = cc in
      no_end r u more f

  inner : (x y : Address) → IsAbove (at ++ s ∷ []) y → HasAt y ms → IsAbove at x → IsAbove x y → HasAt x (m ∷ ms)
  inner x y (v, rest, is) here (t, r, a) (u, more, b) =
      let e : s ∷ (v ∷ rest) ≡ t ∷ (r ++ u ∷ more) =
      append_cancel_left at (s ∷ (v ∷ rest)) (t ∷ (r ++ u ∷ more)) (sym (append_assoc at (s ∷ []) (v ∷ rest)) ∙ sym is ∙ spread x y t u r more a b) in
      let same : s ≡ t = cc in
      by r (a ∙ ap (λ z. at ++ z ∷ r) (sym same))
    where
      by : (r : Address) → x ≡ at ++ s ∷ r → HasAt x (m ∷ ms)
      by [] is = inl (there ∙ sym is)
      by (w ∷ r) is = inr (closed x y here (w, r, is ∙ sym (append_assoc at (s ∷ []) (w ∷ r))) (u, more, b))

  pub one_step : IsClosed at (m ∷ ms)
  one_step x y (inl is) a b = absurd (at_end x y (sym is ∙ there) a b)
  one_step x y (inr here) a b = inner x y
      (from_has (λ n. IsAbove (at ++ s ∷ []) n.address) (λ n. n.address ≡ y) (IsAbove (at ++ s ∷ []) y)
      (λ n under is. subst (IsAbove (at ++ s ∷ [])) is under) ms under here) here a b

-- ---- what is named lies below

one_below : (at : Address) (s : Step) (m : Named) (ms : List Named) → m.address ≡ at ++ s ∷ [] → AreBelow (at ++ s ∷ []) ms
    → AreBelow at (m ∷ ms)
one_below at s m ms there under = (
  (s, [], there),
  each_weaker (λ n. IsAbove (at ++ s ∷ []) n.address) (λ n. IsAbove at n.address)
      (λ n h. further at (at ++ s ∷ []) n.address (s, [], refl) h) ms under,
)

module _ (line : ℕ) where
  abbrev key_named : Key → List ℕ → Address → Value → List Named
  key_named ns n at v = fronts line at (n ∷ ns) ++ (value_named line Valued (below at (n ∷ ns)) v ∷ inside line (below at (n ∷ ns)) v)

  -- behind the first name of a key
  key_on : (m n : List ℕ) (ns : Key) (at : Address) (v : Value)
      → key_named (m ∷ ns) n at v ≡ table_at line Dotted (child at n) ∷ key_named ns m (child at n) v
  key_on m n ns at v = ap
      (λ to. table_at line Dotted (child at n) ∷ (fronts line (child at n) (m ∷ ns) ++ (value_named line Valued to v ∷ inside line to v)))
      (sym (below-cons at n (m ∷ ns)))

  key_below : (ns : Key) (n : List ℕ) (at : Address) (v : Value) → AreBelow at (key_named ns n at v)
  key_below [] n at v = one_below at (Name n) (value_named line Valued (child at n) v) (inside line (child at n) v) refl
      (inside_is_below line v (child at n))
  key_below (m ∷ ns) n at v =
      subst (AreBelow at) (sym (key_on m n ns at v))
      (one_below at (Name n) (table_at line Dotted (child at n)) (key_named ns m (child at n) v) refl (key_below ns m (child at n) v))

  pub pair_below : (a : Assign) (at : Address) (v : Value) → AreBelow at (pair_named line at a v)
  pair_below a at v = key_below (rest_names a.key.rest) (part_name a.key.first) at v

  pub items_below : (items : Items) (at : Address) (i : ℕ) → AreBelow at (elements line at i items)
  items_below (Close g) at i = tt
  items_below (Last g v h) at i = one_below at (Index i) (value_named line Bare (element at i) v) (inside line (element at i) v) refl
      (inside_is_below line v (element at i))
  items_below (More g v h is) at i =
      each_append _ (value_named line Bare (element at i) v ∷ inside line (element at i) v) (elements line at (i + 1) is)
      (one_below at (Index i) (value_named line Bare (element at i) v) (inside line (element at i) v) refl
      (inside_is_below line v (element at i))) (items_below is at (i + 1))

  pub pairs_below : (pairs : Pairs) (at : Address) → AreBelow at (members line at pairs)
  pairs_below (ClosePairs g) at = tt
  pairs_below (LastPair g a v h) at = pair_below a at v
  pairs_below (MorePairs g a v h ps) at =
      each_append _ (pair_named line at a v) (members line at ps) (pair_below a at v) (pairs_below ps at)

  -- ---- values

  key_closed : (ns : Key) (n : List ℕ) (at : Address) (v : Value) → ((b : Address) → IsClosed b (inside line b v))
      → IsClosed at (key_named ns n at v)
  key_closed [] n at v closed = one_step at (Name n) (value_named line Valued (child at n) v) (inside line (child at n) v) refl
      (inside_is_below line v (child at n)) (closed (child at n))
  key_closed (m ∷ ns) n at v closed =
      subst (IsClosed at) (sym (key_on m n ns at v))
      (one_step at (Name n) (table_at line Dotted (child at n)) (key_named ns m (child at n) v) refl (key_below ns m (child at n) v)
      (key_closed ns m (child at n) v closed))

  pub element_closed : (v : Value) (at : Address) (i : ℕ) → IsClosed (element at i) (inside line (element at i) v)
      → IsClosed at (value_named line Bare (element at i) v ∷ inside line (element at i) v)
  element_closed v at i closed = one_step at (Index i) (value_named line Bare (element at i) v) (inside line (element at i) v) refl
      (inside_is_below line v (element at i)) closed

  pub pair_closed : (a : Assign) (v : Value) (at : Address) → ((b : Address) → IsClosed b (inside line b v))
      → IsClosed at (pair_named line at a v)
  pair_closed a v at closed = key_closed (rest_names a.key.rest) (part_name a.key.first) at v closed

  mutual
    pub value_closed : (v : Value) (at : Address) → IsClosed at (inside line at v)
    value_closed (Scalar kind text) at = λ x y here a b. absurd here
    value_closed (Array whole items) at = items_closed items at 0
    value_closed (Inline whole pairs) at = pairs_closed pairs at

    pub items_closed : (items : Items) (at : Address) (i : ℕ) → IsClosed at (elements line at i items)
    items_closed (Close g) at i = λ x y here a b. absurd here
    items_closed (Last g v h) at i = element_closed v at i (value_closed v (element at i))
    items_closed (More g v h is) at i =
        closed_append at (value_named line Bare (element at i) v ∷ inside line (element at i) v) (elements line at (i + 1) is)
        (element_closed v at i (value_closed v (element at i))) (items_closed is at (i + 1))

    pub pairs_closed : (pairs : Pairs) (at : Address) → IsClosed at (members line at pairs)
    pairs_closed (ClosePairs g) at = λ x y here a b. absurd here
    pairs_closed (LastPair g a v h) at = pair_closed a v at (λ b. value_closed v b)
    pairs_closed (MorePairs g a v h ps) at =
        closed_append at (pair_named line at a v) (members line at ps) (pair_closed a v at (λ b. value_closed v b)) (pairs_closed ps at)
