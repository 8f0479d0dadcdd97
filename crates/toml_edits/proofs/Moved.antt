-- The facts after a change below an address are the old ones moved at once.
use Rattle.std.proofs.Common.{◌≡◌, ℕ, ◌+◌, ◌-◌, ◌^◌, ◌<◌, nat_eq, List, [], ◌∷◌, ◌++◌, Option, Some, None, Bool, true, false, cond, bytes_eq, inl, inr, refl, sym, ap, ◌∙◌, arith}
use Rattle.std.specs.Prelude.{option_map}
use Rattle.std.specs.Bool.{nat_lt}
use Rattle.std.proofs.lemmas.Bool.Decides.{nat_tests}
use Rattle.std.proofs.lemmas.Slice.Eq.{bytes_eq-Decides}
use Rattle.toml_names.specs.declared.model.address.Step.{Step}
use Rattle.toml_names.specs.declared.model.address.Step.TheVariants.{Name, Index}
use Rattle.toml_names.specs.model.Addresses.{Address, same_step}
use Rattle.toml_names.specs.model.Data.{Kinds}
use Rattle.toml_names.specs.mentions.Mentions.{Kind}
use Rattle.toml_names.proofs.Proved.{same_step-equal, same_step-self}
use Rattle.toml_edits.specs.After.{Comes, Moves, nothing}
use Rattle.toml_edits.specs.Carry.{Carrier, carry_below, nowhere, up_from, down_above, to_name}
use Rattle.toml_edits.specs.Changed.{below, shifted_in, shifted_out, renamed}

-- ---- one step down

onto : (t : Step) (o : Option Address) (a : Address) → option_map (λ r. t ∷ r) o ≡ Some a → (r : Address) × (o ≡ Some r) × (a ≡ t ∷ r)
onto t None a e = cc
onto t (Some r) a e = (r, refl, cc)

lift_carried : (s t : Step) (q : Address) (c : Carrier) (p : Address) (v f g : Kinds) (a b : Address) (k : Kind) → Moves (carry_below q c) p v (λ r. f (s ∷ r)) g
    → f (t ∷ b) ≡ Some k → (same : Bool) → same_step s t ≡ same → cond same (option_map (λ r. t ∷ r) (carry_below q c b)) (Some (t ∷ b)) ≡ Some a
    → (h : Kinds) → ((u : Step) (r : Address) → h (u ∷ r) ≡ cond (same_step s u) (g r) (f (u ∷ r))) → h a ≡ Some k
lift_carried s t q c p v f g a b k m have false is to h at = let e : a ≡ t ∷ b = cc in rw (e, at t b, is) have
lift_carried s t q c p v f g a b k m have true is to h at =
    let w = onto t _ a to in
    let st : s ≡ t = same_step-equal s t is in
    let got : g w.0 ≡ Some k = m.carried w.0 b k (ap (λ (u : Step). f (u ∷ b)) st ∙ have) w.1 in
    rw (w.2, at t w.0, is) got

lift_origin : (s t : Step) (q : Address) (c : Carrier) (p : Address) (v f : Kinds) (a : Address) (k : Kind) → same_step s t ≡ true
    → Comes (carry_below q c) p v (λ r. f (s ∷ r)) a k → Comes (carry_below (s ∷ q) c) (s ∷ p) v f (t ∷ a) k
lift_origin s t q c p v f a k is (inl w) =
    let st : s ≡ t = same_step-equal s t is in
    inl (t ∷ w.0, ap (λ (u : Step). f (u ∷ w.0)) (sym st) ∙ w.1, rw (is, w.2) refl)
lift_origin s t q c p v f a k is (inr w) =
    let st : s ≡ t = same_step-equal s t is in
    inr (w.0, ap (λ (u : Step). u ∷ a) (sym st) ∙ ap (λ r. s ∷ r) w.1, w.2)

lift_other : (s t : Step) (q : Address) (c : Carrier) (p : Address) (v f g : Kinds) (a : Address) (k : Kind) → Moves (carry_below q c) p v (λ r. f (s ∷ r)) g
    → (same : Bool) → same_step s t ≡ same → cond same (g a) (f (t ∷ a)) ≡ Some k → Comes (carry_below (s ∷ q) c) (s ∷ p) v f (t ∷ a) k
lift_other s t q c p v f g a k m true is have = lift_origin s t q c p v f a k is (m.no_other a k have)
lift_other s t q c p v f g a k m false is have = inl (t ∷ a, have, rw is refl)

at_step : (s : Step) (q : Address) (G : Kinds → Kinds) (f : Kinds) (u : Step) (r : Address) → below (s ∷ q) G f (u ∷ r) ≡ cond (same_step s u) (below q G (λ x. f (s ∷ x)) r) (f (u ∷ r))
at_step s q G f u r = refl

lift_carries : (s : Step) (q : Address) (c : Carrier) (p : Address) (v f : Kinds) (G : Kinds → Kinds) → Moves (carry_below q c) p v (λ r. f (s ∷ r)) (below q G (λ r. f (s ∷ r)))
    → (a b : Address) (k : Kind) → f b ≡ Some k → carry_below (s ∷ q) c b ≡ Some a → below (s ∷ q) G f a ≡ Some k
lift_carries s q c p v f G m [] [] k have to = have
lift_carries s q c p v f G m (u ∷ a) [] k have to = cc
lift_carries s q c p v f G m a (t ∷ b) k have to = lift_carried s t q c p v f (below q G (λ r. f (s ∷ r))) a b k m have (same_step s t) refl to (below (s ∷ q) G f) (at_step s q G f)

lift_others : (s : Step) (q : Address) (c : Carrier) (p : Address) (v f : Kinds) (G : Kinds → Kinds) → Moves (carry_below q c) p v (λ r. f (s ∷ r)) (below q G (λ r. f (s ∷ r)))
    → (a : Address) (k : Kind) → below (s ∷ q) G f a ≡ Some k → Comes (carry_below (s ∷ q) c) (s ∷ p) v f a k
lift_others s q c p v f G m [] k have = inl ([], have, refl)
lift_others s q c p v f G m (t ∷ a) k have = lift_other s t q c p v f (below q G (λ r. f (s ∷ r))) a k m (same_step s t) refl have

pub lift : (s : Step) (q : Address) (c : Carrier) (p : Address) (v f : Kinds) (G : Kinds → Kinds) → Moves (carry_below q c) p v (λ r. f (s ∷ r)) (below q G (λ r. f (s ∷ r))) → Moves (carry_below (s ∷ q) c) (s ∷ p) v f (below (s ∷ q) G f)
lift s q c p v f G m = record {
  carried = lift_carries s q c p v f G m;
  placed = λ r k h. ap (λ b. cond b (below q G (λ x. f (s ∷ x)) (p ++ r)) (f (s ∷ p ++ r))) (same_step-self s) ∙ m.placed r k h;
  no_other = lift_others s q c p v f G m;
}

-- a change below q moves what it moves at q
pub moves_below : (q : Address) (c : Carrier) (p : Address) (v f : Kinds) (G : Kinds → Kinds) → Moves c p v (λ r. f (q ++ r)) (G (λ r. f (q ++ r))) → Moves (carry_below q c) (q ++ p) v f (below q G f)
moves_below [] c p v f G m = m
moves_below (s ∷ q) c p v f G m = lift s q c (q ++ p) v f G (moves_below q c p v (λ r. f (s ∷ r)) G m)

-- ---- the changes at one datum

pub moves_put : (v f : Kinds) → Moves nowhere [] v f v
moves_put v f = record { carried = λ a b k have to. cc; placed = λ r k have. have; no_other = λ a k have. inr (a, refl, have) }

pub moves_drop : (f : Kinds) → Moves nowhere [] nothing f nothing
moves_drop f = record { carried = λ a b k have to. cc; placed = λ r k have. cc; no_other = λ a k have. cc }

-- two carriers that agree on the facts move them alike
pub moves_alike : (c d : Carrier) (p : Address) (v f g : Kinds) → ((b : Address) (k : Kind) → f b ≡ Some k → c b ≡ d b) → Moves c p v f g → Moves d p v f g
moves_alike c d p v f g same m = record {
  carried = λ a b k have to. m.carried a b k have (same b k have ∙ to);
  placed = m.placed;
  no_other = λ a k have. elim (m.no_other a k have) [ inl w ↦ inl (w.0, w.1, sym (same w.0 k w.1) ∙ w.2) | inr w ↦ inr w ];
}

-- nothing is at a name and below it
abbrev pub Absent : Step → Kinds → Type 0
Absent s f = (a : Address) → f (s ∷ a) ≡ None

add_alike_at : (s t : Step) (f : Kinds) → Absent s f → (b : Address) (k : Kind) → f (t ∷ b) ≡ Some k → (same : Bool) → same_step s t ≡ same
    → cond same (option_map (λ r. t ∷ r) (nowhere b)) (Some (t ∷ b)) ≡ Some (t ∷ b)
add_alike_at s t f none b k have false is = refl
add_alike_at s t f none b k have true is = let e : f (t ∷ b) ≡ None = ap (λ (u : Step). f (u ∷ b)) (sym (same_step-equal s t is)) ∙ none b in cc

add_alike : (s : Step) (f : Kinds) → Absent s f → (b : Address) (k : Kind) → f b ≡ Some k → carry_below (s ∷ []) nowhere b ≡ Some b
add_alike s f none [] k have = refl
add_alike s f none (t ∷ b) k have = add_alike_at s t f none b k have (same_step s t) refl

pub moves_add : (s : Step) (v f : Kinds) → Absent s f → Moves Some (s ∷ []) v f (below (s ∷ []) (λ g. v) f)
moves_add s v f none = moves_alike (carry_below (s ∷ []) nowhere) Some (s ∷ []) v f _ (add_alike s f none) (moves_below (s ∷ []) nowhere [] v f (λ g. v) (moves_put v _))

-- a bound on the indices that a map has
abbrev pub IndicesFit : Kinds → Type 0
IndicesFit f = (j : ℕ) (a : Address) (k : Kind) → f (Index j ∷ a) ≡ Some k → j + 1 < 2 ^ 64

up_at : (i : ℕ) (v f : Kinds) (a : Address) (j : ℕ) (b : Address) (k : Kind) → f (Index j ∷ b) ≡ Some k → (low : Bool) → nat_lt j i ≡ low → (fits : Bool)
    → cond low (Some (Index j ∷ b)) (cond fits (Some (Index (j + 1) ∷ b)) None) ≡ Some a → shifted_in i v f a ≡ Some k
up_at i v f a j b k have true low fits to = let e : a ≡ Index j ∷ b = cc in rw (e, low) have
up_at i v f a j b k have false low true to =
    let e : a ≡ Index (j + 1) ∷ b = cc in
    let one : nat_lt (j + 1) i ≡ false = grind (arith, nat_tests) in
    let two : nat_eq (j + 1) i ≡ false = grind (arith, nat_tests) in
    let back : j + 1 - 1 ≡ j = omega arith in
    rw (e, one, two, back) have
up_at i v f a j b k have false low false to = cc

up_carries : (i : ℕ) (v f : Kinds) (a b : Address) (k : Kind) → f b ≡ Some k → up_from i b ≡ Some a → shifted_in i v f a ≡ Some k
up_carries i v f a [] k have to = let e : a ≡ [] = cc in rw e have
up_carries i v f a (Name n ∷ b) k have to = let e : a ≡ Name n ∷ b = cc in rw e have
up_carries i v f a (Index j ∷ b) k have to = up_at i v f a j b k have (nat_lt j i) refl (nat_lt (j + 1) (2 ^ 64)) to

up_other : (i : ℕ) (v f : Kinds) → IndicesFit f → (j : ℕ) (a : Address) (k : Kind) → (low : Bool) → nat_lt j i ≡ low → (same : Bool) → nat_eq j i ≡ same
    → cond low (f (Index j ∷ a)) (cond same (v a) (f (Index (j - 1) ∷ a))) ≡ Some k → Comes (up_from i) (Index i ∷ []) v f (Index j ∷ a) k
up_other i v f fit j a k true low same is have = inl (Index j ∷ a, have, rw low refl)
up_other i v f fit j a k false low true is have = let e : j ≡ i = grind (arith, nat_tests) in inr (a, ap (λ n. Index n ∷ a) e, have)
up_other i v f fit j a k false low false is have =
    let room : j - 1 + 1 < 2 ^ 64 = fit (j - 1) a k have in
    let lt : i < j = grind (arith, nat_tests) in
    let one : nat_lt (j - 1) i ≡ false = grind (arith, nat_tests) in
    let two : nat_lt (j - 1 + 1) (2 ^ 64) ≡ true = grind (arith, nat_tests) in
    let back : j - 1 + 1 ≡ j = omega arith in
    inl (Index (j - 1) ∷ a, have, rw (one, two, back) refl)

up_others : (i : ℕ) (v f : Kinds) → IndicesFit f → (a : Address) (k : Kind) → shifted_in i v f a ≡ Some k → Comes (up_from i) (Index i ∷ []) v f a k
up_others i v f fit [] k have = inl ([], have, refl)
up_others i v f fit (Name n ∷ a) k have = inl (Name n ∷ a, have, refl)
up_others i v f fit (Index j ∷ a) k have = up_other i v f fit j a k (nat_lt j i) refl (nat_eq j i) refl have

test_same : (i : ℕ) → nat_eq i i ≡ true
test_same i = grind (arith, nat_tests)

test_low : (i : ℕ) → nat_lt i i ≡ false
test_low i = grind (arith, nat_tests)

pub moves_in : (i : ℕ) (v f : Kinds) → IndicesFit f → Moves (up_from i) (Index i ∷ []) v f (shifted_in i v f)
moves_in i v f fit = record { carried = up_carries i v f; placed = λ r k have. rw (test_same i, test_low i) have; no_other = up_others i v f fit }

-- ---- an element less

down_at : (i : ℕ) (f : Kinds) (a : Address) (j : ℕ) (b : Address) (k : Kind) → f (Index j ∷ b) ≡ Some k → (low : Bool) → nat_lt j i ≡ low → (same : Bool) → nat_eq j i ≡ same
    → cond low (Some (Index j ∷ b)) (cond same None (Some (Index (j - 1) ∷ b))) ≡ Some a → shifted_out i f a ≡ Some k
down_at i f a j b k have true low same is to = let e : a ≡ Index j ∷ b = cc in rw (e, low) have
down_at i f a j b k have false low true is to = cc
down_at i f a j b k have false low false is to =
    let e : a ≡ Index (j - 1) ∷ b = cc in
    let lt : i < j = grind (arith, nat_tests) in
    let one : nat_lt (j - 1) i ≡ false = grind (arith, nat_tests) in
    let back : j - 1 + 1 ≡ j = omega arith in
    rw (e, one, back) have

down_carries : (i : ℕ) (f : Kinds) (a b : Address) (k : Kind) → f b ≡ Some k → down_above i b ≡ Some a → shifted_out i f a ≡ Some k
down_carries i f a [] k have to = let e : a ≡ [] = cc in rw e have
down_carries i f a (Name n ∷ b) k have to = let e : a ≡ Name n ∷ b = cc in rw e have
down_carries i f a (Index j ∷ b) k have to = down_at i f a j b k have (nat_lt j i) refl (nat_eq j i) refl to

down_other : (i : ℕ) (f : Kinds) → (j : ℕ) (a : Address) (k : Kind) → (low : Bool) → nat_lt j i ≡ low
    → cond low (f (Index j ∷ a)) (f (Index (j + 1) ∷ a)) ≡ Some k → Comes (down_above i) [] nothing f (Index j ∷ a) k
down_other i f j a k true low have = inl (Index j ∷ a, have, rw low refl)
down_other i f j a k false low have =
    let one : nat_lt (j + 1) i ≡ false = grind (arith, nat_tests) in
    let two : nat_eq (j + 1) i ≡ false = grind (arith, nat_tests) in
    let back : j + 1 - 1 ≡ j = omega arith in
    inl (Index (j + 1) ∷ a, have, rw (one, two, back) refl)

down_others : (i : ℕ) (f : Kinds) → (a : Address) (k : Kind) → shifted_out i f a ≡ Some k → Comes (down_above i) [] nothing f a k
down_others i f [] k have = inl ([], have, refl)
down_others i f (Name n ∷ a) k have = inl (Name n ∷ a, have, refl)
down_others i f (Index j ∷ a) k have = down_other i f j a k (nat_lt j i) refl have

pub moves_out : (i : ℕ) (f : Kinds) → Moves (down_above i) [] nothing f (shifted_out i f)
moves_out i f = record { carried = down_carries i f; placed = λ r k have. cc; no_other = down_others i f }

-- ---- a member renamed

same_name : (m n : List ℕ) → bytes_eq m n ≡ true → m ≡ n
same_name m n h = (bytes_eq-Decides m n).0 h

self_name : (m : List ℕ) → bytes_eq m m ≡ true
self_name m = (bytes_eq-Decides m m).1 refl

name_at : (from to : List ℕ) (f : Kinds) → Absent (Name to) f → (a : Address) (n : List ℕ) (b : Address) (k : Kind) → f (Name n ∷ b) ≡ Some k → (old : Bool) → bytes_eq from n ≡ old → (new : Bool) → bytes_eq to n ≡ new
    → cond old (Some (Name to ∷ b)) (Some (Name n ∷ b)) ≡ Some a → renamed from to f a ≡ Some k
name_at from to f none a n b k have true old new is go =
    let e : a ≡ Name to ∷ b = cc in
    let st : from ≡ n = same_name from n old in
    rw (e, self_name to) (ap (λ m. f (Name m ∷ b)) st ∙ have)
name_at from to f none a n b k have false old false is go = let e : a ≡ Name n ∷ b = cc in rw (e, is, old) have
name_at from to f none a n b k have false old true is go = let e : f (Name n ∷ b) ≡ None = ap (λ m. f (Name m ∷ b)) (sym (same_name to n is)) ∙ none b in cc

name_carries : (from to : List ℕ) (f : Kinds) → Absent (Name to) f → (a b : Address) (k : Kind) → f b ≡ Some k → to_name from to b ≡ Some a → renamed from to f a ≡ Some k
name_carries from to f none a [] k have go = let e : a ≡ [] = cc in rw e have
name_carries from to f none a (Index i ∷ b) k have go = let e : a ≡ Index i ∷ b = cc in rw e have
name_carries from to f none a (Name n ∷ b) k have go = name_at from to f none a n b k have (bytes_eq from n) refl (bytes_eq to n) refl go

name_other : (from to : List ℕ) (f : Kinds) (n : List ℕ) (a : Address) (k : Kind) → (new : Bool) → bytes_eq to n ≡ new → (old : Bool) → bytes_eq from n ≡ old
    → cond new (f (Name from ∷ a)) (cond old None (f (Name n ∷ a))) ≡ Some k → Comes (to_name from to) [] nothing f (Name n ∷ a) k
name_other from to f n a k true new old is have = inl (Name from ∷ a, have, rw self_name (ap (λ m. Some (Name m ∷ a)) (same_name to n new)))
name_other from to f n a k false new true is have = cc
name_other from to f n a k false new false is have = inl (Name n ∷ a, have, rw is refl)

name_others : (from to : List ℕ) (f : Kinds) → (a : Address) (k : Kind) → renamed from to f a ≡ Some k → Comes (to_name from to) [] nothing f a k
name_others from to f [] k have = inl ([], have, refl)
name_others from to f (Index i ∷ a) k have = inl (Index i ∷ a, have, refl)
name_others from to f (Name n ∷ a) k have = name_other from to f n a k (bytes_eq to n) refl (bytes_eq from n) refl have

pub moves_name : (from to : List ℕ) (f : Kinds) → Absent (Name to) f → Moves (to_name from to) [] nothing f (renamed from to f)
moves_name from to f none = record { carried = name_carries from to f none; placed = λ r k have. cc; no_other = name_others from to f }
