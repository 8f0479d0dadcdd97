-- From pairs to a map of all protected units, whose numbers rise.
use Rattle.std.proofs.Common.{◌≡◌, ◌⊎◌, ℕ, ◌+◌, ◌-◌, ◌<◌, ◌≤◌, Bool, true, false, cond, ◌&&◌, List, [], ◌∷◌, inl, inr, refl, arith}
use Rattle.std.specs.Bool.{nat_le}
use Rattle.std.proofs.lemmas.Bool.Decides.{nat_tests}
use Rattle.toml_checker.specs.Pairs.{RiseFrom, Rise}

-- what lies inside the unit at v is the `size v` units after it; blocks nest or are apart
abbrev pub Nests : (ℕ → ℕ) → Type 0
Nests size = (v w : ℕ) → v < w → w ≤ v + size v → w + size w ≤ v + size v

abbrev pub in_block : (ℕ → ℕ) → ℕ → ℕ → Bool
in_block size v i = nat_le v i && nat_le i (v + size v)

-- some protected pair has i in its block
abbrev pub Covered : (ℕ → Bool) → (ℕ → ℕ) → List (ℕ × ℕ) → ℕ → Type 0
Covered protected size [] i = ⊥
Covered protected size (p ∷ ps) i = ((protected p.0 ≡ true) × (in_block size p.0 i ≡ true)) ⊎ Covered protected size ps i

-- the partner by the first such pair
abbrev pub partner : (ℕ → Bool) → (ℕ → ℕ) → List (ℕ × ℕ) → ℕ → ℕ
partner protected size [] i = 0
partner protected size (p ∷ ps) i = cond (protected p.0 && in_block size p.0 i) (p.1 + (i - p.0)) (partner protected size ps i)

-- no pair's second number lies in the block of an earlier one unless its first does
abbrev pub ApartFrom : (ℕ → Bool) → (ℕ → ℕ) → ℕ × ℕ → List (ℕ × ℕ) → Type 0
ApartFrom protected size p [] = Unit {0}
ApartFrom protected size p (q ∷ ps) = (protected p.0 ≡ true → protected q.0 ≡ true → p.0 + size p.0 < q.0 → p.1 + size p.0 < q.1) × ApartFrom protected size p ps

abbrev pub Apart : (ℕ → Bool) → (ℕ → ℕ) → List (ℕ × ℕ) → Type 0
Apart protected size [] = Unit {0}
Apart protected size (p ∷ ps) = ApartFrom protected size p ps × Apart protected size ps

pub block_low : (size : ℕ → ℕ) (v i : ℕ) → in_block size v i ≡ true → v ≤ i
block_low size v i h = grind (arith, nat_tests)

pub block_high : (size : ℕ → ℕ) (v i : ℕ) → in_block size v i ≡ true → i ≤ v + size v
block_high size v i h = grind (arith, nat_tests)

block_out : (size : ℕ → ℕ) (v i : ℕ) → in_block size v i ≡ false → v ≤ i → v + size v < i
block_out size v i h l = grind (arith, nat_tests)

pub both_true : (a b : Bool) → a && b ≡ true → (a ≡ true) × (b ≡ true)
both_true true b e = (refl, e)
both_true false b e = cc

pair_true : (a b : Bool) → a ≡ true → b ≡ true → a && b ≡ true
pair_true true b e f = f
pair_true false b e f = cc

right_false : (a b : Bool) → a ≡ true → a && b ≡ false → b ≡ false
right_false true b e f = f
right_false false b e f = cc

pub block_in : (size : ℕ → ℕ) (v i : ℕ) → v ≤ i → i ≤ v + size v → in_block size v i ≡ true
block_in size v i l h = grind (arith, nat_tests)

-- pairs after v name later units
later : (protected : ℕ → Bool) (size : ℕ → ℕ) (a b : ℕ) (ps : List (ℕ × ℕ)) (i : ℕ) → RiseFrom a b ps → Covered protected size ps i → a < i
later protected size a b [] i r c = absurd c
later protected size a b (p ∷ ps) i r (inl h) = let low = block_low size p.0 i h.1 in omega (arith, r.0)
later protected size a b (p ∷ ps) i r (inr h) = let low = later protected size p.0 p.1 ps i r.2 h in omega (arith, r.0)

-- a partner by the pairs after p lies past the block of p's second number, where i is past p's block
abbrev Past : (ℕ → Bool) → (ℕ → ℕ) → ℕ × ℕ → List (ℕ × ℕ) → ℕ → Type 0
Past protected size p ps i = p.1 + size p.0 < partner protected size ps i

pub clash : (b : Bool) → b ≡ true → b ≡ false → ⊥
clash b t f = cc

outside_at : (size : ℕ → ℕ) (p q i : ℕ) → Nests size → p < q → i ≤ q + size q → p + size p < i → (b : Bool) → nat_le q (p + size p) ≡ b → p + size p < q
outside_at size p q i nests lt high out true e = let le : q ≤ p + size p = grind (arith, nat_tests) in let n = nests p q lt le in absurd (omega arith)
outside_at size p q i nests lt high out false e = grind (arith, nat_tests)

outside : (size : ℕ → ℕ) (p q i : ℕ) → Nests size → p < q → i ≤ q + size q → p + size p < i → p + size p < q
outside size p q i nests lt high out = outside_at size p q i nests lt high out (nat_le q (p + size p)) refl

past_at : (protected : ℕ → Bool) (size : ℕ → ℕ) (p q : ℕ × ℕ) (ps : List (ℕ × ℕ)) (i : ℕ) → Nests size → protected p.0 ≡ true → p.0 < q.0 → ApartFrom protected size p (q ∷ ps) → Covered protected size (q ∷ ps) i → p.0 + size p.0 < i
    → (Covered protected size ps i → Past protected size p ps i)
    → (here : Bool) → protected q.0 && in_block size q.0 i ≡ here → p.1 + size p.0 < cond here (q.1 + (i - q.0)) (partner protected size ps i)
past_at protected size p q ps i nests prot low apart (inr c) out next false e = next c
past_at protected size p q ps i nests prot low apart (inl c) out next false e = let t : protected q.0 && in_block size q.0 i ≡ true = rw (c.0, c.1) refl in absurd (clash _ t e)
past_at protected size p q ps i nests prot low apart c out next true e =
    let h = both_true (protected q.0) (in_block size q.0 i) e in
    let a = block_low size q.0 i h.1 in
    let b = block_high size q.0 i h.1 in
    let far : p.0 + size p.0 < q.0 = outside size p.0 q.0 i nests low b out in
    let g = apart.0 prot h.0 far in
    omega arith

past : (protected : ℕ → Bool) (size : ℕ → ℕ) (p : ℕ × ℕ) (a b : ℕ) (ps : List (ℕ × ℕ)) (i : ℕ) → Nests size → protected p.0 ≡ true → p.0 ≤ a → RiseFrom a b ps → ApartFrom protected size p ps → Covered protected size ps i → p.0 + size p.0 < i
    → Past protected size p ps i
past protected size p a b [] i nests prot low r apart c out = absurd c
past protected size p a b (q ∷ ps) i nests prot low r apart c out =
    past_at protected size p q ps i nests prot (omega (arith, r.0)) apart c out (λ d. past protected size p q.0 q.1 ps i nests prot (omega (arith, r.0)) r.2 apart.1 d out) (protected q.0 && in_block size q.0 i) refl

rises_at : (protected : ℕ → Bool) (size : ℕ → ℕ) (p : ℕ × ℕ) (ps : List (ℕ × ℕ)) → Nests size → RiseFrom p.0 p.1 ps → ApartFrom protected size p ps × Apart protected size ps → (i j : ℕ) → i < j → Covered protected size (p ∷ ps) i → Covered protected size (p ∷ ps) j
    → (Covered protected size ps i → Covered protected size ps j → partner protected size ps i < partner protected size ps j)
    → (a : Bool) → protected p.0 && in_block size p.0 i ≡ a → (b : Bool) → protected p.0 && in_block size p.0 j ≡ b
    → cond a (p.1 + (i - p.0)) (partner protected size ps i) < cond b (p.1 + (j - p.0)) (partner protected size ps j)
rises_at protected size p ps nests r apart i j lt c d next true e true f = let h = both_true _ _ e in let low = block_low size p.0 i h.1 in omega arith
rises_at protected size p ps nests r apart i j lt c (inl d) next true e false f = absurd (clash _ (pair_true _ _ d.0 d.1) f)
rises_at protected size p ps nests r apart i j lt c (inr d) next true e false f =
    let h = both_true (protected p.0) (in_block size p.0 i) e in
    let low = block_low size p.0 i h.1 in
    let high = block_high size p.0 i h.1 in
    let out = block_out size p.0 j (right_false _ _ h.0 f) (omega arith) in
    let g : p.1 + size p.0 < partner protected size ps j = past protected size p p.0 p.1 ps j nests h.0 (omega arith) r apart.0 d out in
    omega arith
rises_at protected size p ps nests r apart i j lt (inl c) d next false e b f = absurd (clash _ (pair_true _ _ c.0 c.1) e)
rises_at protected size p ps nests r apart i j lt (inr c) d next false e true f =
    let h = both_true (protected p.0) (in_block size p.0 j) f in
    let high = block_high size p.0 j h.1 in
    let low = later protected size p.0 p.1 ps i r c in
    absurd (clash _ (pair_true _ _ h.0 (block_in size p.0 i (omega arith) (omega arith))) e)
rises_at protected size p ps nests r apart i j lt (inr c) (inl d) next false e false f = absurd (clash _ (pair_true _ _ d.0 d.1) f)
rises_at protected size p ps nests r apart i j lt (inr c) (inr d) next false e false f = next c d

tail_rises : (a b : ℕ) (ps : List (ℕ × ℕ)) → RiseFrom a b ps → Rise ps
tail_rises a b [] r = tt
tail_rises a b (p ∷ ps) r = r.2

pub rises : (protected : ℕ → Bool) (size : ℕ → ℕ) (ps : List (ℕ × ℕ)) → Nests size → Rise ps → Apart protected size ps → (i j : ℕ) → i < j → Covered protected size ps i → Covered protected size ps j → partner protected size ps i < partner protected size ps j
rises protected size [] nests r apart i j lt c d = absurd c
rises protected size (p ∷ ps) nests r apart i j lt c d =
    rises_at protected size p ps nests r apart i j lt c d (rises protected size ps nests (tail_rises p.0 p.1 ps r) apart.1 i j lt)
    (protected p.0 && in_block size p.0 i) refl (protected p.0 && in_block size p.0 j) refl
