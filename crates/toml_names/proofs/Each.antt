-- What holds of each, of every two and of some of a list, by recursion.
use Rattle.toml_names.proofs.Common.{◌≡◌, zero, suc, ◌⊎◌, inl, inr, List, [], ◌∷◌, ◌++◌, All, Any, AllPairs, refl, sym, subst, arith, All-head, All-tail, All-nil, All-cons, EachIs}

-- ---- each

pub each_append : {A : Type 0} (P : A → Type 0) (xs ys : List A) → EachIs P xs → EachIs P ys → EachIs P (xs ++ ys)
each_append P [] ys h k = k
each_append P (x ∷ xs) ys h k = (h.0, each_append P xs ys h.1 k)

pub each_left : {A : Type 0} (P : A → Type 0) (xs ys : List A) → EachIs P (xs ++ ys) → EachIs P xs
each_left P [] ys h = tt
each_left P (x ∷ xs) ys h = (h.0, each_left P xs ys h.1)

pub each_right : {A : Type 0} (P : A → Type 0) (xs ys : List A) → EachIs P (xs ++ ys) → EachIs P ys
each_right P [] ys h = h
each_right P (x ∷ xs) ys h = each_right P xs ys h.1

pub each_weaker : {A : Type 0} (P Q : A → Type 0) → ((x : A) → P x → Q x) → (xs : List A) → EachIs P xs → EachIs Q xs
each_weaker P Q w [] h = tt
each_weaker P Q w (x ∷ xs) h = (w x h.0, each_weaker P Q w xs h.1)

pub each_of_all : {A : Type 0} (P : A → Type 0) (xs : List A) → All P xs → EachIs P xs
each_of_all P [] h = tt
each_of_all P (x ∷ xs) h = (All-head P x xs h, each_of_all P xs (All-tail P x xs h))

-- ---- every two

abbrev pub PairsAre : {A : Type 0} → (A → A → Type 0) → List A → Type 0
PairsAre R [] = Unit {0}
PairsAre R (x ∷ xs) = EachIs (R x) xs × PairsAre R xs

pub pairs_of_all : {A : Type 0} (R : A → A → Type 0) (xs : List A) → AllPairs R xs → PairsAre R xs
pairs_of_all R [] h = tt
pairs_of_all R (x ∷ xs) h = (
  each_of_all (R x) xs (λ k d low. h zero (suc k) d (omega arith) (omega (arith, low))),
  pairs_of_all R xs (λ i j d low high. h (suc i) (suc j) d (omega (arith, low)) (omega (arith, high))),
)

pub all_of_each : {A : Type 0} (P : A → Type 0) (xs : List A) → EachIs P xs → All P xs
all_of_each P [] h = All-nil P
all_of_each P (x ∷ xs) h = All-cons P x xs h.0 (all_of_each P xs h.1)

pub all_of_pairs : {A : Type 0} (R : A → A → Type 0) (xs : List A) → PairsAre R xs → AllPairs R xs
all_of_pairs R [] h i j d low high = absurd (omega (arith, high))
all_of_pairs R (x ∷ xs) h zero zero d low high = absurd (omega (arith, low))
all_of_pairs R (x ∷ xs) h (suc i) zero d low high = absurd (omega (arith, low))
all_of_pairs R (x ∷ xs) h zero (suc j) d low high = all_of_each (R x) xs h.0 j d (omega (arith, high))
all_of_pairs R (x ∷ xs) h (suc i) (suc j) d low high = all_of_pairs R xs h.1 i j d (omega (arith, low)) (omega (arith, high))

-- ---- some

abbrev pub Has : {A : Type 0} → (A → Type 0) → List A → Type 0
Has P [] = ⊥
Has P (x ∷ xs) = P x ⊎ Has P xs

pub has_of_any : {A : Type 0} (P : A → Type 0) (xs : List A) → Any P xs → Has P xs
has_of_any P [] (k, x, low, is, p) = absurd (omega (arith, low))
has_of_any P (y ∷ ys) (zero, x, low, is, p) = inl (subst P (sym is) p)
has_of_any P (y ∷ ys) (suc k, x, low, is, p) = inr (has_of_any P ys (k, x, omega (arith, low), is, p))

pub any_of_has : {A : Type 0} (P : A → Type 0) (xs : List A) → Has P xs → Any P xs
any_of_has P [] h = absurd h
any_of_has P (y ∷ ys) (inl p) = (zero, y, omega arith, refl, p)
any_of_has P (y ∷ ys) (inr h) = later (any_of_has P ys h)
  where
    later : Any P ys → Any P (y ∷ ys)
    later (k, x, low, is, p) = (suc k, x, omega (arith, low), is, p)

pub has_left : {A : Type 0} (P : A → Type 0) (xs ys : List A) → Has P xs → Has P (xs ++ ys)
has_left P [] ys h = absurd h
has_left P (x ∷ xs) ys (inl p) = inl p
has_left P (x ∷ xs) ys (inr h) = inr (has_left P xs ys h)

pub has_right : {A : Type 0} (P : A → Type 0) (xs ys : List A) → Has P ys → Has P (xs ++ ys)
has_right P [] ys h = h
has_right P (x ∷ xs) ys h = inr (has_right P xs ys h)

pub has_weaker : {A : Type 0} (P Q : A → Type 0) → ((x : A) → P x → Q x) → (xs : List A) → Has P xs → Has Q xs
has_weaker P Q w [] h = absurd h
has_weaker P Q w (x ∷ xs) (inl p) = inl (w x p)
has_weaker P Q w (x ∷ xs) (inr h) = inr (has_weaker P Q w xs h)

-- one of them, of which something else holds too
pub has_each : {A : Type 0} (P Q R : A → Type 0) → ((x : A) → P x → Q x → R x) → (xs : List A) → EachIs P xs → Has Q xs → Has R xs
has_each P Q R w [] p h = h
has_each P Q R w (x ∷ xs) p (inl q) = inl (w x p.0 q)
has_each P Q R w (x ∷ xs) p (inr h) = inr (has_each P Q R w xs p.1 h)

-- what follows from one of them, where something holds of each
pub from_has : {A : Type 0} (P Q : A → Type 0) (C : Type 0) → ((x : A) → P x → Q x → C) → (xs : List A) → EachIs P xs → Has Q xs → C
from_has P Q C w [] p h = absurd h
from_has P Q C w (x ∷ xs) p (inl q) = w x p.0 q
from_has P Q C w (x ∷ xs) p (inr h) = from_has P Q C w xs p.1 h

-- what follows from two of them: they are one, or the one stands before the other
pub from_two : {A : Type 0} (R : A → A → Type 0) (P Q : A → Type 0) (C : Type 0) → ((x : A) → P x → Q x → C) → ((x y : A) → R x y → P x → Q y → C) → ((x y : A) → R x y → Q x → P y → C)
    → (xs : List A) → PairsAre R xs → Has P xs → Has Q xs → C
from_two R P Q C one first last [] pairs h k = absurd h
from_two R P Q C one first last (x ∷ xs) pairs (inl p) (inl q) = one x p q
from_two R P Q C one first last (x ∷ xs) pairs (inl p) (inr k) = from_has (R x) Q C (λ y r q. first x y r p q) xs pairs.0 k
from_two R P Q C one first last (x ∷ xs) pairs (inr h) (inl q) = from_has (R x) P C (λ y r p. last x y r q p) xs pairs.0 h
from_two R P Q C one first last (x ∷ xs) pairs (inr h) (inr k) = from_two R P Q C one first last xs pairs.1 h k

pub members_self : {A : Type 0} (xs : List A) → EachIs (λ x. Has (λ y. y ≡ x) xs) xs
members_self [] = tt
members_self (x ∷ xs) = (inl refl, each_weaker (λ z. Has (λ y. y ≡ z) xs) (λ z. Has (λ y. y ≡ z) (x ∷ xs)) (λ z h. inr h) xs (members_self xs))

-- what follows from one of them
pub taken : {A : Type 0} (Q : A → Type 0) (C : Type 0) (xs : List A) → ((x : A) → Has (λ y. y ≡ x) xs → Q x → C) → Has Q xs → C
taken Q C xs w h = from_has (λ x. Has (λ y. y ≡ x) xs) Q C w xs (members_self xs) h

-- what holds of each holds of one of them
pub of_member : {A : Type 0} (P : A → Type 0) (xs : List A) (x : A) → EachIs P xs → Has (λ y. y ≡ x) xs → P x
of_member P xs x each there = from_has P (λ y. y ≡ x) (P x) (λ y p is. subst P is p) xs each there
