-- What holds of each element of a list.
use Rattle.std.proofs.Common.{◌≡◌, ℕ, zero, suc, List, [], ◌∷◌, ◌++◌, map, set, take, Some, subst}
use Rattle.std.specs.Prelude.{slice_get}
use Rattle.std.proofs.lemmas.Option.{same_Some}
use Rattle.toml_tree.specs.Spells.{EachIs}

pub each_append : {A : Type 0} (P : A → Type 0) (xs ys : List A) → EachIs P xs → EachIs P ys → EachIs P (xs ++ ys)
each_append P [] ys h k = k
each_append P (x ∷ xs) ys h k = (h.0, each_append P xs ys h.1 k)

pub each_front : {A : Type 0} (P : A → Type 0) (xs ys : List A) → EachIs P (xs ++ ys) → EachIs P xs
each_front P [] ys h = tt
each_front P (x ∷ xs) ys h = (h.0, each_front P xs ys h.1)

pub each_taken : {A : Type 0} (P : A → Type 0) (n : ℕ) (xs : List A) → EachIs P xs → EachIs P (take n xs)
each_taken P zero xs h = tt
each_taken P (suc n) [] h = tt
each_taken P (suc n) (x ∷ xs) h = (h.0, each_taken P n xs h.1)

pub each_back : {A : Type 0} (P : A → Type 0) (xs ys : List A) → EachIs P (xs ++ ys) → EachIs P ys
each_back P [] ys h = h
each_back P (x ∷ xs) ys h = each_back P xs ys h.1

pub each_weaker : {A : Type 0} (P Q : A → Type 0) → ((x : A) → P x → Q x) → (xs : List A) → EachIs P xs → EachIs Q xs
each_weaker P Q f [] h = tt
each_weaker P Q f (x ∷ xs) h = (f x h.0, each_weaker P Q f xs h.1)

pub each_get : {A : Type 0} (P : A → Type 0) (xs : List A) (j : ℕ) (w : A) → EachIs P xs → slice_get xs j ≡ Some w → P w
each_get P [] j w h is = cc
each_get P (x ∷ xs) zero w h is = subst P (same_Some x w is) h.0
each_get P (x ∷ xs) (suc j) w h is = each_get P xs j w h.1 is

pub each_set : {A : Type 0} (P : A → Type 0) (xs : List A) (i : ℕ) (y : A) → EachIs P xs → P y → EachIs P (set xs i y)
each_set P [] i y h k = tt
each_set P (x ∷ xs) zero y h k = (k, h.1)
each_set P (x ∷ xs) (suc i) y h k = (h.0, each_set P xs i y h.1 k)

pub each_map : {A B : Type 0} (P : B → Type 0) (f : A → B) (xs : List A) → EachIs (λ x. P (f x)) xs → EachIs P (map f xs)
each_map P f [] h = tt
each_map P f (x ∷ xs) h = (h.0, each_map P f xs h.1)

pub map_each : {A B : Type 0} (P : B → Type 0) (f : A → B) (xs : List A) → EachIs P (map f xs) → EachIs (λ x. P (f x)) xs
map_each P f [] h = tt
map_each P f (x ∷ xs) h = (h.0, map_each P f xs h.1)
