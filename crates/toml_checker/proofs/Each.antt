-- What holds of each element of a list, and elements of lists that are images.
use Rattle.std.proofs.Common.{◌≡◌, ℕ, zero, suc, List, [], ◌∷◌, map, Some, refl, ap, subst, ◌∙◌}
use Rattle.std.specs.Prelude.{option_map, slice_get}
use Rattle.std.proofs.lemmas.Option.{none-some, same_Some, slice_get-map}
use Rattle.toml_tree.specs.Spells.{EachIs}

pub each_weaker : {A : Type 0} (P Q : A → Type 0) → ((x : A) → P x → Q x) → (xs : List A) → EachIs P xs → EachIs Q xs
each_weaker P Q f [] h = tt
each_weaker P Q f (x ∷ xs) h = (f x h.0, each_weaker P Q f xs h.1)

pub each_get : {A : Type 0} (P : A → Type 0) (xs : List A) (j : ℕ) (w : A) → EachIs P xs → slice_get xs j ≡ Some w → P w
each_get P [] j w h is = cc
each_get P (x ∷ xs) zero w h is = subst P (same_Some x w is) h.0
each_get P (x ∷ xs) (suc j) w h is = each_get P xs j w h.1 is

pub each_all : {A : Type 0} (P : A → Type 0) (xs : List A) → ((j : ℕ) (w : A) → slice_get xs j ≡ Some w → P w) → EachIs P xs
each_all P [] h = tt
each_all P (x ∷ xs) h = (h 0 x refl, each_all P xs (λ j w is. h (suc j) w is))

pub image_at : {A B : Type 0} (f : A → B) (xs : List A) (i : ℕ) (x : A) → slice_get xs i ≡ Some x → slice_get (map f xs) i ≡ Some (f x)
image_at f xs i x is = slice_get-map f xs i ∙ ap (option_map f) is

pub whose_image : {A B : Type 0} (f : A → B) (xs : List A) (i : ℕ) (y : B) → slice_get (map f xs) i ≡ Some y
    → (x : A) × (slice_get xs i ≡ Some x) × (f x ≡ y)
whose_image f [] i y is = absurd (none-some y is)
whose_image f (x ∷ xs) zero y is = (x, refl, same_Some (f x) y is)
whose_image f (x ∷ xs) (suc i) y is = whose_image f xs i y is
