-- Small facts of lists and of addresses.
use Rattle.std.proofs.Common.{◌≡◌, ◌∙◌, ℕ, suc, ◌+◌, ◌<◌, Bool, true, false, ◌&&◌, List, [], ◌∷◌, All, length, drop, get_or, refl, ap, sym, subst, add-one}
use Rattle.std.proofs.Math.Seq.{drop-cons}
use Rattle.std.proofs.lemmas.Bool.{and_parts}
use Rattle.std.proofs.lemmas.List.Elements.{All-head, All-tail}
use Rattle.toml_names.proofs.Proved.{same_step-equal, same_step-self}
use Rattle.toml_names.specs.model.Addresses.{Address, same_step, is_above}
use Rattle.toml_tree.specs.Spells.{EachIs}
use Rattle.toml_layout.specs.Beginnings.{begins}

-- ---- lists

-- one more is passed
pub dropped : {A : Type 0} (xs : List A) (i : ℕ) (x : A) → i < length xs → x ≡ get_or xs i x → drop i xs ≡ x ∷ drop (i + 1) xs
dropped xs i x low is = rw add-one (drop-cons xs i x low ∙ ap (λ y. y ∷ drop (suc i) xs) (sym is))

pub each_of_all : {A : Type 0} (P : A → Type 0) (xs : List A) → All P xs → EachIs P xs
each_of_all P [] h = tt
each_of_all P (x ∷ xs) h = (All-head P x xs h, each_of_all P xs (All-tail P x xs h))

pub each_weaker : {A : Type 0} (P Q : A → Type 0) → ((x : A) → P x → Q x) → (xs : List A) → EachIs P xs → EachIs Q xs
each_weaker P Q f [] h = tt
each_weaker P Q f (x ∷ xs) h = (f x h.0, each_weaker P Q f xs h.1)

-- ---- which address is a beginning of which

pub begins_self : (a : Address) → begins a a ≡ true
begins_self [] = refl
begins_self (s ∷ a) = ap (λ r. r && begins a a) (same_step-self s) ∙ begins_self a

-- what is not so stays not so beside anything
pub still_off : (c a b : Bool) → (a ≡ false → b ≡ false) → (c && a) ≡ false → (c && b) ≡ false
still_off true a b later off = later off
still_off false a b later off = refl

-- what is strictly above is a beginning, and not the other way round
pub above_begins : (a b : Address) → is_above a b ≡ true → (begins a b ≡ true) × (begins b a ≡ false)
above_begins [] [] h = cc
above_begins [] (t ∷ b) h = (refl, refl)
above_begins (s ∷ a) [] h = cc
above_begins (s ∷ a) (t ∷ b) h =
    let parts = and_parts (same_step s t) (is_above a b) h in
    let same = same_step-equal s t parts.0 in
    let later = above_begins a b parts.1 in
    (ap (λ r. r && begins a b) parts.0 ∙ later.0, subst (λ x. (same_step x s && begins b a) ≡ false) same (ap (λ r. r && begins b a) (same_step-self s) ∙ later.1))
