-- Where edits carry a thing, so far and from there on.
use Rattle.std.proofs.Common.{take, ◌++◌, ◌≡◌, ℕ, zero, suc, Bool, ◌+◌, ◌<◌, ◌≤◌, List, [], ◌∷◌, length, drop, get_or, Option, Some, add-one, refl, sym, ap, ◌∙◌, arith}
use Rattle.std.proofs.Math.Seq.{drop-cons}
use Rattle.std.proofs.lemmas.Option.{same_Some}
use Rattle.std.specs.Prelude.{◌↔◌, IsTrue}
use Rattle.toml_names.specs.model.Addresses.{Address, same_address}
use Rattle.toml_names.proofs.Proved.{same_address-decides}

-- what is left of a list, and its next element
pub dropped : {A : Type 0} (xs : List A) (i : ℕ) (x : A) → i < length xs → x ≡ get_or xs i x → drop i xs ≡ x ∷ drop (i + 1) xs
dropped xs i x low is = rw add-one (drop-cons xs i x low ∙ ap (λ y. y ∷ drop (suc i) xs) (sym is))

taken_more : {A : Type 0} (xs : List A) (i : ℕ) (x : A) → i < length xs → x ≡ get_or xs i x → take (suc i) xs ≡ take i xs ++ x ∷ []
taken_more [] i x low is = absurd (omega (arith, low))
taken_more (y ∷ xs) zero x low is = ap (λ z. z ∷ []) (sym is)
taken_more (y ∷ xs) (suc i) x low is = ap (λ zs. y ∷ zs) (taken_more xs i x (omega (arith, low)) is)

pub taken : {A : Type 0} (xs : List A) (i : ℕ) (x : A) → i < length xs → x ≡ get_or xs i x → take (i + 1) xs ≡ take i xs ++ x ∷ []
taken xs i x low is = rw add-one (taken_more xs i x low is)

pub none_left : {A : Type 0} (xs : List A) (i : ℕ) → length xs ≤ i → drop i xs ≡ []
none_left [] zero past = refl
none_left [] (suc i) past = refl
none_left (x ∷ xs) zero past = absurd (omega arith)
none_left (x ∷ xs) (suc i) past = none_left xs i (omega arith)

-- whether where they have carried it is the address
pub arrived : (whole found : Option Address) (last to : Address) (test : Bool) → found ≡ whole → found ≡ Some last → test ≡ same_address last to → IsTrue test ↔ (whole ≡ Some to)
arrived whole found last to test so is same = (
  (λ h. sym so ∙ is ∙ ap Some ((same_address-decides last to).0 (sym same ∙ h))),
  (λ h. same ∙ (same_address-decides last to).1 (same_Some last to (sym is ∙ so ∙ h))),
)
