-- An item that is lent.
use Rattle.std.proofs.Common.{◌≡◌, ◌<◌, ◌≤◌, ◌⊎◌, inl, inr, ℕ, List, length, get_or, Option, Some, None, IsSome, refl, sym, true≢false, arith}
use Rattle.std.proofs.lemmas.Bool.{cases_lt}
use Rattle.std.proofs.lemmas.Option.{slice_get_past, slice_get_read}
use Rattle.std.specs.Borrow.{MutBor}
use Rattle.std.specs.Option.{option_copied_mut}
use Rattle.std.specs.Prelude.{IfSome, OnSome, slice_get}

-- what holds anyway holds where there is a value
pub on_some : {A : Type 0} (o : Option A) (P : Type 0) → P → OnSome o P
on_some None P p = tt
on_some (Some a) P p = p

-- it is the item with the index
pub lent_item : {X : Type 0} (xs : List X) (n i : ℕ) (o : Option (MutBor X)) → n ≡ length xs → (i < n → IsSome o) → (IsSome o → i < n) → IfSome o (λ x. x.now ≡ get_or xs i x.now) → option_copied_mut o ≡ slice_get xs i
lent_item xs n i None size there back is =
    let past : length xs ≤ i = by (cases_lt i n) in sym (slice_get_past xs i past)
  where
    by : (i < n) ⊎ (n ≤ i) → length xs ≤ i
    by (inl low) = absurd (true≢false (sym (there low)))
    by (inr high) = omega (arith, size, high)
lent_item xs n i (Some x) size there back is = sym (slice_get_read xs n i x.now size (back refl) is)
