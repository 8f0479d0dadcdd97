-- What is known where `get_mut` finds nothing.
use Rattle.std.proofs.Common.{◌≡◌, ℕ, ◌<◌, ◌≤◌, true, false, List, length, None, arith, inl, inr}
use Rattle.std.proofs.lemmas.Bool.{cases_lt, false≢true}
use Rattle.std.proofs.lemmas.Option.{slice_get_past}
use Rattle.std.specs.Prelude.{slice_get}

pub past_end : {X : Type 0} (xs : List X) (n i : ℕ) → n ≡ length xs → (i < n → false ≡ true) → length xs ≤ i
past_end xs n i is none = elim (cases_lt i n) [
  | inl low ↦ absurd (false≢true (none low))
  | inr past ↦ omega (arith, is, past)
]

pub none_past : {X : Type 0} (xs : List X) (n i : ℕ) → n ≡ length xs → (i < n → false ≡ true) → slice_get xs i ≡ None
none_past xs n i is none = slice_get_past xs i (past_end xs n i is none)
