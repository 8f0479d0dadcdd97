-- The value of digits, read from the left.
use Rattle.std.proofs.Common.{◌≡◌, ℕ, ◌+◌, ◌*◌, ◌<◌, ◌≤◌, List, length, take, sym, ap, ◌∙◌, get_or, arith}
use Rattle.std.proofs.lemmas.Int.Digits.{digits_value_more}
use Rattle.std.proofs.lemmas.List.{take_all}
use Rattle.std.proofs.lemmas.Str.Parse.{digits_value-take-le}
use Rattle.std.specs.Char.{digit_value}
use Rattle.std.specs.Str.Parse.{digits_value}

module _ (bs : List ℕ) (i value : ℕ) where
  pub value_more : i < length bs → value ≡ digits_value 10 (take i bs) → value * 10 + digit_value (get_or bs i 0) ≡ digits_value 10 (take (i + 1) bs)
  value_more low is = ap (λ v. v * 10 + digit_value (get_or bs i 0)) is ∙ sym (digits_value_more 10 bs i low)

  pub value_least : i < length bs → value ≡ digits_value 10 (take i bs) → value * 10 + digit_value (get_or bs i 0) ≤ digits_value 10 bs
  value_least low is = omega (arith, value_more low is, digits_value-take-le 10 bs (i + 1) (omega arith))

  pub value_all : length bs ≤ i → value ≡ digits_value 10 (take i bs) → value ≡ digits_value 10 bs
  value_all past is = is ∙ ap (digits_value 10) (take_all i bs past)

pub ruleset values = (value_more, value_least, value_all)
