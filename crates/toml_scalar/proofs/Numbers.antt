-- Horner's loop: what the digits that are left make of the value of those before them.
use Rattle.std.proofs.Common.{◌≡◌, ℕ, suc, ◌+◌, ◌*◌, ◌^◌, ◌<◌, ◌≤◌, false, List, ◌∷◌, length, drop, get_or, eqb, refl, arith, add-one, drop-cons}
use Rattle.std.proofs.Math.ListN.{drop_of_length-le}
use Rattle.std.proofs.Math.Nat.{pow-zero, pow-succ', one-le-pow, mul-le-mul_left}
use Rattle.std.proofs.lemmas.Bool.{ne_eqb}
use Rattle.std.specs.Char.{digit_value}
use Rattle.toml_scalar.specs.Integers.{without_underscores, number}

-- the number of the digits behind others that spell `value`
unfoldable pub number_behind : ℕ → ℕ → List ℕ → ℕ
number_behind base value bs = value * base ^ length (without_underscores bs) + number base bs

pub behind_none : (base : ℕ) (bs : List ℕ) → number_behind base 0 bs ≡ number base bs
unfolding number_behind
behind_none base bs = omega arith

-- the value stands for digits in front, so the whole is no less
pub behind_least : (base value : ℕ) (bs : List ℕ) → 0 < base → value ≤ number_behind base value bs
unfolding number_behind
behind_least base value bs some =
    let scale : 1 ≤ base ^ length (without_underscores bs) = one-le-pow _ _ some in
    omega (arith, mul-le-mul_left value scale)

spread : (base value digit scale rest : ℕ) → value * (base * scale) + (digit * scale + rest) ≡ (value * base + digit) * scale + rest
spread base value digit scale rest = grind arith

digit_first : (base value b : ℕ) (bs : List ℕ) → eqb b 0x5F ≡ false → number_behind base value (b ∷ bs) ≡ number_behind base (value * base + digit_value b) bs
unfolding number_behind
digit_first base value b bs digit =
    let n = length (without_underscores bs) in
    let scale : base ^ suc n ≡ base * base ^ n = pow-succ' base n in
    rw (digit, scale) (spread base value (digit_value b) (base ^ n) (number base bs))

underscore_first : (base value : ℕ) (bs : List ℕ) → number_behind base value (0x5F ∷ bs) ≡ number_behind base value bs
unfolding number_behind
underscore_first base value bs = refl

module _ (base value i : ℕ) (bs : List ℕ) where
  pub behind_digit : i < length bs → (get_or bs i 0 ≡ 0x5F → ⊥) → number_behind base value (drop i bs) ≡ number_behind base (value * base + digit_value (get_or bs i 0)) (drop (i + 1) bs)
  behind_digit within digit = rw (add-one, drop-cons bs i 0) (digit_first base value (get_or bs i 0) (drop (suc i) bs) (ne_eqb _ 0x5F digit))

  pub behind_underscore : i < length bs → get_or bs i 0 ≡ 0x5F → number_behind base value (drop i bs) ≡ number_behind base value (drop (i + 1) bs)
  behind_underscore within is = rw (add-one, drop-cons bs i 0, is) (underscore_first base value (drop (suc i) bs))

  pub behind_all : length bs ≤ i → number_behind base value (drop i bs) ≡ value
  unfolding number_behind
  behind_all past = let one : base ^ 0 ≡ 1 = pow-zero base in rw (drop_of_length-le bs past, one) (omega arith)

pub ruleset behind = (behind_none, behind_least, behind_digit, behind_underscore, behind_all)
