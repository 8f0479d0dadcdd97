-- The plain functions tell which runs are integers, and an integer is a run of the bytes of values.
use Rattle.std.proofs.Common.{◌≡◌, ℕ, ◌^◌, ◌-◌, ◌≤◌, ◌<◌, Bool, true, false, cond, ◌&&◌, eqb, leb, ltb, List, [], ◌∷◌, ◌++◌, refl, ◌∙◌, arith, inl, inr, ⊎_elim, ◌⊎◌, ℤ, pos, neg_ℤ, ◌≤ℤ◌}
use Rattle.std.proofs.lemmas.Bool.{false≢true, eqb-true, eq-eqb, leb-true, le-leb, ltb-true, lt-ltb, and_parts, and_from, or_cases, or_left, or_right, cond-true, cond-false}
use Rattle.std.proofs.lemmas.Bool.Decides.{nat_tests}
use Rattle.std.proofs.lemmas.Int.{ints}
use Rattle.toml_text.specs.Bytes.{is_digit, is_hex, is_octal, is_binary}
use Rattle.toml_text.specs.Forms.{Each}
use Rattle.toml_text.specs.Runs.{begins}
use Rattle.toml_scalar.specs.Runs.{is_value_byte}
use Rattle.toml_scalar.specs.Integers.{AreDigits, IsSign, Signed, IsUnsigned, IsDecimal, IsBasedBy, IsBased, unsigned_value, FitsInteger, IsInteger}
use Rattle.toml_scalar.specs.IntegerRuns.{is_sign, signed, are_digits, is_unsigned, is_decimal, is_based_by, is_based, is_integer_form, fits_integer, is_integer}
use Rattle.toml_scalar.proofs.Digits.{either, digits_each, are_digits_sound, are_digits_complete, decimal_class, hexadecimal_class, octal_class, binary_class}

-- `[ minus / plus ]`
sign_sound : (b : ℕ) → is_sign b ≡ true → IsSign b
sign_sound b h = ⊎_elim (λ e. inl (eqb-true b 0x2B e)) (λ e. inr (eqb-true b 0x2D e)) (or_cases _ _ h)

sign_complete : (b : ℕ) → IsSign b → is_sign b ≡ true
sign_complete b h = ⊎_elim (λ (e : b ≡ 0x2B). rw e refl) (λ (e : b ≡ 0x2D). rw e refl) h

-- what holds of the sign's two bytes
sign_passes : (p : ℕ → Bool) → p 0x2B ≡ true → p 0x2D ≡ true → (b : ℕ) → IsSign b → p b ≡ true
sign_passes p plus minus b h = ⊎_elim (λ (e : b ≡ 0x2B). rw e plus) (λ (e : b ≡ 0x2D). rw e minus) h

module _ (f : List ℕ → Bool) (F : List ℕ → Type 0) where
  pub signed_sound : ((bs : List ℕ) → f bs ≡ true → F bs) → (bs : List ℕ) → signed f bs ≡ true → Signed F bs
  signed_sound sound [] h = sound [] h
  signed_sound sound (b ∷ bs) h = ⊎_elim
      (λ (k : (is_sign b ≡ true) × (f bs ≡ true)). inl (sign_sound b k.0, sound bs k.1))
      (λ (k : (is_sign b ≡ false) × (f (b ∷ bs) ≡ true)). inr (sound (b ∷ bs) k.1))
      (either (is_sign b) _ _ _ h)

  -- no piece of the form begins with a sign
  pub signed_complete : ((bs : List ℕ) → F bs → f bs ≡ true) → ((b : ℕ) (bs : List ℕ) → F (b ∷ bs) → is_sign b ≡ false) → (bs : List ℕ) → Signed F bs → signed f bs ≡ true
  signed_complete complete first [] h = complete [] h
  signed_complete complete first (b ∷ bs) (inl k) = cond-true _ _ _ (sign_complete b k.0) ∙ complete bs k.1
  signed_complete complete first (b ∷ bs) (inr k) = cond-false _ _ _ (first b bs k) ∙ complete (b ∷ bs) k

pub signed_each : (F : List ℕ → Type 0) (p : ℕ → Bool) → p 0x2B ≡ true → p 0x2D ≡ true → ((bs : List ℕ) → F bs → Each p bs) → (bs : List ℕ) → Signed F bs → Each p bs
signed_each F p plus minus each [] h = each [] h
signed_each F p plus minus each (b ∷ bs) (inl k) = (sign_passes p plus minus b k.0, each bs k.1)
signed_each F p plus minus each (b ∷ bs) (inr k) = each (b ∷ bs) k

-- digits in base 10
pub decimals_sound : (bs : List ℕ) → are_digits 10 bs ≡ true → AreDigits is_digit bs
decimals_sound = are_digits_sound 10 is_digit decimal_class

pub decimals_complete : (bs : List ℕ) → AreDigits is_digit bs → are_digits 10 bs ≡ true
decimals_complete = are_digits_complete 10 is_digit decimal_class

pub digit_no_sign : (b : ℕ) → is_digit b ≡ true → is_sign b ≡ false
digit_no_sign b h = grind (arith, nat_tests)

pub decimals_first : (d : ℕ) (bs : List ℕ) → AreDigits is_digit (d ∷ bs) → is_digit d ≡ true
decimals_first d [] h = h
decimals_first d (e ∷ bs) h = h.0

-- `unsigned-dec-int`
pub unsigned_sound : (bs : List ℕ) → is_unsigned bs ≡ true → IsUnsigned bs
unsigned_sound [] h = absurd (false≢true h)
unsigned_sound (d ∷ []) h = h
unsigned_sound (d ∷ e ∷ bs) h = let t = and_parts _ _ h in (t.0, decimals_sound (d ∷ e ∷ bs) t.1)

unsigned_complete : (bs : List ℕ) → IsUnsigned bs → is_unsigned bs ≡ true
unsigned_complete [] h = absurd h
unsigned_complete (d ∷ []) h = h
unsigned_complete (d ∷ e ∷ bs) h = and_from _ _ h.0 (decimals_complete (d ∷ e ∷ bs) h.1)

pub unsigned_digits : (bs : List ℕ) → IsUnsigned bs → AreDigits is_digit bs
unsigned_digits [] h = absurd h
unsigned_digits (d ∷ []) h = h
unsigned_digits (d ∷ e ∷ bs) h = h.1

-- `dec-int`
pub decimal_sound : (bs : List ℕ) → is_decimal bs ≡ true → IsDecimal bs
decimal_sound = signed_sound is_unsigned IsUnsigned unsigned_sound

pub decimal_complete : (bs : List ℕ) → IsDecimal bs → is_decimal bs ≡ true
decimal_complete = signed_complete is_unsigned IsUnsigned unsigned_complete (λ b bs h. digit_no_sign b (decimals_first b bs (unsigned_digits (b ∷ bs) h)))

-- its bytes are digits, underscores and a sign, so they lie in any class that has these
pub decimal_each : (p : ℕ → Bool) → ((b : ℕ) → is_digit b ≡ true → p b ≡ true) → p 0x5F ≡ true → p 0x2B ≡ true → p 0x2D ≡ true → (bs : List ℕ) → IsDecimal bs → Each p bs
decimal_each p digit under plus minus = signed_each IsUnsigned p plus minus (λ bs h. digits_each is_digit p digit under bs (unsigned_digits bs h))

pub digit_of_value : (b : ℕ) → is_digit b ≡ true → is_value_byte b ≡ true
digit_of_value b h = grind (arith, nat_tests)

pub decimal_run : (bs : List ℕ) → IsDecimal bs → Each is_value_byte bs
decimal_run = decimal_each is_value_byte digit_of_value refl refl refl

-- `hex-int / oct-int / bin-int`
based_by_sound : (letter : ℕ) (bs : List ℕ) → is_based_by letter bs ≡ true → IsBasedBy letter bs
based_by_sound letter bs h = ⊎_elim
    (λ (k : (eqb letter 0x78 ≡ true) × (are_digits 16 bs ≡ true)). inl (eqb-true letter 0x78 k.0, are_digits_sound 16 is_hex hexadecimal_class bs k.1))
    (λ (k : (eqb letter 0x78 ≡ false) × (cond (eqb letter 0x6F) (are_digits 8 bs) (eqb letter 0x62 && are_digits 2 bs) ≡ true)). inr (⊎_elim
    (λ (m : (eqb letter 0x6F ≡ true) × (are_digits 8 bs ≡ true)). inl (eqb-true letter 0x6F m.0, are_digits_sound 8 is_octal octal_class bs m.1))
    (λ (m : (eqb letter 0x6F ≡ false) × ((eqb letter 0x62 && are_digits 2 bs) ≡ true)).
    let t = and_parts _ _ m.1 in
    inr (eqb-true letter 0x62 t.0, are_digits_sound 2 is_binary binary_class bs t.1))
    (either (eqb letter 0x6F) _ _ _ k.1)))
    (either (eqb letter 0x78) _ _ _ h)

based_by_complete : (letter : ℕ) (bs : List ℕ) → IsBasedBy letter bs → is_based_by letter bs ≡ true
based_by_complete letter bs (inl k) = rw k.0 (are_digits_complete 16 is_hex hexadecimal_class bs k.1)
based_by_complete letter bs (inr (inl k)) = rw k.0 (are_digits_complete 8 is_octal octal_class bs k.1)
based_by_complete letter bs (inr (inr k)) = rw k.0 (are_digits_complete 2 is_binary binary_class bs k.1)

pub based_sound : (bs : List ℕ) → is_based bs ≡ true → IsBased bs
based_sound [] h = absurd (false≢true h)
based_sound (z ∷ []) h = absurd (false≢true h)
based_sound (z ∷ letter ∷ bs) h = let t = and_parts _ _ h in (eqb-true z 0x30 t.0, based_by_sound letter bs t.1)

pub based_complete : (bs : List ℕ) → IsBased bs → is_based bs ≡ true
based_complete [] h = absurd h
based_complete (z ∷ []) h = absurd h
based_complete (z ∷ letter ∷ bs) h = and_from _ _ (eq-eqb z 0x30 h.0) (based_by_complete letter bs h.1)

hexadecimal_of_value : (b : ℕ) → is_hex b ≡ true → is_value_byte b ≡ true
hexadecimal_of_value b h = grind (arith, nat_tests)

octal_of_value : (b : ℕ) → is_octal b ≡ true → is_value_byte b ≡ true
octal_of_value b h = grind (arith, nat_tests)

binary_of_value : (b : ℕ) → is_binary b ≡ true → is_value_byte b ≡ true
binary_of_value b h = grind (arith, nat_tests)

based_by_run : (letter : ℕ) (bs : List ℕ) → IsBasedBy letter bs → (is_value_byte letter ≡ true) × Each is_value_byte bs
based_by_run letter bs (inl k) = (rw k.0 refl, digits_each is_hex is_value_byte hexadecimal_of_value refl bs k.1)
based_by_run letter bs (inr (inl k)) = (rw k.0 refl, digits_each is_octal is_value_byte octal_of_value refl bs k.1)
based_by_run letter bs (inr (inr k)) = (rw k.0 refl, digits_each is_binary is_value_byte binary_of_value refl bs k.1)

pub based_run : (bs : List ℕ) → IsBased bs → Each is_value_byte bs
based_run [] h = absurd h
based_run (z ∷ []) h = absurd h
based_run (z ∷ letter ∷ bs) h = let t = based_by_run letter bs h.1 in (rw h.0 refl, (t.0, t.1))

-- `integer`, of whatever size
pub integer_form_sound : (bs : List ℕ) → is_integer_form bs ≡ true → IsDecimal bs ⊎ IsBased bs
integer_form_sound bs h = ⊎_elim (λ e. inl (decimal_sound bs e)) (λ e. inr (based_sound bs e)) (or_cases _ _ h)

pub integer_form_complete : (bs : List ℕ) → IsDecimal bs ⊎ IsBased bs → is_integer_form bs ≡ true
integer_form_complete bs h = ⊎_elim (λ e. or_left _ _ (decimal_complete bs e)) (λ e. or_right _ _ (based_complete bs e)) h

-- the range
abbrev InRange : ℤ → Type 0
InRange z = (neg_ℤ (pos (2 ^ 63)) ≤ℤ z) × (z ≤ℤ pos (2 ^ 63 - 1))

range_sound : (minus : Bool) (m n : ℕ) → cond minus (leb m (2 ^ 63)) (ltb n (2 ^ 63)) ≡ true → InRange (cond minus (neg_ℤ (pos m)) (pos n))
range_sound true m n h = let le : m ≤ 2 ^ 63 = leb-true m _ h in (omega (arith, ints), omega (arith, ints))
range_sound false m n h = let lt : n < 2 ^ 63 = ltb-true n _ h in (omega (arith, ints), omega (arith, ints))

range_complete : (minus : Bool) (m n : ℕ) → InRange (cond minus (neg_ℤ (pos m)) (pos n)) → cond minus (leb m (2 ^ 63)) (ltb n (2 ^ 63)) ≡ true
range_complete true m n h = le-leb m _ (omega (arith, ints))
range_complete false m n h = lt-ltb n _ (omega (arith, ints))

pub fits_sound : (bs : List ℕ) → fits_integer bs ≡ true → FitsInteger bs
fits_sound [] h = range_sound false 0 0 refl
fits_sound (b ∷ bs) h = range_sound (eqb b 0x2D) _ _ h

pub fits_complete : (bs : List ℕ) → FitsInteger bs → fits_integer bs ≡ true
fits_complete [] h = refl
fits_complete (b ∷ bs) h = range_complete (eqb b 0x2D) (unsigned_value bs) (cond (eqb b 0x2B) (unsigned_value bs) (unsigned_value (b ∷ bs))) h

pub integer_sound : (bs : List ℕ) → is_integer bs ≡ true → IsInteger bs
integer_sound bs h = let t = and_parts _ _ h in (integer_form_sound bs t.0, fits_sound bs t.1)

pub integer_complete : (bs : List ℕ) → IsInteger bs → is_integer bs ≡ true
integer_complete bs h = and_from _ _ (integer_form_complete bs h.0) (fits_complete bs h.1)

-- the run in which it stands
pub integer_form_run : (bs : List ℕ) → IsDecimal bs ⊎ IsBased bs → Each is_value_byte bs
integer_form_run bs h = ⊎_elim (λ e. decimal_run bs e) (λ e. based_run bs e) h

pub integer_run : (bs : List ℕ) → IsInteger bs → Each is_value_byte bs
integer_run bs h = integer_form_run bs h.0

integer_form_empty : IsDecimal [] ⊎ IsBased [] → ⊥
integer_form_empty (inl k) = absurd k
integer_form_empty (inr k) = absurd k

pub integer_form_some : (bs rest : List ℕ) → IsDecimal bs ⊎ IsBased bs → begins is_value_byte (bs ++ rest) ≡ true
integer_form_some [] rest h = absurd (integer_form_empty h)
integer_form_some (b ∷ bs) rest h = (integer_form_run (b ∷ bs) h).0

pub integer_some : (bs rest : List ℕ) → IsInteger bs → begins is_value_byte (bs ++ rest) ≡ true
integer_some bs rest h = integer_form_some bs rest h.0
