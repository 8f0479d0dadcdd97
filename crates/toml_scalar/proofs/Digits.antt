-- Digits of a base, as a form and as a plain function.
use Rattle.std.proofs.Common.{◌≡◌, ℕ, Bool, true, false, cond, ◌&&◌, eqb, List, [], ◌∷◌, refl, sym, ◌∙◌, arith, inl, inr, ⊎_elim, ◌⊎◌}
use Rattle.std.proofs.lemmas.Bool.{false≢true, eqb-true, and_parts, cond-true}
use Rattle.std.proofs.lemmas.Bool.Decides.{nat_tests}
use Rattle.toml_text.specs.Bytes.{is_digit, is_hex, is_octal, is_binary}
use Rattle.toml_text.specs.Forms.{Each}
use Rattle.toml_scalar.specs.Integers.{AreDigits}
use Rattle.toml_scalar.specs.IntegerRuns.{is_digit_of, digits_after, are_digits}

pub either : {A : Type 0} (b : Bool) (x y z : A) → cond b x y ≡ z → ((b ≡ true) × (x ≡ z)) ⊎ ((b ≡ false) × (y ≡ z))
either true x y z h = inl (refl, h)
either false x y z h = inr (refl, h)

module _ (p : ℕ → Bool) where
  -- what may stand behind a digit
  abbrev AfterDigit : List ℕ → Type 0
  AfterDigit [] = Unit {0}
  AfterDigit (e ∷ bs) = AreDigits p (e ∷ bs) ⊎ ((e ≡ 0x5F) × AreDigits p bs)

  digits_of : (d : ℕ) (bs : List ℕ) → p d ≡ true → AfterDigit bs → AreDigits p (d ∷ bs)
  digits_of d [] digit after = digit
  digits_of d (e ∷ bs) digit after = (digit, after)

  digits_parts : (d : ℕ) (bs : List ℕ) → AreDigits p (d ∷ bs) → (p d ≡ true) × AfterDigit bs
  digits_parts d [] digits = (digits, tt)
  digits_parts d (e ∷ bs) digits = digits

  mutual
    after_sound : (bs : List ℕ) → digits_after p true bs ≡ true → AfterDigit bs
    after_sound [] h = tt
    after_sound (e ∷ bs) h = ⊎_elim
        (λ (k : (p e ≡ true) × (digits_after p true bs ≡ true)). inl (digits_of e bs k.0 (after_sound bs k.1)))
        (λ (k : (p e ≡ false) × ((eqb e 0x5F && true && digits_after p false bs) ≡ true)).
        let t = and_parts _ _ k.1 in
        inr (eqb-true e 0x5F (and_parts _ _ t.0).0, digits_sound bs t.1))
        (either (p e) _ _ _ h)

    pub digits_sound : (bs : List ℕ) → digits_after p false bs ≡ true → AreDigits p bs
    digits_sound [] h = absurd (false≢true h)
    digits_sound (d ∷ bs) h = ⊎_elim
        (λ (k : (p d ≡ true) × (digits_after p true bs ≡ true)). digits_of d bs k.0 (after_sound bs k.1))
        (λ (k : (p d ≡ false) × ((eqb d 0x5F && false && digits_after p false bs) ≡ true)). absurd (false≢true (and_parts _ _ (and_parts _ _ k.1).0).1))
        (either (p d) _ _ _ h)

  mutual
    after_complete : (bs : List ℕ) → AfterDigit bs → digits_after p true bs ≡ true
    after_complete [] h = refl
    after_complete (e ∷ bs) (inl digits) = let t = digits_parts e bs digits in cond-true _ _ _ t.0 ∙ after_complete bs t.1
    after_complete (e ∷ bs) (inr k) = elim (p e) as (λ t. cond t (digits_after p true bs) (eqb e 0x5F && true && digits_after p false bs) ≡ true) [
      | true ↦ digits_complete true bs k.1
      | false ↦ rw k.0 (digits_complete false bs k.1)
    ]

    pub digits_complete : (was_digit : Bool) (bs : List ℕ) → AreDigits p bs → digits_after p was_digit bs ≡ true
    digits_complete was_digit [] h = absurd h
    digits_complete was_digit (d ∷ bs) h = let t = digits_parts d bs h in cond-true _ _ _ t.0 ∙ after_complete bs t.1

  -- digits are bytes of any class that has them and the underscore
  pub digits_each : (q : ℕ → Bool) → ((b : ℕ) → p b ≡ true → q b ≡ true) → q 0x5F ≡ true → (bs : List ℕ) → AreDigits p bs → Each q bs
  digits_each q each under [] h = absurd h
  digits_each q each under (d ∷ []) h = (each d h, tt)
  digits_each q each under (d ∷ e ∷ bs) h = (
    each d h.0,
    ⊎_elim
        (λ (k : AreDigits p (e ∷ bs)). digits_each q each under (e ∷ bs) k)
        (λ (k : (e ≡ 0x5F) × AreDigits p bs). (rw k.0 under, digits_each q each under bs k.1))
        h.1,
  )

  -- digits of one class are digits of a wider one
  pub digits_wider : (q : ℕ → Bool) → ((b : ℕ) → p b ≡ true → q b ≡ true) → (bs : List ℕ) → AreDigits p bs → AreDigits q bs
  digits_wider q each [] h = absurd h
  digits_wider q each (d ∷ []) h = each d h
  digits_wider q each (d ∷ e ∷ bs) h = (
    each d h.0,
    ⊎_elim
        (λ (k : AreDigits p (e ∷ bs)). inl (digits_wider q each (e ∷ bs) k))
        (λ (k : (e ≡ 0x5F) × AreDigits p bs). inr (k.0, digits_wider q each bs k.1))
        h.1,
  )

-- the digits of each base are those of its class
pub decimal_class : (b : ℕ) → is_digit_of 10 b ≡ is_digit b
decimal_class b = grind (arith, nat_tests)

pub hexadecimal_class : (b : ℕ) → is_digit_of 16 b ≡ is_hex b
hexadecimal_class b = grind (arith, nat_tests)

pub octal_class : (b : ℕ) → is_digit_of 8 b ≡ is_octal b
octal_class b = grind (arith, nat_tests)

pub binary_class : (b : ℕ) → is_digit_of 2 b ≡ is_binary b
binary_class b = grind (arith, nat_tests)

pub are_digits_sound : (base : ℕ) (p : ℕ → Bool) → ((b : ℕ) → is_digit_of base b ≡ p b) → (bs : List ℕ) → are_digits base bs ≡ true → AreDigits p bs
are_digits_sound base p class bs h = digits_wider (is_digit_of base) p (λ b d. sym (class b) ∙ d) bs (digits_sound (is_digit_of base) bs h)

pub are_digits_complete : (base : ℕ) (p : ℕ → Bool) → ((b : ℕ) → is_digit_of base b ≡ p b) → (bs : List ℕ) → AreDigits p bs → are_digits base bs ≡ true
are_digits_complete base p class bs h = digits_complete (is_digit_of base) false bs (digits_wider p (is_digit_of base) (λ b d. class b ∙ d) bs h)
