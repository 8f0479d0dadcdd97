-- The plain functions tell which runs are floats, and a float is a run of the bytes of values.
use Rattle.std.proofs.Common.{◌≡◌, ℕ, Bool, true, false, ◌||◌, ◌&&◌, eqb, List, [], ◌∷◌, ◌++◌, length, take, drop, refl, sym, ap, subst, ◌∙◌, arith, inl, inr, ⊎_elim}
use Rattle.std.proofs.Math.Seq.{take-append_seam, drop-append_seam}
use Rattle.std.proofs.lemmas.Bool.{false≢true, eqb-true, eq-eqb, and_parts, and_from, or_cases, or_left, or_right, cond-true, cond-false, cond_both}
use Rattle.std.proofs.lemmas.Bool.Decides.{nat_tests}
use Rattle.std.proofs.lemmas.List.{take-append-drop, append-nil}
use Rattle.std.proofs.lemmas.Slice.Eq.{bytes_eq-Decides}
use Rattle.std.specs.Prelude.{codes}
use Rattle.std.specs.Str.{IsAscii}
use Rattle.toml_text.specs.Bytes.{is_digit}
use Rattle.toml_text.specs.Forms.{Each}
use Rattle.toml_text.specs.Runs.{begins}
use Rattle.toml_text.proofs.Proved.{run_found}
use Rattle.toml_scalar.specs.Runs.{is_value_byte}
use Rattle.toml_scalar.specs.Integers.{AreDigits, IsDecimal}
use Rattle.toml_scalar.specs.IntegerRuns.{is_sign, are_digits, is_decimal}
use Rattle.toml_scalar.specs.Floats.{IsExponent, IsFraction, IsFloatTail, IsNamedFloat, IsFloat, without_sign}
use Rattle.toml_scalar.specs.FloatRuns.{is_named_float, is_whole_byte, whole_len, is_exponent, is_exponent_or_none, is_behind_point, is_float_tail, is_number_float, is_float}
use Rattle.toml_scalar.proofs.Digits.{either, digits_each}
use Rattle.toml_scalar.proofs.Each.{Each-append, each_ascii}
use Rattle.toml_scalar.proofs.Integers.{signed_sound, signed_complete, signed_each, decimals_sound, decimals_complete, decimals_first, digit_no_sign, decimal_sound, decimal_complete, decimal_each, decimal_run, digit_of_value}

-- where the whole part ends
pub digit_is_whole : (b : ℕ) → is_digit b ≡ true → is_whole_byte b ≡ true
digit_is_whole b h = grind (arith, nat_tests)

decimals_whole : (bs : List ℕ) → AreDigits is_digit bs → Each is_whole_byte bs
decimals_whole = digits_each is_digit is_whole_byte digit_is_whole refl

pub decimal_whole : (bs : List ℕ) → IsDecimal bs → Each is_whole_byte bs
decimal_whole = decimal_each is_whole_byte digit_is_whole refl refl refl

module _ (front rest : List ℕ) (whole : Each is_whole_byte front) (stop : begins is_whole_byte rest ≡ false) where
  len_found : whole_len (front ++ rest) ≡ length front
  len_found = run_found is_whole_byte front rest whole stop

  front_found : take (whole_len (front ++ rest)) (front ++ rest) ≡ front
  front_found = ap (λ n. take n (front ++ rest)) len_found ∙ take-append_seam front rest

  pub rest_found : drop (whole_len (front ++ rest)) (front ++ rest) ≡ rest
  rest_found = ap (λ n. drop n (front ++ rest)) len_found ∙ drop-append_seam front rest

-- `exp`
exponent_sound : (bs : List ℕ) → is_exponent bs ≡ true → IsExponent bs
exponent_sound [] h = absurd (false≢true h)
exponent_sound (e ∷ bs) h =
    let t = and_parts _ _ h in (
      ⊎_elim (λ k. inl (eqb-true e 0x65 k)) (λ k. inr (eqb-true e 0x45 k)) (or_cases _ _ t.0),
      signed_sound (are_digits 10) (AreDigits is_digit) decimals_sound bs t.1,
    )

exponent_complete : (bs : List ℕ) → IsExponent bs → is_exponent bs ≡ true
exponent_complete [] h = absurd h
exponent_complete (e ∷ bs) h = and_from _ _
    (⊎_elim (λ (k : e ≡ 0x65). rw k refl) (λ (k : e ≡ 0x45). rw k refl) h.0)
    (signed_complete (are_digits 10) (AreDigits is_digit) decimals_complete (λ b xs d. digit_no_sign b (decimals_first b xs d)) bs h.1)

-- no exponent begins with a point
exponent_no_point : (e : ℕ) (bs : List ℕ) → IsExponent (e ∷ bs) → eqb e 0x2E ≡ false
exponent_no_point e bs h = ⊎_elim (λ (k : e ≡ 0x65). rw k refl) (λ (k : e ≡ 0x45). rw k refl) h.0

exponent_stops : (bs : List ℕ) → IsExponent bs → begins is_whole_byte bs ≡ false
exponent_stops [] h = absurd h
exponent_stops (e ∷ bs) h = ⊎_elim (λ (k : e ≡ 0x65). rw k refl) (λ (k : e ≡ 0x45). rw k refl) h.0

-- `frac [ exp ]`
behind_sound : (b : ℕ) (digits rest : List ℕ) → b ≡ 0x2E → AreDigits is_digit digits → is_exponent_or_none rest ≡ true → IsFloatTail (b ∷ (digits ++ rest))
behind_sound b digits [] point are h = inr (inl (point, rw append-nil are))
behind_sound b digits (e ∷ rest) point are h = inr (inr (b ∷ digits, e ∷ rest, refl, (point, are), exponent_sound (e ∷ rest) h))

behind_complete : (digits rest : List ℕ) → AreDigits is_digit digits → begins is_whole_byte rest ≡ false → is_exponent_or_none rest ≡ true → is_behind_point (digits ++ rest) ≡ true
behind_complete digits rest are stop h =
    let whole = decimals_whole digits are in
    and_from _ _
    (ap (are_digits 10) (front_found digits rest whole stop) ∙ decimals_complete digits are)
    (ap is_exponent_or_none (rest_found digits rest whole stop) ∙ h)

none_or_exponent : (bs : List ℕ) → IsExponent bs → is_exponent_or_none bs ≡ true
none_or_exponent [] h = absurd h
none_or_exponent (e ∷ bs) h = exponent_complete (e ∷ bs) h

tail_sound : (bs : List ℕ) → is_float_tail bs ≡ true → IsFloatTail bs
tail_sound [] h = absurd (false≢true h)
tail_sound (b ∷ bs) h = ⊎_elim
    (λ (k : (eqb b 0x2E ≡ true) × (is_behind_point bs ≡ true)).
    let t = and_parts _ _ k.1 in
    subst (λ xs. IsFloatTail (b ∷ xs)) (take-append-drop (whole_len bs) bs)
    (behind_sound b (take (whole_len bs) bs) (drop (whole_len bs) bs) (eqb-true b 0x2E k.0) (decimals_sound _ t.0) t.1))
    (λ (k : (eqb b 0x2E ≡ false) × (is_exponent (b ∷ bs) ≡ true)). inl (exponent_sound (b ∷ bs) k.1))
    (either (eqb b 0x2E) _ _ _ h)

fraction_complete : (f e : List ℕ) → IsFraction f → begins is_whole_byte e ≡ false → is_exponent_or_none e ≡ true → is_float_tail (f ++ e) ≡ true
fraction_complete [] e h stop exponent = absurd h
fraction_complete (b ∷ digits) e h stop exponent = cond-true _ _ _ (eq-eqb b 0x2E h.0) ∙ behind_complete digits e h.1 stop exponent

exponent_tail : (bs : List ℕ) → IsExponent bs → is_float_tail bs ≡ true
exponent_tail [] h = absurd h
exponent_tail (e ∷ bs) h = cond-false _ _ _ (exponent_no_point e bs h) ∙ exponent_complete (e ∷ bs) h

tail_complete : (bs : List ℕ) → IsFloatTail bs → is_float_tail bs ≡ true
tail_complete bs (inl h) = exponent_tail bs h
tail_complete bs (inr (inl h)) = subst (λ xs. is_float_tail xs ≡ true) (append-nil bs) (fraction_complete bs [] h refl refl)
tail_complete bs (inr (inr (f, e, is, fraction, exponent))) = ap is_float_tail is ∙ fraction_complete f e fraction (exponent_stops e exponent) (none_or_exponent e exponent)

fraction_stops : (f e : List ℕ) → IsFraction f → begins is_whole_byte (f ++ e) ≡ false
fraction_stops [] e h = absurd h
fraction_stops (b ∷ digits) e h = rw h.0 refl

tail_stops : (bs : List ℕ) → IsFloatTail bs → begins is_whole_byte bs ≡ false
tail_stops bs (inl h) = exponent_stops bs h
tail_stops bs (inr (inl h)) = subst (λ xs. begins is_whole_byte xs ≡ false) (append-nil bs) (fraction_stops bs [] h)
tail_stops bs (inr (inr (f, e, is, fraction, exponent))) = ap (begins is_whole_byte) is ∙ fraction_stops f e fraction

-- `special-float`
pub named_sound : (bs : List ℕ) → is_named_float bs ≡ true → IsNamedFloat bs
named_sound bs h = ⊎_elim (λ e. inl ((bytes_eq-Decides bs (codes "inf")).0 e)) (λ e. inr ((bytes_eq-Decides bs (codes "nan")).0 e)) (or_cases _ _ h)

named_complete : (bs : List ℕ) → IsNamedFloat bs → is_named_float bs ≡ true
named_complete bs h = ⊎_elim (λ e. or_left _ _ ((bytes_eq-Decides bs (codes "inf")).1 e)) (λ e. or_right _ _ ((bytes_eq-Decides bs (codes "nan")).1 e)) h

-- what holds of the two names holds of each
pub named_either : (P : List ℕ → Type 0) → P (codes "inf") → P (codes "nan") → (bs : List ℕ) → IsNamedFloat bs → P bs
named_either P infinite none bs h = ⊎_elim (λ e. subst P (sym e) infinite) (λ e. subst P (sym e) none) h

abbrev no_sign_first : List ℕ → Type 0
no_sign_first bs = begins is_sign bs ≡ false

named_first : (b : ℕ) (bs : List ℕ) → IsNamedFloat (b ∷ bs) → is_sign b ≡ false
named_first b bs h = named_either no_sign_first refl refl (b ∷ bs) h

-- `float`
number_sound : (bs : List ℕ) → is_number_float bs ≡ true → IsFloat bs
number_sound bs h =
    let t = and_parts _ _ h in
    inr (take (whole_len bs) bs, drop (whole_len bs) bs, sym (take-append-drop (whole_len bs) bs), decimal_sound _ t.0, tail_sound _ t.1)

number_complete : (i t : List ℕ) → IsDecimal i → IsFloatTail t → is_number_float (i ++ t) ≡ true
number_complete i t decimal tail =
    let whole = decimal_whole i decimal in
    let stop = tail_stops t tail in
    and_from _ _
    (ap is_decimal (front_found i t whole stop) ∙ decimal_complete i decimal)
    (ap is_float_tail (rest_found i t whole stop) ∙ tail_complete t tail)

pub float_sound : (bs : List ℕ) → is_float bs ≡ true → IsFloat bs
float_sound bs h = ⊎_elim (λ e. inl (signed_sound is_named_float IsNamedFloat named_sound bs e)) (λ e. number_sound bs e) (or_cases _ _ h)

pub float_complete : (bs : List ℕ) → IsFloat bs → is_float bs ≡ true
float_complete bs (inl h) = or_left _ _ (signed_complete is_named_float IsNamedFloat named_complete named_first bs h)
float_complete bs (inr (i, t, is, decimal, tail)) = or_right _ _ (ap is_number_float is ∙ number_complete i t decimal tail)

-- the run in which it stands
exponent_run : (bs : List ℕ) → IsExponent bs → Each is_value_byte bs
exponent_run [] h = absurd h
exponent_run (e ∷ bs) h = (
  ⊎_elim (λ (k : e ≡ 0x65). rw k refl) (λ (k : e ≡ 0x45). rw k refl) h.0,
  signed_each (AreDigits is_digit) is_value_byte refl refl (digits_each is_digit is_value_byte digit_of_value refl) bs h.1,
)

fraction_run : (bs : List ℕ) → IsFraction bs → Each is_value_byte bs
fraction_run [] h = absurd h
fraction_run (b ∷ bs) h = (rw h.0 refl, digits_each is_digit is_value_byte digit_of_value refl bs h.1)

tail_run : (bs : List ℕ) → IsFloatTail bs → Each is_value_byte bs
tail_run bs (inl h) = exponent_run bs h
tail_run bs (inr (inl h)) = fraction_run bs h
tail_run bs (inr (inr (f, e, is, fraction, exponent))) = subst (Each is_value_byte) (sym is) (Each-append is_value_byte f e (fraction_run f fraction) (exponent_run e exponent))

named_run : (bs : List ℕ) → IsNamedFloat bs → Each is_value_byte bs
named_run = named_either (Each is_value_byte) (refl, (refl, (refl, tt))) (refl, (refl, (refl, tt)))

pub float_run : (bs : List ℕ) → IsFloat bs → Each is_value_byte bs
float_run bs (inl h) = signed_each IsNamedFloat is_value_byte refl refl named_run bs h
float_run bs (inr (i, t, is, decimal, tail)) = subst (Each is_value_byte) (sym is) (Each-append is_value_byte i t (decimal_run i decimal) (tail_run t tail))

pub float_some : (bs rest : List ℕ) → IsFloat bs → begins is_value_byte (bs ++ rest) ≡ true
float_some [] rest h = absurd (false≢true (float_complete [] h))
float_some (b ∷ bs) rest h = (float_run (b ∷ bs) h).0

without_sign_each : (p : ℕ → Bool) (bs : List ℕ) → Each p bs → Each p (without_sign bs)
without_sign_each p [] h = h
without_sign_each p (s ∷ []) h = h
without_sign_each p (s ∷ b ∷ bs) h = cond_both (eqb s 0x2B || (eqb s 0x2D && eqb b 0x6E)) (b ∷ bs) (s ∷ b ∷ bs) (Each p) (λ _. h.1) (λ _. h)

-- the bytes that are copied for the text of a float
pub float_ascii : (bs : List ℕ) → is_float bs ≡ true → IsAscii (without_sign bs)
float_ascii bs h = each_ascii (without_sign bs) (without_sign_each is_value_byte bs (float_run bs (float_sound bs h)))
