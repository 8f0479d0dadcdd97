-- No run is both an integer and a float, or a boolean and either; a number is no date or time; and how a number begins.
use Rattle.std.proofs.Common.{◌≡◌, ℕ, Bool, true, false, ◌||◌, eqb, List, [], ◌∷◌, ◌++◌, take, drop, refl, ap, subst, ◌∙◌, arith, add-one, inl, inr, ⊎_elim, ◌⊎◌}
use Rattle.std.proofs.lemmas.Bool.{false≢true, both_ways, and_left, and_right, or_cases, or_from, cond-true, cond-false, false_from_ne_true}
use Rattle.std.proofs.lemmas.Bool.Decides.{nat_tests}
use Rattle.std.proofs.lemmas.List.{append-nil}
use Rattle.toml_text.specs.Bytes.{is_digit}
use Rattle.toml_text.specs.Forms.{Each}
use Rattle.toml_text.specs.Runs.{begins}
use Rattle.toml_scalar.specs.Integers.{IsBasedBy, IsBased}
use Rattle.toml_scalar.specs.IntegerRuns.{is_sign, signed, is_digit_of, digits_after, is_unsigned, is_decimal, is_based_by, is_integer_form}
use Rattle.toml_scalar.specs.FloatRuns.{is_named_float, is_whole_byte, whole_len, is_float_tail, is_number_float, is_float}
use Rattle.toml_scalar.specs.Booleans.{is_bool}
use Rattle.toml_scalar.proofs.Digits.{either, decimal_class}
use Rattle.toml_scalar.proofs.Integers.{digit_no_sign, decimal_sound, based_sound}
use Rattle.toml_scalar.proofs.Floats.{digit_is_whole, decimal_whole, rest_found, named_sound, named_either}
use Rattle.toml_scalar.proofs.Booleans.{bool_sound, bool_either}

-- the whole part of a run
abbrev whole : List ℕ → List ℕ
whole bs = take (whole_len bs) bs

whole-cons : (b : ℕ) (bs : List ℕ) → is_whole_byte b ≡ true → whole (b ∷ bs) ≡ b ∷ whole bs
whole-cons b bs h = ap (λ n. take n (b ∷ bs)) (cond-true _ _ _ h ∙ add-one (whole_len bs))

-- an integer in base 10 has no fraction and no exponent
decimal_no_number : (bs : List ℕ) → is_decimal bs ≡ true → is_number_float bs ≡ false
decimal_no_number bs h =
    let none : drop (whole_len bs) bs ≡ [] = subst (λ xs. drop (whole_len xs) xs ≡ []) (append-nil bs) (rest_found bs [] (decimal_whole bs (decimal_sound bs h)) refl) in
    and_right _ _ (ap is_float_tail none)

signed_apart : (f g : List ℕ → Bool) → ((bs : List ℕ) → f bs ≡ true → g bs ≡ false) → (bs : List ℕ) → signed f bs ≡ true → signed g bs ≡ false
signed_apart f g apart [] h = apart [] h
signed_apart f g apart (b ∷ bs) h = ⊎_elim
    (λ (k : (is_sign b ≡ true) × (f bs ≡ true)). cond-true _ _ _ k.0 ∙ apart bs k.1)
    (λ (k : (is_sign b ≡ false) × (f (b ∷ bs) ≡ true)). cond-false _ _ _ k.0 ∙ apart (b ∷ bs) k.1)
    (either (is_sign b) _ _ _ h)

unsigned_no_name : (bs : List ℕ) → is_unsigned bs ≡ true → is_named_float bs ≡ false
unsigned_no_name bs h = false_from_ne_true _ (λ name. named_either (λ xs. is_unsigned xs ≡ true → ⊥) false≢true false≢true bs (named_sound bs name) h)

decimal_no_float : (bs : List ℕ) → is_decimal bs ≡ true → is_float bs ≡ false
decimal_no_float bs h = or_from _ _ (signed_apart is_unsigned is_named_float unsigned_no_name bs h) (decimal_no_number bs h)

-- `0` and another byte of a whole part begin no float
zero_no_float : (e : ℕ) (bs : List ℕ) → is_whole_byte e ≡ true → is_float (0x30 ∷ e ∷ bs) ≡ false
zero_no_float e bs h =
    let front : whole (0x30 ∷ e ∷ bs) ≡ 0x30 ∷ e ∷ whole bs = whole-cons 0x30 (e ∷ bs) refl ∙ ap (λ xs. 0x30 ∷ xs) (whole-cons e bs h) in
    or_from _ _ refl (and_left _ _ (ap is_decimal front))

based_letter : (letter : ℕ) (bs : List ℕ) → IsBasedBy letter bs → is_whole_byte letter ≡ true
based_letter letter bs (inl k) = rw k.0 refl
based_letter letter bs (inr (inl k)) = rw k.0 refl
based_letter letter bs (inr (inr k)) = rw k.0 refl

based_no_float : (bs : List ℕ) → IsBased bs → is_float bs ≡ false
based_no_float [] h = absurd h
based_no_float (z ∷ []) h = absurd h
based_no_float (z ∷ letter ∷ bs) h = rw h.0 (zero_no_float letter bs (based_letter letter bs h.1))

pub integer_no_float : (bs : List ℕ) → is_integer_form bs ≡ true → is_float bs ≡ false
integer_no_float bs h = ⊎_elim (λ e. decimal_no_float bs e) (λ e. based_no_float bs (based_sound bs e)) (or_cases _ _ h)

pub bool_no_integer : (bs : List ℕ) → is_bool bs ≡ true → is_integer_form bs ≡ false
bool_no_integer bs h = bool_either (λ xs. is_integer_form xs ≡ false) refl refl bs (bool_sound bs h)

pub bool_no_float : (bs : List ℕ) → is_bool bs ≡ true → is_float bs ≡ false
bool_no_float bs h = bool_either (λ xs. is_float xs ≡ false) refl refl bs (bool_sound bs h)

-- a name and a boolean begin with a letter
digit_no_name : (bs : List ℕ) → begins is_digit bs ≡ true → is_named_float bs ≡ false
digit_no_name bs h = false_from_ne_true _ (λ name. both_ways _ (named_either (λ xs. begins is_digit xs ≡ false) refl refl bs (named_sound bs name)) h)

digit_no_bool : (bs : List ℕ) → begins is_digit bs ≡ true → is_bool bs ≡ false
digit_no_bool bs h = false_from_ne_true _ (λ e. both_ways _ (bool_either (λ xs. begins is_digit xs ≡ false) refl refl bs (bool_sound bs e)) h)

digit_no_letter : (b : ℕ) (bs : List ℕ) → is_digit b ≡ true → is_based_by b bs ≡ false
digit_no_letter b bs h =
    let hexadecimal : eqb b 0x78 ≡ false = grind (arith, nat_tests) in
    let octal : eqb b 0x6F ≡ false = grind (arith, nat_tests) in
    let binary : eqb b 0x62 ≡ false = grind (arith, nat_tests) in
    cond-false _ _ _ hexadecimal ∙ cond-false _ _ _ octal ∙ and_left _ _ binary

-- a byte that ends digits, and stands in no whole part but at its front
module _ (c : ℕ) (no_digit : is_digit c ≡ false) (no_underscore : eqb c 0x5F ≡ false) (is_whole : is_whole_byte c ≡ true) where
  digits_stop : (was_digit : Bool) (front bs : List ℕ) → Each is_digit front → digits_after (is_digit_of 10) was_digit (front ++ c ∷ bs) ≡ false
  digits_stop was_digit [] bs h = cond-false _ _ _ (decimal_class c ∙ no_digit) ∙ and_left _ _ (and_left _ _ no_underscore)
  digits_stop was_digit (d ∷ front) bs h = cond-true _ _ _ (decimal_class d ∙ h.0) ∙ digits_stop true front bs h.1

  decimal_stops : (d e : ℕ) (front bs : List ℕ) → Each is_digit (d ∷ e ∷ front) → is_decimal (d ∷ e ∷ front ++ c ∷ bs) ≡ false
  decimal_stops d e front bs h = cond-false _ _ _ (digit_no_sign d h.0) ∙ and_right _ _ (digits_stop false (d ∷ e ∷ front) bs h)

  whole_stops : (front bs : List ℕ) → Each is_digit front → whole (front ++ c ∷ bs) ≡ front ++ c ∷ whole bs
  whole_stops [] bs h = whole-cons c bs is_whole
  whole_stops (d ∷ front) bs h = whole-cons d (front ++ c ∷ bs) (digit_is_whole d h.0) ∙ ap (λ xs. d ∷ xs) (whole_stops front bs h.1)

  pub integer_stops : (d e : ℕ) (front bs : List ℕ) → Each is_digit (d ∷ e ∷ front) → is_integer_form (d ∷ e ∷ front ++ c ∷ bs) ≡ false
  integer_stops d e front bs h = or_from _ _ (decimal_stops d e front bs h) (and_right _ _ (digit_no_letter e (front ++ c ∷ bs) h.1.0))

  pub float_stops : (d e : ℕ) (front bs : List ℕ) → Each is_digit (d ∷ e ∷ front) → is_float (d ∷ e ∷ front ++ c ∷ bs) ≡ false
  float_stops d e front bs h = or_from _ _
      (cond-false _ _ _ (digit_no_sign d h.0) ∙ digit_no_name (d ∷ e ∷ front ++ c ∷ bs) h.0)
      (and_left _ _ (ap is_decimal (whole_stops (d ∷ e ∷ front) bs h) ∙ decimal_stops d e front (whole bs) h))

-- four digits and `-` begin no number and no boolean
module _ (b1 b2 b3 b4 : ℕ) (bs : List ℕ) (h1 : is_digit b1 ≡ true) (h2 : is_digit b2 ≡ true) (h3 : is_digit b3 ≡ true) (h4 : is_digit b4 ≡ true) where
  digits4 : Each is_digit (b1 ∷ b2 ∷ b3 ∷ b4 ∷ [])
  digits4 = (h1, (h2, (h3, (h4, tt))))

  pub date_no_integer : is_integer_form (b1 ∷ b2 ∷ b3 ∷ b4 ∷ 0x2D ∷ bs) ≡ false
  date_no_integer = integer_stops 0x2D refl refl refl b1 b2 (b3 ∷ b4 ∷ []) bs digits4

  pub date_no_float : is_float (b1 ∷ b2 ∷ b3 ∷ b4 ∷ 0x2D ∷ bs) ≡ false
  date_no_float = float_stops 0x2D refl refl refl b1 b2 (b3 ∷ b4 ∷ []) bs digits4

  pub date_no_bool : is_bool (b1 ∷ b2 ∷ b3 ∷ b4 ∷ 0x2D ∷ bs) ≡ false
  date_no_bool = digit_no_bool (b1 ∷ b2 ∷ b3 ∷ b4 ∷ 0x2D ∷ bs) h1

-- two digits and `:` begin no number and no boolean
module _ (b1 b2 : ℕ) (bs : List ℕ) (h1 : is_digit b1 ≡ true) (h2 : is_digit b2 ≡ true) where
  digits2 : Each is_digit (b1 ∷ b2 ∷ [])
  digits2 = (h1, (h2, tt))

  pub time_no_integer : is_integer_form (b1 ∷ b2 ∷ 0x3A ∷ bs) ≡ false
  time_no_integer = integer_stops 0x3A refl refl refl b1 b2 [] bs digits2

  pub time_no_float : is_float (b1 ∷ b2 ∷ 0x3A ∷ bs) ≡ false
  time_no_float = float_stops 0x3A refl refl refl b1 b2 [] bs digits2

  pub time_no_bool : is_bool (b1 ∷ b2 ∷ 0x3A ∷ bs) ≡ false
  time_no_bool = digit_no_bool (b1 ∷ b2 ∷ 0x3A ∷ bs) h1

-- a digit or a sign
abbrev begins_number : List ℕ → Bool
begins_number = begins (λ b. is_digit b || eqb b 0x2B || eqb b 0x2D)
