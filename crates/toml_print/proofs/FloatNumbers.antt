-- For which floats JSON has a number.
use Rattle.std.proofs.Common.{◌≡◌, ◌⊎◌, ◌∷◌, ◌++◌, ◌<◌, ◌≤◌, ◌==◌, ◌||◌, ◌&&◌, ℕ, Bool, true, false, cond, not, List, [], Some, None, option_and_then, map, length, drop, codes, refl, sym, ap, ap₂, ◌∙◌, subst, subst₂, inl, inr, ⊎_elim, arith, ne_eqb, le-leb, leb-true, append-nil, bytes_eq, drop_at}
use Rattle.std.proofs.lemmas.Bool.{and_from, and_parts, false_from_ne_true, or_cases}
use Rattle.std.proofs.lemmas.List.{map-append}
use Rattle.std.proofs.lemmas.List.Elements.{filter-append}
use Rattle.std.proofs.lemmas.Slice.Eq.{bytes_eq-Decides}
use Rattle.std.specs.Char.{is_ascii_digit}
use Rattle.std.specs.List.{prefix_len}
use Rattle.json.specs.Word.{after_digits, after_exponent, after_fraction, after_minus, after_number, after_sign, after_whole}
use Rattle.toml_text.specs.Bytes.{is_digit}
use Rattle.toml_scalar.specs.Floats.{IsExponent, IsFloatTail, IsFraction, IsNamedFloat, float_text, text_byte}
use Rattle.toml_scalar.specs.Integers.{AreDigits, IsDecimal, IsSign, IsUnsigned, Signed, without_underscores}
use Rattle.toml_print.specs.JsonTexts.{is_used_up, is_json_number}
use Rattle.toml_print.specs.Laws.{FloatIsNumber, is_no_number}

-- the bytes of a float's text behind its sign
abbrev cleaned : List ℕ → List ℕ
cleaned bs = map text_byte (without_underscores bs)

cleaned-append : (xs ys : List ℕ) → cleaned (xs ++ ys) ≡ cleaned xs ++ cleaned ys
cleaned-append xs ys = ap (map text_byte) (filter-append _ xs ys) ∙ map-append text_byte (without_underscores xs) (without_underscores ys)

digit_range : (d : ℕ) → is_digit d ≡ true → (48 ≤ d) × (d ≤ 57)
digit_range d is = let both = and_parts _ _ is in (leb-true 48 d both.0, leb-true d 57 both.1)

ascii_digit : (d : ℕ) → 48 ≤ d → d ≤ 57 → is_ascii_digit d ≡ true
ascii_digit d low high = and_from _ _ (le-leb 48 d low) (le-leb d 57 high)

-- a byte that is none of these stays as it is
plain_byte : (d : ℕ) (bs : List ℕ) → (d ≡ 0x5F → ⊥) → (d ≡ 0x45 → ⊥) → cleaned (d ∷ bs) ≡ d ∷ cleaned bs
plain_byte d bs mark big = rw (ne_eqb d 0x5F mark, ne_eqb d 0x45 big) refl

digit_stays : (d : ℕ) (bs : List ℕ) → is_digit d ≡ true → cleaned (d ∷ bs) ≡ d ∷ cleaned bs
digit_stays d bs is = let range = digit_range d is in plain_byte d bs (λ e. omega (arith, range.1, e)) (λ e. omega (arith, range.1, e))

-- digits of JSON, one at least
data Digits : List ℕ → Type 0 where
  last : (d : ℕ) → 48 ≤ d → d ≤ 57 → Digits (d ∷ [])
  more : (d : ℕ) (ds : List ℕ) → 48 ≤ d → d ≤ 57 → Digits ds → Digits (d ∷ ds)

are_digits : (bs : List ℕ) → AreDigits is_digit bs → Digits (cleaned bs)
are_digits [] h = absurd h
are_digits (d ∷ []) h = let range = digit_range d h in subst Digits (sym (digit_stays d [] h)) (last d range.0 range.1)
are_digits (d ∷ e ∷ bs) (is, inl rest) =
    let range = digit_range d is in subst Digits (sym (digit_stays d (e ∷ bs) is)) (more d (cleaned (e ∷ bs)) range.0 range.1 (are_digits (e ∷ bs) rest))
are_digits (d ∷ e ∷ bs) (is, inr (mark, rest)) =
    let range = digit_range d is in
    subst (λ b. Digits (cleaned (d ∷ b ∷ bs))) (sym mark) (subst Digits (sym (digit_stays d (0x5F ∷ bs) is)) (more d (cleaned bs) range.0 range.1 (are_digits bs rest)))

run : (ds rest : List ℕ) → Digits ds → prefix_len is_ascii_digit rest ≡ 0 → prefix_len is_ascii_digit (ds ++ rest) ≡ length ds
run _ rest (last d low high) stops = rw (ascii_digit d low high, stops) refl
run _ rest (more d ds low high digits) stops = rw (ascii_digit d low high, run ds rest digits stops) (omega arith)

some_digit : (ds : List ℕ) → Digits ds → 0 < length ds
some_digit _ (last d low high) = omega arith
some_digit _ (more d ds low high digits) = omega arith

digits_then : (ds rest : List ℕ) → Digits ds → prefix_len is_ascii_digit rest ≡ 0 → after_digits (ds ++ rest) ≡ Some rest
digits_then ds rest digits stops =
    ap (λ n. cond (n == 0) None (Some (drop n (ds ++ rest)))) (run ds rest digits stops)
    ∙ ap (λ b. cond b None (Some (drop (length ds) (ds ++ rest)))) (ne_eqb (length ds) 0 (λ e. omega (arith, some_digit ds digits)))
    ∙ ap Some (drop_at ds rest _ refl)

-- digits begin with no sign
unsigned : (ds rest : List ℕ) → Digits ds → (after_sign (ds ++ rest) ≡ ds ++ rest) × (after_minus (ds ++ rest) ≡ ds ++ rest)
unsigned _ rest (last d low high) = (rw (ne_eqb d 45 (λ e. omega (arith, e)), ne_eqb d 43 (λ e. omega (arith, e))) refl, rw (ne_eqb d 45 (λ e. omega (arith, e))) refl)
unsigned _ rest (more d ds low high digits) = (rw (ne_eqb d 45 (λ e. omega (arith, e)), ne_eqb d 43 (λ e. omega (arith, e))) refl, rw (ne_eqb d 45 (λ e. omega (arith, e))) refl)

-- a sign and digits, or digits alone
power : (bs : List ℕ) → Signed (AreDigits is_digit) bs → after_digits (after_sign (cleaned bs)) ≡ Some []
power [] h = absurd h
power (s ∷ bs) (inl (inl is, digits)) =
    subst (λ b. after_digits (after_sign (cleaned (b ∷ bs))) ≡ Some []) (sym is) (ap after_digits (sym (append-nil (cleaned bs))) ∙ digits_then (cleaned bs) [] (are_digits bs digits) refl)
power (s ∷ bs) (inl (inr is, digits)) =
    subst (λ b. after_digits (after_sign (cleaned (b ∷ bs))) ≡ Some []) (sym is) (ap after_digits (sym (append-nil (cleaned bs))) ∙ digits_then (cleaned bs) [] (are_digits bs digits) refl)
power (s ∷ bs) (inr digits) =
    let ds = cleaned (s ∷ bs) in
    let are = are_digits (s ∷ bs) digits in
    ap (λ l. after_digits (after_sign l)) (sym (append-nil ds)) ∙ ap after_digits (unsigned ds [] are).0 ∙ digits_then ds [] are refl

-- what stands behind the digits of a float
record Ends (text : List ℕ) : Type 0 where
  exponent : List ℕ
  fraction : after_fraction text ≡ Some exponent
  end : after_exponent exponent ≡ Some []
  stops : prefix_len is_ascii_digit text ≡ 0

exponent_ends : (bs : List ℕ) → IsExponent bs → (after_exponent (cleaned bs) ≡ Some []) × (prefix_len is_ascii_digit (cleaned bs) ≡ 0) × (after_fraction (cleaned bs) ≡ Some (cleaned bs))
exponent_ends [] h = absurd h
exponent_ends (e ∷ bs) (inl is, h) =
    subst (λ b. (after_exponent (cleaned (b ∷ bs)) ≡ Some []) × (prefix_len is_ascii_digit (cleaned (b ∷ bs)) ≡ 0) × (after_fraction (cleaned (b ∷ bs)) ≡ Some (cleaned (b ∷ bs)))) (sym is) (power bs h, refl, refl)
exponent_ends (e ∷ bs) (inr is, h) =
    subst (λ b. (after_exponent (cleaned (b ∷ bs)) ≡ Some []) × (prefix_len is_ascii_digit (cleaned (b ∷ bs)) ≡ 0) × (after_fraction (cleaned (b ∷ bs)) ≡ Some (cleaned (b ∷ bs)))) (sym is) (power bs h, refl, refl)

fraction_then : (bs rest : List ℕ) → IsFraction bs → prefix_len is_ascii_digit rest ≡ 0 → (after_fraction (cleaned bs ++ rest) ≡ Some rest) × (prefix_len is_ascii_digit (cleaned bs ++ rest) ≡ 0)
fraction_then [] rest h stops = absurd h
fraction_then (b ∷ bs) rest (is, digits) stops =
    subst (λ c. (after_fraction (cleaned (c ∷ bs) ++ rest) ≡ Some rest) × (prefix_len is_ascii_digit (cleaned (c ∷ bs) ++ rest) ≡ 0)) (sym is)
    (digits_then (cleaned bs) rest (are_digits bs digits) stops, refl)

tail_ends : (bs : List ℕ) → IsFloatTail bs → Ends (cleaned bs)
tail_ends bs (inl h) = let e = exponent_ends bs h in record { exponent = cleaned bs; fraction = e.2; end = e.0; stops = e.1 }
tail_ends bs (inr (inl h)) =
    let f = fraction_then bs [] h refl in
    subst Ends (append-nil (cleaned bs)) (record { exponent = []; fraction = f.0; end = refl; stops = f.1 })
tail_ends bs (inr (inr (front, back, is, fraction, exponent))) =
    let e = exponent_ends back exponent in
    let f = fraction_then front (cleaned back) fraction e.1 in
    subst (λ l. Ends (cleaned l)) (sym is)
    (subst Ends (sym (cleaned-append front back)) (record { exponent = cleaned back; fraction = f.0; end = e.0; stops = f.1 }))

-- the digits in front
whole_then : (bs rest : List ℕ) → IsUnsigned bs → prefix_len is_ascii_digit rest ≡ 0 → after_whole (cleaned bs ++ rest) ≡ Some rest
whole_then [] rest h stops = absurd h
whole_then (d ∷ []) rest h stops =
    let range = digit_range d h in
    subst (λ l. after_whole (l ++ rest) ≡ Some rest) (sym (digit_stays d [] h)) (by (d == 48))
  where
    by : (zero : Bool) → cond zero (Some rest) (after_digits (d ∷ rest)) ≡ Some rest
    by true = refl
    by false = let range = digit_range d h in digits_then (d ∷ []) rest (last d range.0 range.1) stops
whole_then (d ∷ e ∷ bs) rest (leads, digits) stops =
    let ds = cleaned (d ∷ e ∷ bs) in
    let behind = cleaned (e ∷ bs) ++ rest in
    let stays = digit_stays d (e ∷ bs) digits.0 in
    let no_zero : (d == 48) ≡ false = ne_eqb d 48 (λ z. omega (arith, leb-true 49 d (and_parts _ _ leads).0, z)) in
    ap (λ l. after_whole (l ++ rest)) stays
    ∙ ap (λ b. cond b (Some behind) (after_digits (d ∷ behind))) no_zero
    ∙ ap (λ l. after_digits (l ++ rest)) (sym stays)
    ∙ digits_then ds rest (are_digits (d ∷ e ∷ bs) digits) stops

unsigned_digits : (bs : List ℕ) → IsUnsigned bs → AreDigits is_digit bs
unsigned_digits [] h = absurd h
unsigned_digits (d ∷ []) h = h
unsigned_digits (d ∷ e ∷ bs) h = h.1

-- digits and what stands behind them are a number, and so they are behind a minus
unsigned_number : (bs tail : List ℕ) → IsUnsigned bs → IsFloatTail tail → (after_number (cleaned (bs ++ tail)) ≡ Some []) × (after_number (45 ∷ cleaned (bs ++ tail)) ≡ Some [])
unfolding after_number
unsigned_number bs tail whole ends =
    let joined = cleaned-append bs tail in
    let text = cleaned bs ++ cleaned tail in
    let e = tail_ends tail ends in
    let number : option_and_then after_exponent (option_and_then after_fraction (after_whole text)) ≡ Some [] =
    ap (λ o. option_and_then after_exponent (option_and_then after_fraction o)) (whole_then bs (cleaned tail) whole e.stops) ∙ ap (option_and_then after_exponent) e.fraction ∙ e.end in
    let plus = (unsigned (cleaned bs) (cleaned tail) (are_digits bs (unsigned_digits bs whole))).1 in (
      ap (λ l. option_and_then after_exponent (option_and_then after_fraction (after_whole (after_minus l)))) joined
          ∙ ap (λ l. option_and_then after_exponent (option_and_then after_fraction (after_whole l))) plus
          ∙ number,
      ap (λ l. option_and_then after_exponent (option_and_then after_fraction (after_whole l))) joined ∙ number,
    )

-- the sign of a text that goes on
sign_of : (s d : ℕ) (bs : List ℕ) → is_digit d ≡ true → IsSign s → float_text (s ∷ d ∷ bs) ≡ cond (s == 0x2B) (cleaned (d ∷ bs)) (45 ∷ cleaned (d ∷ bs))
sign_of s d bs is (inl plus) = subst (λ b. float_text (b ∷ d ∷ bs) ≡ cond (b == 0x2B) (cleaned (d ∷ bs)) (45 ∷ cleaned (d ∷ bs))) (sym plus) refl
sign_of s d bs is (inr minus) =
    let named : (d == 0x6E) ≡ false = ne_eqb d 0x6E (λ e. omega (arith, (digit_range d is).1, e)) in
    subst (λ b. float_text (b ∷ d ∷ bs) ≡ cond (b == 0x2B) (cleaned (d ∷ bs)) (45 ∷ cleaned (d ∷ bs))) (sym minus)
    (ap (λ t. cleaned (cond t (d ∷ bs) (45 ∷ d ∷ bs))) named)

either : (plus : Bool) (text : List ℕ) → (after_number text ≡ Some []) × (after_number (45 ∷ text) ≡ Some []) → after_number (cond plus text (45 ∷ text)) ≡ Some []
either true text h = h.0
either false text h = h.1

-- digits with no sign stay
no_sign : (d e : ℕ) (bs : List ℕ) → is_digit d ≡ true → float_text (d ∷ e ∷ bs) ≡ cleaned (d ∷ e ∷ bs)
no_sign d e bs is =
    let range = digit_range d is in
    let plus : (d == 0x2B) ≡ false = ne_eqb d 0x2B (λ z. omega (arith, range.0, z)) in
    let minus : (d == 0x2D) ≡ false = ne_eqb d 0x2D (λ z. omega (arith, range.0, z)) in
    ap (λ t. cleaned (cond t (e ∷ bs) (d ∷ e ∷ bs))) (ap₂ (λ p m. p || (m && (e == 0x6E))) plus minus)

first_digit : (d : ℕ) (bs : List ℕ) → IsUnsigned (d ∷ bs) → is_digit d ≡ true
first_digit d [] h = h
first_digit d (e ∷ bs) h = h.1.0

-- something stands behind the digits
some_tail : IsFloatTail [] → ⊥
some_tail (inl h) = h
some_tail (inr (inl h)) = h
some_tail (inr (inr ([], back, is, h, exponent))) = h
some_tail (inr (inr (b ∷ front, back, is, h, exponent))) = let none : [] ≡ b ∷ (front ++ back) = is in cc

-- a float of digits
number_text : (bs tail : List ℕ) → IsDecimal bs → IsFloatTail tail → after_number (float_text (bs ++ tail)) ≡ Some []
number_text [] tail h ends = absurd h
number_text (s ∷ []) tail (inl (sign, h)) ends = absurd h
number_text (s ∷ d ∷ bs) tail (inl (sign, h)) ends =
    ap after_number (sign_of s d (bs ++ tail) (first_digit d bs h) sign) ∙ either (s == 0x2B) (cleaned (d ∷ (bs ++ tail))) (unsigned_number (d ∷ bs) tail h ends)
number_text (d ∷ []) [] (inr h) ends = absurd (some_tail ends)
number_text (d ∷ []) (b ∷ tail) (inr h) ends = ap after_number (no_sign d b tail (first_digit d [] h)) ∙ (unsigned_number (d ∷ []) (b ∷ tail) h ends).0
number_text (d ∷ e ∷ bs) tail (inr h) ends = ap after_number (no_sign d e (bs ++ tail) (first_digit d (e ∷ bs) h)) ∙ (unsigned_number (d ∷ e ∷ bs) tail h ends).0

-- a number is none of the three words
no_word : (text : List ℕ) → after_number text ≡ Some [] → is_no_number text ≡ false
unfolding after_number
no_word text number = false_from_ne_true (is_no_number text) (λ named. by (or_cases _ _ named))
  where
    not_this : (word : List ℕ) → (after_number word ≡ Some [] → ⊥) → bytes_eq text word ≡ true → ⊥
    not_this word none same = none (subst (λ l. after_number l ≡ Some []) ((bytes_eq-Decides text word).0 same) number)

    no : {A : Type 0} {x : A} → None ≡ Some x → ⊥
    no h = cc

    by : (bytes_eq text (codes "inf") ≡ true) ⊎ ((bytes_eq text (codes "-inf") || bytes_eq text (codes "nan")) ≡ true) → ⊥
    by (inl same) = not_this (codes "inf") no same
    by (inr other) = ⊎_elim (not_this (codes "-inf") no) (not_this (codes "nan") no) (or_cases _ _ other)

-- JSON has a number of the text that a float stands for, unless that is one of the words
abbrev IsTold : List ℕ → Type 0
IsTold bs = is_json_number (float_text bs) ≡ not (is_no_number (float_text bs))

number_told : (bs : List ℕ) → after_number (float_text bs) ≡ Some [] → IsTold bs
number_told bs number = ap is_used_up number ∙ ap not (sym (no_word (float_text bs) number))

-- `inf` and `nan`, behind a sign or none
word_told : (bs : List ℕ) → Signed IsNamedFloat bs → IsTold bs
unfolding after_number
word_told [] (inl is) = let none : [] ≡ codes "inf" = is in cc
word_told [] (inr is) = let none : [] ≡ codes "nan" = is in cc
word_told (s ∷ bs) (inl (inl plus, inl is)) = subst₂ (λ b l. IsTold (b ∷ l)) (sym plus) (sym is) refl
word_told (s ∷ bs) (inl (inl plus, inr is)) = subst₂ (λ b l. IsTold (b ∷ l)) (sym plus) (sym is) refl
word_told (s ∷ bs) (inl (inr minus, inl is)) = subst₂ (λ b l. IsTold (b ∷ l)) (sym minus) (sym is) refl
word_told (s ∷ bs) (inl (inr minus, inr is)) = subst₂ (λ b l. IsTold (b ∷ l)) (sym minus) (sym is) refl
word_told (s ∷ bs) (inr (inl is)) = subst IsTold (sym is) refl
word_told (s ∷ bs) (inr (inr is)) = subst IsTold (sym is) refl

pub float_is_number : FloatIsNumber
float_is_number bs (inl word) = word_told bs word
float_is_number bs (inr (front, tail, is, decimal, ends)) = subst IsTold (sym is) (number_told (front ++ tail) (number_text front tail decimal ends))
