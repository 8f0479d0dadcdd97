-- What the code of escapes computes.
use Rattle.std.proofs.Common.{◌≡◌, ℕ, zero, suc, ◌+◌, ◌*◌, ◌^◌, ◌<◌, ◌≤◌, Bool, true, false, cond, ◌||◌, ◌&&◌, List, [], ◌∷◌, ◌++◌, length, take, drop, get_or, Option, Some, None, sym, refl, ap, ◌∙◌, subst, arith, eqb, length-append}
use Rattle.std.specs.Prelude.{nat_le, nat_lt, option_map, if◌then◌else◌}
use Rattle.std.specs.Char.{digit_value, IsScalar}
use lib.Utf8.{scalar}
use Rattle.std.proofs.Math.Nat.{pow-zero, pow-succ', pow-le-pow_right}
use Rattle.std.proofs.lemmas.Bool.{cond-true, cond-false, leb-true, and_from, and_left, and_right, lt-leb, le-leb, ne_eqb, false_from_ne_true}
use Rattle.std.proofs.lemmas.List.{length-take-le}
use Rattle.toml_text.specs.Bytes.{is_ws, is_hex}
use Rattle.toml_text.specs.Forms.{Each}
use Rattle.toml_text.specs.Runs.{run_len, newline_len}
use Rattle.toml_text.proofs.Proved.{newlines_piece, run_most, run_piece}
use Rattle.toml_scalar.specs.Integers.{digits_value}
use Rattle.toml_scalar.specs.Strings.{StringPiece, Escape, UnicodeEscape, escaped}
use Rattle.toml_scalar.specs.StringRuns.{hex_after, is_scalar_value, unicode_at, is_escape, escape_at, spaces_len, dropped_len, dropped, multi_line_escape_at}
use Rattle.toml_scalar.specs.declared.strings.escapes.EscapedChar.{EscapedChar}
use Rattle.toml_scalar.specs.StringScan.{behind_len, escaped_char}
use Rattle.toml_scalar.proofs.StringSpaces.{spaces_len-le}
use Rattle.toml_scalar.proofs.StringPieces.{each_hex}

-- digits

pub power_seven : (i : ℕ) → i < 8 → 16 ^ i ≤ 16 ^ 7
power_seven i h = pow-le-pow_right {n = 16} (omega arith) {i = i} {j = 7} (omega arith)

-- what the digits spell

spread : (value digit scale rest : ℕ) → value * (16 * scale) + (digit * scale + rest) ≡ (value * 16 + digit) * scale + rest
spread value digit scale rest = grind arith

hex_more_value : (number d : ℕ) (ds : List ℕ) → number * 16 ^ length (d ∷ ds) + digits_value 16 (d ∷ ds) ≡ (number * 16 + digit_value d) * 16 ^ length ds + digits_value 16 ds
hex_more_value number d ds =
    let scale : 16 ^ suc (length ds) ≡ 16 * 16 ^ length ds = pow-succ' 16 (length ds) in
    rw scale (spread number (digit_value d) (16 ^ length ds) (digits_value 16 ds))

hex_each : (t : Bool) (number d : ℕ) (ds : List ℕ) (n : ℕ) → is_hex d ≡ t → cond t (hex_after (number * 16 + digit_value d) ds) None ≡ Some n → (hex_after (number * 16 + digit_value d) ds ≡ Some n) × (is_hex d ≡ true)
hex_each true number d ds n e h = (h, e)
hex_each false number d ds n e h = absurd cc

pub hex_some : (number : ℕ) (ds : List ℕ) (n : ℕ) → hex_after number ds ≡ Some n → Each is_hex ds × (n ≡ number * 16 ^ length ds + digits_value 16 ds)
hex_some number [] n h = let same : number ≡ n = cc in let one : 16 ^ 0 ≡ 1 = pow-zero 16 in (tt, omega arith)
hex_some number (d ∷ ds) n h =
    let k = hex_each (is_hex d) number d ds n refl h in
    let r = hex_some (number * 16 + digit_value d) ds n k.0 in
    ((k.1, r.0), r.1 ∙ sym (hex_more_value number d ds))

pub hex_none : (number : ℕ) (ds : List ℕ) → hex_after number ds ≡ None → Each is_hex ds → ⊥
hex_none number [] h each = cc
hex_none number (d ∷ ds) h each = hex_none (number * 16 + digit_value d) ds (sym (cond-true _ _ _ each.0) ∙ h) each.1

scalar_same : (n : ℕ) → scalar n ≡ is_scalar_value n
scalar_same n = elim (nat_lt n 0xD800) as (λ t. cond t true (nat_le 0xE000 n && nat_lt n 0x110000) ≡ (t || (nat_le 0xE000 n && nat_lt n 0x110000))) [ true ↦ refl | false ↦ refl ]

-- the escape by digits

module _ (u n : ℕ) (bs : List ℕ) where
  pub unicode_short : length bs < n → unicode_at u n bs ≡ None
  unfolding unicode_at
  unicode_short h = cond-false _ _ _ (and_left _ _ (lt-leb n (run_len is_hex bs) (omega (arith, (run_piece is_hex bs).0))))

  pub unicode_other : hex_after 0 (take n bs) ≡ None → unicode_at u n bs ≡ None
  unfolding unicode_at
  unicode_other h = cond-false _ _ _ (and_left _ _ (false_from_ne_true _ (λ e. hex_none 0 (take n bs) h (each_hex bs n (leb-true n (run_len is_hex bs) e)))))

  spelled : (m : ℕ) → hex_after 0 (take n bs) ≡ Some m → m ≡ digits_value 16 (take n bs)
  spelled m h = omega (arith, (hex_some 0 (take n bs) m h).1)

  pub unicode_no_scalar : (m : ℕ) → hex_after 0 (take n bs) ≡ Some m → ¬ IsScalar m → unicode_at u n bs ≡ None
  unfolding unicode_at
  unicode_no_scalar m h other = cond-false _ _ _ (and_right _ _ (subst (λ v. is_scalar_value v ≡ false) (spelled m h) (sym (scalar_same m) ∙ false_from_ne_true (scalar m) other)))

  pub unicode_some : (m : ℕ) → n ≤ length bs → hex_after 0 (take n bs) ≡ Some m → IsScalar m → option_map escaped_char (unicode_at u n bs) ≡ Some (record { value = m; len = n + 1 })
  unfolding unicode_at
  unicode_some m within h is =
      let count : length (take n bs) ≡ n = length-take-le n bs within in
      let front : Each is_hex (take n bs) = (hex_some 0 (take n bs) m h).0 in
      let enough : n ≤ run_len is_hex bs = run_most is_hex bs n within front in
      let last : behind_len (UnicodeEscape u (take n bs)) ≡ n + 1 = omega arith in
      ap (option_map escaped_char) (cond-true _ _ _ (and_from _ _ (le-leb n (run_len is_hex bs) enough) (subst (λ v. is_scalar_value v ≡ true) (spelled m h) (sym (scalar_same m) ∙ is))))
      ∙ (λ i. Some (record { value = sym (spelled m h) i; len = last i }))

-- the escape, by its letter

letter_four : (bs : List ℕ) → 1 ≤ length bs → get_or bs 0 0 ≡ 0x75 → escape_at bs ≡ unicode_at 0x75 4 (drop 1 bs)
unfolding escape_at
letter_four [] some is = absurd (omega arith)
letter_four (b ∷ bs) some is = rw is refl

letter_eight : (bs : List ℕ) → 1 ≤ length bs → get_or bs 0 0 ≡ 0x55 → escape_at bs ≡ unicode_at 0x55 8 (drop 1 bs)
unfolding escape_at
letter_eight [] some is = absurd (omega arith)
letter_eight (b ∷ bs) some is = rw is refl

abbrev pub one_char : ℕ → EscapedChar
one_char v = record { value = v; len = 1 }

letter_cases : (t : Bool) (b : ℕ) → option_map escaped_char (if t then Some (Escape b) else None) ≡ option_map one_char (if t then Some (escaped b) else None)
letter_cases true b = refl
letter_cases false b = refl

other_letter : (bs : List ℕ) → 1 ≤ length bs → (get_or bs 0 0 ≡ 0x75 → ⊥) → (get_or bs 0 0 ≡ 0x55 → ⊥) → option_map escaped_char (escape_at bs) ≡ option_map one_char (if is_escape (get_or bs 0 0) then Some (escaped (get_or bs 0 0)) else None)
unfolding escape_at
other_letter [] some four eight = absurd (omega arith)
other_letter (b ∷ bs) some four eight = rw (ne_eqb b 0x75 four, ne_eqb b 0x55 eight) (letter_cases (is_escape b) b)

module _ (bs : List ℕ) (some : 1 ≤ length bs) where
  pub escape_four : get_or bs 0 0 ≡ 0x75 → escape_at bs ≡ unicode_at 0x75 4 (drop 1 bs)
  escape_four is = letter_four bs some is

  pub escape_eight : get_or bs 0 0 ≡ 0x55 → escape_at bs ≡ unicode_at 0x55 8 (drop 1 bs)
  escape_eight is = letter_eight bs some is

  pub escape_letter : (get_or bs 0 0 ≡ 0x75 → ⊥) → (get_or bs 0 0 ≡ 0x55 → ⊥) → option_map escaped_char (escape_at bs) ≡ option_map (λ v. record { value = v; len = 1 }) (if is_escape (get_or bs 0 0) then Some (escaped (get_or bs 0 0)) else None)
  escape_letter four eight = other_letter bs some four eight

pub escape_none : (bs : List ℕ) → length bs < 1 → escape_at bs ≡ None
unfolding escape_at
escape_none [] h = refl
escape_none (b ∷ bs) h = absurd (omega arith)

-- behind `\` in a multi-line string

pub escaped_len : (o : Option StringPiece) → option_map (λ (e : EscapedChar). e.len) (option_map escaped_char o) ≡ option_map behind_len o
escaped_len None = refl
escaped_len (Some q) = refl

pub not_dropped : (bs : List ℕ) → dropped_len bs ≡ 0 → multi_line_escape_at bs ≡ escape_at bs
unfolding multi_line_escape_at
not_dropped bs h = cond-true _ _ _ (no_line (newline_len (drop (run_len is_ws bs) bs)) _ _ h)
  where
    no_line : (line ws spaces : ℕ) → cond (eqb line 0) 0 (ws + line + spaces) ≡ 0 → eqb line 0 ≡ true
    no_line zero ws spaces h = refl
    no_line (suc line) ws spaces h = absurd (let some : eqb (suc line) 0 ≡ false = ne_eqb (suc line) 0 (λ z. omega arith) in omega (arith, cond-false (eqb (suc line) 0) 0 (ws + suc line + spaces) some))

pub is_dropped : (bs : List ℕ) (n : ℕ) → n ≡ dropped_len bs → 0 < n → Some n ≡ option_map behind_len (multi_line_escape_at bs)
unfolding multi_line_escape_at
is_dropped bs n e some =
    let ws : ℕ = run_len is_ws bs in
    let line : ℕ = newline_len (drop ws bs) in
    let spaces : ℕ = spaces_len (drop line (drop ws bs)) in
    elim (eqb line 0) as (λ t. n ≡ cond t 0 (ws + line + spaces) → Some n ≡ option_map behind_len (cond t (escape_at bs) (Some (dropped ws line bs)))) [
      | true ↦ λ k. absurd (omega arith)
      | false ↦ λ k. ap Some (omega (
        arith,
        length-append (take ws bs) (take line (drop ws bs) ++ take spaces (drop line (drop ws bs))),
        length-append (take line (drop ws bs)) (take spaces (drop line (drop ws bs))),
        length-take-le ws bs (run_piece is_ws bs).0,
        length-take-le line (drop ws bs) (newlines_piece (drop ws bs)).0,
        length-take-le spaces (drop line (drop ws bs)) (spaces_len-le (drop line (drop ws bs))),
      ))
    ] e
