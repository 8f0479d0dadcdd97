-- What is spelled so the plain reader reads.
use Rattle.std.proofs.Common.{◌≡◌, ℕ, zero, suc, ◌+◌, ◌<◌, ◌≤◌, ◌^◌, Bool, true, false, eqb, eq-eqb, ◌&&◌, List, [], ◌∷◌, ◌++◌, length, length-append, take, drop, Some, Result, Ok, sym, refl, ap, ◌∙◌, subst, arith, append_assoc, inl, inr}
use Rattle.std.specs.Prelude.{nat_lt, ◌==◌}
use Rattle.std.specs.Str.Parse.{digits_value}
use Rattle.std.proofs.lemmas.Bool.{ne_eqb, cond-true, cond-false}
use Rattle.std.proofs.lemmas.Bool.Decides.{nat_tests}
use Rattle.std.proofs.Math.Seq.{take-append_seam, drop-append_seam}
use Rattle.toml_text.specs.Bytes.{is_digit, is_leading_digit, is_ws}
use Rattle.toml_text.specs.Forms.{Each, IsWs}
use Rattle.toml_text.specs.Runs.{run_len, begins, is_byte}
use Rattle.toml_text.proofs.Proved.{run_found, begins_other}
use Rattle.toml_scalar.specs.Names.{IsName}
use Rattle.toml_scalar.specs.Scanning.{key_part_len, is_key_start}
use Rattle.toml_scalar.specs.Values.{name_of}
use Rattle.toml_scalar.proofs.Proved.{name_found, part_complete, part_first}
use Rattle.toml_places.specs.declared.place.PlaceStep.{PlaceStep}
use Rattle.toml_places.specs.declared.place.PlaceStep.TheVariants.{Name, Index, FromEnd, Behind}
use Rattle.toml_places.specs.Laws.{SpelledIsFound, OnePlace}
use Rattle.toml_places.specs.Places.{IsNumeral, IsNumber, SpellsStep, SpellsSteps, SpellsPlace}
use Rattle.toml_places.specs.Reading.{Cursor, Reading, ahead, byte_at, behind_ws, part_at, numeral_len, number_of, number_at, from_end_at, index_at, bracketed_at, dotted_at, step_at, steps_at, end_at, named_at, place_at, read_steps}

-- it is read, and this stands behind it
abbrev pub Reaches : {A : Type 0} → Reading A → A → List ℕ → Type 0
Reaches o x rest = (d : Cursor) × (o ≡ Ok (x, d)) × (d.rest ≡ rest)

-- pieces
byte_found : (x : ℕ) (c : Cursor) (rest : List ℕ) → c.rest ≡ x ∷ rest → Reaches (byte_at x c) tt rest
unfolding byte_at
byte_found x c rest is =
    let here : begins (is_byte x) c.rest ≡ true = ap (begins (is_byte x)) is ∙ eq-eqb x x refl in
    (ahead 1 c, cond-true _ _ _ here, ap (drop 1) is)

ws_found : (c : Cursor) (ws rest : List ℕ) → IsWs ws → c.rest ≡ ws ++ rest → begins is_ws rest ≡ false → (behind_ws c).rest ≡ rest
unfolding behind_ws
ws_found c ws rest are is stop =
    ap (λ n. drop n c.rest) (ap (run_len is_ws) is ∙ run_found is_ws ws rest are stop) ∙ ap (drop (length ws)) is ∙ drop-append_seam ws rest

part_found : (c : Cursor) (part name rest : List ℕ) → IsName part name → c.rest ≡ part ++ rest → begins is_key_start rest ≡ false → Reaches (part_at c) name rest
unfolding part_at
part_found c part name rest named is stop =
    let len : key_part_len c.rest ≡ Some (length part) = ap key_part_len is ∙ part_complete part rest (name, named) stop in
    let front : take (length part) c.rest ≡ part = ap (take (length part)) is ∙ take-append_seam part rest in
    let means : name_of (take (length part) c.rest) ≡ Some name = ap name_of front ∙ name_found part name named in
    (ahead (length part) c, rw (len, means) refl, ap (drop (length part)) is ∙ drop-append_seam part rest)

-- numbers
leads : (d : ℕ) → is_leading_digit d ≡ true → (eqb d 0x30 ≡ false) × (is_digit d ≡ true)
leads d h = (grind (arith, nat_tests), grind (arith, nat_tests))

numeral_found : (digits rest : List ℕ) → IsNumeral digits → begins is_digit rest ≡ false → numeral_len (digits ++ rest) ≡ length digits
numeral_found [] rest form stop = absurd form
numeral_found (d ∷ ds) rest (inl alone) stop = cond-true _ _ _ (eq-eqb d 0x30 alone.0) ∙ sym (ap (λ l. length (d ∷ l)) alone.1)
numeral_found (d ∷ ds) rest (inr more) stop =
    let first = leads d more.0 in
    cond-false _ _ _ first.0 ∙ run_found is_digit (d ∷ ds) rest (first.1, more.1) stop

numeral_some : (digits : List ℕ) → IsNumeral digits → 0 < length digits
numeral_some [] form = absurd form
numeral_some (d ∷ ds) form = omega arith

zero_digit : (d : ℕ) → d ≡ 0x30 → is_digit d ≡ true
zero_digit d is = ap is_digit is

numeral_first : (digits rest : List ℕ) → IsNumeral digits → begins is_digit (digits ++ rest) ≡ true
numeral_first [] rest form = absurd form
numeral_first (d ∷ ds) rest (inl alone) = zero_digit d alone.0
numeral_first (d ∷ ds) rest (inr more) = (leads d more.0).1

in_limit : (n value : ℕ) → 0 < n → value < 2 ^ 64 → (nat_lt 0 n && nat_lt value (2 ^ 64)) ≡ true
in_limit n value some low = grind (arith, nat_tests)

number_found : (c : Cursor) (digits : List ℕ) (n : ℕ) (rest : List ℕ) → IsNumber digits n → c.rest ≡ digits ++ rest → begins is_digit rest ≡ false → Reaches (number_at c) n rest
unfolding number_at
number_found c digits n rest number is stop =
    let len : numeral_len c.rest ≡ length digits = ap numeral_len is ∙ numeral_found digits rest number.numeral stop in
    let front : take (length digits) c.rest ≡ digits = ap (take (length digits)) is ∙ take-append_seam digits rest in
    let value : digits_value 10 (take (length digits) c.rest) ≡ n = ap (digits_value 10) front ∙ sym number.value in
    let low : digits_value 10 (take (length digits) c.rest) < 2 ^ 64 = subst (λ v. v < 2 ^ 64) (sym value) number.limit in
    let reads : number_of (length digits) c ≡ Ok (n, ahead (length digits) c) =
    cond-true _ _ _ (in_limit (length digits) (digits_value 10 (take (length digits) c.rest)) (numeral_some digits number.numeral) low) ∙ ap (λ v. Ok (v, ahead (length digits) c)) value in
    (ahead (length digits) c, ap (λ m. number_of m c) len ∙ reads, ap (drop (length digits)) is ∙ drop-append_seam digits rest)

from_end_found : (c : Cursor) (digits : List ℕ) (n : ℕ) (rest : List ℕ) → IsNumber digits n → 0 < n → c.rest ≡ digits ++ rest → begins is_digit rest ≡ false → Reaches (from_end_at c) (FromEnd n) rest
unfolding from_end_at
from_end_found c digits n rest number some is stop =
    let read = number_found c digits n rest number is stop in
    let other : (n == 0) ≡ false = ne_eqb n 0 (λ e. omega arith) in
    (read.0, rw read.1 (cond-false _ _ _ other), read.2)

-- no digit is `+` or `-`
no_sign : (b : ℕ) → is_digit b ≡ true → (is_byte 0x2B b ≡ false) × (is_byte 0x2D b ≡ false)
no_sign b h = (grind (arith, nat_tests), grind (arith, nat_tests))

index_found : (c : Cursor) (digits : List ℕ) (n : ℕ) (rest : List ℕ) → IsNumber digits n → c.rest ≡ digits ++ rest → begins is_digit rest ≡ false → Reaches (index_at c) (Index n) rest
unfolding index_at
index_found c digits n rest number is stop =
    let read = number_found c digits n rest number is stop in
    let first : begins is_digit c.rest ≡ true = ap (begins is_digit) is ∙ numeral_first digits rest number.numeral in
    let plus : begins (is_byte 0x2B) c.rest ≡ false = begins_other is_digit (is_byte 0x2B) c.rest (λ b h. (no_sign b h).0) first in
    let minus : begins (is_byte 0x2D) c.rest ≡ false = begins_other is_digit (is_byte 0x2D) c.rest (λ b h. (no_sign b h).1) first in
    (read.0, cond-false _ _ _ plus ∙ cond-false _ _ _ minus ∙ rw read.1 refl, read.2)

minus_found : (c : Cursor) (digits : List ℕ) (n : ℕ) (rest : List ℕ) → IsNumber digits n → 0 < n → c.rest ≡ 0x2D ∷ (digits ++ rest) → begins is_digit rest ≡ false → Reaches (index_at c) (FromEnd n) rest
unfolding index_at
minus_found c digits n rest number some is stop =
    let read = from_end_found (ahead 1 c) digits n rest number some (ap (drop 1) is) stop in
    let plus : begins (is_byte 0x2B) c.rest ≡ false = ap (begins (is_byte 0x2B)) is in
    let minus : begins (is_byte 0x2D) c.rest ≡ true = ap (begins (is_byte 0x2D)) is in
    (read.0, cond-false _ _ _ plus ∙ cond-true _ _ _ minus ∙ read.1, read.2)

plus_found : (c : Cursor) (rest : List ℕ) → c.rest ≡ 0x2B ∷ rest → Reaches (index_at c) Behind rest
unfolding index_at
plus_found c rest is = (ahead 1 c, cond-true _ _ _ (ap (begins (is_byte 0x2B)) is), ap (drop 1) is)

bracketed_found : (c : Cursor) (s : PlaceStep) (rest : List ℕ) → Reaches (index_at c) s (0x5D ∷ rest) → Reaches (bracketed_at c) s rest
unfolding bracketed_at
bracketed_found c s rest inner =
    let end = byte_found 0x5D inner.0 rest inner.2 in
    (end.0, rw (inner.1, end.1) refl, end.2)

opened_found : (c : Cursor) (s : PlaceStep) (text rest : List ℕ) → c.rest ≡ 0x5B ∷ text → (((d : Cursor) → d.rest ≡ text → Reaches (index_at d) s (0x5D ∷ rest))) → Reaches (step_at c) s rest
unfolding step_at
opened_found c s text rest is inner =
    let read = bracketed_found (ahead 1 c) s rest (inner (ahead 1 c) (ap (drop 1) is)) in
    (read.0, cond-true _ _ _ (ap (begins (is_byte 0x5B)) is) ∙ read.1, read.2)

-- whitespace is neither this nor that
no_bracket : (b : ℕ) → is_ws b ≡ true → (is_byte 0x5B b ≡ false) × (is_key_start b ≡ false)
no_bracket b h = (grind (arith, nat_tests), grind (arith, nat_tests))

each_first : (p q : ℕ → Bool) (xs ys : List ℕ) → Each p xs → ((b : ℕ) → p b ≡ true → q b ≡ false) → begins q ys ≡ false → begins q (xs ++ ys) ≡ false
each_first p q [] ys h k e = e
each_first p q (x ∷ xs) ys h k e = k x h.0

no_start : (b : ℕ) → is_key_start b ≡ true → (is_ws b ≡ false) × (is_byte 0x2E b ≡ false)
no_start b h = (grind (arith, nat_tests), grind (arith, nat_tests))

dotted_found : (c : Cursor) (before after part name rest : List ℕ) → IsWs before → IsWs after → IsName part name → c.rest ≡ before ++ 0x2E ∷ (after ++ (part ++ rest)) → begins is_key_start rest ≡ false → Reaches (dotted_at c) (Name name) rest
unfolding dotted_at
dotted_found c before after part name rest before_ws after_ws named is stop =
    let dot = byte_found 0x2E (behind_ws c) (after ++ (part ++ rest)) (ws_found c before (0x2E ∷ (after ++ (part ++ rest))) before_ws is refl) in
    let start : begins is_ws (part ++ rest) ≡ false = begins_other is_key_start is_ws (part ++ rest) (λ b h. (no_start b h).0) (part_first part rest (name, named)) in
    let read = part_found (behind_ws dot.0) part name rest named (ws_found dot.0 after (part ++ rest) after_ws dot.2 start) stop in
    (read.0, rw (dot.1, read.1) refl, read.2)

dotted_step_found : (c : Cursor) (before after part name rest : List ℕ) → IsWs before → IsWs after → IsName part name → c.rest ≡ before ++ 0x2E ∷ (after ++ (part ++ rest)) → begins is_key_start rest ≡ false → Reaches (step_at c) (Name name) rest
unfolding step_at
dotted_step_found c before after part name rest before_ws after_ws named is stop =
    let read = dotted_found c before after part name rest before_ws after_ws named is stop in
    let first : begins (is_byte 0x5B) c.rest ≡ false = ap (begins (is_byte 0x5B)) is ∙ each_first is_ws (is_byte 0x5B) before (0x2E ∷ (after ++ (part ++ rest))) before_ws (λ b h. (no_bracket b h).0) refl in
    (read.0, cond-false _ _ _ first ∙ read.1, read.2)

-- steps
regrouped : (before after part rest : List ℕ) → (before ++ 0x2E ∷ (after ++ part)) ++ rest ≡ before ++ 0x2E ∷ (after ++ (part ++ rest))
regrouped before after part rest = append_assoc before (0x2E ∷ (after ++ part)) rest ∙ ap (λ l. before ++ 0x2E ∷ l) (append_assoc after part rest)

closed : (digits rest : List ℕ) → (digits ++ 0x5D ∷ []) ++ rest ≡ digits ++ 0x5D ∷ rest
closed digits rest = append_assoc digits (0x5D ∷ []) rest

step_found : (s : PlaceStep) (c : Cursor) (front rest : List ℕ) → SpellsStep s front → c.rest ≡ front ++ rest → begins is_key_start rest ≡ false → Reaches (step_at c) s rest
step_found (Name name) c front rest (before, after, part, before_ws, after_ws, named, is) whole stop =
    dotted_step_found c before after part name rest before_ws after_ws named (whole ∙ ap (λ l. l ++ rest) is ∙ regrouped before after part rest) stop
step_found (Index n) c front rest (digits, number, is) whole stop =
    opened_found c (Index n) (digits ++ 0x5D ∷ rest) rest (whole ∙ ap (λ l. l ++ rest) is ∙ ap (λ l. 0x5B ∷ l) (closed digits rest)) (λ d inner. index_found d digits n (0x5D ∷ rest) number inner refl)
step_found (FromEnd n) c front rest (digits, number, some, is) whole stop =
    opened_found c (FromEnd n) (0x2D ∷ (digits ++ 0x5D ∷ rest)) rest (whole ∙ ap (λ l. l ++ rest) is ∙ ap (λ l. 0x5B ∷ 0x2D ∷ l) (closed digits rest)) (λ d inner. minus_found d digits n (0x5D ∷ rest) number some inner refl)
step_found Behind c front rest is whole stop =
    opened_found c Behind (0x2B ∷ 0x5D ∷ rest) rest (whole ∙ ap (λ l. l ++ rest) is) (λ d inner. plus_found d (0x5D ∷ rest) inner)

pub step_some : (s : PlaceStep) (front : List ℕ) → SpellsStep s front → 0 < length front
step_some (Name name) front (before, after, part, before_ws, after_ws, named, is) = omega (arith, ap length is ∙ length-append before (0x2E ∷ (after ++ part)))
step_some (Index n) front (digits, number, is) = omega (arith, ap length is)
step_some (FromEnd n) front (digits, number, some, is) = omega (arith, ap length is)
step_some Behind front is = omega (arith, ap length is)

step_first : (s : PlaceStep) (front rest : List ℕ) → SpellsStep s front → begins is_key_start (front ++ rest) ≡ false
step_first (Name name) front rest (before, after, part, before_ws, after_ws, named, is) =
    ap (λ l. begins is_key_start (l ++ rest)) is ∙ ap (begins is_key_start) (regrouped before after part rest) ∙ each_first is_ws is_key_start before (0x2E ∷ (after ++ (part ++ rest))) before_ws (λ b h. (no_bracket b h).1) refl
step_first (Index n) front rest (digits, number, is) = ap (λ l. begins is_key_start (l ++ rest)) is
step_first (FromEnd n) front rest (digits, number, some, is) = ap (λ l. begins is_key_start (l ++ rest)) is
step_first Behind front rest is = ap (λ l. begins is_key_start (l ++ rest)) is

steps_first : (steps : List PlaceStep) (text : List ℕ) → SpellsSteps steps text → begins is_key_start text ≡ false
steps_first [] text is = ap (begins is_key_start) is
steps_first (s ∷ steps) text (front, rest, step, more, is) = ap (begins is_key_start) is ∙ step_first s front rest step

empty_so : (bs : List ℕ) → bs ≡ [] → (length bs == 0) ≡ true
empty_so bs is = ap (λ l. length l == 0) is

some_so : (bs : List ℕ) → 0 < length bs → (length bs == 0) ≡ false
some_so bs some = ne_eqb (length bs) 0 (λ e. omega arith)

steps_found : (fuel : ℕ) (steps : List PlaceStep) (c : Cursor) → SpellsSteps steps c.rest → length c.rest ≤ fuel → steps_at fuel c ≡ Ok steps
steps_found zero [] c is enough = cond-true _ _ _ (empty_so c.rest is)
steps_found (suc fuel) [] c is enough = cond-true _ _ _ (empty_so c.rest is)
steps_found zero (s ∷ steps) c (front, rest, step, more, is) enough =
    absurd (let some = step_some s front step in let all = ap length is ∙ length-append front rest in omega arith)
steps_found (suc fuel) (s ∷ steps) c (front, rest, step, more, is) enough =
    let some = step_some s front step in
    let all : length c.rest ≡ length front + length rest = ap length is ∙ length-append front rest in
    let read = step_found s c front rest step is (steps_first steps rest more) in
    let left : length read.0.rest ≡ length rest = ap length read.2 in
    let others = steps_found fuel steps read.0 (subst (SpellsSteps steps) (sym read.2) more) (omega arith) in
    cond-false _ _ _ (some_so c.rest (omega arith)) ∙ rw (read.1, others) refl

-- places
root_found : (c : Cursor) → c.rest ≡ 0x2E ∷ [] → place_at c ≡ Ok []
unfolding place_at end_at
root_found c is = cond-true _ _ _ (ap (begins (is_byte 0x2E)) is) ∙ cond-true _ _ _ (empty_so (drop 1 c.rest) (ap (drop 1) is))

named_found : (c : Cursor) (part name rest : List ℕ) (steps : List PlaceStep) → IsName part name → SpellsSteps steps rest → c.rest ≡ part ++ rest → place_at c ≡ Ok (Name name ∷ steps)
unfolding place_at named_at
named_found c part name rest steps named more is =
    let first : begins (is_byte 0x2E) c.rest ≡ false = ap (begins (is_byte 0x2E)) is ∙ begins_other is_key_start (is_byte 0x2E) (part ++ rest) (λ b h. (no_start b h).1) (part_first part rest (name, named)) in
    let read = part_found c part name rest named is (steps_first steps rest more) in
    let others = steps_found (length read.0.rest) steps read.0 (subst (SpellsSteps steps) (sym read.2) more) (omega arith) in
    cond-false _ _ _ first ∙ rw (read.1, others) refl

pub place_found : (c : Cursor) (steps : List PlaceStep) → SpellsPlace steps c.rest → place_at c ≡ Ok steps
place_found c [] is = root_found c is
place_found c (Name name ∷ steps) (part, rest, named, more, is) = named_found c part name rest steps named more is
place_found c (Index n ∷ steps) never = absurd never
place_found c (FromEnd n ∷ steps) never = absurd never
place_found c (Behind ∷ steps) never = absurd never

pub spelled_is_found : SpelledIsFound
unfolding read_steps
spelled_is_found bytes steps is = place_found (record { at = 0; rest = bytes }) steps is

same_ok : (one two : List PlaceStep) → ◌≡◌ {A = Result (List PlaceStep) ℕ} (Ok one) (Ok two) → one ≡ two
same_ok one two e = cc

pub one_place : OnePlace
one_place bytes one two first second = same_ok one two (sym (spelled_is_found bytes one first) ∙ spelled_is_found bytes two second)
