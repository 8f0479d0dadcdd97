-- The plain reader refuses a text at one of its bytes or at its end.
use Rattle.std.proofs.Common.{◌≡◌, ℕ, zero, suc, ◌+◌, ◌≤◌, ◌^◌, Bool, true, false, cond, eqb, ◌&&◌, List, [], ◌∷◌, length, take, drop, Option, Some, None, Result, Ok, Err, refl, ◌∙◌, subst, arith, length-drop}
use Rattle.std.specs.Prelude.{IfErr, nat_lt, ◌==◌}
use Rattle.std.specs.Str.Parse.{digits_value}
use Rattle.std.proofs.lemmas.Bool.{false≢true}
use Rattle.toml_text.specs.Bytes.{is_digit, is_ws}
use Rattle.toml_text.specs.Runs.{run_len, begins, is_byte}
use Rattle.toml_text.proofs.Proved.{run_piece}
use Rattle.toml_scalar.specs.Scanning.{key_part_len}
use Rattle.toml_scalar.specs.Values.{name_of}
use Rattle.toml_scalar.proofs.Proved.{part_sound}
use Rattle.toml_places.specs.declared.place.PlaceStep.TheVariants.{Name, FromEnd, Behind}
use Rattle.toml_places.specs.Laws.{RefusedWithin}
use Rattle.toml_places.specs.Reading.{Cursor, Reading, ◌>>=◌, found, ahead, byte_at, behind_ws, part_at, numeral_len, number_at, from_end_at, index_at, bracketed_at, dotted_at, step_at, steps_at, end_at, named_at, place_at, read_steps}

-- where the text ends
abbrev pub end : Cursor → ℕ
end c = c.at + length c.rest

-- what is read ends in the same text, or it is refused no further than at its end
abbrev pub Within : {A : Type 0} → ℕ → Reading A → Type 0
Within last (Ok r) = end r.1 ≡ last
Within last (Err at) = at ≤ last

-- the same of what is read up to the end
abbrev pub Ends : {A : Type 0} → ℕ → Result A ℕ → Type 0
Ends last o = IfErr o (λ at. at ≤ last)

within_bind : {A B : Type 0} (last : ℕ) (o : Reading A) (f : A × Cursor → Reading B) → Within last o → ((r : A × Cursor) → end r.1 ≡ last → Within last (f r)) → Within last (o >>= f)
within_bind last (Ok r) f h k = k r h
within_bind last (Err at) f h k = h

ends_bind : {A B : Type 0} (last : ℕ) (o : Reading A) (f : A × Cursor → Result B ℕ) → Within last o → ((r : A × Cursor) → end r.1 ≡ last → Ends last (f r)) → Ends last (o >>= f)
ends_bind last (Ok r) f h k = k r h
ends_bind last (Err at) f h k = h

ends_map : {A B : Type 0} (last : ℕ) (o : Result A ℕ) (f : A → B) → Ends last o → Ends last (o >>= λ a. Ok (f a))
ends_map last (Ok a) f h = tt
ends_map last (Err at) f h = h

within_found : {A B : Type 0} (last at : ℕ) (o : Option A) (f : A → Reading B) → at ≤ last → ((a : A) → o ≡ Some a → Within last (f a)) → Within last (found at o >>= f)
within_found last at None f low k = low
within_found last at (Some a) f low k = k a refl

within_cond : {A : Type 0} (last : ℕ) (b : Bool) (x y : Reading A) → Within last x → Within last y → Within last (cond b x y)
within_cond last true x y h k = h
within_cond last false x y h k = k

ends_cond : {A : Type 0} (last : ℕ) (b : Bool) (x y : Result A ℕ) → (b ≡ true → Ends last x) → Ends last y → Ends last (cond b x y)
ends_cond last true x y h k = h refl
ends_cond last false x y h k = k

ahead_end : (n : ℕ) (c : Cursor) → n ≤ length c.rest → end (ahead n c) ≡ end c
ahead_end n c h = omega (arith, length-drop n c.rest)

some : (x : ℕ) (bs : List ℕ) → begins (is_byte x) bs ≡ true → 1 ≤ length bs
some x [] e = absurd (false≢true e)
some x (b ∷ bs) e = omega arith

-- behind a byte that stands here
over_byte : {A : Type 0} (x : ℕ) (c : Cursor) (one other : Reading A) → Within (end (ahead 1 c)) one → Within (end c) other → Within (end c) (cond (begins (is_byte x) c.rest) one other)
over_byte x c one other h k = by (begins (is_byte x) c.rest) refl
  where
    by : (t : Bool) → begins (is_byte x) c.rest ≡ t → Within (end c) (cond t one other)
    by true e = subst (λ last. Within last one) (ahead_end 1 c (some x c.rest e)) h
    by false e = k

pub byte_within : (x : ℕ) (c : Cursor) → Within (end c) (byte_at x c)
unfolding byte_at
byte_within x c = over_byte x c (Ok (tt, ahead 1 c)) (Err c.at) refl (omega arith)

pub ws_within : (c : Cursor) → end (behind_ws c) ≡ end c
unfolding behind_ws
ws_within c = ahead_end (run_len is_ws c.rest) c (run_piece is_ws c.rest).0

pub part_within : (c : Cursor) → Within (end c) (part_at c)
unfolding part_at
part_within c =
    within_found (end c) c.at (key_part_len c.rest) _ (omega arith) (λ n len.
    within_found (end c) c.at (name_of (take n c.rest)) _ (omega arith) (λ name is.
    ahead_end n c (part_sound c.rest n len).0))

pub numeral_within : (bs : List ℕ) → numeral_len bs ≤ length bs
numeral_within [] = omega arith
numeral_within (b ∷ bs) = elim (eqb b 0x30) as (λ t. cond t 1 (run_len is_digit (b ∷ bs)) ≤ length (b ∷ bs)) [
  | true ↦ omega arith
  | false ↦ (run_piece is_digit (b ∷ bs)).0
]

number_within : (c : Cursor) → Within (end c) (number_at c)
unfolding number_at
number_within c =
    let n = numeral_len c.rest in
    within_cond (end c) (nat_lt 0 n && nat_lt (digits_value 10 (take n c.rest)) (2 ^ 64)) (Ok (digits_value 10 (take n c.rest), ahead n c)) (Err c.at)
    (ahead_end n c (numeral_within c.rest)) (omega arith)

from_end_within : (c : Cursor) → Within (end c) (from_end_at c)
unfolding from_end_at
from_end_within c = within_bind (end c) (number_at c) _ (number_within c) (λ r same. within_cond (end c) (r.0 == 0) (Err c.at) (Ok (FromEnd r.0, r.1)) (omega arith) same)

pub index_within : (c : Cursor) → Within (end c) (index_at c)
unfolding index_at
index_within c =
    over_byte 0x2B c (Ok (Behind, ahead 1 c)) _ refl
    (over_byte 0x2D c (from_end_at (ahead 1 c)) _ (from_end_within (ahead 1 c))
    (within_bind (end c) (number_at c) _ (number_within c) (λ r same. same)))

bracketed_within : (c : Cursor) → Within (end c) (bracketed_at c)
unfolding bracketed_at
bracketed_within c =
    within_bind (end c) (index_at c) _ (index_within c) (λ r same.
    within_bind (end c) (byte_at 0x5D r.1) _ (subst (λ last. Within last (byte_at 0x5D r.1)) same (byte_within 0x5D r.1)) (λ closed end_same. end_same))

dotted_within : (c : Cursor) → Within (end c) (dotted_at c)
unfolding dotted_at
dotted_within c =
    within_bind (end c) (byte_at 0x2E (behind_ws c)) _ (subst (λ last. Within last (byte_at 0x2E (behind_ws c))) (ws_within c) (byte_within 0x2E (behind_ws c))) (λ dot same.
    within_bind (end c) (part_at (behind_ws dot.1)) _ (subst (λ last. Within last (part_at (behind_ws dot.1))) (ws_within dot.1 ∙ same) (part_within (behind_ws dot.1))) (λ r end_same. end_same))

pub step_within : (c : Cursor) → Within (end c) (step_at c)
unfolding step_at
step_within c = over_byte 0x5B c (bracketed_at (ahead 1 c)) (dotted_at c) (bracketed_within (ahead 1 c)) (dotted_within c)

steps_within : (fuel : ℕ) (c : Cursor) → Ends (end c) (steps_at fuel c)
steps_within zero c = ends_cond (end c) (length c.rest == 0) (Ok []) (Err c.at) (λ _. tt) (omega arith)
steps_within (suc fuel) c =
    ends_cond (end c) (length c.rest == 0) (Ok []) _ (λ _. tt)
    (ends_bind (end c) (step_at c) _ (step_within c) (λ r same.
    ends_map (end c) (steps_at fuel r.1) (λ steps. r.0 ∷ steps) (subst (λ last. Ends last (steps_at fuel r.1)) same (steps_within fuel r.1))))

named_within : (c : Cursor) → Ends (end c) (named_at c)
unfolding named_at
named_within c =
    ends_bind (end c) (part_at c) _ (part_within c) (λ r same.
    ends_map (end c) (steps_at (length r.1.rest) r.1) (λ steps. Name r.0 ∷ steps) (subst (λ last. Ends last (steps_at (length r.1.rest) r.1)) same (steps_within (length r.1.rest) r.1)))

root_within : (c : Cursor) → begins (is_byte 0x2E) c.rest ≡ true → Ends (end c) (end_at (ahead 1 c))
unfolding end_at
root_within c here = ends_cond (end c) (length (drop 1 c.rest) == 0) (Ok []) (Err (c.at + 1)) (λ _. tt) (let k = some 0x2E c.rest here in omega arith)

place_within : (c : Cursor) → Ends (end c) (place_at c)
unfolding place_at
place_within c = ends_cond (end c) (begins (is_byte 0x2E) c.rest) (end_at (ahead 1 c)) (named_at c) (λ e. root_within c e) (named_within c)

pub refused_within : RefusedWithin
unfolding read_steps
refused_within bytes at refused =
    let within : at ≤ 0 + length bytes = subst (λ o. Ends (0 + length bytes) o) refused (place_within (record { at = 0; rest = bytes })) in
    omega arith
