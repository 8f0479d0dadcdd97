-- The plain reader: total functions on lists that compute the steps of a text, or the place at which it is refused, beside
-- the relation of `Places`.
use Rattle.std.specs.Prelude.{ℕ, zero, suc, ◌+◌, ◌^◌, ◌&&◌, ◌==◌, if◌then◌else◌, nat_lt, List, [], ◌∷◌, length, take, drop, Option, Some, None, Result, Ok, Err}
use Rattle.std.specs.Str.Parse.{digits_value}
use Rattle.toml_text.specs.Bytes.{is_digit, is_ws}
use Rattle.toml_text.specs.Runs.{run_len, begins, is_byte}
use Rattle.toml_scalar.specs.Scanning.{key_part_len}
use Rattle.toml_scalar.specs.Values.{name_of}
use Rattle.toml_places.specs.declared.place.PlaceStep.{PlaceStep}
use Rattle.toml_places.specs.declared.place.PlaceStep.TheVariants.{Name, Index, FromEnd, Behind}

-- a place in a text, and the bytes from there on
pub record Cursor : Type 0 where
  pub at : ℕ
  pub rest : List ℕ

-- what is read and where reading goes on, or the place at which it can't
abbrev pub Reading : Type 0 → Type 0
Reading A = Result (A × Cursor) ℕ

infixl 10 ◌>>=◌
abbrev pub ◌>>=◌ : {A B : Type 0} → Result A ℕ → (A → Result B ℕ) → Result B ℕ
Ok a >>= f = f a
Err at >>= f = Err at

-- what there is, or else the place is refused
abbrev pub found : {A : Type 0} → ℕ → Option A → Result A ℕ
found at (Some a) = Ok a
found at None = Err at

abbrev pub ahead : ℕ → Cursor → Cursor
ahead n c = record { at = c.at + n; rest = drop n c.rest }

-- this byte
unfoldable pub byte_at : ℕ → Cursor → Reading (Unit {0})
byte_at x c = if begins (is_byte x) c.rest then Ok (tt, ahead 1 c) else Err c.at

-- behind whitespace
unfoldable pub behind_ws : Cursor → Cursor
behind_ws c = ahead (run_len is_ws c.rest) c

-- a key part, by its name
unfoldable pub part_at : Cursor → Reading (List ℕ)
part_at c = found c.at (key_part_len c.rest) >>= λ n. found c.at (name_of (take n c.rest)) >>= λ name. Ok (name, ahead n c)

-- the length of the numeral at the front: of `0` alone, or of the run of digits
abbrev pub numeral_len : List ℕ → ℕ
numeral_len bs = if begins (is_byte 0x30) bs then 1 else run_len is_digit bs

-- the number that so many digits at the front spell, within the limit
abbrev pub number_of : ℕ → Cursor → Reading ℕ
number_of n c =
    if nat_lt 0 n && nat_lt (digits_value 10 (take n c.rest)) (2 ^ 64) then Ok (digits_value 10 (take n c.rest), ahead n c) else Err c.at

unfoldable pub number_at : Cursor → Reading ℕ
number_at c = number_of (numeral_len c.rest) c

-- the number behind `[-`, which is not 0
unfoldable pub from_end_at : Cursor → Reading PlaceStep
from_end_at c = number_at c >>= λ r. if r.0 == 0 then Err c.at else Ok (FromEnd r.0, r.1)

-- what stands behind `[`
unfoldable pub index_at : Cursor → Reading PlaceStep
index_at c =
    if begins (is_byte 0x2B) c.rest then Ok (Behind, ahead 1 c)
    else (if begins (is_byte 0x2D) c.rest then from_end_at (ahead 1 c) else number_at c >>= λ r. Ok (Index r.0, r.1))

-- an index, behind its `[`
unfoldable pub bracketed_at : Cursor → Reading PlaceStep
bracketed_at c = index_at c >>= λ r. byte_at 0x5D r.1 >>= λ closed. Ok (r.0, closed.1)

-- a dot between whitespace, and a key part
unfoldable pub dotted_at : Cursor → Reading PlaceStep
dotted_at c = byte_at 0x2E (behind_ws c) >>= λ dot. part_at (behind_ws dot.1) >>= λ r. Ok (Name r.0, r.1)

-- a step behind the first
unfoldable pub step_at : Cursor → Reading PlaceStep
step_at c = if begins (is_byte 0x5B) c.rest then bracketed_at (ahead 1 c) else dotted_at c

-- all steps up to the end; a step takes a byte or more, so there are at most as many as bytes
abbrev pub steps_at : ℕ → Cursor → Result (List PlaceStep) ℕ
steps_at zero c = if length c.rest == 0 then Ok [] else Err c.at
steps_at (suc fuel) c = if length c.rest == 0 then Ok [] else (step_at c >>= λ r. steps_at fuel r.1 >>= λ steps. Ok (r.0 ∷ steps))

-- the end of the text
unfoldable pub end_at : Cursor → Result (List PlaceStep) ℕ
end_at c = if length c.rest == 0 then Ok [] else Err c.at

-- a key part and the steps behind it
unfoldable pub named_at : Cursor → Result (List PlaceStep) ℕ
named_at c = part_at c >>= λ r. steps_at (length r.1.rest) r.1 >>= λ steps. Ok (Name r.0 ∷ steps)

unfoldable pub place_at : Cursor → Result (List PlaceStep) ℕ
place_at c = if begins (is_byte 0x2E) c.rest then end_at (ahead 1 c) else named_at c

-- the steps of a text; or the place at which the reader can't go on, of a bad string its first mark, of a number past the limit
-- its first digit
unfoldable pub read_steps : List ℕ → Result (List PlaceStep) ℕ
read_steps bytes = place_at (record { at = 0; rest = bytes })
