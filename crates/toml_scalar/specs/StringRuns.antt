-- The string at the front of some bytes: the plain functions beside the forms of `Strings`.
use Rattle.std.specs.Prelude.{ℕ, zero, suc, ◌+◌, ◌-◌, ◌*◌, Bool, true, false, ◌||◌, ◌&&◌, if◌then◌else◌, List, [], ◌∷◌, ◌++◌, length, take, drop, replicate, min, Option, Some, None, option_map, option_and_then, nat_le, nat_lt, ◌==◌}
use Rattle.std.specs.Char.{digit_value}
use Rattle.std.specs.List.{flat_map}
use Rattle.toml_text.specs.Bytes.{is_ws, is_hex, is_basic, is_literal}
use Rattle.toml_text.specs.Runs.{run_len, begins, is_byte, newline_len}
use Rattle.toml_scalar.specs.Integers.{digits_value}
use Rattle.toml_scalar.specs.Strings.{StringPiece, Plain, Escape, UnicodeEscape, Newline, Dropped, pieces_text, piece_means, string_text}
use Rattle.toml_scalar.specs.declared.strings.kind.StringKind.{StringKind}
use Rattle.toml_scalar.specs.declared.strings.kind.StringKind.TheVariants.{Basic, MultiLineBasic, Literal, MultiLineLiteral}

-- `escape-seq-char` but for `u` and `U`
abbrev pub is_escape : ℕ → Bool
is_escape x = x == 0x62 || x == 0x74 || x == 0x6E || x == 0x66 || x == 0x72 || x == 0x22 || x == 0x5C

abbrev pub is_scalar_value : ℕ → Bool
is_scalar_value n = nat_lt n 0xD800 || (nat_le 0xE000 n && nat_lt n 0x110000)

-- the number that hexadecimal digits spell behind those of a number, if all of the bytes are digits
abbrev pub hex_after : ℕ → List ℕ → Option ℕ
hex_after number [] = Some number
hex_after number (d ∷ ds) = if is_hex d then hex_after (number * 16 + digit_value d) ds else None

-- the escape by so many digits that stand behind `u` or `U`
unfoldable pub unicode_at : ℕ → ℕ → List ℕ → Option StringPiece
unicode_at u n bs = if nat_le n (run_len is_hex bs) && is_scalar_value (digits_value 16 (take n bs)) then Some (UnicodeEscape u (take n bs)) else None

-- the escape that goes on behind `\`
unfoldable pub escape_at : List ℕ → Option StringPiece
escape_at [] = None
escape_at (x ∷ bs) = if is_escape x then Some (Escape x) else if x == 0x75 then unicode_at x 4 bs else if x == 0x55 then unicode_at x 8 bs else None

-- the length of the longest run of whitespace and newlines at the front
abbrev pub spaces_len : List ℕ → ℕ
spaces_len [] = 0
spaces_len (b ∷ bs) = if is_ws b || b == 0x0A || (b == 0x0D && begins (is_byte 0x0A) bs) then spaces_len bs + 1 else 0

-- the dropped stretch of which whitespace and a newline, of these lengths, stand behind `\`
abbrev pub dropped : ℕ → ℕ → List ℕ → StringPiece
dropped ws line bs = Dropped (take ws bs) (take line (drop ws bs)) (take (spaces_len (drop line (drop ws bs))) (drop line (drop ws bs)))

-- how many bytes of a dropped stretch stand behind `\`, or 0
abbrev pub dropped_len : List ℕ → ℕ
dropped_len bs =
    let ws = run_len is_ws bs in
    let line = newline_len (drop ws bs) in
    if line == 0 then 0 else ws + line + spaces_len (drop line (drop ws bs))

-- the escape or the dropped stretch that goes on behind `\`
unfoldable pub multi_line_escape_at : List ℕ → Option StringPiece
multi_line_escape_at bs =
    let ws = run_len is_ws bs in
    let line = newline_len (drop ws bs) in
    if line == 0 then escape_at bs else Some (dropped ws line bs)

-- the piece at the front, in each kind; in a multi-line string none that is a mark

unfoldable pub basic_at : List ℕ → Option StringPiece
basic_at [] = None
basic_at (b ∷ bs) = if is_basic b then Some (Plain b) else if b == 0x5C then escape_at bs else None

unfoldable pub literal_at : List ℕ → Option StringPiece
literal_at [] = None
literal_at (b ∷ bs) = if is_literal b then Some (Plain b) else None

-- the newline of a length, or nothing
abbrev pub newline_at : ℕ → List ℕ → Option StringPiece
newline_at line bs = if line == 0 then None else Some (Newline (take line bs))

unfoldable pub multi_line_basic_at : List ℕ → Option StringPiece
multi_line_basic_at [] = None
multi_line_basic_at (b ∷ bs) =
    if is_basic b then Some (Plain b)
    else if b == 0x5C then multi_line_escape_at bs
    else newline_at (newline_len (b ∷ bs)) (b ∷ bs)

unfoldable pub multi_line_literal_at : List ℕ → Option StringPiece
multi_line_literal_at [] = None
multi_line_literal_at (b ∷ bs) = if is_literal b then Some (Plain b) else newline_at (newline_len (b ∷ bs)) (b ∷ bs)

-- what a step finds: pieces, or the last pieces and the marks that close the string
pub data Step : Type 0 where
  Next : List StringPiece → Step
  Last : List StringPiece → Step

abbrev pub next_one : Option StringPiece → Option Step
next_one = option_map (λ p. Next (p ∷ []))

-- one mark closes the string
unfoldable pub one_step : ℕ → (List ℕ → Option StringPiece) → List ℕ → Option Step
one_step mark piece bs = if begins (is_byte mark) bs then Some (Last []) else next_one (piece bs)

-- Of a run of one or two marks each is a piece. A longer run closes the string: of its first five the last three.
abbrev pub marks_step : ℕ → ℕ → Step
marks_step mark n = if nat_le n 2 then Next (replicate n (Plain mark)) else Last (replicate (min n 5 - 3) (Plain mark))

unfoldable pub three_step : ℕ → (List ℕ → Option StringPiece) → List ℕ → Option Step
three_step mark piece bs = if begins (is_byte mark) bs then Some (marks_step mark (run_len (is_byte mark) bs)) else next_one (piece bs)

-- a step, and the pieces that are read from behind so many more bytes on
abbrev pub go_on : Step → (ℕ → Option (List StringPiece)) → Option (List StringPiece)
go_on (Next ps) from = option_map (λ qs. ps ++ qs) (from (length (pieces_text ps) - 1))
go_on (Last ps) from = Some ps

-- the pieces up to the marks that close the string, read from behind so many bytes on
abbrev pub pieces_from : (List ℕ → Option Step) → ℕ → List ℕ → Option (List StringPiece)
pieces_from step skip [] = None
pieces_from step (suc skip) (b ∷ bs) = pieces_from step skip bs
pieces_from step zero (b ∷ bs) = option_and_then (λ s. go_on s (λ skip. pieces_from step skip bs)) (step (b ∷ bs))

abbrev pub step_of : StringKind → List ℕ → Option Step
step_of Basic = one_step 0x22 basic_at
step_of MultiLineBasic = three_step 0x22 multi_line_basic_at
step_of Literal = one_step 0x27 literal_at
step_of MultiLineLiteral = three_step 0x27 multi_line_literal_at

abbrev pub is_multi_line : StringKind → Bool
is_multi_line Basic = false
is_multi_line MultiLineBasic = true
is_multi_line Literal = false
is_multi_line MultiLineLiteral = true

-- how many marks open a string, and close it
abbrev pub marks_len : StringKind → ℕ
marks_len kind = if is_multi_line kind then 3 else 1

-- the length of the first newline, of what stands behind the opening marks
abbrev pub first_len : StringKind → List ℕ → ℕ
first_len kind bs = if is_multi_line kind then newline_len bs else 0

abbrev pub begins_three : ℕ → List ℕ → Bool
begins_three mark bs = nat_le 3 (run_len (is_byte mark) bs)

-- the kind of the string that the marks at the front open
abbrev pub kind_at : List ℕ → Option StringKind
kind_at bs =
    if begins (is_byte 0x22) bs then Some (if begins_three 0x22 bs then MultiLineBasic else Basic)
    else if begins (is_byte 0x27) bs then Some (if begins_three 0x27 bs then MultiLineLiteral else Literal)
    else None

-- the length of the rest of a string of the kind, of which this stands behind the opening marks and the first newline
unfoldable pub body_len : StringKind → List ℕ → Option ℕ
body_len kind bs = option_map (λ ps. length (pieces_text ps) + marks_len kind) (pieces_from (step_of kind) 0 bs)

-- a string, by its kind, its first newline and its pieces
pub record StringToken : Type 0 where
  pub kind : StringKind
  pub first : List ℕ
  pub pieces : List StringPiece

-- the string of a kind, of which this stands behind the opening marks
abbrev pub token_of : StringKind → List ℕ → Option StringToken
token_of kind bs =
    let n = first_len kind bs in
    option_map (λ ps. record { kind = kind; first = take n bs; pieces = ps }) (pieces_from (step_of kind) 0 (drop n bs))

-- the longest string at the front
unfoldable pub string_at : List ℕ → Option StringToken
string_at bs = option_and_then (λ kind. token_of kind (drop (marks_len kind) bs)) (kind_at bs)

abbrev pub token_len : StringToken → ℕ
token_len s = length (string_text s.kind s.first s.pieces)

-- the length of the longest string at the front, where one stands there
unfoldable pub string_len : List ℕ → Option ℕ
string_len bs = option_map token_len (string_at bs)

abbrev pub whole_value : ℕ → StringToken → Option (List ℕ)
whole_value n s = if token_len s == n then Some (flat_map piece_means s.pieces) else None

-- the value of the bytes, where they are a string
unfoldable pub string_value : List ℕ → Option (List ℕ)
string_value bs = option_and_then (whole_value (length bs)) (string_at bs)
