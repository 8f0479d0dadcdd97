-- Where the scalar or the key part at the front ends: the plain functions beside the tokens.
use Rattle.std.specs.Prelude.{ℕ, ◌+◌, Bool, false, ◌&&◌, ◌||◌, ◌==◌, List, [], ◌∷◌, Option, Some, None, option_map, take, drop, if◌then◌else◌}
use Rattle.toml_text.specs.Bytes.{is_bare, is_digit}
use Rattle.toml_text.specs.Runs.{run_len, begins, is_byte}
use Rattle.toml_scalar.specs.Runs.{is_value_byte}
use Rattle.toml_scalar.specs.Booleans.{is_bool}
use Rattle.toml_scalar.specs.FloatRuns.{is_float}
use Rattle.toml_scalar.specs.IntegerRuns.{is_integer}
use Rattle.toml_scalar.specs.MomentRuns.{is_date_shape, moment_kind}
use Rattle.toml_scalar.specs.declared.strings.kind.StringKind.{StringKind}
use Rattle.toml_scalar.specs.declared.strings.kind.StringKind.TheVariants.{Basic, Literal}
use Rattle.toml_scalar.specs.StringRuns.{string_len, token_of, token_len}
use Rattle.toml_scalar.specs.declared.kind.ScalarKind.{ScalarKind}
use Rattle.toml_scalar.specs.declared.kind.ScalarKind.TheVariants as kinds

-- a mark opens a string
abbrev pub is_mark : ℕ → Bool
is_mark b = b == 0x22 || b == 0x27

-- the first byte of a scalar: a mark, or a byte of a run
abbrev pub is_scalar_start : ℕ → Bool
is_scalar_start b = is_mark b || is_value_byte b

-- one space and a digit
abbrev pub goes_on : List ℕ → Bool
goes_on [] = false
goes_on (s ∷ []) = false
goes_on (s ∷ d ∷ bs) = s == 0x20 && is_digit d

-- the length of the run at the front in which a number, boolean, date or time stands: a date that a space and a digit follow goes on
abbrev pub value_len : List ℕ → ℕ
value_len bs =
    let n = run_len is_value_byte bs in
    if is_date_shape (take n bs) && goes_on (drop n bs) then n + 1 + run_len is_value_byte (drop (n + 1) bs) else n

-- the kind of a whole run
unfoldable pub kind_of : List ℕ → Option ScalarKind
kind_of run =
    if is_bool run then Some kinds.Bool
    else (if is_integer run then Some kinds.Integer
    else (if is_float run then Some kinds.Float
    else option_map kinds.Moment (moment_kind run)))

-- the length and the kind of the scalar at the front
unfoldable pub scan_at : List ℕ → Option (ℕ × ScalarKind)
scan_at bs =
    if begins is_mark bs then option_map (λ n. (n, kinds.Text)) (string_len bs)
    else (let n = value_len bs in option_map (λ kind. (n, kind)) (kind_of (take n bs)))

-- the length of the one-line string at the front, of a kind
abbrev pub one_line_len : StringKind → List ℕ → Option ℕ
one_line_len kind bs = option_map token_len (token_of kind (drop 1 bs))

-- the length of the key part at the front
unfoldable pub key_part_len : List ℕ → Option ℕ
key_part_len bs =
    if begins is_bare bs then Some (run_len is_bare bs)
    else (if begins (is_byte 0x22) bs then one_line_len Basic bs
    else (if begins (is_byte 0x27) bs then one_line_len Literal bs else None))

-- the first byte of a key part: a bare key's, or a mark
abbrev pub is_key_start : ℕ → Bool
is_key_start b = is_bare b || b == 0x22 || b == 0x27
