-- The place of a fault, and the fault of what stands at a place.
use Rattle.std.specs.Prelude.{◌≡◌, ℕ, Bool, false, not, ◌&&◌, ◌||◌, ◌==◌, if◌then◌else◌, List, [], ◌∷◌, take, Option, Some, None}
use Rattle.toml_text.specs.Bytes.{is_digit, is_control}
use Rattle.toml_text.specs.Runs.{begins, is_byte}
use Rattle.toml_scalar.specs.IntegerRuns.{is_sign, is_integer_form}
use Rattle.toml_scalar.specs.Scanning.{is_mark, value_len}
use Rattle.toml_scalar.specs.declared.kind.ScalarKind.{ScalarKind}
use Rattle.toml_scalar.specs.declared.kind.ScalarKind.TheVariants as kinds
use Rattle.toml_scalar.specs.declared.fault.SyntaxFault.{SyntaxFault}
use Rattle.toml_scalar.specs.declared.fault.SyntaxFault.TheVariants as faults

-- the place of a refusal; want of memory has none
abbrev pub place_of : SyntaxFault → Option ℕ
place_of (faults.BadCharacter at) = Some at
place_of (faults.Expected at) = Some at
place_of (faults.BadString at) = Some at
place_of (faults.BadNumber at) = Some at
place_of (faults.IntegerRange at) = Some at
place_of (faults.BadDate at) = Some at
place_of (faults.TooDeep at) = Some at
place_of faults.NoMemory = None

-- a refusal of the syntax at a place
abbrev pub IsAt : ℕ → SyntaxFault → Type 0
IsAt at fault = place_of fault ≡ Some at

-- a control character, but for a tab and a newline
abbrev pub begins_control : List ℕ → Bool
begins_control [] = false
begins_control (b ∷ bs) = is_control b && not (b == 0x09 || b == 0x0A || (b == 0x0D && begins (is_byte 0x0A) bs))

-- where the reader can't go on: a control character, or something else
abbrev pub byte_fault : List ℕ → ℕ → SyntaxFault
byte_fault bs at = if begins_control bs then faults.BadCharacter at else faults.Expected at

-- four digits and `-`, or two digits and `:`
abbrev pub begins_moment : List ℕ → Bool
begins_moment (b1 ∷ b2 ∷ b3 ∷ b4 ∷ b5 ∷ bs) = is_digit b1 && is_digit b2 && ((b3 == 0x3A) || (is_digit b3 && is_digit b4 && b5 == 0x2D))
begins_moment (b1 ∷ b2 ∷ b3 ∷ bs) = is_digit b1 && is_digit b2 && b3 == 0x3A
begins_moment bs = false

-- a digit or a sign
abbrev pub is_number_start : ℕ → Bool
is_number_start b = is_digit b || is_sign b

-- the fault of a run, which is not empty, that is no value
abbrev pub run_fault : List ℕ → ℕ → SyntaxFault
run_fault run at =
    if begins_moment run then faults.BadDate at
    else (if not (begins is_number_start run) then faults.Expected at
    else (if is_integer_form run then faults.IntegerRange at else faults.BadNumber at))

-- the fault of what stands where a scalar should, and none does
unfoldable pub scalar_fault : List ℕ → ℕ → SyntaxFault
scalar_fault bs at =
    if begins is_mark bs then faults.BadString at
    else (if value_len bs == 0 then byte_fault bs at else run_fault (take (value_len bs) bs) at)

-- the fault of what stands where a key part should, and none does
unfoldable pub key_fault : List ℕ → ℕ → SyntaxFault
key_fault bs at = if begins is_mark bs then faults.BadString at else byte_fault bs at

-- the fault of a text that is no token of a kind
abbrev pub value_fault : ScalarKind → List ℕ → ℕ → SyntaxFault
value_fault kinds.Text bs at = faults.BadString at
value_fault kinds.Integer bs at = if is_integer_form bs then faults.IntegerRange at else faults.BadNumber at
value_fault kinds.Float bs at = faults.BadNumber at
value_fault kinds.Bool bs at = faults.Expected at
value_fault (kinds.Moment kind) bs at = faults.BadDate at
