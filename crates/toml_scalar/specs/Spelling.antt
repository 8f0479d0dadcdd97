-- How a name is spelled as a key part: bare where it can be, else a basic string.
use Rattle.std.specs.Prelude.{ℕ, ◌+◌, ◌/◌, ◌%◌, Bool, ◌||◌, ◌&&◌, not, length, ◌≡◌, if◌then◌else◌, List, [], ◌∷◌, ◌++◌, ◌==◌, nat_lt}
use Rattle.std.specs.List.{flat_map, list_all}
use Rattle.toml_text.specs.Bytes.{is_bare, is_control}
use Rattle.toml_scalar.specs.Names.{IsName}
use Rattle.toml_scalar.specs.Strings.{MeansString}
use Rattle.toml_scalar.specs.declared.strings.kind.StringKind.TheVariants.{Basic}

-- a name that may stand bare is not empty and has bytes of bare keys only
abbrev pub is_bare_key : List ℕ → Bool
is_bare_key name = not (length name == 0) && list_all is_bare name

-- the digit of a number below 16, in upper case
abbrev pub hex_digit : ℕ → ℕ
hex_digit n = if nat_lt n 10 then 0x30 + n else 0x37 + n

-- the four digits of a byte
abbrev pub hex_digits : ℕ → List ℕ
hex_digits b = 0x30 ∷ 0x30 ∷ hex_digit (b / 16) ∷ hex_digit (b % 16) ∷ []

-- `\u00XX`
abbrev pub hex_escape : ℕ → List ℕ
hex_escape b = 0x5C ∷ 0x75 ∷ hex_digits b

-- `\` and a letter or a mark
abbrev pub short_escape : ℕ → List ℕ
short_escape x = 0x5C ∷ x ∷ []

-- what stands for a byte of a name in a basic string: `\b`, `\t`, `\n`, `\f`, `\r`, `\"` and `\\`, other control
-- characters by their number, and all else as it is
abbrev pub spelled_byte : ℕ → List ℕ
spelled_byte b =
    if b == 0x08 then short_escape 0x62
    else if b == 0x09 then short_escape 0x74
    else if b == 0x0A then short_escape 0x6E
    else if b == 0x0C then short_escape 0x66
    else if b == 0x0D then short_escape 0x72
    else if b == 0x22 || b == 0x5C then short_escape b
    else if is_control b then hex_escape b
    else b ∷ []

-- characters between marks
abbrev pub quoted : List ℕ → List ℕ
quoted characters = 0x22 ∷ (flat_map spelled_byte characters ++ 0x22 ∷ [])

-- the spelling that a new or renamed key gets
abbrev pub spelled : List ℕ → List ℕ
spelled name = if is_bare_key name then name else quoted name

-- a name's spelling names it
abbrev pub SpelledNames : Type 0
SpelledNames = (name : List ℕ) → IsName (spelled name) name

-- the spelling of a string means its characters
abbrev pub SpelledStrings : Type 0
SpelledStrings = (characters : List ℕ) → MeansString Basic (quoted characters) characters

-- a key part has one name
abbrev pub OneName : Type 0
OneName = (part m n : List ℕ) → IsName part m → IsName part n → m ≡ n
