-- What the steps of the scan tell of a string.
use Rattle.std.specs.Prelude.{◌≡◌, ◌<◌, ◌≤◌, ℕ, ◌+◌, ◌-◌, List, length, drop, Option, Some, None, option_map}
use Rattle.toml_scalar.specs.Integers.{digits_value}
use Rattle.toml_scalar.specs.Strings.{StringPiece, Escape, UnicodeEscape, piece_text, escaped}
use Rattle.toml_scalar.specs.StringRuns.{body_len}
use Rattle.toml_scalar.specs.declared.strings.advance.Advance.{Advance}
use Rattle.toml_scalar.specs.declared.strings.advance.Advance.TheVariants.{More, End}
use Rattle.toml_scalar.specs.declared.strings.escapes.EscapedChar.{EscapedChar}
use Rattle.toml_scalar.specs.declared.strings.kind.StringKind.{StringKind}

-- the character that an escape means
abbrev pub escape_value : StringPiece → ℕ
escape_value (Escape x) = escaped x
escape_value (UnicodeEscape u digits) = digits_value 16 digits
escape_value _ = 0

-- how many bytes of a piece stand behind its `\`
abbrev pub behind_len : StringPiece → ℕ
behind_len q = length (piece_text q) - 1

abbrev pub escaped_char : StringPiece → EscapedChar
escaped_char q = record { value = escape_value q; len = behind_len q }

-- a length with more in front
abbrev pub longer_by : ℕ → Option ℕ → Option ℕ
longer_by n = option_map (λ m. n + m)

-- what a step says of the length of the rest of a string: it is that of what is left and more, or it is known, or there is none
abbrev pub Advances : StringKind → List ℕ → Option Advance → Type 0
Advances kind bs None = body_len kind bs ≡ None
Advances kind bs (Some (More n)) = (body_len kind bs ≡ longer_by n (body_len kind (drop n bs))) × (0 < n) × (n ≤ length bs)
Advances kind bs (Some (End n)) = (body_len kind bs ≡ Some n) × (n ≤ length bs)
