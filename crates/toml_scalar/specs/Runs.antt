-- The run of bytes in which a number, a boolean, a date or a time stands.
use Rattle.std.specs.Prelude.{ℕ, Bool, ◌||◌, ◌==◌}
use Rattle.toml_text.specs.Bytes.{is_digit, is_letter}

-- a byte of some number, boolean, date or time: A-Z, a-z, 0-9, `+`, `-`, `.`, `_`, `:`
abbrev pub is_value_byte : ℕ → Bool
is_value_byte b = is_letter b || is_digit b || b == 0x2B || b == 0x2D || b == 0x2E || b == 0x5F || b == 0x3A
