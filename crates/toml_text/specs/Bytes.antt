-- Classes of bytes, as `toml.abnf` has them for characters.
-- A text is UTF-8, where each byte of a character past ASCII is 128 or more and no other byte is. So a class
-- that has all characters past ASCII or none of them is a class of bytes, and `non-ascii` is `0x80 ≤ b`.
use Rattle.std.specs.Prelude.{ℕ, Bool, not, ◌||◌, ◌&&◌, nat_le, ◌==◌}

abbrev pub is_between : ℕ → ℕ → ℕ → Bool
is_between low high b = nat_le low b && nat_le b high

-- `wschar`: a tab or a space
abbrev pub is_ws : ℕ → Bool
is_ws b = b == 0x09 || b == 0x20

-- `non-eol`, without U+007F: a tab, printable ASCII, or past ASCII
abbrev pub is_comment : ℕ → Bool
is_comment b = b == 0x09 || is_between 0x20 0x7E b || nat_le 0x80 b

-- `DIGIT`
abbrev pub is_digit : ℕ → Bool
is_digit = is_between 0x30 0x39

-- `digit1-9`
abbrev pub is_leading_digit : ℕ → Bool
is_leading_digit = is_between 0x31 0x39

-- `ALPHA`
abbrev pub is_letter : ℕ → Bool
is_letter b = is_between 0x41 0x5A b || is_between 0x61 0x7A b

-- what an `unquoted-key` is made of: A-Z, a-z, 0-9, `-`, `_`
abbrev pub is_bare : ℕ → Bool
is_bare b = is_letter b || is_digit b || b == 0x2D || b == 0x5F

-- a control character as TOML lists them: U+0000 to U+001F and U+007F, and not U+0080 to U+009F
abbrev pub is_control : ℕ → Bool
is_control b = is_between 0x00 0x1F b || b == 0x7F

-- `HEXDIG` of either case
abbrev pub is_hex : ℕ → Bool
is_hex b = is_digit b || is_between 0x41 0x46 b || is_between 0x61 0x66 b

-- `digit0-7`
abbrev pub is_octal : ℕ → Bool
is_octal = is_between 0x30 0x37

-- `digit0-1`
abbrev pub is_binary : ℕ → Bool
is_binary = is_between 0x30 0x31

-- `basic-unescaped`: a tab, printable ASCII without `"` and `\`, or past ASCII
abbrev pub is_basic : ℕ → Bool
is_basic b = is_ws b || b == 0x21 || is_between 0x23 0x5B b || is_between 0x5D 0x7E b || nat_le 0x80 b

-- `literal-char`: a tab, printable ASCII without `'`, or past ASCII
abbrev pub is_literal : ℕ → Bool
is_literal b = b == 0x09 || is_between 0x20 0x26 b || is_between 0x28 0x7E b || nat_le 0x80 b

-- a byte that a comment may have, unless it is one of two marks, which end a run of plain bytes in the text of a string
abbrev pub is_unmarked : ℕ → ℕ → ℕ → Bool
is_unmarked mark other b = is_comment b && not (b == mark || b == other)

-- any other byte
abbrev pub is_stop : ℕ → ℕ → ℕ → Bool
is_stop mark other b = not (is_unmarked mark other b)
