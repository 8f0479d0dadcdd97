-- What of a line is shown below a sentence, and as what.
use Rattle.std.specs.Prelude.{◌≡◌, ◌≤◌, ◌<◌, ◌+◌, ◌-◌, ◌%◌, ◌==◌, ◌&&◌, ◌||◌, ℕ, Bool, true, false, not, List, [], ◌∷◌, ◌++◌, Option, Some, None, codes, encode_utf8_all, if◌then◌else◌, length, map, min, nat_lt, slice_index, slice_range, unwrap_or}
use Rattle.bstr.specs.Utf8.{pieces, spans_from}
use Rattle.unicode_width.specs.Width.{char_width}
use Rattle.toml_text.specs.declared.span.Position.{Position}
use Rattle.toml_text.specs.Positions.{IsPosition}
use Rattle.toml_explain.specs.Openings.{shown_character}

-- a character of the text, and no bytes that are no UTF-8, for which U+FFFD stands: its own three bytes begin with EF
abbrev pub is_genuine : List ℕ → ℕ → ℕ → ℕ → Bool
is_genuine bytes start end c = not (c == 0xFFFD) || (slice_index bytes start == 0xEF && end - start == 3)

-- a character of a line, with where it begins and ends there, as it is shown
abbrev pub shown_span : List ℕ → ℕ × ℕ × ℕ → ℕ
shown_span line s = if is_genuine line s.0 s.1 s.2 then shown_character s.2 else 0x3F

-- so all of them
abbrev pub shown_line : List ℕ → List ℕ
shown_line line = map (shown_span line) (spans_from 0 (pieces line))

-- how many columns a character takes that is shown from a column on: a tab goes on to the next stop of 8
abbrev pub columns_at : ℕ → ℕ → ℕ
columns_at column c = if c == 0x09 then 8 - column % 8 else unwrap_or (char_width false c) 1

-- the column behind characters, from a column on
abbrev pub column_behind : ℕ → List ℕ → ℕ
column_behind column [] = column
column_behind column (c ∷ cs) = column_behind (column + columns_at column c) cs

-- how many columns are shown at most
abbrev pub max_columns : ℕ
max_columns = 160

-- what stands where a line was cut
abbrev pub dots : Bool → List ℕ
dots cut = if cut then codes ".." else []

-- The characters from one byte of a line up to another, as they are shown, and `..` at an end behind which it goes on. A line of at most
-- 160 columns is shown whole.
pub record ShowsRun (line shown : List ℕ) : Type 0 where
  pub from : ℕ
  pub to : ℕ
  pub order : from ≤ to
  pub within : to ≤ length line
  pub whole : column_behind 0 (shown_line line) ≤ max_columns → (from ≡ 0) × (to ≡ length line)
  pub is : shown ≡ dots (nat_lt 0 from) ++ (encode_utf8_all (shown_line (slice_range line from to)) ++ dots (nat_lt to (length line)))

-- The line in which a place of the bytes stands, as it is shown.
pub record ShowsLine (bytes : List ℕ) (at : ℕ) (shown : List ℕ) : Type 0 where
  pub position : Position
  pub exact : IsPosition bytes (min at (length bytes)) position
  pub run : ShowsRun (slice_range bytes position.line_span.start position.line_span.end) shown
