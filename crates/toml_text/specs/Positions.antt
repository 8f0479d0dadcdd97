-- Where a place in a text stands, as people count.
use Rattle.std.specs.Prelude.{◌≡◌, ◌⊎◌, ◌<◌, ◌≤◌, ◌+◌, ◌-◌, ◌==◌, ◌&&◌, ◌||◌, ℕ, Bool, List, ◌∷◌, count_by, drop, length, nat_le, nat_lt, slice_index, take, if◌then◌else◌, encode_utf8_all}
use Rattle.toml_text.specs.declared.span.Position.{Position}

abbrev pub is_lf : ℕ → Bool
is_lf b = b == 0x0A

-- UTF-8 begins a character with such a byte, and goes on with others
abbrev pub begins_character : ℕ → Bool
begins_character b = nat_lt b 0x80 || nat_le 0xC0 b

-- the length of the mark U+FEFF at the front, or 0
abbrev pub mark_len : List ℕ → ℕ
mark_len (a ∷ b ∷ c ∷ bs) = if a == 0xEF && (b == 0xBB && c == 0xBF) then 3 else 0
mark_len _ = 0

-- the last line begins there: it is the front, or behind an LF, and no other LF follows
pub record BeginsLine (front : List ℕ) (begin : ℕ) : Type 0 where
  pub within : begin ≤ length front
  pub behind : (begin ≡ 0) ⊎ ((0 < begin) × (slice_index front (begin - 1) ≡ 0x0A))
  pub last : (k : ℕ) → begin ≤ k → k < length front → ¬ (slice_index front k ≡ 0x0A)

-- where a line is shown from: the first one from behind the mark
abbrev pub line_start : List ℕ → ℕ → ℕ
line_start bytes begin = if begin == 0 then mark_len bytes else begin

-- where the newline begins that ends in the LF at the place
abbrev pub newline_begin : List ℕ → ℕ → ℕ
newline_begin bytes lf = if nat_lt 0 lf && slice_index bytes (lf - 1) == 0x0D then lf - 1 else lf

-- the line of the place ends there: before the newline with the next LF, or at the end of the text
pub record EndsLine (bytes : List ℕ) (at end : ℕ) : Type 0 where
  pub stop : ℕ
  pub low : at ≤ stop
  pub next : (k : ℕ) → at ≤ k → k < stop → ¬ (slice_index bytes k ≡ 0x0A)
  pub ends : ((stop ≡ length bytes) × (end ≡ stop)) ⊎ ((stop < length bytes) × (slice_index bytes stop ≡ 0x0A) × (end ≡ newline_begin bytes stop))

-- the line is told by the LF before the place, the column by the characters between the line's start and the place; the mark at the
-- front of the text is in no line
pub record IsPosition (bytes : List ℕ) (at : ℕ) (p : Position) : Type 0 where
  pub line : p.line ≡ count_by is_lf (take at bytes) + 1
  pub begin : ℕ
  pub begins : BeginsLine (take at bytes) begin
  pub start : p.line_span.start ≡ line_start bytes begin
  pub column : p.column ≡ count_by begins_character (drop p.line_span.start (take at bytes)) + 1
  pub ends : EndsLine bytes at p.line_span.end
  pub order : p.line_span.start ≤ p.line_span.end
  pub within : p.line_span.end ≤ length bytes

-- Law: of UTF-8 as many bytes begin a character as it has characters.
abbrev pub CharactersBegin : Type 0
CharactersBegin = (cs : List ℕ) → count_by begins_character (encode_utf8_all cs) ≡ length cs
