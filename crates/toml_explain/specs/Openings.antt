-- With what an explanation begins.
use Rattle.std.specs.Prelude.{◌≡◌, ◌⊎◌, ◌+◌, ◌==◌, ◌||◌, ◌&&◌, ℕ, List, [], ◌∷◌, ◌++◌, chars, count_by, decimal, encode_utf8, if◌then◌else◌, length, min, nat_le, nat_lt, take}
use Rattle.std.specs.List.{flat_map}
use Rattle.toml_text.specs.declared.span.Position.{Position}
use Rattle.toml_text.specs.Positions.{IsPosition, begins_character}

-- the word of a file, a line and a column, a colon behind each, and a space
abbrev pub opening : List ℕ → Position → List ℕ
opening word p = word ++ (0x3A ∷ []) ++ decimal p.line ++ (0x3A ∷ []) ++ decimal p.column ++ (0x3A ∷ 0x20 ∷ [])

-- the word alone, where no line is meant
abbrev pub bare_opening : List ℕ → List ℕ
bare_opening word = word ++ (0x3A ∷ 0x20 ∷ [])

-- a place of a command line, and a column
abbrev pub place_opening : List ℕ → ℕ → List ℕ
place_opening place column = place ++ (0x3A ∷ []) ++ decimal column ++ (0x3A ∷ 0x20 ∷ [])

-- The text begins with the word, and the line and the column of the place; of one behind the bytes those of their end.
pub record OpensAt (word bytes : List ℕ) (at : ℕ) (text : List ℕ) : Type 0 where
  pub position : Position
  pub exact : IsPosition bytes (min at (length bytes)) position
  pub rest : List ℕ
  pub begins : text ≡ opening word position ++ rest

-- It begins with the word alone.
pub record OpensBare (word text : List ℕ) : Type 0 where
  pub rest : List ℕ
  pub begins : text ≡ bare_opening word ++ rest

-- the text ends with these bytes
abbrev pub EndsIn : List ℕ → List ℕ → Type 0
EndsIn rest text = (front : List ℕ) × (text ≡ front ++ rest)

-- a character as it is shown in front of a line: `?` for U+FEFF and a control character that is no tab
abbrev pub shown_character : ℕ → ℕ
shown_character c =
    if c == 0x09 then c else if nat_lt c 0x20 || ((nat_le 0x7F c && nat_le c 0x9F) || c == 0xFEFF) then 0x3F else c

-- so all characters of a text
abbrev pub shown_text : List ℕ → List ℕ
shown_text text = flat_map (λ c. encode_utf8 (shown_character c)) (chars text)

-- It begins with what the place of a command line is shown as, and 1 and the count of characters before the byte; a byte behind the
-- end is the end.
pub record OpensPlace (place : List ℕ) (at : ℕ) (text : List ℕ) : Type 0 where
  pub rest : List ℕ
  pub begins : text ≡ place_opening (shown_text place) (count_by begins_character (take (min at (length place)) place) + 1) ++ rest

-- It begins with the word and the line and the column of a place of the bytes, or with the word alone.
abbrev pub OpensInFile : List ℕ → List ℕ → List ℕ → Type 0
OpensInFile word bytes text = ((at : ℕ) × OpensAt word bytes at text) ⊎ OpensBare word text
