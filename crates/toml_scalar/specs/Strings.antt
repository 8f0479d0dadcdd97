-- The four kinds of string: which texts are strings of a kind, and what their values are.
-- The content of a string is a list of pieces between its marks; the value joins what the pieces mean.
use Rattle.std.specs.Prelude.{◌≡◌, ℕ, ◌≤◌, ◌<◌, true, false, ◌||◌, if◌then◌else◌, List, [], ◌∷◌, ◌++◌, length, ◌⊎◌, ◌==◌, encode_utf8}
use Rattle.std.specs.List.{flat_map}
use Rattle.toml_text.specs.Bytes.{is_ws, is_hex, is_basic, is_literal}
use Rattle.toml_text.specs.Forms.{Each, IsWs, IsNewline}
use Rattle.toml_scalar.specs.Integers.{digits_value}
use Rattle.toml_scalar.specs.declared.strings.kind.StringKind.{StringKind}
use Rattle.toml_scalar.specs.declared.strings.kind.StringKind.TheVariants.{Basic, MultiLineBasic, Literal, MultiLineLiteral}

-- what a string's content is made of
pub data StringPiece : Type 0 where
  -- a byte that stands for itself
  Plain : ℕ → StringPiece
  -- `\` and a letter or a mark
  Escape : ℕ → StringPiece
  -- `\`, then `u` or `U`, and hexadecimal digits
  UnicodeEscape : ℕ → List ℕ → StringPiece
  Newline : List ℕ → StringPiece
  -- `\`, whitespace and a newline, then whitespace and newlines
  Dropped : List ℕ → List ℕ → List ℕ → StringPiece

abbrev pub piece_text : StringPiece → List ℕ
piece_text (Plain b) = b ∷ []
piece_text (Escape x) = 0x5C ∷ x ∷ []
piece_text (UnicodeEscape u digits) = 0x5C ∷ u ∷ digits
piece_text (Newline line) = line
piece_text (Dropped ws line rest) = 0x5C ∷ (ws ++ (line ++ rest))

-- what `\` and a letter mean: `\b`, `\t`, `\n`, `\f` and `\r`, and `\"` and `\\` the mark itself
abbrev pub escaped : ℕ → ℕ
escaped x = if x == 0x62 then 0x08 else if x == 0x74 then 0x09 else if x == 0x6E then 0x0A else if x == 0x66 then 0x0C else if x == 0x72 then 0x0D else x

-- the bytes that a piece stands for
abbrev pub piece_means : StringPiece → List ℕ
piece_means (Plain b) = b ∷ []
piece_means (Escape x) = escaped x ∷ []
piece_means (UnicodeEscape u digits) = encode_utf8 (digits_value 16 digits)
piece_means (Newline line) = line
piece_means (Dropped ws line rest) = []

-- TOML v1.0.0, String; `escape-seq-char` but for `u` and `U`
abbrev pub IsEscape : ℕ → Type 0
IsEscape x = (x ≡ 0x62) ⊎ ((x ≡ 0x74) ⊎ ((x ≡ 0x6E) ⊎ ((x ≡ 0x66) ⊎ ((x ≡ 0x72) ⊎ ((x ≡ 0x22) ⊎ (x ≡ 0x5C))))))

-- a Unicode scalar value
abbrev pub IsScalarValue : ℕ → Type 0
IsScalarValue n = (n < 0xD800) ⊎ ((0xE000 ≤ n) × (n < 0x110000))

-- TOML v1.0.0, String; `%x75 4HEXDIG / %x55 8HEXDIG`, of a scalar value
abbrev pub IsUnicodeEscape : ℕ → List ℕ → Type 0
IsUnicodeEscape u digits = (((u ≡ 0x75) × (length digits ≡ 4)) ⊎ ((u ≡ 0x55) × (length digits ≡ 8))) × Each is_hex digits × IsScalarValue (digits_value 16 digits)

-- `*( wschar / newline )`
abbrev pub AreSpaces : List ℕ → Type 0
AreSpaces [] = Unit {0}
AreSpaces (b ∷ bs) = ((is_ws b ≡ true) × AreSpaces bs) ⊎ (((b ≡ 0x0A) × AreSpaces bs) ⊎ ((b ≡ 0x0D) × ((r : List ℕ) × (bs ≡ 0x0A ∷ r)) × AreSpaces bs))

-- TOML v1.0.0, String; `basic-char`
abbrev pub IsBasicPiece : StringPiece → Type 0
IsBasicPiece (Plain b) = is_basic b ≡ true
IsBasicPiece (Escape x) = IsEscape x
IsBasicPiece (UnicodeEscape u digits) = IsUnicodeEscape u digits
IsBasicPiece (Newline line) = ⊥
IsBasicPiece (Dropped ws line rest) = ⊥

-- TOML v1.0.0, String; `mlb-content / mlb-quotes`: a newline, a mark and a dropped stretch too
abbrev pub IsMultiLineBasicPiece : StringPiece → Type 0
IsMultiLineBasicPiece (Plain b) = (is_basic b || b == 0x22) ≡ true
IsMultiLineBasicPiece (Newline line) = IsNewline line
IsMultiLineBasicPiece (Dropped ws line rest) = IsWs ws × IsNewline line × AreSpaces rest
IsMultiLineBasicPiece piece = IsBasicPiece piece

-- TOML v1.0.0, String; `literal-char`
abbrev pub IsLiteralPiece : StringPiece → Type 0
IsLiteralPiece (Plain b) = is_literal b ≡ true
IsLiteralPiece _ = ⊥

-- TOML v1.0.0, String; `mll-content / mll-quotes`: a newline and a mark too
abbrev pub IsMultiLineLiteralPiece : StringPiece → Type 0
IsMultiLineLiteralPiece (Plain b) = (is_literal b || b == 0x27) ≡ true
IsMultiLineLiteralPiece (Newline line) = IsNewline line
IsMultiLineLiteralPiece _ = ⊥

abbrev pub EachPiece : (StringPiece → Type 0) → List StringPiece → Type 0
EachPiece P [] = Unit {0}
EachPiece P (p ∷ ps) = P p × EachPiece P ps

abbrev pub BeginsWithThree : ℕ → List StringPiece → Type 0
BeginsWithThree mark (Plain a ∷ Plain b ∷ Plain c ∷ ps) = (a ≡ mark) × (b ≡ mark) × (c ≡ mark)
BeginsWithThree mark _ = ⊥

-- Nowhere three marks in a row. So of a run of three to five marks the last three close the string.
abbrev pub NoThree : ℕ → List StringPiece → Type 0
NoThree mark [] = Unit {0}
NoThree mark (p ∷ ps) = (BeginsWithThree mark (p ∷ ps) → ⊥) × NoThree mark ps

-- the pieces begin neither with whitespace nor with a newline
abbrev pub Stops : List StringPiece → Type 0
Stops [] = Unit {0}
Stops (Plain b ∷ ps) = is_ws b ≡ false
Stops (Newline line ∷ ps) = ⊥
Stops _ = Unit {0}

-- each dropped stretch is as long as it can be
abbrev pub LongestDropped : List StringPiece → Type 0
LongestDropped [] = Unit {0}
LongestDropped (Dropped ws line rest ∷ ps) = Stops ps × LongestDropped ps
LongestDropped (p ∷ ps) = LongestDropped ps

-- the newline directly behind the opening marks of a multi-line string, where one stands there; it is in no piece
abbrev pub IsFirst : List ℕ → List StringPiece → Type 0
IsFirst [] (Newline line ∷ ps) = ⊥
IsFirst [] _ = Unit {0}
IsFirst first ps = IsNewline first

-- the quote of a kind: the mark, `"` or `'`, of its strings
abbrev pub quote_of : StringKind → ℕ
quote_of Basic = 0x22
quote_of MultiLineBasic = 0x22
quote_of Literal = 0x27
quote_of MultiLineLiteral = 0x27

abbrev pub three : ℕ → List ℕ
three mark = mark ∷ mark ∷ mark ∷ []

abbrev pub pieces_text : List StringPiece → List ℕ
pieces_text = flat_map piece_text

-- TOML v1.0.0, String; `string`: the text of a string, by its kind, its first newline and its pieces
abbrev pub string_text : StringKind → List ℕ → List StringPiece → List ℕ
string_text Basic first ps = 0x22 ∷ (pieces_text ps ++ 0x22 ∷ [])
string_text MultiLineBasic first ps = three 0x22 ++ (first ++ (pieces_text ps ++ three 0x22))
string_text Literal first ps = 0x27 ∷ (pieces_text ps ++ 0x27 ∷ [])
string_text MultiLineLiteral first ps = three 0x27 ++ (first ++ (pieces_text ps ++ three 0x27))

-- the pieces may be the content of a string of the kind, behind the first newline
abbrev pub IsContent : StringKind → List ℕ → List StringPiece → Type 0
IsContent Basic first ps = (first ≡ []) × EachPiece IsBasicPiece ps
IsContent MultiLineBasic first ps = IsFirst first ps × EachPiece IsMultiLineBasicPiece ps × NoThree 0x22 ps × LongestDropped ps
IsContent Literal first ps = (first ≡ []) × EachPiece IsLiteralPiece ps
IsContent MultiLineLiteral first ps = IsFirst first ps × EachPiece IsMultiLineLiteralPiece ps × NoThree 0x27 ps

-- TOML v1.0.0, String: the text is a string of the kind, and the value its bytes
abbrev pub MeansString : StringKind → List ℕ → List ℕ → Type 0
MeansString kind text value = (first : List ℕ) × (ps : List StringPiece) × IsContent kind first ps × (text ≡ string_text kind first ps) × (value ≡ flat_map piece_means ps)

abbrev pub IsString : StringKind → List ℕ → Type 0
IsString kind text = (value : List ℕ) × MeansString kind text value
