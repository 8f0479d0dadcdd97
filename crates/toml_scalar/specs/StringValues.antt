-- What the code that reads values tells of the parts of a string.
use Rattle.std.specs.Prelude.{◌≡◌, ◌<◌, ℕ, ◌-◌, Bool, not, ◌==◌, List, ◌∷◌, ◌++◌, drop, slice_index}
use Rattle.std.specs.List.{flat_map}
use Rattle.toml_scalar.specs.Strings.{StringPiece, piece_means, pieces_text, EachPiece, IsMultiLineBasicPiece, LongestDropped, string_text, IsContent}
use Rattle.toml_scalar.specs.declared.strings.kind.StringKind.{StringKind}

-- the bytes are content of basic strings, of one line or more, and the value is what they stand for
abbrev pub Unescapes : List ℕ → List ℕ → Type 0
Unescapes bs value = (ps : List StringPiece) × EachPiece IsMultiLineBasicPiece ps × LongestDropped ps × (bs ≡ pieces_text ps) × (value ≡ flat_map piece_means ps)

-- no `\`
abbrev pub is_verbatim : ℕ → Bool
is_verbatim b = not (b == 0x5C)

-- Behind a `\` the first `n` bytes are read, and what they stand for is put behind what was there.
abbrev pub Unescaped : List ℕ → List ℕ → List ℕ → ℕ → Type 0
Unescaped bs old new n = (value : List ℕ) → Unescapes (0x5C ∷ bs) value → (rest : List ℕ) × Unescapes (drop n bs) rest × (old ++ value ≡ new ++ rest)

-- the text may be cut behind the first `n` bytes, the last of which is ASCII
abbrev pub EndsAscii : List ℕ → ℕ → Type 0
EndsAscii bs n = 0 < n → slice_index bs (n - 1) < 128

-- the bytes are what stands between the marks of the text, behind the first newline
abbrev pub IsContentOf : StringKind → List ℕ → List ℕ → Type 0
IsContentOf kind text content = (first : List ℕ) (ps : List StringPiece) → IsContent kind first ps → text ≡ string_text kind first ps → content ≡ pieces_text ps
