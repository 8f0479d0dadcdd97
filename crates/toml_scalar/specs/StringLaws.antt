-- Laws: the plain functions of `StringRuns` find the strings of `Strings`, and no others.
use Rattle.std.specs.Prelude.{◌≡◌, ◌≤◌, ℕ, true, false, List, ◌++◌, length, take, Some}
use Rattle.toml_text.specs.Runs.{begins, is_byte}
use Rattle.toml_scalar.specs.Strings.{MeansString, IsString, quote_of}
use Rattle.toml_scalar.specs.declared.strings.kind.StringKind.{StringKind}
use Rattle.toml_scalar.specs.StringRuns.{string_len, string_value}

-- what is found is a string at the front
abbrev pub StringIsSound : Type 0
StringIsSound = (bs : List ℕ) (n : ℕ) → string_len bs ≡ Some n → (n ≤ length bs) × ((kind : StringKind) × IsString kind (take n bs))

-- a string is found, where its mark does not stand behind it
abbrev pub StringIsFound : Type 0
StringIsFound = (kind : StringKind) (text rest : List ℕ) → IsString kind text → begins (is_byte (quote_of kind)) rest ≡ false → string_len (text ++ rest) ≡ Some (length text)

-- no string at the front is longer than what is found
abbrev pub StringIsLongest : Type 0
StringIsLongest = (kind : StringKind) (text rest : List ℕ) (n : ℕ) → IsString kind text → string_len (text ++ rest) ≡ Some n → length text ≤ n

-- a string's value is the one that is computed
abbrev pub StringHasValue : Type 0
StringHasValue = (kind : StringKind) (text value : List ℕ) → MeansString kind text value → string_value text ≡ Some value

abbrev pub ValueIsMeant : Type 0
ValueIsMeant = (text value : List ℕ) → string_value text ≡ Some value → (kind : StringKind) × MeansString kind text value

-- a text is a string of at most one kind and one value
abbrev pub OneStringKind : Type 0
OneStringKind = (j k : StringKind) (text : List ℕ) → IsString j text → IsString k text → j ≡ k

abbrev pub OneStringValue : Type 0
OneStringValue = (j k : StringKind) (text v w : List ℕ) → MeansString j text v → MeansString k text w → v ≡ w

-- a string begins with its mark
abbrev pub StringBegins : Type 0
StringBegins = (kind : StringKind) (text : List ℕ) → IsString kind text → begins (is_byte (quote_of kind)) text ≡ true
