-- Laws: the plain scan finds the tokens and the key parts, and nothing else.
use Rattle.std.specs.Prelude.{◌≡◌, ◌≤◌, ◌<◌, ℕ, true, false, List, ◌++◌, length, take, Some}
use Rattle.toml_text.specs.Runs.{begins}
use Rattle.toml_scalar.specs.Names.{IsKeyPart}
use Rattle.toml_scalar.specs.Scanning.{scan_at, key_part_len, is_key_start, is_scalar_start}
use Rattle.toml_scalar.specs.Tokens.{IsToken, Closes}
use Rattle.toml_scalar.specs.declared.kind.ScalarKind.{ScalarKind}

-- what is found at the front is a token of the kind
abbrev pub ScanIsSound : Type 0
ScanIsSound = (bs : List ℕ) (n : ℕ) (kind : ScalarKind) → scan_at bs ≡ Some (n, kind) → (n ≤ length bs) × IsToken kind (take n bs)

-- a token that something follows which closes is found
abbrev pub ScanIsFound : Type 0
ScanIsFound = (kind : ScalarKind) (token rest : List ℕ) → IsToken kind token → Closes rest → scan_at (token ++ rest) ≡ Some (length token, kind)

-- no token at the front, of any kind, is longer than what is found
abbrev pub ScanIsLongest : Type 0
ScanIsLongest = (token rest : List ℕ) (n : ℕ) (found kind : ScalarKind) → scan_at (token ++ rest) ≡ Some (n, found) → IsToken kind token → length token ≤ n

-- a text is a token of at most one kind
abbrev pub OneKind : Type 0
OneKind = (j k : ScalarKind) (text : List ℕ) → IsToken j text → IsToken k text → j ≡ k

-- what is found at the front is a key part
abbrev pub PartIsSound : Type 0
PartIsSound = (bs : List ℕ) (n : ℕ) → key_part_len bs ≡ Some n → (n ≤ length bs) × (0 < n) × IsKeyPart (take n bs)

-- a key part is found, where no byte follows that a key part begins with
abbrev pub PartIsFound : Type 0
PartIsFound = (part rest : List ℕ) → IsKeyPart part → begins is_key_start rest ≡ false → key_part_len (part ++ rest) ≡ Some (length part)

-- whatever follows a key part, it is found, or a longer one
abbrev pub PartIsLongest : Type 0
PartIsLongest = (part rest : List ℕ) → IsKeyPart part → (n : ℕ) × (key_part_len (part ++ rest) ≡ Some n) × (length part ≤ n)

-- what a token begins with
abbrev pub TokenBegins : Type 0
TokenBegins = (kind : ScalarKind) (token rest : List ℕ) → IsToken kind token → begins is_scalar_start (token ++ rest) ≡ true

-- what a key part begins with
abbrev pub PartBegins : Type 0
PartBegins = (part rest : List ℕ) → IsKeyPart part → begins is_key_start (part ++ rest) ≡ true
