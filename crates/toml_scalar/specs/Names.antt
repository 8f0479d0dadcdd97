-- The parts of keys, and the names that they spell.
use Rattle.std.specs.Prelude.{◌≡◌, ℕ, List, [], ◌∷◌, ◌⊎◌}
use Rattle.toml_text.specs.Bytes.{is_bare}
use Rattle.toml_text.specs.Forms.{Each}
use Rattle.toml_scalar.specs.Strings.{MeansString}
use Rattle.toml_scalar.specs.declared.strings.kind.StringKind.TheVariants.{Basic, Literal}

-- TOML v1.0.0, Keys; `unquoted-key`: one or more of A-Z, a-z, 0-9, `-`, `_`
abbrev pub IsBareKey : List ℕ → Type 0
IsBareKey [] = ⊥
IsBareKey (b ∷ bs) = Each is_bare (b ∷ bs)

-- `simple-key`: a bare key names itself, a one-line string its value
abbrev pub IsName : List ℕ → List ℕ → Type 0
IsName part name = (IsBareKey part × (name ≡ part)) ⊎ (MeansString Basic part name ⊎ MeansString Literal part name)

abbrev pub IsKeyPart : List ℕ → Type 0
IsKeyPart part = (name : List ℕ) × IsName part name
