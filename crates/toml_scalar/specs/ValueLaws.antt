-- Laws: the plain functions of `Values` answer what the relations say, and no more.
use Rattle.std.specs.Prelude.{◌≡◌, ℕ, List, Some}
use Rattle.toml_scalar.specs.Names.{IsName, IsKeyPart}
use Rattle.toml_scalar.specs.Tokens.{IsToken}
use Rattle.toml_scalar.specs.Values.{ScalarValue, Means, scalar_of, name_of}
use Rattle.toml_scalar.specs.declared.kind.ScalarKind.{ScalarKind}

-- just the tokens of a kind have a value
abbrev pub TokenHasValue : Type 0
TokenHasValue = (kind : ScalarKind) (bs : List ℕ) → IsToken kind bs → (v : ScalarValue) × Means kind bs v

abbrev pub ValueIsOfToken : Type 0
ValueIsOfToken = (kind : ScalarKind) (bs : List ℕ) (v : ScalarValue) → Means kind bs v → IsToken kind bs

-- a token's value is the one that is computed
abbrev pub ScalarIsFound : Type 0
ScalarIsFound = (kind : ScalarKind) (bs : List ℕ) (v : ScalarValue) → Means kind bs v → scalar_of kind bs ≡ Some v

abbrev pub ScalarIsMeant : Type 0
ScalarIsMeant = (kind : ScalarKind) (bs : List ℕ) (v : ScalarValue) → scalar_of kind bs ≡ Some v → Means kind bs v

-- a token means one value
abbrev pub OneScalarValue : Type 0
OneScalarValue = (kind : ScalarKind) (bs : List ℕ) (v w : ScalarValue) → Means kind bs v → Means kind bs w → v ≡ w

-- a key part's name is the one that is computed
abbrev pub NameIsFound : Type 0
NameIsFound = (part name : List ℕ) → IsName part name → name_of part ≡ Some name

abbrev pub NameIsMeant : Type 0
NameIsMeant = (part name : List ℕ) → name_of part ≡ Some name → IsName part name

-- a key part has a name that is computed
abbrev pub NameIsTotal : Type 0
NameIsTotal = (part : List ℕ) → IsKeyPart part → (name : List ℕ) × (name_of part ≡ Some name)
