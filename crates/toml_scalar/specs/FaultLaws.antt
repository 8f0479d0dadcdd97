-- Laws: the fault of what stands at a place is at that place.
use Rattle.std.specs.Prelude.{ℕ, List}
use Rattle.toml_scalar.specs.Faults.{IsAt, scalar_fault, key_fault, value_fault}
use Rattle.toml_scalar.specs.declared.kind.ScalarKind.{ScalarKind}

-- where a scalar should stand, and none does
abbrev pub ScalarFaultIsAt : Type 0
ScalarFaultIsAt = (bs : List ℕ) (at : ℕ) → IsAt at (scalar_fault bs at)

-- where a key part should stand, and none does
abbrev pub KeyFaultIsAt : Type 0
KeyFaultIsAt = (bs : List ℕ) (at : ℕ) → IsAt at (key_fault bs at)

-- where a text is no token of a kind
abbrev pub ValueFaultIsAt : Type 0
ValueFaultIsAt = (kind : ScalarKind) (bs : List ℕ) (at : ℕ) → IsAt at (value_fault kind bs at)
