-- What a reading answers.
use Rattle.std.specs.Prelude.{◌≡◌, ◌⊎◌, ℕ, List, String, Option, Some, None, Result, Ok, Err, option_map}
use Rattle.std.specs.List.{slice_range}
use Rattle.std.specs.String.{string_bytes}
use Rattle.std.specs.declared.alloc.Global.{Global}
use Rattle.toml_text.specs.declared.span.Span.{Span}
use Rattle.toml_scalar.specs.Faults.{value_fault, key_fault}
use Rattle.toml_scalar.specs.Values.{ScalarValue, scalar_of, scalar_value, name_of}
use Rattle.toml_scalar.specs.declared.fault.SyntaxFault.{SyntaxFault}
use Rattle.toml_scalar.specs.declared.fault.SyntaxFault.TheVariants.{NoMemory}
use Rattle.toml_scalar.specs.declared.kind.ScalarKind.{ScalarKind}
use Rattle.toml_scalar.specs.declared.kind.ScalarKind.TheVariants as kinds
use Rattle.toml_scalar.specs.declared.scalar.Scalar.{Scalar}

-- the value of the token that the span holds, by the plain function; else its fault
abbrev pub ReadsScalar : List ℕ → Span → ScalarKind → Result Scalar SyntaxFault → Type 0
ReadsScalar text span kind (Ok s) = scalar_of kind (slice_range text span.start span.end) ≡ Some (scalar_value s)
ReadsScalar text span kind (Err e) = (e ≡ NoMemory) ⊎ ((scalar_of kind (slice_range text span.start span.end) ≡ None) × (e ≡ value_fault kind (slice_range text span.start span.end) span.start))

-- the name of the key part that the span holds, by the plain function; else its fault
abbrev pub ReadsKey : List ℕ → Span → Result (String Global) SyntaxFault → Type 0
ReadsKey text span (Ok s) = name_of (slice_range text span.start span.end) ≡ Some (string_bytes s)
ReadsKey text span (Err e) = (e ≡ NoMemory) ⊎ ((name_of (slice_range text span.start span.end) ≡ None) × (e ≡ key_fault (slice_range text span.start span.end) span.start))

-- a value, or none, by the plain function, where memory sufficed
abbrev pub Reads : {E : Type 0} → Option ScalarValue → Result (Option Scalar) E → Type 0
Reads found (Ok s) = option_map scalar_value s ≡ found
Reads found (Err e) = Unit {0}

-- a value of the kind takes memory: its text, of a string, a float, a date or a time
abbrev pub TakesMemory : ScalarKind → Type 0
TakesMemory kinds.Text = Unit {0}
TakesMemory kinds.Integer = ⊥
TakesMemory kinds.Float = Unit {0}
TakesMemory kinds.Bool = ⊥
TakesMemory (kinds.Moment kind) = Unit {0}
