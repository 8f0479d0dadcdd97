-- What a scan answers.
use Rattle.std.specs.Prelude.{◌≡◌, ◌<◌, ℕ, ◌+◌, List, drop, Option, Some, None, Result, Ok, Err}
use Rattle.std.specs.Str.{IsCharBoundary}
use Rattle.toml_text.specs.declared.span.Span.{Span}
use Rattle.toml_scalar.specs.Faults.{scalar_fault, key_fault}
use Rattle.toml_scalar.specs.Scanning.{scan_at, key_part_len}
use Rattle.toml_scalar.specs.declared.fault.SyntaxFault.{SyntaxFault}
use Rattle.toml_scalar.specs.declared.kind.ScalarKind.{ScalarKind}

-- the span of so many bytes from a place on, which cuts no character
pub record IsSpan (text : List ℕ) (at len : ℕ) (span : Span) : Type 0 where
  pub start : span.start ≡ at
  pub end : span.end ≡ at + len
  pub bound : IsCharBoundary text span.end

-- the scalar at a place, by the plain function; else the fault of what stands there
abbrev pub ScansScalar : List ℕ → ℕ → Result (Span × ScalarKind) SyntaxFault → Type 0
ScansScalar text at (Ok r) = (len : ℕ) × (scan_at (drop at text) ≡ Some (len, r.1)) × IsSpan text at len r.0
ScansScalar text at (Err e) = (scan_at (drop at text) ≡ None) × (e ≡ scalar_fault (drop at text) at)

-- the key part at a place, by the plain function; else the fault of what stands there
abbrev pub ScansKey : List ℕ → ℕ → Result Span SyntaxFault → Type 0
ScansKey text at (Ok span) = (len : ℕ) × (key_part_len (drop at text) ≡ Some len) × (0 < len) × IsSpan text at len span
ScansKey text at (Err e) = (key_part_len (drop at text) ≡ None) × (e ≡ key_fault (drop at text) at)

-- what was found at the front, by the plain function; else the fault of what stands there
abbrev pub Finds : {X Y : Type 0} → SyntaxFault → (X → Y) → Option Y → Result X SyntaxFault → Type 0
Finds fault view found (Ok x) = found ≡ Some (view x)
Finds fault view found (Err e) = (found ≡ None) × (e ≡ fault)
