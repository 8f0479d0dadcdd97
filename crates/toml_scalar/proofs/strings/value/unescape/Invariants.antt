use Rattle.std.proofs.Common.{◌≡◌, ◌-◌, ◌++◌, List, ℕ, drop, length, string_bytes, IsCharBoundary}
use Rattle.toml_scalar.specs.StringValues.{Unescapes}
use Rattle.toml_scalar.proofs.strings.value.unescape.Given as goal

abbrev pub invariant-loop-value : goal.invariant-loop-value
invariant-loop-value l = record {
  bound : IsCharBoundary l.content l.from;
  rest : (total : List ℕ) → Unescapes l.content total → (value : List ℕ) × Unescapes (drop l.from l.content) value × (total ≡ string_bytes l.value ++ value);
}

abbrev pub decreases-loop-value : goal.decreases-loop-value
decreases-loop-value l = length l.content - l.from
