use Rattle.std.proofs.Common.{◌≡◌, true, drop}
use Rattle.toml_layout.specs.Gaps.{are_ws}
use Rattle.toml_layout.proofs.parts.trimmed.Given as goal

abbrev pub invariant-loop-index : goal.invariant-loop-index
invariant-loop-index l = are_ws (drop l.index l.parts) ≡ true
