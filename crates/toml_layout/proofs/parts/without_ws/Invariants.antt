use Rattle.std.proofs.Common.{◌≡◌, drop}
use Rattle.toml_layout.specs.Gaps.{without_ws}
use Rattle.toml_layout.proofs.parts.without_ws.Given as goal

abbrev pub invariant-loop-index : goal.invariant-loop-index
invariant-loop-index l = without_ws (drop l.index l.parts) ≡ without_ws l.parts
