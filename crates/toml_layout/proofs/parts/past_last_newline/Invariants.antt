use Rattle.std.proofs.Common.{◌≡◌, false, drop}
use Rattle.toml_layout.specs.Gaps.{begins_line}
use Rattle.toml_layout.proofs.parts.past_last_newline.Given as goal

abbrev pub invariant-loop-index : goal.invariant-loop-index
invariant-loop-index l = begins_line (drop l.index l.parts) ≡ false
