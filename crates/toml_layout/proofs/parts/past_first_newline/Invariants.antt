use Rattle.std.proofs.Common.{◌≡◌, false, take}
use Rattle.toml_layout.specs.Gaps.{begins_line}
use Rattle.toml_layout.proofs.parts.past_first_newline.Given as goal

abbrev pub invariant-loop-index : goal.invariant-loop-index
invariant-loop-index l = begins_line (take l.index l.parts) ≡ false
