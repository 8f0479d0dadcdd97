use Rattle.std.proofs.Common.{◌≡◌, false, take}
use Rattle.toml_layout.specs.Gaps.{begins_line}
use Rattle.toml_layout.proofs.parts.begins_line.Given as goal

abbrev pub invariant-loop-part : goal.invariant-loop-part
invariant-loop-part l = begins_line (take l.part-index l.parts) ≡ false
