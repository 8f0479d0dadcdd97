use Rattle.std.proofs.Common.{◌≡◌, true, take}
use Rattle.toml_layout.specs.Gaps.{are_blank}
use Rattle.toml_layout.proofs.parts.are_blank.Given as goal

abbrev pub invariant-loop-part : goal.invariant-loop-part
invariant-loop-part l = are_blank (take l.part-index l.parts) ≡ true
