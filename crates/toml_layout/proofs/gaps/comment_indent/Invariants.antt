use Rattle.std.proofs.Common.{◌≡◌, false, take}
use Rattle.toml_layout.specs.Margins.{has_own_comment}
use Rattle.toml_layout.proofs.gaps.comment_indent.Given as goal

abbrev pub invariant-loop-index : goal.invariant-loop-index
invariant-loop-index l = has_own_comment (take l.index l.parts) ≡ false
