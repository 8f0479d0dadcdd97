use Rattle.std.proofs.Common.{◌≡◌, ◌++◌, drop}
use Rattle.toml_layout.specs.OpenOutlines.{gap_parts_text}
use Rattle.toml_working.proofs.pieces.Pieces.gap.Given as goal

abbrev pub invariant-loop-part : goal.invariant-loop-part
invariant-loop-part l =
    (l.self.before ≡ l.fn.self.before)
    × (l.self.out ++ gap_parts_text (drop l.part-index l.part-items) ≡ l.fn.self.out ++ gap_parts_text l.part-items)
