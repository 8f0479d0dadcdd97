use Rattle.std.proofs.Common.{length, map}
use Rattle.toml_tree.specs.ReadingValues.{gap_step}
use Rattle.toml_tree.specs.Reads.{cursor}
use Rattle.toml_tree.specs.View.{gap_line}
use Rattle.toml_tree.proofs.Many.{Loop}
use Rattle.toml_tree.proofs.reader.Reader.gap.Given as goal

abbrev pub invariant-loop-lines : goal.invariant-loop-lines
invariant-loop-lines l = Loop gap_step (map gap_line l.lines.items) (cursor l.self) (cursor l.fn.self)

abbrev pub decreases-loop-lines : goal.decreases-loop-lines
decreases-loop-lines l = length (cursor l.self).rest
