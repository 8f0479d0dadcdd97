use Rattle.std.proofs.Common.{length, map}
use Rattle.toml_tree.specs.Lines.{line}
use Rattle.toml_tree.specs.ReadingLines.{line_step}
use Rattle.toml_tree.specs.Reads.{cursor}
use Rattle.toml_tree.proofs.Many.{Loop}
use Rattle.toml_tree.proofs.reader.Reader.lines.Given as goal

abbrev pub invariant-loop-lines : goal.invariant-loop-lines
invariant-loop-lines l = Loop (line_step l.profile) (map line l.lines.items) (cursor l.self) (cursor l.initial.self)

abbrev pub decreases-loop-lines : goal.decreases-loop-lines
decreases-loop-lines l = length (cursor l.self).rest
