use Rattle.std.proofs.Common.{length, map}
use Rattle.toml_tree.specs.View.{dotted}
use Rattle.toml_tree.specs.Reading.{dotted_step}
use Rattle.toml_tree.specs.Reads.{cursor}
use Rattle.toml_tree.proofs.Many.{Loop}
use Rattle.toml_tree.proofs.reader.Reader.dotted.Given as goal

abbrev pub invariant-loop-parts : goal.invariant-loop-parts
invariant-loop-parts l = Loop dotted_step (map dotted l.parts.items) (cursor l.self) (cursor l.initial.self)

abbrev pub decreases-loop-parts : goal.decreases-loop-parts
decreases-loop-parts l = length (cursor l.self).rest
