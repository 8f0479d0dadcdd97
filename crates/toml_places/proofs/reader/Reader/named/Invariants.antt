use Rattle.std.proofs.Common.{length}
use Rattle.toml_places.specs.Reading.{named_at}
use Rattle.toml_places.specs.Reads.{cursor}
use Rattle.toml_places.proofs.Loops.{Loop}
use Rattle.toml_places.proofs.reader.Reader.named.Given as goal

abbrev pub invariant-loop-self : goal.invariant-loop-self
invariant-loop-self l = Loop l.steps.items (cursor l.self) (named_at (cursor l.fn.self))

abbrev pub decreases-loop-self : goal.decreases-loop-self
decreases-loop-self l = length (cursor l.self).rest
