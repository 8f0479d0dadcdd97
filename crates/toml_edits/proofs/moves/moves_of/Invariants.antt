use Rattle.std.proofs.Common.{◌-◌, length, drop}
use Rattle.std.specs.Prelude.{map}
use Rattle.toml_edits.specs.Edits.{change}
use Rattle.toml_edits.specs.Told.{TellsOf}
use Rattle.toml_edits.proofs.moves.moves_of.Given as goal

abbrev pub invariant-loop-count : goal.invariant-loop-count
invariant-loop-count l = TellsOf (map change (drop (length l.edits - l.count) l.edits)) l.tree
