use Rattle.std.proofs.Common.{drop}
use Rattle.toml_one.proofs.MadeAbove.{Walks}
use Rattle.toml_one.proofs.parents.make_parents.Given as goal

abbrev pub invariant-loop-i : goal.invariant-loop-i
invariant-loop-i l = Walks l.names l.place (drop l.i l.place) l.edits.items l.front
