use Rattle.std.proofs.Common.{Some, take}
use Rattle.toml_names.specs.reader.Parts.{part_kinds}
use Rattle.toml_places.specs.Leading.{below_steps}
use Rattle.toml_places.specs.Parts.{Stands}
use Rattle.toml_explain.proofs.standing.front_of.Given as goal

abbrev pub invariant-loop-depth : goal.invariant-loop-depth
invariant-loop-depth l = Stands l.names (Some l.part) (below_steps (take l.depth l.steps) (part_kinds l.names 0))
