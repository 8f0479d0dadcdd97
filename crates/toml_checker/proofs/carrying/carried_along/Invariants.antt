use Rattle.std.proofs.Common.{◌≡◌, map, drop}
use Rattle.toml_edits.specs.Edits.{change}
use Rattle.toml_edits.specs.Lists.{carried}
use Rattle.toml_checker.proofs.carrying.carried_along.Given as goal

abbrev pub invariant-loop-edit : goal.invariant-loop-edit
invariant-loop-edit l = carried (map change (drop l.edit-index l.edits)) l.here ≡ carried (map change l.edits) l.at
