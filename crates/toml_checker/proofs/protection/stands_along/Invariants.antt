use Rattle.std.proofs.Common.{◌≡◌, map, drop, Some}
use Rattle.toml_edits.specs.Edits.{change}
use Rattle.toml_checker.specs.Plain.{stands}
use Rattle.toml_checker.proofs.protection.stands_along.Given as goal

abbrev pub invariant-loop-edit : goal.invariant-loop-edit
invariant-loop-edit l = stands l.part (map change (drop l.edit-index l.edits)) (Some l.here) l.base ≡ stands l.part (map change l.edits) (Some l.first) l.base
