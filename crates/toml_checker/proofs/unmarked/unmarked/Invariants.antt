use Rattle.std.proofs.Common.{◌≡◌, ◌++◌, Bor, map, drop}
use Rattle.toml_units.specs.declared.unit.Unit.{Unit as Made}
use Rattle.toml_units.specs.View.{all_units}
use Rattle.toml_checker.specs.UnmarkedComments.{unmarked}
use Rattle.toml_checker.proofs.unmarked.unmarked.Given as goal

abbrev pub invariant-loop-index : goal.invariant-loop-index
invariant-loop-index l = all_units (map (λ (u : Bor Made). u.now) l.found.items) ++ unmarked (drop l.index l.marks) (all_units (drop l.index l.units)) ≡ unmarked l.marks (all_units l.units)
