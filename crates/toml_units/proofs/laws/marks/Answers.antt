use Rattle.toml_units.proofs.InLines.{units_are_behind_the_mark}
use Rattle.toml_units.proofs.laws.marks.Goals as goal

pub returns : goal.returns
returns c = units_are_behind_the_mark
