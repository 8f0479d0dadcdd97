use Rattle.toml_edits.proofs.Living.{living}
use Rattle.toml_edits.proofs.Sides.{sides_are_right}
use Rattle.toml_edits.proofs.StaysLow.{stays_low}
use Rattle.toml_edits.proofs.laws.sides.Goals as goal

pub returns-clause-sides : goal.returns-clause-sides
returns-clause-sides c = sides_are_right

pub returns-clause-rest : goal.returns-clause-rest
returns-clause-rest c = living

pub returns-clause-low : goal.returns-clause-low
returns-clause-low c = stays_low
