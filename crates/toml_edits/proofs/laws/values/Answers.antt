use Rattle.toml_edits.proofs.PutValues.{values_stand, values_are_new}
use Rattle.toml_edits.proofs.laws.values.Goals as goal

pub returns-clause-stand : goal.returns-clause-stand
returns-clause-stand c = values_stand

pub returns-clause-fresh : goal.returns-clause-fresh
returns-clause-fresh c = values_are_new
