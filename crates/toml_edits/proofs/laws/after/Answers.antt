use Rattle.toml_edits.proofs.Once.{one_after}
use Rattle.toml_edits.proofs.Possible.{some_after}
use Rattle.toml_edits.proofs.Emptied.{set_carries}
use Rattle.toml_edits.proofs.laws.after.Goals as goal

pub returns-clause-one : goal.returns-clause-one
returns-clause-one c = one_after

pub returns-clause-set : goal.returns-clause-set
returns-clause-set c = set_carries

pub returns-clause-some : goal.returns-clause-some
returns-clause-some c = some_after
