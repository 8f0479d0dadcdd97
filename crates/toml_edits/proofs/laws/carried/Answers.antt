use Rattle.toml_edits.proofs.Along.{carried_along}
use Rattle.toml_edits.proofs.Apart.{carried_apart}
use Rattle.toml_edits.proofs.Fronts.{carried_front}
use Rattle.toml_edits.proofs.LastStep.{parted_at_last}
use Rattle.toml_edits.proofs.laws.carried.Goals as goal

pub returns-clause-along : goal.returns-clause-along
returns-clause-along c = carried_along

pub returns-clause-front : goal.returns-clause-front
returns-clause-front c = carried_front

pub returns-clause-apart : goal.returns-clause-apart
returns-clause-apart c = carried_apart

pub returns-clause-parted : goal.returns-clause-parted
returns-clause-parted c = parted_at_last
