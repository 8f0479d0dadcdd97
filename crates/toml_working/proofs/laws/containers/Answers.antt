use Rattle.toml_working.proofs.HeldLines.{held_inside, parent_held}
use Rattle.toml_working.proofs.RemovedOne.{held_is_no_line}
use Rattle.toml_working.proofs.laws.containers.Goals as goal

pub returns-clause-parent : goal.returns-clause-parent
returns-clause-parent c = parent_held

pub returns-clause-inside : goal.returns-clause-inside
returns-clause-inside c = held_inside

pub returns-clause-no_line : goal.returns-clause-no_line
returns-clause-no_line c = held_is_no_line
