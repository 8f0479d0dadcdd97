use Rattle.toml_edits.proofs.NearLists.{faults_near, fault_beside}
use Rattle.toml_edits.proofs.laws.near_faults.Goals as goal

pub returns-clause-faults : goal.returns-clause-faults
returns-clause-faults c = faults_near

pub returns-clause-fault : goal.returns-clause-fault
returns-clause-fault c = fault_beside
