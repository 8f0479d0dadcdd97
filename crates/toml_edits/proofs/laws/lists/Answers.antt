use Rattle.toml_edits.proofs.OnLists.{one_lead, fault_or_lead, one_first_fault}
use Rattle.toml_edits.proofs.laws.lists.Goals as goal

pub returns-clause-one : goal.returns-clause-one
returns-clause-one c = one_lead

pub returns-clause-or_fault : goal.returns-clause-or_fault
returns-clause-or_fault c = fault_or_lead

pub returns-clause-one_fault : goal.returns-clause-one_fault
returns-clause-one_fault c = one_first_fault
