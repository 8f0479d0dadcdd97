use Rattle.toml_edits.proofs.Apart.{data_are_closed}
use Rattle.toml_edits.proofs.ListFronts.{fronts_stand}
use Rattle.toml_edits.proofs.LowIndices.{indices_are_low}
use Rattle.toml_edits.proofs.StaysClosed.{stays_closed, leads_stay_closed}
use Rattle.toml_edits.proofs.laws.closed.Goals as goal

pub returns-clause-data : goal.returns-clause-data
returns-clause-data c = data_are_closed

pub returns-clause-stays : goal.returns-clause-stays
returns-clause-stays c = stays_closed

pub returns-clause-leads : goal.returns-clause-leads
returns-clause-leads c = leads_stay_closed

pub returns-clause-indices : goal.returns-clause-indices
returns-clause-indices c = indices_are_low

pub returns-clause-fronts : goal.returns-clause-fronts
returns-clause-fronts c = fronts_stand
