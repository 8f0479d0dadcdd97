use Rattle.toml_edits.proofs.NearLists.{leads_beside, leads_near, hidden_stays}
use Rattle.toml_edits.proofs.laws.near.Goals as goal

pub returns-clause-beside : goal.returns-clause-beside
returns-clause-beside c = leads_beside

pub returns-clause-near : goal.returns-clause-near
returns-clause-near c = leads_near

pub returns-clause-stays : goal.returns-clause-stays
returns-clause-stays c = hidden_stays
