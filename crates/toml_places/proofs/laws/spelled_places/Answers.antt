use Rattle.toml_places.proofs.Proved.{spelled_is_read_back, plain_leads}
use Rattle.toml_places.proofs.laws.spelled_places.Goals as goal

pub returns-clause-back : goal.returns-clause-back
returns-clause-back c = spelled_is_read_back

pub returns-clause-leads : goal.returns-clause-leads
returns-clause-leads c = plain_leads
