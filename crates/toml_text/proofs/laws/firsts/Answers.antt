use Rattle.toml_text.proofs.Firsts.{begins_other, begins_more}
use Rattle.toml_text.proofs.laws.firsts.Goals as goal

pub returns-clause-apart : goal.returns-clause-apart
returns-clause-apart c = begins_other

pub returns-clause-wider : goal.returns-clause-wider
returns-clause-wider c = begins_more
