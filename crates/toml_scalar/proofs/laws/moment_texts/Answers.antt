use Rattle.toml_scalar.proofs.MomentTexts.{date_text, time_text, local_text, offset_text}
use Rattle.toml_scalar.proofs.laws.moment_texts.Goals as goal

pub returns-clause-date : goal.returns-clause-date
returns-clause-date c = date_text

pub returns-clause-time : goal.returns-clause-time
returns-clause-time c = time_text

pub returns-clause-local : goal.returns-clause-local
returns-clause-local c = local_text

pub returns-clause-offset : goal.returns-clause-offset
returns-clause-offset c = offset_text
