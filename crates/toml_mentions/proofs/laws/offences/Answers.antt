use Rattle.toml_mentions.proofs.Offended.{offence_clashes, offence_stands}
use Rattle.toml_mentions.proofs.laws.offences.Goals as goal

pub returns-clause-stands : goal.returns-clause-stands
returns-clause-stands c = offence_stands

pub returns-clause-clashes : goal.returns-clause-clashes
returns-clause-clashes c = offence_clashes
