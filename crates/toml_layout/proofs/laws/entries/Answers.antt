use Rattle.toml_layout.proofs.GapSpelled.{gaps_are_spelled}
use Rattle.toml_layout.proofs.Outlined.{entries_is}
use Rattle.toml_layout.proofs.laws.entries.Goals as goal

pub returns-clause-entries : goal.returns-clause-entries
returns-clause-entries c = entries_is

pub returns-clause-gaps : goal.returns-clause-gaps
returns-clause-gaps c = gaps_are_spelled
