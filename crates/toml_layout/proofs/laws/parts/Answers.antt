use Rattle.toml_layout.proofs.PartLaws.{no_lines_stay, one_list, parted_spells}
use Rattle.toml_layout.proofs.laws.parts.Goals as goal

pub returns-clause-one : goal.returns-clause-one
returns-clause-one c = one_list

pub returns-clause-text : goal.returns-clause-text
returns-clause-text c = parted_spells

pub returns-clause-lines : goal.returns-clause-lines
returns-clause-lines c = no_lines_stay
