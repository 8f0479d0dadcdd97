use Rattle.toml_units.proofs.Read.{units_read_the_text, inside_reads_the_text}
use Rattle.toml_units.proofs.laws.texts.Goals as goal

pub returns-clause-units : goal.returns-clause-units
returns-clause-units c = units_read_the_text

pub returns-clause-inside : goal.returns-clause-inside
returns-clause-inside c = inside_reads_the_text
