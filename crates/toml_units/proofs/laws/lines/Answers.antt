use Rattle.toml_units.proofs.Bases.{units_are_based, lines_are_units}
use Rattle.toml_units.proofs.InLines.{line_no_lines}
use Rattle.toml_units.proofs.OnLines.{units_lie_in_lines}
use Rattle.toml_units.proofs.UnitLines.{units_are_of_lines}
use Rattle.toml_units.proofs.laws.lines.Goals as goal

pub returns-clause-of_lines : goal.returns-clause-of_lines
returns-clause-of_lines c = units_are_of_lines

pub returns-clause-bases : goal.returns-clause-bases
returns-clause-bases c = units_are_based

pub returns-clause-each : goal.returns-clause-each
returns-clause-each c = lines_are_units

pub returns-clause-inside : goal.returns-clause-inside
returns-clause-inside c = line_no_lines

pub returns-clause-in_lines : goal.returns-clause-in_lines
returns-clause-in_lines c = units_lie_in_lines
