use Rattle.toml_layout.proofs.TreeOutlined.{value_outlined_is, line_outlined_is, lines_outlined_are}
use Rattle.toml_layout.proofs.laws.outlines.Goals as goal

pub returns-clause-value : goal.returns-clause-value
returns-clause-value c = value_outlined_is

pub returns-clause-line : goal.returns-clause-line
returns-clause-line c = line_outlined_is

pub returns-clause-lines : goal.returns-clause-lines
returns-clause-lines c = lines_outlined_are
