use Rattle.toml_working.proofs.OneLine.{put_lines_are_one, taken_lines_are_one}
use Rattle.toml_working.proofs.laws.held_lines.Goals as goal

pub returns-clause-taken : goal.returns-clause-taken
returns-clause-taken c = taken_lines_are_one

pub returns-clause-put : goal.returns-clause-put
returns-clause-put c = put_lines_are_one
