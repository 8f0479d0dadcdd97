use Rattle.toml_text.proofs.Marks.{comment_unmarked, basic_unmarked, literal_unmarked}
use Rattle.toml_text.proofs.laws.unmarked.Goals as goal

pub returns-clause-comment : goal.returns-clause-comment
returns-clause-comment c = comment_unmarked

pub returns-clause-basic : goal.returns-clause-basic
returns-clause-basic c = basic_unmarked

pub returns-clause-literal : goal.returns-clause-literal
returns-clause-literal c = literal_unmarked
