use Rattle.toml_checker.proofs.Together.{comments_stay_together, none_is_written_there}
use Rattle.toml_checker.proofs.laws.comments.Goals as goal

pub returns-clause-together : goal.returns-clause-together
returns-clause-together c = comments_stay_together

pub returns-clause-unwritten : goal.returns-clause-unwritten
returns-clause-unwritten c = none_is_written_there
