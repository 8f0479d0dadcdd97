use Rattle.toml_scalar.proofs.SpellingLaws.{spelled_names}
use Rattle.toml_scalar.proofs.laws.spelled_names.Goals as goal

pub returns : goal.returns
returns c = spelled_names
