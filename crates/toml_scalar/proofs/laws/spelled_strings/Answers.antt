use Rattle.toml_scalar.proofs.SpellingLaws.{quoted_means}
use Rattle.toml_scalar.proofs.laws.spelled_strings.Goals as goal

pub returns : goal.returns
returns c = quoted_means
