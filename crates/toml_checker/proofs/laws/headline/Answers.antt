use Rattle.toml_checker.proofs.Sentence.{certified_stand}
use Rattle.toml_checker.proofs.laws.headline.Goals as goal

pub returns : goal.returns
returns c = certified_stand
