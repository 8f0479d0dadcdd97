use Rattle.toml_names.proofs.Proved.{reached_are_not_hidden}
use Rattle.toml_names.proofs.laws.reached.Goals as goal

pub returns : goal.returns
returns c = reached_are_not_hidden
