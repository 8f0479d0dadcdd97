use Rattle.toml_names.proofs.Proved.{less_is_left}
use Rattle.toml_names.proofs.laws.lines_left.Goals as goal

pub returns : goal.returns
returns c = less_is_left
