use Rattle.toml_commands.proofs.Unique.{one_line}
use Rattle.toml_commands.proofs.laws.shown.Goals as goal

pub returns : goal.returns
returns c = one_line
