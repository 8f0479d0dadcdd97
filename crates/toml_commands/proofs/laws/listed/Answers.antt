use Rattle.toml_commands.proofs.Unique.{one_listing}
use Rattle.toml_commands.proofs.laws.listed.Goals as goal

pub returns : goal.returns
returns c = one_listing
