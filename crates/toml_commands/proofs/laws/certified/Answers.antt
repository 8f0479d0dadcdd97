use Rattle.toml_commands.proofs.Certified.{edited_is_certified}
use Rattle.toml_commands.proofs.laws.certified.Goals as goal

pub returns : goal.returns
returns c = edited_is_certified
