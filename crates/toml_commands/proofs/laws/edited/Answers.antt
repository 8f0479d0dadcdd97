use Rattle.toml_commands.proofs.PlainPrinted.{plain_is_printed}
use Rattle.toml_commands.proofs.laws.edited.Goals as goal

pub returns : goal.returns
returns c = plain_is_printed
