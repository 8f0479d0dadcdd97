use Rattle.toml_editor.proofs.Proved.{plain_is_carried}
use Rattle.toml_editor.proofs.laws.carried.Goals as goal

pub returns : goal.returns
returns c = plain_is_carried
