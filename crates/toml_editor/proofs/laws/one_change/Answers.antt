use Rattle.toml_editor.proofs.OneChanged.{one_change}
use Rattle.toml_editor.proofs.laws.one_change.Goals as goal

pub returns : goal.returns
returns c = one_change
