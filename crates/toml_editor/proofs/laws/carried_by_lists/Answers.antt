use Rattle.toml_editor.proofs.written.UnitsListed.{list_is_carried}
use Rattle.toml_editor.proofs.laws.carried_by_lists.Goals as goal

pub returns : goal.returns
returns c = list_is_carried
