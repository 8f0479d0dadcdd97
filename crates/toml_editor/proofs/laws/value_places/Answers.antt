use Rattle.toml_editor.proofs.Proved.{value_is_place}
use Rattle.toml_editor.proofs.laws.value_places.Goals as goal

pub returns : goal.returns
returns c = value_is_place
