use Rattle.toml_editor.proofs.laws.standing_renamed.Goals as goal
use Rattle.toml_editor.proofs.written.RenameStanding.{rename_stands}

pub returns : goal.returns
returns c = rename_stands
