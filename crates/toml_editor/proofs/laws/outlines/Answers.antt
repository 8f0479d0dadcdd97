use Rattle.toml_editor.proofs.RenameOutlined.{rename_is_outlined}
use Rattle.toml_editor.proofs.SetOutlined.{set_is_outlined}
use Rattle.toml_editor.proofs.laws.outlines.Goals as goal

pub returns-clause-set : goal.returns-clause-set
returns-clause-set c = set_is_outlined

pub returns-clause-rename : goal.returns-clause-rename
returns-clause-rename c = rename_is_outlined
