use Rattle.toml_layout.proofs.RenameInside.{rename_aside}
use Rattle.toml_layout.proofs.SetInside.{set_aside}
use Rattle.toml_layout.proofs.laws.aside.Goals as goal

pub returns-clause-set : goal.returns-clause-set
returns-clause-set c = set_aside

pub returns-clause-rename : goal.returns-clause-rename
returns-clause-rename c = rename_aside
