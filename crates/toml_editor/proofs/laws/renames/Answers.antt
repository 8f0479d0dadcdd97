use Rattle.toml_editor.proofs.Proved.{rename_forms, rename_good, rename_data, rename_names}
use Rattle.toml_editor.proofs.laws.renames.Goals as goal

pub returns : goal.returns
returns c = record { names = rename_names; good = rename_good; «data» = rename_data; forms = rename_forms }
