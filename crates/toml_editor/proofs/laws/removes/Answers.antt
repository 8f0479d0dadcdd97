use Rattle.toml_editor.proofs.Proved.{empty_names, remove_data, remove_forms, remove_good, remove_names}
use Rattle.toml_editor.proofs.laws.removes.Goals as goal

pub returns : goal.returns
returns c = record { names = remove_names; emptied = empty_names; good = remove_good; «data» = remove_data; forms = remove_forms }
