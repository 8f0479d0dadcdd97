use Rattle.toml_editor.proofs.Proved.{set_of_profile, insert_of_profile, remove_of_profile, rename_of_profile}
use Rattle.toml_editor.proofs.laws.profiles.Goals as goal

pub returns : goal.returns
returns c = record { set = set_of_profile; insert = insert_of_profile; remove = remove_of_profile; rename = rename_of_profile }
