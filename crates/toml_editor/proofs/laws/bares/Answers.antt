use Rattle.toml_editor.proofs.Proved.{set_bares, insert_bares, rename_bares, remove_bares}
use Rattle.toml_editor.proofs.laws.bares.Goals as goal

pub returns : goal.returns
returns c = record { set = set_bares; insert = insert_bares; remove = remove_bares; rename = rename_bares }
