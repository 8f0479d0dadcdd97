use Rattle.toml_editor.proofs.Proved.{empty_units, insert_units, remove_units, rename_units, set_units}
use Rattle.toml_editor.proofs.laws.units.Goals as goal

pub returns : goal.returns
returns c = record { insert = insert_units; remove = remove_units; empty = empty_units; rename = rename_units; set = set_units }
