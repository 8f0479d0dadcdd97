use Rattle.toml_editor.proofs.Proved.{remove_keeps_lines, set_keeps_line, rename_keeps_line, insert_keeps_lines}
use Rattle.toml_editor.proofs.laws.kept_lines.Goals as goal

pub returns : goal.returns
returns c = record { set = set_keeps_line; rename = rename_keeps_line; insert = insert_keeps_lines; remove = remove_keeps_lines }
