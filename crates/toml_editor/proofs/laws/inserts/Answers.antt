use Rattle.toml_editor.proofs.Proved.{insert_forms, insert_rules, insert_short, insert_data, insert_names}
use Rattle.toml_editor.proofs.laws.inserts.Goals as goal

pub returns : goal.returns
returns c = record { names = insert_names; rules = insert_rules; short = insert_short; «data» = insert_data; forms = insert_forms }
