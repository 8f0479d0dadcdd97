use Rattle.toml_editor.proofs.Proved.{set_forms, set_rules, set_short, set_data, set_names}
use Rattle.toml_editor.proofs.written.Examples.{set_inside}
use Rattle.toml_editor.proofs.laws.sets.Goals as goal

-- with the laws the worked examples of what edits write are computed, of which this is one
pub returns : goal.returns
returns c = let example = set_inside in record { names = set_names; rules = set_rules; short = set_short; «data» = set_data; forms = set_forms }
