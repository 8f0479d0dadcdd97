use Rattle.toml_editor.proofs.EachEdit.{each_edit_is_told}
use Rattle.toml_editor.proofs.LastAnswered.{last_has_one_answer, last_has_one_text}
use Rattle.toml_editor.proofs.laws.each_edit.Goals as goal

pub returns : goal.returns
returns c = record { told = each_edit_is_told; text = last_has_one_text; answer = last_has_one_answer }
