use Rattle.toml_editor.proofs.Proved.{plain_is_written, plain_step, plain_steps, one_written, one_list_written}
use Rattle.toml_editor.proofs.laws.plain_edits.Goals as goal

pub returns : goal.returns
returns c = record { written = plain_is_written; one = one_written; step = plain_step; one_list = one_list_written; steps = plain_steps }
