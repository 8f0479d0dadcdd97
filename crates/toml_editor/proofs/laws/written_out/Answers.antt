use Rattle.toml_editor.proofs.WrittenOut.{lines_are_written, text_is_written}
use Rattle.toml_editor.proofs.laws.written_out.Goals as goal

pub returns-clause-lines : goal.returns-clause-lines
returns-clause-lines c = lines_are_written

pub returns-clause-text : goal.returns-clause-text
returns-clause-text c = text_is_written
