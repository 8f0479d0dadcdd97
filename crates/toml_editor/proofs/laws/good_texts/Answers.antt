use Rattle.toml_editor.proofs.Proved.{good_texts_are_documents}
use Rattle.toml_editor.proofs.laws.good_texts.Goals as goal

pub returns : goal.returns
returns c = good_texts_are_documents
