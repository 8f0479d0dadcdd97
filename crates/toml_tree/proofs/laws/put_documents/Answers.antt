use Rattle.toml_tree.proofs.Unmarked.{lines_unmarked}
use Rattle.toml_tree.proofs.Put.{put_doc_spells}
use Rattle.toml_tree.proofs.laws.put_documents.Goals as goal

pub returns-clause-no_mark : goal.returns-clause-no_mark
returns-clause-no_mark c = lines_unmarked

pub returns-clause-document : goal.returns-clause-document
returns-clause-document c = put_doc_spells
