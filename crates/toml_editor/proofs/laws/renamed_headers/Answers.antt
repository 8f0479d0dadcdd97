use Rattle.toml_editor.proofs.written.HeadersRenamed.{rename_along_header, rename_along_element}
use Rattle.toml_editor.proofs.laws.renamed_headers.Goals as goal

pub returns : goal.returns
returns c = record { table = rename_along_header; element = rename_along_element }
