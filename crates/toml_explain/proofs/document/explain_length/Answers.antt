use Rattle.std.specs.Prelude.{string_bytes}
use Rattle.toml_explain.proofs.Opened.{bare_in_file}
use Rattle.toml_explain.proofs.document.explain_length.Goals as goal

pub returns-clause-file : goal.returns-clause-file
returns-clause-file c = bare_in_file string_bytes c.args.file.word.now c.args.file.bytes.now c.bare_opened.result c.bare_opened.ensures
