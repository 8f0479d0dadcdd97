use Rattle.std.specs.Prelude.{string_bytes}
use Rattle.toml_explain.proofs.Opened.{shows_more}
use Rattle.toml_explain.proofs.edit.edit_alone.Goals as goal

pub returns-clause-value : goal.returns-clause-value
returns-clause-value c = shows_more string_bytes c.args.file.word.now c.args.file.bytes.now c.told_at.result c.told_at.ensures
