use Rattle.std.specs.Prelude.{string_bytes}
use Rattle.toml_explain.proofs.Opened.{shows_more}
use Rattle.toml_explain.proofs.edit.with_value.Goals as goal

pub returns-in_default-clause-value : goal.returns-in_default-clause-value
returns-in_default-clause-value c = λ _. shows_more string_bytes c.args.file.word.now c.args.file.bytes.now c.told_at.result c.told_at.ensures
