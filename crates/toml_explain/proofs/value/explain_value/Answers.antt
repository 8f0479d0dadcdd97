use Rattle.std.specs.Prelude.{string_bytes}
use Rattle.toml_explain.proofs.Opened.{bare_more, more_at}
use Rattle.toml_explain.proofs.value.explain_value.Goals as goal

pub returns-in-Some : goal.returns-in-Some
returns-in-Some c = more_at string_bytes c.args.file.word.now c.args.file.bytes.now c.in-Some.span.start c.value_below.result c.value_below.ensures.opens c.value_below.ensures.line

pub returns : goal.returns
returns c = bare_more string_bytes c.args.file.word.now c.args.file.bytes.now c.value_alone.result c.value_alone.ensures
