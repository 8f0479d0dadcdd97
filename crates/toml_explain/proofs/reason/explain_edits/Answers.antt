use Rattle.std.specs.Prelude.{string_bytes}
use Rattle.toml_explain.proofs.Opened.{more_by, shows_more}
use Rattle.toml_explain.proofs.reason.explain_edits.Goals as goal

pub returns-in-Some : goal.returns-in-Some
returns-in-Some c =
    let before = c.args.judged.before in
    more_by string_bytes before.word.now before.bytes.now c.in-Some.code c.explain_edit.result c.explain_edit.ensures.value c.explain_edit.ensures.below

pub returns-in-None : goal.returns-in-None
returns-in-None c =
    let before = c.args.judged.before in
    shows_more string_bytes before.word.now before.bytes.now c.plain.result c.plain.ensures
