use Rattle.std.specs.Prelude.{string_bytes}
use Rattle.toml_commands.proofs.Said.{of_texts}
use Rattle.toml_commands.proofs.judging.of_texts.Goals as goal

pub returns : goal.returns
returns c = λ no_before no_after.
    let before = c.input-before.ensures in
    let after = c.input-after.ensures in
    of_texts string_bytes c.args.inputs.now c.args.profile c.args.words c.input-before.result c.input-after.result before.word before.bytes after.word after.bytes c.explain_reason.result c.args.reason
    c.explain_reason.ensures.shown c.explain_reason.ensures.edits no_before no_after
