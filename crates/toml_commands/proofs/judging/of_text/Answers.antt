use Rattle.std.specs.Prelude.{string_bytes}
use Rattle.toml_commands.proofs.Said.{text_is_bad, text_is_good}
use Rattle.toml_commands.proofs.judging.of_text.Goals as goal

pub returns-in-Ok : goal.returns-in-Ok
returns-in-Ok c = text_is_good string_bytes c.args.profile c.args.file.word.now c.args.file.bytes.now c.explain_list.result c.in-Ok.ensures.good c.explain_list.ensures

pub returns-in-Err : goal.returns-in-Err
returns-in-Err c =
    text_is_bad string_bytes c.args.profile c.args.file.word.now c.args.file.bytes.now c.of_ending.result c.in-Err.ending c.in-Err.ensures.refused c.of_ending.ensures
