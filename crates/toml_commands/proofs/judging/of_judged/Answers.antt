use Rattle.std.specs.Prelude.{string_bytes}
use Rattle.toml_commands.proofs.Said.{by_none, by_reason}
use Rattle.toml_commands.proofs.judging.of_judged.Goals as goal

pub returns-in-Some : goal.returns-in-Some
returns-in-Some c =
    by_reason string_bytes c.args.inputs.now c.args.profile c.args.words c.args.refusal c.in-Some.reason c.in-Some.ensures c.of_reason.result c.of_reason.ensures

pub returns-in-None : goal.returns-in-None
returns-in-None c =
    by_none string_bytes c.args.inputs.now c.args.profile c.args.words c.args.refusal c.in-None.ensures c.list_word-word.result.now c.list_word-word.ensures
    c.explain_list.result c.explain_list.ensures
