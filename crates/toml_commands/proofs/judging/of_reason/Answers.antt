use Rattle.std.specs.Prelude.{string_bytes}
use Rattle.toml_commands.proofs.Said.{of_after_refused, of_before_refused}
use Rattle.toml_commands.proofs.judging.of_reason.Goals as goal

pub returns-in-BeforeRefused : goal.returns-in-BeforeRefused
returns-in-BeforeRefused c =
    of_before_refused string_bytes c.args.inputs.now c.args.profile c.args.words c.args.reason c.in-BeforeRefused.is c.input.result.word.now c.input.result.bytes.now
    c.input.ensures.word c.input.ensures.bytes c.of_text.result c.of_text.ensures

pub returns-in-AfterRefused : goal.returns-in-AfterRefused
returns-in-AfterRefused c =
    let file = c.input-in-AfterRefused in
    of_after_refused string_bytes c.args.inputs.now c.args.profile c.args.words c.args.reason c.in-AfterRefused.is file.result.word.now file.result.bytes.now
    file.ensures.word file.ensures.bytes c.of_text-in-AfterRefused.result c.of_text-in-AfterRefused.ensures
