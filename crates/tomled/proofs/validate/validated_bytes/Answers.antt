use Rattle.std.proofs.lemmas.Result.{IfOk-weaker}
use Rattle.toml_commands.specs.Explaining.{IsExplainedText, IsValidated}
use Rattle.tomled.proofs.validate.validated_bytes.Goals as goal

pub returns : goal.returns
returns c =
    let old = c.in_ok-outcome.outcome in
    let word = c.args.file.now in
    let bytes = c.args.bytes.now in
    IfOk-weaker c.explained_check.result (IsExplainedText c.args.profile word bytes old) (IsValidated c.args.profile word bytes)
    (λ o h. (old, c.in_ok-outcome.ensures, h)) c.explained_check.ensures
