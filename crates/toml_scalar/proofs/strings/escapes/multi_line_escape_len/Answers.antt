use Rattle.std.proofs.Common.{ap, sym, ◌∙◌, arith}
use Rattle.std.specs.Prelude.{option_map}
use Rattle.toml_scalar.specs.StringScan.{behind_len}
use Rattle.toml_scalar.specs.StringRuns.{escape_at}
use Rattle.toml_scalar.specs.declared.strings.escapes.EscapedChar.{EscapedChar}
use Rattle.toml_scalar.proofs.StringEscapes.{escaped_len, not_dropped, is_dropped}
use Rattle.toml_scalar.proofs.strings.escapes.multi_line_escape_len.Goals as goal

pub returns-in_err-escape-in-0-clause-value : goal.returns-in_err-escape-in-0-clause-value
returns-in_err-escape-in-0-clause-value c =
    c.from_residual.ensures
    ∙ (ap (option_map (λ (e : EscapedChar). e.len)) c.in_err-escape-in-0.ensures.value ∙ (escaped_len (escape_at c.args.bytes.now) ∙ sym (ap (option_map behind_len) (not_dropped c.args.bytes.now (sym c.dropped_len.ensures.value ∙ c.in-0.is)))))

pub returns-in_ok-escape-in-0-clause-value : goal.returns-in_ok-escape-in-0-clause-value
returns-in_ok-escape-in-0-clause-value c =
    ap (option_map (λ (e : EscapedChar). e.len)) c.in_ok-escape-in-0.ensures.value ∙ (escaped_len (escape_at c.args.bytes.now) ∙ sym (ap (option_map behind_len) (not_dropped c.args.bytes.now (sym c.dropped_len.ensures.value ∙ c.in-0.is))))

pub returns-in_default-clause-value : goal.returns-in_default-clause-value
returns-in_default-clause-value c = is_dropped c.args.bytes.now c.dropped_len.result c.dropped_len.ensures.value (omega arith)
