use Rattle.std.proofs.Common.{◌+◌, Some, ap, sym, ◌∙◌}
use Rattle.std.specs.Prelude.{option_map}
use Rattle.toml_scalar.specs.StringScan.{escaped_char}
use Rattle.toml_scalar.proofs.StringEscapes.{unicode_short, unicode_other, unicode_no_scalar, unicode_some}
use Rattle.toml_scalar.proofs.strings.escapes.unicode.Goals as goal

pub returns-then-bytes-count-clause-value : goal.returns-then-bytes-count-clause-value
returns-then-bytes-count-clause-value c letter = sym (ap (option_map escaped_char) (unicode_short letter c.args.count c.args.bytes.now c.if-bytes-count.true))

pub returns-in_err-hex_value-clause-value : goal.returns-in_err-hex_value-clause-value
returns-in_err-hex_value-clause-value c letter =
    c.from_residual.ensures ∙ sym (ap (option_map escaped_char) (unicode_other letter c.args.count c.args.bytes.now (sym c.in_err-hex_value.ensures)))

pub returns-in_err-value-clause-value : goal.returns-in_err-value-clause-value
returns-in_err-value-clause-value c letter =
    c.from_residual-in_err-value.ensures ∙ sym (ap (option_map escaped_char) (unicode_no_scalar letter c.args.count c.args.bytes.now c.in_ok-hex_value.field-0 (sym c.in_ok-hex_value.ensures) c.in_err-value.ensures.value))

pub returns-clause-value : goal.returns-clause-value
returns-clause-value c letter =
    (λ i. Some (record { value = c.in_ok-value.ensures.value.1 i; len = c.args.count + 1 }))
    ∙ sym (unicode_some letter c.args.count c.args.bytes.now c.in_ok-hex_value.field-0 c.if-bytes-count.false (sym c.in_ok-hex_value.ensures) c.in_ok-value.ensures.value.0)
