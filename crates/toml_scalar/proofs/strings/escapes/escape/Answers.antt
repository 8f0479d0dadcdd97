use Rattle.std.proofs.Common.{ap, sym, ◌∙◌, arith}
use Rattle.std.specs.Prelude.{option_map}
use Rattle.std.proofs.lemmas.List.{take_rest}
use Rattle.toml_scalar.specs.StringRuns.{unicode_at}
use Rattle.toml_scalar.specs.StringScan.{escaped_char}
use Rattle.toml_scalar.proofs.StringEscapes.{one_char, escape_four, escape_eight, escape_letter, escape_none}
use Rattle.toml_scalar.proofs.strings.escapes.escape.Goals as goal

pub returns-in_err-letter-in-len1-up-clause-value :
    goal.returns-in_err-letter-in-len1-up-clause-value
returns-in_err-letter-in-len1-up-clause-value c =
    c.from_residual.ensures ∙ (ap (option_map one_char) c.in_err-letter-in-len1-up.ensures ∙ sym (escape_letter c.args.bytes.now c.in-len1-up.len_at_least (omega arith) (omega arith)))

pub returns-in-empty-clause-value : goal.returns-in-empty-clause-value
returns-in-empty-clause-value c = sym (ap (option_map escaped_char) (escape_none c.args.bytes.now c.in-empty.len_below))

pub returns-in-117-clause-value : goal.returns-in-117-clause-value
returns-in-117-clause-value c = c.unicode.ensures.value 0x75
    ∙ (ap (λ l. option_map escaped_char (unicode_at 0x75 4 l)) (take_rest c.args.bytes.now 1) ∙ sym (ap (option_map escaped_char) (escape_four c.args.bytes.now c.in-117.len_at_least (omega arith))))

pub returns-in-85-clause-value : goal.returns-in-85-clause-value
returns-in-85-clause-value c = c.unicode-in-85.ensures.value 0x55
    ∙ (ap (λ l. option_map escaped_char (unicode_at 0x55 8 l)) (take_rest c.args.bytes.now 1) ∙ sym (ap (option_map escaped_char) (escape_eight c.args.bytes.now c.in-85.len_at_least (omega arith))))

pub returns-in_ok-letter-in-len1-up-clause-value :
    goal.returns-in_ok-letter-in-len1-up-clause-value
returns-in_ok-letter-in-len1-up-clause-value c =
    ap (option_map one_char) c.in_ok-letter-in-len1-up.ensures ∙ sym (escape_letter c.args.bytes.now c.in-len1-up.len_at_least (omega arith) (omega arith))
