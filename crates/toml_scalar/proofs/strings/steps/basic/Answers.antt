use Rattle.std.proofs.Common.{ap, arith, drop, refl, sym, subst, ◌∙◌}
use Rattle.std.specs.Prelude.{option_map}
use Rattle.std.proofs.lemmas.List.{take_rest}
use Rattle.toml_scalar.specs.StringScan.{Advances, escaped_char}
use Rattle.toml_scalar.specs.StringRuns.{escape_at}
use Rattle.toml_scalar.specs.declared.strings.escapes.EscapedChar.{EscapedChar}
use Rattle.toml_scalar.specs.declared.strings.kind.StringKind.TheVariants.{Basic}
use Rattle.toml_scalar.proofs.StringEscapes.{escaped_len}
use Rattle.toml_scalar.proofs.StringBody.{body_empty, basic_escape, basic_no_escape, basic_run, no_mark_begins, one_mark}
use Rattle.toml_scalar.proofs.strings.steps.basic.Goals as goal

pub returns-in_default : goal.returns-in_default
returns-in_default c = body_empty Basic c.args.bytes.now c.in_default.len_below

pub returns-in-34 : goal.returns-in-34
returns-in-34 c = (one_mark Basic c.args.bytes.now refl c.in-len1-up.len_at_least c.in-34.is, c.in-len1-up.len_at_least)

pub returns-in_err-escape-in-92 : goal.returns-in_err-escape-in-92
returns-in_err-escape-in-92 c = subst (Advances Basic c.args.bytes.now) (sym c.from_residual.ensures)
    (basic_no_escape c.args.bytes.now c.in-len1-up.len_at_least c.in-92.is
    (ap (option_map (λ (e : EscapedChar). e.len)) c.in_err-escape-in-92.ensures.value ∙ (ap (λ l. option_map (λ (e : EscapedChar). e.len) (option_map escaped_char (escape_at l))) (take_rest c.args.bytes.now 1) ∙ escaped_len (escape_at (drop 1 c.args.bytes.now)))))

pub returns-in_ok-escape-in-92 : goal.returns-in_ok-escape-in-92
returns-in_ok-escape-in-92 c =
    basic_escape c.args.bytes.now c.in-len1-up.len_at_least c.in-92.is c.in_ok-escape-in-92.field-0.len
    (ap (option_map (λ (e : EscapedChar). e.len)) c.in_ok-escape-in-92.ensures.value ∙ (ap (λ l. option_map (λ (e : EscapedChar). e.len) (option_map escaped_char (escape_at l))) (take_rest c.args.bytes.now 1) ∙ escaped_len (escape_at (drop 1 c.args.bytes.now))))

pub returns-in_default-first : goal.returns-in_default-first
returns-in_default-first c = subst (Advances Basic c.args.bytes.now) (sym c.more.ensures)
    (basic_run c.basic_len.result c.args.bytes.now c.basic_len.ensures.run (no_mark_begins 0x22 c.args.bytes.now (λ h e. omega arith)) (no_mark_begins 0x5C c.args.bytes.now (λ h e. omega arith)))
