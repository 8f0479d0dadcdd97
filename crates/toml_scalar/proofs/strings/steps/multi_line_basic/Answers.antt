use Rattle.std.proofs.Common.{Some, ap, arith, refl, sym, subst, ◌∙◌}
use Rattle.std.specs.Prelude.{option_map}
use Rattle.std.proofs.lemmas.List.{take_rest}
use Rattle.toml_scalar.specs.StringScan.{Advances, behind_len}
use Rattle.toml_scalar.specs.StringRuns.{multi_line_escape_at}
use Rattle.toml_scalar.specs.declared.strings.kind.StringKind.TheVariants.{MultiLineBasic}
use Rattle.toml_scalar.proofs.StringBody.{body_empty, multi_line_escape, multi_line_no_escape, multi_line_basic_run, no_mark_begins, marks_advance, lf_advances, cr_advances}
use Rattle.toml_scalar.proofs.strings.steps.multi_line_basic.Goals as goal

pub returns-in_default : goal.returns-in_default
returns-in_default c = body_empty MultiLineBasic c.args.bytes.now c.in_default.len_below

pub returns-in-34 : goal.returns-in-34
returns-in-34 c = subst (λ a. Advances MultiLineBasic c.args.bytes.now (Some a)) (sym c.marks.ensures)
    (marks_advance MultiLineBasic c.mark_len.result c.args.bytes.now refl refl c.in-len1-up.len_at_least c.in-34.is c.mark_len.ensures.run)

pub returns-in-10 : goal.returns-in-10
returns-in-10 c = lf_advances MultiLineBasic c.args.bytes.now refl c.in-len1-up.len_at_least c.in-10.is

pub returns-in-13 : goal.returns-in-13
returns-in-13 c = subst (Advances MultiLineBasic c.args.bytes.now) (sym c.more.ensures)
    (cr_advances MultiLineBasic c.newline_len.result c.args.bytes.now refl c.in-len1-up.len_at_least c.in-13.is c.newline_len.ensures.value)

pub returns-in_err-multi_line_escape_len-in-92 : goal.returns-in_err-multi_line_escape_len-in-92
returns-in_err-multi_line_escape_len-in-92 c = subst (Advances MultiLineBasic c.args.bytes.now) (sym c.from_residual.ensures)
    (multi_line_no_escape c.args.bytes.now c.in-len1-up.len_at_least c.in-92.is
    (c.in_err-multi_line_escape_len-in-92.ensures.value ∙ ap (λ l. option_map behind_len (multi_line_escape_at l)) (take_rest c.args.bytes.now 1)))

pub returns-in_ok-multi_line_escape_len-in-92 : goal.returns-in_ok-multi_line_escape_len-in-92
returns-in_ok-multi_line_escape_len-in-92 c =
    multi_line_escape c.args.bytes.now c.in-len1-up.len_at_least c.in-92.is c.in_ok-multi_line_escape_len-in-92.field-0
    (c.in_ok-multi_line_escape_len-in-92.ensures.value ∙ ap (λ l. option_map behind_len (multi_line_escape_at l)) (take_rest c.args.bytes.now 1))

pub returns-in_default-first : goal.returns-in_default-first
returns-in_default-first c = subst (Advances MultiLineBasic c.args.bytes.now) (sym c.more-in_default-first.ensures)
    (multi_line_basic_run c.basic_len.result c.args.bytes.now (λ e. omega arith) (λ e. omega arith) c.basic_len.ensures.run (no_mark_begins 0x22 c.args.bytes.now (λ h e. omega arith)) (no_mark_begins 0x5C c.args.bytes.now (λ h e. omega arith)))
