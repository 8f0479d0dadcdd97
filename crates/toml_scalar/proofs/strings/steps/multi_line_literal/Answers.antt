use Rattle.std.proofs.Common.{Some, arith, refl, sym, subst}
use Rattle.toml_scalar.specs.StringScan.{Advances}
use Rattle.toml_scalar.specs.declared.strings.kind.StringKind.TheVariants.{MultiLineLiteral}
use Rattle.toml_scalar.proofs.StringBody.{body_empty, multi_line_literal_run, no_mark_begins, marks_advance, lf_advances, cr_advances}
use Rattle.toml_scalar.proofs.strings.steps.multi_line_literal.Goals as goal

pub returns-in_default : goal.returns-in_default
returns-in_default c = body_empty MultiLineLiteral c.args.bytes.now c.in_default.len_below

pub returns-in-39 : goal.returns-in-39
returns-in-39 c = subst (λ a. Advances MultiLineLiteral c.args.bytes.now (Some a)) (sym c.marks.ensures)
    (marks_advance MultiLineLiteral c.mark_len.result c.args.bytes.now refl refl c.in-len1-up.len_at_least c.in-39.is c.mark_len.ensures.run)

pub returns-in-10 : goal.returns-in-10
returns-in-10 c = lf_advances MultiLineLiteral c.args.bytes.now refl c.in-len1-up.len_at_least c.in-10.is

pub returns-in-13 : goal.returns-in-13
returns-in-13 c = subst (Advances MultiLineLiteral c.args.bytes.now) (sym c.more.ensures)
    (cr_advances MultiLineLiteral c.newline_len.result c.args.bytes.now refl c.in-len1-up.len_at_least c.in-13.is c.newline_len.ensures.value)

pub returns-in_default-first : goal.returns-in_default-first
returns-in_default-first c = subst (Advances MultiLineLiteral c.args.bytes.now) (sym c.more-in_default-first.ensures)
    (multi_line_literal_run c.literal_len.result c.args.bytes.now (λ e. omega arith) (λ e. omega arith) c.literal_len.ensures.run (no_mark_begins 0x27 c.args.bytes.now (λ h e. omega arith)))
