use Rattle.std.proofs.Common.{arith, refl, sym, subst}
use Rattle.toml_scalar.specs.StringScan.{Advances}
use Rattle.toml_scalar.specs.declared.strings.kind.StringKind.TheVariants.{Literal}
use Rattle.toml_scalar.proofs.StringBody.{body_empty, literal_run, no_mark_begins, one_mark}
use Rattle.toml_scalar.proofs.strings.steps.literal.Goals as goal

pub returns-in_default : goal.returns-in_default
returns-in_default c = body_empty Literal c.args.bytes.now c.in_default.len_below

pub returns-in-39 : goal.returns-in-39
returns-in-39 c = (one_mark Literal c.args.bytes.now refl c.in-len1-up.len_at_least c.in-39.is, c.in-len1-up.len_at_least)

pub returns-in_default-first : goal.returns-in_default-first
returns-in_default-first c = subst (Advances Literal c.args.bytes.now) (sym c.more.ensures)
    (literal_run c.literal_len.result c.args.bytes.now c.literal_len.ensures.run (no_mark_begins 0x27 c.args.bytes.now (λ h e. omega arith)))
