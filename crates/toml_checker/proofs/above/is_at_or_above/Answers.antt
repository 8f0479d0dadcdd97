use Rattle.std.proofs.Common.{sym, ◌∙◌}
use Rattle.toml_checker.proofs.AtOrAbove.{same_is, above_is, above_or_same}
use Rattle.toml_checker.proofs.above.is_at_or_above.Goals as goal

pub returns-then-is_same : goal.returns-then-is_same
returns-then-is_same c = ((λ e. same_is c.args.at.now c.args.other.now (sym c.is_same.ensures ∙ e)), (λ h. c.if-is_same.true))

pub returns-else-is_same : goal.returns-else-is_same
returns-else-is_same c = (
  (λ e. above_is c.args.at.now c.args.other.now (sym c.is_above.ensures ∙ e)),
  (λ h. c.is_above.ensures ∙ above_or_same c.args.at.now c.args.other.now (sym c.is_same.ensures ∙ c.if-is_same.false) h),
)
