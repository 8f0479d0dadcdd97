use Rattle.std.proofs.Common.{refl}
use Rattle.toml_checker.proofs.Owing.{one_covers}
use Rattle.toml_checker.proofs.debts.any_covers.Goals as goal

pub returns-then-covers : goal.returns-then-covers
returns-then-covers c = ((λ e. one_covers c.args.debts.now c.loop-debt.debt-index c.debt-item.result c.args.at.now c.loop-debt-test.true c.debt-item.is (c.covers.ensures.0 c.if-covers.true) c.loop-debt.invariant), (λ h. refl))
