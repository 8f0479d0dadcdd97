use Rattle.std.proofs.Common.{length}
use Rattle.toml_edits.proofs.exchange.+exchange_at.Given as goal

abbrev pub decreases-exchange_at : goal.decreases-exchange_at
decreases-exchange_at l = length l.steps.now
