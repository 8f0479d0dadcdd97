use Rattle.toml_scalar.proofs.Moments.{moment_first, moment_run, space_apart}
use Rattle.toml_scalar.proofs.laws.moment_runs.Goals as goal

pub returns-clause-first : goal.returns-clause-first
returns-clause-first c = moment_first

pub returns-clause-run : goal.returns-clause-run
returns-clause-run c = moment_run

pub returns-clause-apart : goal.returns-clause-apart
returns-clause-apart c = space_apart
