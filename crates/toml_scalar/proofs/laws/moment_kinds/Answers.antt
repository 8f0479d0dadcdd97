use Rattle.toml_scalar.proofs.Moments.{moment_sound, moment_complete, moment_once}
use Rattle.toml_scalar.proofs.laws.moment_kinds.Goals as goal

pub returns-clause-form : goal.returns-clause-form
returns-clause-form c = moment_sound

pub returns-clause-found : goal.returns-clause-found
returns-clause-found c = moment_complete

pub returns-clause-one : goal.returns-clause-one
returns-clause-one c = moment_once
