use Rattle.toml_scalar.proofs.Floats.{float_sound, float_complete}
use Rattle.toml_scalar.proofs.laws.floats.Goals as goal

pub returns-clause-float : goal.returns-clause-float
returns-clause-float c = float_sound

pub returns-clause-float_found : goal.returns-clause-float_found
returns-clause-float_found c = float_complete
