use Rattle.toml_names.proofs.Proved.{has_part, step_there, hole_there, scalar-below}
use Rattle.toml_names.proofs.laws.parts.Goals as goal

pub returns : goal.returns
returns c = record { part = has_part; scalar = scalar-below; step = step_there; put = hole_there }
