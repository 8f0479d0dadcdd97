use Rattle.toml_places.proofs.Proved.{part_is_there}
use Rattle.toml_places.proofs.laws.parts.Goals as goal

pub returns : goal.returns
returns c = part_is_there
