use Rattle.toml_names.proofs.Proved.{ways_are_near, fronts_are_near, elements_are_near}
use Rattle.toml_names.proofs.laws.near_ways.Goals as goal

pub returns : goal.returns
returns c = record { below = ways_are_near; above = fronts_are_near; elements = elements_are_near }
