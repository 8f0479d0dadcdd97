use Rattle.toml_names.proofs.Proved.{key_places_are_not_named, line_places_are_not_named, places_are_not_named, value_places_are_not_named}
use Rattle.toml_names.proofs.laws.placeless.Goals as goal

pub returns : goal.returns
returns c = record { key = key_places_are_not_named; line = line_places_are_not_named; lines = places_are_not_named; value = value_places_are_not_named }
