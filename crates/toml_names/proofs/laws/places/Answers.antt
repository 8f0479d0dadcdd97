use Rattle.toml_names.proofs.Proved.{place_is_found, places_are_found, no_place}
use Rattle.toml_names.proofs.laws.places.Goals as goal

pub returns : goal.returns
returns c = record { found = places_are_found; none = no_place; one = place_is_found }
