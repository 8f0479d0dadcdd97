use Rattle.toml_places.proofs.Proved.{found_is_spelled, spelled_is_found, one_place, refused_within, front_goes_on}
use Rattle.toml_places.proofs.laws.places.Goals as goal

pub returns-clause-sound : goal.returns-clause-sound
returns-clause-sound c = found_is_spelled

pub returns-clause-found : goal.returns-clause-found
returns-clause-found c = spelled_is_found

pub returns-clause-one : goal.returns-clause-one
returns-clause-one c = one_place

pub returns-clause-within : goal.returns-clause-within
returns-clause-within c = refused_within

pub returns-clause-front : goal.returns-clause-front
returns-clause-front c = front_goes_on
