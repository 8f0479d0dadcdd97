use Rattle.toml_tree.proofs.Exact.{reader_sound, reader_complete}
use Rattle.toml_tree.proofs.ExactValues.{value_found, value_is_read}
use Rattle.toml_tree.proofs.laws.plain_reader.Goals as goal

pub returns-clause-sound : goal.returns-clause-sound
returns-clause-sound c = reader_sound

pub returns-clause-complete : goal.returns-clause-complete
returns-clause-complete c = reader_complete

pub returns-clause-value_sound : goal.returns-clause-value_sound
returns-clause-value_sound c = value_found

pub returns-clause-value_complete : goal.returns-clause-value_complete
returns-clause-value_complete c = value_is_read
