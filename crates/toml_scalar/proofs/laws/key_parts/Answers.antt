use Rattle.toml_scalar.proofs.Keys.{part_sound, part_complete, part_first}
use Rattle.toml_scalar.proofs.LongestPart.{part_longest}
use Rattle.toml_scalar.proofs.laws.key_parts.Goals as goal

pub returns-clause-sound : goal.returns-clause-sound
returns-clause-sound c = part_sound

pub returns-clause-found : goal.returns-clause-found
returns-clause-found c = part_complete

pub returns-clause-longest : goal.returns-clause-longest
returns-clause-longest c = part_longest

pub returns-clause-first : goal.returns-clause-first
returns-clause-first c = part_first
