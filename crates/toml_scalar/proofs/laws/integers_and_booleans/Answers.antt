use Rattle.toml_scalar.proofs.Booleans.{bool_sound, bool_complete}
use Rattle.toml_scalar.proofs.Integers.{integer_sound, integer_complete}
use Rattle.toml_scalar.proofs.laws.integers_and_booleans.Goals as goal

pub returns-clause-integer : goal.returns-clause-integer
returns-clause-integer c = integer_sound

pub returns-clause-integer_found : goal.returns-clause-integer_found
returns-clause-integer_found c = integer_complete

pub returns-clause-boolean : goal.returns-clause-boolean
returns-clause-boolean c = bool_sound

pub returns-clause-boolean_found : goal.returns-clause-boolean_found
returns-clause-boolean_found c = bool_complete
