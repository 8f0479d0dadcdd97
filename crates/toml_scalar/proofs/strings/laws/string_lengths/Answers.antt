use Rattle.toml_scalar.proofs.StringLaws.{string_sound, string_found, string_longest}
use Rattle.toml_scalar.proofs.strings.laws.string_lengths.Goals as goal

pub returns : goal.returns
returns c = record { sound = string_sound; found = string_found; longest = string_longest }
