use Rattle.toml_scalar.proofs.StringLaws.{value_found, value_means, one_string_kind, one_string_value}
use Rattle.toml_scalar.proofs.strings.laws.string_values.Goals as goal

pub returns : goal.returns
returns c = record { found = value_found; meant = value_means; one_kind = one_string_kind; one_value = one_string_value }
