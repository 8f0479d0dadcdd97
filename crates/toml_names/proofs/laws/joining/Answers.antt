use Rattle.toml_names.proofs.Proved.{lines_join, values_join, one_kind, first_is_data, values_stand_alone}
use Rattle.toml_names.proofs.laws.joining.Goals as goal

pub returns : goal.returns
returns c = record { lines = lines_join; values = values_join; kinds = one_kind; first = first_is_data; alone = values_stand_alone }
