use Rattle.toml_names.proofs.Proved.{lines_have_one_kind, line_values_stand_alone, values_have_one_kind, inner_values_stand_alone}
use Rattle.toml_names.proofs.laws.data.Goals as goal

pub returns : goal.returns
returns c = record { kinds = lines_have_one_kind; alone = line_values_stand_alone; inner_kinds = values_have_one_kind; inner_alone = inner_values_stand_alone }
