use Rattle.toml_names.proofs.Proved.{taken_are_good, fronts_are_good, lines_have_data}
use Rattle.toml_names.proofs.laws.good_lines.Goals as goal

pub returns : goal.returns
returns c = record { taken = taken_are_good; front = fronts_are_good; have_data = lines_have_data }
