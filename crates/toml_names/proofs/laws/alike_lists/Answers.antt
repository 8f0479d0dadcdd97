use Rattle.toml_names.proofs.Proved.{alike_name_the_same, alike_stay_alike, pairs_leave_alike, section_from-append, count-append}
use Rattle.toml_names.proofs.laws.alike_lists.Goals as goal

pub returns : goal.returns
returns c = record { section = section_from-append; counts = count-append; same = alike_name_the_same; more = alike_stay_alike; pairs = pairs_leave_alike }
