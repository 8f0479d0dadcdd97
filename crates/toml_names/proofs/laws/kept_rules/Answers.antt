use Rattle.toml_names.proofs.Proved.{some_keep_rules, more_keep_rules, moved_keep_rules, value_keeps_rules}
use Rattle.toml_names.proofs.laws.kept_rules.Goals as goal

pub returns : goal.returns
returns c = record { some = some_keep_rules; more = more_keep_rules; moved = moved_keep_rules; value = value_keeps_rules }
