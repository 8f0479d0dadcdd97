use Rattle.toml_names.proofs.Proved.{no_misfit, misfit_is_first, rules_are_of_mentions}
use Rattle.toml_names.proofs.laws.rules.Goals as goal

pub returns : goal.returns
returns c = record { none = no_misfit; first = misfit_is_first; mentions = rules_are_of_mentions }
