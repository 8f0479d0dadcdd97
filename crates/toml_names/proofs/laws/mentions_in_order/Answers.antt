use Rattle.toml_names.proofs.Proved.{first_mentions_are_these, one_list_of_first_mentions}
use Rattle.toml_names.proofs.laws.mentions_in_order.Goals as goal

pub returns : goal.returns
returns c = record { these = first_mentions_are_these; one = one_list_of_first_mentions }
