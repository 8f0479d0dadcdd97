use Rattle.toml_names.proofs.Common.{rules}
use Rattle.std.proofs.lemmas.List.{take_more_same}
use Rattle.toml_names.proofs.lemmas.model.Equal.{same_step-equal}
use Rattle.toml_names.proofs.model.address.shared_len.Goals as goal

pub loop-index-preserved : goal.loop-index-preserved
loop-index-preserved c = search (rules, take_more_same, same_step-equal)
