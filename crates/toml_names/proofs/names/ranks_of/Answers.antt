use Rattle.toml_names.proofs.Common.{rules}
use Rattle.toml_names.proofs.lemmas.tree.LineRanks.{ranks-more}
use Rattle.toml_names.proofs.names.ranks_of.Goals as goal

pub loop-node-preserved : goal.loop-node-preserved
loop-node-preserved c = search (rules, ranks-more)
