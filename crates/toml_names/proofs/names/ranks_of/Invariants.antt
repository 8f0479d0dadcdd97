use Rattle.toml_names.proofs.Common.{◌≡◌, map, take, rank_in}
use Rattle.toml_names.proofs.names.ranks_of.Given as goal

abbrev pub invariant-loop-node : goal.invariant-loop-node
invariant-loop-node l = l.list.items ≡ map (rank_in l.ranks) (take l.node-index l.nodes)
