use Rattle.toml_names.proofs.Common.{◌≡◌, ◌<◌, ◌++◌, vec_len, reverse, address_at}
use Rattle.toml_names.proofs.tree.name_tree.NameTree.climb.Given as goal

abbrev pub invariant-loop-way : goal.invariant-loop-way
invariant-loop-way l = record {
  within : l.here < vec_len l.self.nodes;
  so_far : address_at l.self.nodes.items l.id ≡ address_at l.self.nodes.items l.here ++ reverse l.way.items;
}

abbrev pub decreases-loop-way : goal.decreases-loop-way
decreases-loop-way l = l.here
