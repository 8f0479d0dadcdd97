use Rattle.toml_names.proofs.Common.{◌≡◌, map, take, option_map, address_at}
use Rattle.toml_names.proofs.tree.name_tree.NameTree.addresses_of.Given as goal

abbrev pub invariant-loop-node : goal.invariant-loop-node
invariant-loop-node l = l.list.items ≡ map (option_map (address_at l.self.nodes.items)) (take l.node-index l.nodes)
