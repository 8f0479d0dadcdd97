use Rattle.toml_names.proofs.Common.{◌≡◌, vec_len, undone}
use Rattle.toml_names.proofs.tree.name_tree.NameTree.undo.Given as goal

abbrev pub invariant-loop-change : goal.invariant-loop-change
invariant-loop-change l = record {
  nodes : undone l.self.changes.items l.self.nodes.items ≡ undone l.initial.self.changes.items l.initial.self.nodes.items;
  lookups : l.self.lookups ≡ l.initial.self.lookups;
}

abbrev pub decreases-loop-change : goal.decreases-loop-change
decreases-loop-change l = vec_len l.self.changes
