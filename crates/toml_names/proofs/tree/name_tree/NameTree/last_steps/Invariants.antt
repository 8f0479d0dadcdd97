use Rattle.toml_names.proofs.Common.{◌≡◌, length, AreSteps}
use Rattle.toml_names.proofs.tree.name_tree.NameTree.last_steps.Given as goal

abbrev pub invariant-loop-id : goal.invariant-loop-id
invariant-loop-id l = record {
  each : length l.steps.items ≡ l.id;
  shared : AreSteps l.self.nodes.items l.steps.items;
}
