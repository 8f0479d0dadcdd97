use Rattle.toml_names.proofs.lemmas.tree.OnWay.{IsOnWay}
use Rattle.toml_names.proofs.tree.name_tree.NameTree.walk.Given as goal

abbrev pub invariant-loop-step : goal.invariant-loop-step
invariant-loop-step l = IsOnWay l.self.nodes.items l.steps l.step-index l.here l.value
