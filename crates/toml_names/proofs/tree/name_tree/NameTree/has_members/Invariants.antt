use Rattle.toml_names.proofs.lemmas.tree.HeldBeside.{HasEachNamed}
use Rattle.toml_names.proofs.tree.name_tree.NameTree.has_members.Given as goal

abbrev pub invariant-loop-name : goal.invariant-loop-name
invariant-loop-name l = HasEachNamed l.self.nodes.items l.id l.set l.name-iterator → HasEachNamed l.self.nodes.items l.id l.set l.initial.name-iterator
