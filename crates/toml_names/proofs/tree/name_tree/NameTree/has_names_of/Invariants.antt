use Rattle.toml_names.proofs.Common.{take, EachIs}
use Rattle.toml_names.proofs.lemmas.tree.HeldBeside.{IsThere}
use Rattle.toml_names.proofs.tree.name_tree.NameTree.has_names_of.Given as goal

abbrev pub invariant-loop-place : goal.invariant-loop-place
invariant-loop-place l = EachIs (IsThere l.self.nodes.items l.id l.other.nodes.items l.set) (take l.place l.names)
