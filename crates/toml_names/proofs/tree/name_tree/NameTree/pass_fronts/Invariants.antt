use Rattle.toml_names.proofs.Common.{piece, PassedFronts, part_name, GoesOn}
use Rattle.toml_names.proofs.lemmas.tree.EnterFronts.{first_names}
use Rattle.toml_names.proofs.tree.name_tree.NameTree.pass_fronts.Given as goal

abbrev pub invariant-loop-dotted : goal.invariant-loop-dotted
invariant-loop-dotted l = record {
  passed : PassedFronts l.initial.self.nodes.items l.self.nodes.items l.line l.here (part_name (piece l.part)) (first_names (part_name (piece l.key.first)) l.dotted-items l.dotted-index);
  goes_on : GoesOn l.dotted-index l.initial.self l.self;
}
