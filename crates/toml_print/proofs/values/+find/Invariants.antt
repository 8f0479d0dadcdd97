use Rattle.std.proofs.Common.{map, drop}
use Rattle.toml_tree.specs.View.{member}
use Rattle.toml_print.proofs.Found.{AreLater}
use Rattle.toml_print.proofs.values.+find.Given as goal

abbrev pub invariant-find_in_pairs-loop-pair : goal.invariant-find_in_pairs-loop-pair
invariant-find_in_pairs-loop-pair l = AreLater l.steps (map member l.pairs) (map member (drop l.pair-index l.pairs))
