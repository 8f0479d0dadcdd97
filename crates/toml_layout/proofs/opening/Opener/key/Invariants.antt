use Rattle.std.proofs.Common.{◌≡◌, ◌++◌, map, drop}
use Rattle.toml_tree.specs.View as tree
use Rattle.toml_layout.specs.OpenOutlines.{dotted}
use Rattle.toml_layout.specs.TreeOutlines.{dotted_outline}
use Rattle.toml_layout.proofs.opening.Opener.key.Given as goal

abbrev pub invariant-loop-dotted : goal.invariant-loop-dotted
invariant-loop-dotted l =
    map dotted l.rest.items ++ map dotted_outline (map tree.dotted (drop l.dotted-index l.dotted-items)) ≡ map dotted_outline (map tree.dotted l.dotted-items)
