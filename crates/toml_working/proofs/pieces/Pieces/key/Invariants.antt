use Rattle.std.proofs.Common.{◌≡◌, ◌++◌, map, drop}
use Rattle.toml_layout.specs.OpenOutlines.{dotted}
use Rattle.toml_layout.specs.Outlines.{dotted_outlined}
use Rattle.toml_working.proofs.pieces.Pieces.key.Given as goal

abbrev pub invariant-loop-dotted : goal.invariant-loop-dotted
invariant-loop-dotted l =
    (l.self.before ≡ l.initial.self.before)
    × (l.self.out ++ dotted_outlined (map dotted (drop l.dotted-index l.dotted-items)) ≡ l.initial.self.out ++ dotted_outlined (map dotted l.dotted-items))
