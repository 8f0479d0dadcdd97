use Rattle.std.proofs.Common.{◌≡◌, ◌++◌, List, length}
use Rattle.toml_layout.specs.declared.tree.GapPart.{GapPart}
use Rattle.toml_layout.specs.OpenOutlines.{leaf_text}
use Rattle.toml_layout.specs.PartOutlines.{outlined}
use Rattle.toml_layout.specs.Parts.{AreParts, PartOutline}
use Rattle.toml_layout.proofs.tree.Gap.add_lines.Given as goal

abbrev pub invariant-loop-rest : goal.invariant-loop-rest
invariant-loop-rest l =
    (own : List GapPart) × (l.self.parts.items ≡ l.initial.self.parts.items ++ own)
    × ((qs : List PartOutline) → AreParts (leaf_text l.rest) qs → AreParts (leaf_text l.fn.lines) (outlined own ++ qs))

abbrev pub decreases-loop-rest : goal.decreases-loop-rest
decreases-loop-rest l = length (leaf_text l.rest)
