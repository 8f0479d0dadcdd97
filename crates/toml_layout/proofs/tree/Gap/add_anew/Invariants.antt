use Rattle.std.proofs.Common.{◌≡◌, ◌++◌, take}
use Rattle.toml_layout.specs.PartOutlines.{outlined}
use Rattle.toml_layout.proofs.tree.Gap.add_anew.Given as goal

abbrev pub invariant-loop-part : goal.invariant-loop-part
invariant-loop-part l = outlined l.self.parts.items ≡ outlined l.initial.self.parts.items ++ outlined (take l.part-index l.parts)
