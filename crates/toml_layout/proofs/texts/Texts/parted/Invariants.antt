use Rattle.std.proofs.Common.{take}
use Rattle.toml_layout.specs.PartOutlines.{IsParted}
use Rattle.toml_layout.proofs.texts.Texts.parted.Given as goal

abbrev pub invariant-loop-part : goal.invariant-loop-part
invariant-loop-part l = IsParted (take l.part-index l.part-items) l.parted.parts.items
