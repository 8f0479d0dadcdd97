use Rattle.std.proofs.Common.{◌≡◌, take}
use Rattle.toml_layout.specs.Items.{items_of}
use Rattle.toml_layout.specs.PairRemovals.{marks_at}
use Rattle.toml_layout.proofs.texts.Texts.marks_at.Given as goal

abbrev pub invariant-loop-index : goal.invariant-loop-index
invariant-loop-index l = l.marks.items ≡ marks_at l.steps (take l.index (items_of l.pairs).list)
