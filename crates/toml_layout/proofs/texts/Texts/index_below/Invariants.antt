use Rattle.std.proofs.Common.{◌≡◌, ◌≤◌, ℕ, false}
use Rattle.toml_layout.specs.Items.{items_of}
use Rattle.toml_layout.specs.PairPlaces.{goes_on_at}
use Rattle.toml_layout.proofs.texts.Texts.index_below.Given as goal

abbrev pub invariant-loop-index : goal.invariant-loop-index
invariant-loop-index l = (j : ℕ) → l.index ≤ j → goes_on_at l.parent (items_of l.pairs).list j ≡ false

abbrev pub decreases-loop-index : goal.decreases-loop-index
decreases-loop-index l = l.index
