use Rattle.std.proofs.Common.{◌≡◌, ℕ, ◌<◌, false}
use Rattle.toml_layout.specs.Items.{items_of}
use Rattle.toml_layout.specs.PairRemovals.{keeps_at}
use Rattle.toml_layout.proofs.texts.Texts.is_left.Given as goal

abbrev pub invariant-loop-index : goal.invariant-loop-index
invariant-loop-index l = (i : ℕ) → i < l.index → keeps_at l.parent l.steps (items_of l.pairs).list i ≡ false
