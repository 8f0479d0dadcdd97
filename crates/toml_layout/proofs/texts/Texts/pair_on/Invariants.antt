use Rattle.std.proofs.Common.{◌≡◌, ℕ, ◌<◌, None}
use Rattle.toml_layout.specs.Leading.{key_in, led_by}
use Rattle.toml_layout.specs.OpenOutlines.{entries}
use Rattle.toml_layout.proofs.texts.Texts.pair_on.Given as goal

abbrev pub invariant-loop-index : goal.invariant-loop-index
invariant-loop-index l = (i : ℕ) → i < l.index → led_by (key_in (entries l.pairs).entries i) l.steps ≡ None
