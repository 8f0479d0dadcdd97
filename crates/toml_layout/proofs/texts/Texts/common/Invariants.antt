use Rattle.std.proofs.Common.{◌≡◌, ◌+◌, drop}
use Rattle.toml_layout.specs.Leading.{in_common, open_names, open_rest}
use Rattle.toml_layout.proofs.texts.Texts.common.Given as goal

abbrev pub invariant-loop-index : goal.invariant-loop-index
invariant-loop-index l = in_common (open_names l.key) l.steps ≡ (l.index + 1) + in_common (open_rest (drop l.index l.dotted-items)) (drop (l.index + 1) l.steps)
