use Rattle.std.proofs.Common.{◌≡◌, take}
use Rattle.toml_print.proofs.values.behind.Given as goal

abbrev pub invariant-loop-index : goal.invariant-loop-index
invariant-loop-index l = take l.index l.front ≡ take l.index l.steps
