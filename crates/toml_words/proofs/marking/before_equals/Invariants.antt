use Rattle.std.proofs.Common.{◌≡◌, ◌++◌, take, drop}
use Rattle.toml_words.specs.Marking.{before_equals}
use Rattle.toml_words.proofs.marking.before_equals.Given as goal

abbrev pub invariant-loop-i : goal.invariant-loop-i
invariant-loop-i l = take l.i l.bytes ++ before_equals (drop l.i l.bytes) ≡ before_equals l.bytes
