use Rattle.std.proofs.Common.{◌≡◌, ◌++◌, take}
use Rattle.toml_checker.proofs.written.push_all.Given as goal

abbrev pub invariant-loop-text : goal.invariant-loop-text
invariant-loop-text l = l.all.items ≡ l.fn.all.items ++ take l.text-index l.texts
