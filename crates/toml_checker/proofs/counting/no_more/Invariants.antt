use Rattle.std.proofs.Common.{◌≡◌, ℕ, List, ◌+◌, take}
use Rattle.toml_checker.specs.Counts.{seen, count_of}
use Rattle.toml_checker.proofs.counting.no_more.Given as goal

abbrev pub invariant-loop-text : goal.invariant-loop-text
invariant-loop-text l = (t : List ℕ) → count_of l.left t + seen t (take l.text-index l.used) ≡ seen t l.allowed
