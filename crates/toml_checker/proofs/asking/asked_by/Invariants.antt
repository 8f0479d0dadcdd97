use Rattle.std.proofs.Common.{◌≡◌, ◌-◌, length, drop}
use Rattle.toml_checker.specs.EditLists.{changes}
use Rattle.toml_checker.proofs.SoFar.{IsSoFar}
use Rattle.toml_checker.proofs.asking.asked_by.Given as goal

abbrev pub invariant-loop-count : goal.invariant-loop-count
invariant-loop-count l = record {
  later : l.later.edits.now ≡ drop (length l.edits - l.count) l.edits;
  found : IsSoFar l.fn.profile (changes l.later) l.debts l.written.items;
}
