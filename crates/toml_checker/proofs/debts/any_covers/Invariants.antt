use Rattle.std.proofs.Common.{◌↔◌, drop}
use Rattle.toml_checker.specs.Debts.{AnyCovers}
use Rattle.toml_checker.proofs.debts.any_covers.Given as goal

abbrev pub invariant-loop-debt : goal.invariant-loop-debt
invariant-loop-debt l = AnyCovers (drop l.debt-index l.debts) l.at ↔ AnyCovers l.debts l.at
