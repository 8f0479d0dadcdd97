use Rattle.std.proofs.Common.{◌↔◌, drop}
use Rattle.toml_checker.specs.WrittenComments.{AnyWrites}
use Rattle.toml_checker.proofs.written.any_writes.Given as goal

abbrev pub invariant-loop-one : goal.invariant-loop-one
invariant-loop-one l = AnyWrites (drop l.one-index l.written) l.at l.text ↔ AnyWrites l.written l.at l.text
