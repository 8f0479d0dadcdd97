use Rattle.toml_working.proofs.FlatData.{NoneHasTable}
use Rattle.toml_working.proofs.flat.is_flat.Given as goal

abbrev pub invariant-loop-member : goal.invariant-loop-member
invariant-loop-member l = NoneHasTable l.member-iterator → NoneHasTable l.initial.member-iterator
