use Rattle.std.specs.Prelude.{IfSome}
use Rattle.toml_explain.specs.Standing.{IsNearest}
use Rattle.toml_explain.proofs.standing.nearest.Given as goal

abbrev pub invariant-loop-member : goal.invariant-loop-member
invariant-loop-member l = IfSome l.best (IsNearest l.members l.name)
