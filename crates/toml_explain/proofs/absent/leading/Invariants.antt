use Rattle.std.specs.Prelude.{IfSome}
use Rattle.toml_names.specs.reader.Parts.{IsPart}
use Rattle.toml_explain.proofs.absent.leading.Given as goal

abbrev pub invariant-loop-place_step : goal.invariant-loop-place_step
invariant-loop-place_step l = IfSome l.part (IsPart l.names)
