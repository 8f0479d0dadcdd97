use Rattle.std.proofs.Common.{drop}
use Rattle.toml_names.specs.reader.Parts.{part_kinds}
use Rattle.toml_places.proofs.LedTo.{LedTo}
use Rattle.toml_places.proofs.leading.part_at.Given as goal

abbrev pub invariant-loop-step : goal.invariant-loop-step
invariant-loop-step l = LedTo (part_kinds l.names 0) l.at l.names (drop l.step-index l.at) l.part
