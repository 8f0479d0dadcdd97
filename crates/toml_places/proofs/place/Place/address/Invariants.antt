use Rattle.std.proofs.Common.{drop}
use Rattle.toml_names.specs.reader.Parts.{part_kinds}
use Rattle.toml_places.proofs.Led.{Led}
use Rattle.toml_places.proofs.place.Place.address.Given as goal

abbrev pub invariant-loop-place_step : goal.invariant-loop-place_step
invariant-loop-place_step l = Led (part_kinds l.names 0) l.place_step-items l.names l.steps.items (drop l.place_step-index l.place_step-items) l.part
