use Rattle.toml_names.specs.model.AddressSets.{is_hidden}
use Rattle.toml_edits.proofs.NearAddresses.{AreGathered}
use Rattle.toml_edits.proofs.near.near_addresses.Given as goal

abbrev pub invariant-loop-edit : goal.invariant-loop-edit
invariant-loop-edit l = AreGathered l.edits l.edit-index (is_hidden l.set)
