use Rattle.toml_names.proofs.Common.{◌≡◌, drop, is_above}
use Rattle.toml_names.proofs.model.address.Address.is_above.Given as goal

abbrev pub invariant-loop-index : goal.invariant-loop-index
invariant-loop-index l = is_above (drop l.index l.fn.self) (drop l.index l.fn.other) ≡ is_above l.fn.self l.fn.other
