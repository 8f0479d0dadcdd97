use Rattle.toml_names.proofs.Common.{◌≡◌, drop, same_address}
use Rattle.toml_names.proofs.model.address.Address.is_same.Given as goal

abbrev pub invariant-loop-index : goal.invariant-loop-index
invariant-loop-index l = same_address (drop l.index l.fn.self) (drop l.index l.fn.other) ≡ same_address l.fn.self l.fn.other
