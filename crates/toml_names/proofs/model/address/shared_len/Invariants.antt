use Rattle.toml_names.proofs.Common.{◌≡◌, ◌≤◌, length, take}
use Rattle.toml_names.proofs.model.address.shared_len.Given as goal

abbrev pub invariant-loop-index : goal.invariant-loop-index
invariant-loop-index l = (l.index ≤ length l.other) × (take l.index l.one ≡ take l.index l.other)
