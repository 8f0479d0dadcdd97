use Rattle.toml_names.proofs.Common.{◌≡◌, drop, lookup, bytes_eq, children_of}
use Rattle.toml_names.proofs.tree.name_map.find.Given as goal

abbrev pub invariant-loop-known : goal.invariant-loop-known
invariant-loop-known l = lookup (bytes_eq l.name) (children_of (drop l.known-index l.few)) ≡ lookup (bytes_eq l.name) (children_of l.few)
