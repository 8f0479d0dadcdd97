use Rattle.std.proofs.Common.{◌≡◌, ◌++◌, map, drop, string_bytes}
use Rattle.toml_tree.specs.Spells.{joined, all_parts, dotted_parts}
use Rattle.toml_tree.specs.View.{dotted}
use Rattle.toml_tree.proofs.text.push_key.Given as goal

abbrev pub invariant-loop-d : goal.invariant-loop-d
invariant-loop-d l = string_bytes l.out ++ joined (all_parts dotted_parts (map dotted (drop l.d-index l.d-items))) ≡ string_bytes l.initial.out ++ joined (all_parts dotted_parts (map dotted l.d-items))
