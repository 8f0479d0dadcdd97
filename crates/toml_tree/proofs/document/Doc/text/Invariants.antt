use Rattle.std.proofs.Common.{◌≡◌, ◌++◌, map, drop, string_bytes}
use Rattle.toml_tree.specs.Spells.{joined, all_parts, line_parts}
use Rattle.toml_tree.specs.Lines.{line}
use Rattle.toml_tree.proofs.document.Doc.text.Given as goal

abbrev pub invariant-loop-l : goal.invariant-loop-l
invariant-loop-l l = string_bytes l.out ++ joined (all_parts line_parts (map line (drop l.l-index l.l-items))) ≡ string_bytes l.initial.out ++ joined (all_parts line_parts (map line l.l-items))
