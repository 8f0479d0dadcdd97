use Rattle.std.proofs.Common.{◌≡◌, map, string_bytes, take}
use Rattle.toml_layout.specs.NewKeys.{bare_part}
use Rattle.toml_layout.specs.OpenOutlines.{dotted}
use Rattle.toml_layout.proofs.tree.Key.of.Given as goal

abbrev pub invariant-loop-part : goal.invariant-loop-part
invariant-loop-part l =
    (l.key.first ≡ l.initial.key.first) × (map dotted l.key.rest.items ≡ map bare_part (map string_bytes (take l.part-index l.others)))
