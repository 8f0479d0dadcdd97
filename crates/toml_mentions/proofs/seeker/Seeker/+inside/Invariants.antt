use Rattle.std.proofs.Common.{◌≡◌, Some, map, take}
use Rattle.std.specs.List.{flat_map}
use Rattle.toml_tree.specs.View.{member}
use Rattle.toml_names.specs.model.Addresses.{Address}
use Rattle.toml_mentions.specs.Sought.{Sees, sights, way_to}
use Rattle.toml_mentions.proofs.Insides.{of_member}
use Rattle.toml_mentions.proofs.seeker.Seeker.+inside.Given as goal

abbrev pub invariant-value-loop-pair : goal.invariant-value-loop-pair
invariant-value-loop-pair l =
    (at : Address) → Some l.depth ≡ way_to l.initial.self.target.now at
    → Sees l.initial.self l.self (sights l.initial.self.target.now (flat_map (of_member at) (take l.pair-index (map member l.pair-items))))
