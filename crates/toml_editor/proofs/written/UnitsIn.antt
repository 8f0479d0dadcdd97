-- An element and a pair: their units, and those of what is in them.
use Rattle.std.proofs.Common.{ℕ, List, ◌∷◌}
use Rattle.toml_tree.specs.Tree.{Assign, Value}
use Rattle.toml_names.specs.mentions.Keys.{key_names}
use Rattle.toml_names.specs.model.Addresses.{Address, element, below}
use Rattle.toml_units.specs.Units.{TextUnit, element_unit, pair_unit, inside}

abbrev pub of_element : Address → ℕ → Value → List TextUnit
of_element at i v = element_unit (element at i) v ∷ inside (element at i) v

abbrev pub of_pair : Address → Assign → Value → List TextUnit
of_pair at a v = pair_unit at (record { assign = a; value = v }) ∷ inside (below at (key_names a.key)) v
