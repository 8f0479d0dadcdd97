use Rattle.std.proofs.Common.{◌≡◌, List, false, take}
use Rattle.std.specs.List.{list_any}
use Rattle.toml_tree.specs.Tree as tree
use Rattle.toml_working.specs.Seeing.{read_by}
use Rattle.toml_working.specs.Standing.{holds, slots_standing}
use Rattle.toml_working.proofs.working.Tree.sought_value.Given as goal

abbrev pub invariant-loop-slot : goal.invariant-loop-slot
invariant-loop-slot l =
    (lines : List tree.Line) → list_any (holds l.at) (slots_standing (read_by l.before.units.now lines) (take l.slot l.self.slots.items)) ≡ false
