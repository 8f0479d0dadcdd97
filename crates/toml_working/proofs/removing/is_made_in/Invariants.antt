use Rattle.std.proofs.Common.{◌≡◌, List, false, take}
use Rattle.std.specs.List.{list_any}
use Rattle.toml_tree.specs.Tree as tree
use Rattle.toml_working.specs.Seeing.{read_by}
use Rattle.toml_working.proofs.MadeBeside.{has_maker}
use Rattle.toml_working.proofs.removing.is_made_in.Given as goal

abbrev pub invariant-loop-slot : goal.invariant-loop-slot
invariant-loop-slot l =
    (lines : List tree.Line) → list_any (has_maker l.address l.other (read_by l.units lines)) (take l.slot-index l.slots) ≡ false
