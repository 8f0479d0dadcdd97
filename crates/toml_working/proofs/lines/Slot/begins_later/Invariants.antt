use Rattle.std.proofs.Common.{◌≡◌, List, false, take}
use Rattle.std.specs.List.{list_any}
use Rattle.toml_tree.specs.Tree as tree
use Rattle.toml_working.specs.RemovingBelow.{is_later_line}
use Rattle.toml_working.specs.Seeing.{read_by}
use Rattle.toml_working.specs.Standing.{slot_standing}
use Rattle.toml_working.proofs.lines.Slot.begins_later.Given as goal

abbrev pub invariant-loop-index : goal.invariant-loop-index
invariant-loop-index l =
    (lines : List tree.Line) → list_any (is_later_line l.at) (take l.index (slot_standing (read_by l.units lines) l.self)) ≡ false
