use Rattle.std.proofs.Common.{◌≡◌, false, take}
use Rattle.std.specs.List.{list_any}
use Rattle.toml_text.specs.Source.{text_of}
use Rattle.toml_tree.specs.Spells.{EachIs}
use Rattle.toml_working.specs.Standing.{is_below, slots_standing}
use Rattle.toml_working.specs.Starting.{read_of}
use Rattle.toml_working.specs.Stands.{SlotKept}
use Rattle.toml_working.proofs.BelowOut.{TakenTo}
use Rattle.toml_working.proofs.taking.remove_in_slots.Given as goal

abbrev pub invariant-loop-index : goal.invariant-loop-index
invariant-loop-index l = let read = read_of l.before in let old = l.fn.slots.items in EachIs (SlotKept (text_of l.texts.source) read) old
    → list_any (is_below l.at) (slots_standing read (take l.first old)) ≡ false
    → TakenTo l.texts read l.at l.fn.parent.address l.fn.parent.stays l.index old l.slots.items l.parent.address l.parent.stays l.is_met
