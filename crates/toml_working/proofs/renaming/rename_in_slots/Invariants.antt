use Rattle.toml_working.specs.Becoming.{SlotBecomes, renamed_below}
use Rattle.toml_working.specs.Starting.{read_of}
use Rattle.toml_working.proofs.OneByOne.{SoFar}
use Rattle.toml_working.proofs.renaming.rename_in_slots.Given as goal

abbrev pub invariant-loop-index : goal.invariant-loop-index
invariant-loop-index l =
    SoFar (SlotBecomes l.texts (read_of l.before) (renamed_below l.renaming)) l.index l.initial.slots.items l.slots.items
