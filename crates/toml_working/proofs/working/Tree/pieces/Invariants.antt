use Rattle.std.proofs.Common.{◌≡◌, ℕ, List}
use Rattle.toml_working.proofs.Out.{SpelledSoFar}
use Rattle.toml_working.specs.Writing.{SpellAll, SpellsSlot}
use Rattle.toml_working.proofs.working.Tree.pieces.Given as goal

abbrev pub invariant-loop-slot : goal.invariant-loop-slot
invariant-loop-slot l =
    (l.pieces.before ≡ l.initial.pieces.before)
    × ((text : List ℕ) → SpellAll (SpellsSlot l.initial.pieces.before) l.slot-items text
    → SpelledSoFar (SpellsSlot l.initial.pieces.before) l.initial.pieces.out l.slot-items l.slot-index l.pieces.out text)
