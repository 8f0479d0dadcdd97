use Rattle.std.proofs.Common.{◌≡◌, ℕ, List}
use Rattle.toml_working.proofs.Out.{SpelledSoFar}
use Rattle.toml_working.specs.Writing.{SpellAll, SpellsLine}
use Rattle.toml_working.proofs.pieces.Pieces.lines.Given as goal

abbrev pub invariant-loop-line : goal.invariant-loop-line
invariant-loop-line l =
    (l.self.before ≡ l.fn.self.before)
    × ((text : List ℕ) → SpellAll (SpellsLine l.fn.self.before) l.lines text
    → SpelledSoFar (SpellsLine l.fn.self.before) l.fn.self.out l.lines l.line-index l.self.out text)
