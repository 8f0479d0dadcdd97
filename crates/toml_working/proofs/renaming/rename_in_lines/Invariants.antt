use Rattle.toml_layout.specs.KnownLines.{lines_known}
use Rattle.toml_working.specs.Becoming.{LineBecomes, renamed_below}
use Rattle.toml_working.proofs.OneByOne.{SoFar}
use Rattle.toml_working.proofs.renaming.rename_in_lines.Given as goal

abbrev pub invariant-loop-index : goal.invariant-loop-index
invariant-loop-index l =
    SoFar (LineBecomes l.texts (lines_known l.known) (renamed_below l.renaming)) l.index l.initial.lines.items l.lines.items
