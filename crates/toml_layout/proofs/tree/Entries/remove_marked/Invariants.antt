use Rattle.std.proofs.Common.{◌≤◌, drop}
use Rattle.toml_layout.specs.Items.{Items, items_of}
use Rattle.toml_layout.specs.Takings.{TakesAll}
use Rattle.toml_layout.proofs.TakenMarks.{behind_stayed}
use Rattle.toml_layout.proofs.tree.Entries.remove_marked.Given as goal

abbrev pub invariant-loop-is_marked : goal.invariant-loop-is_marked
invariant-loop-is_marked l =
    (l.index ≤ l.is_marked-index)
    × ((new : Items) → TakesAll l.texts.layout (behind_stayed l.index (drop l.is_marked-index l.marks)) (items_of l.self) new
    → TakesAll l.texts.layout l.marks (items_of l.initial.self) new)
