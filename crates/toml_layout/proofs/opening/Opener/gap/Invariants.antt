use Rattle.std.proofs.Common.{◌≡◌, ◌++◌, ℕ, List, map, drop}
use Rattle.toml_tree.specs.View.{gap_line}
use Rattle.toml_layout.specs.OpenOutlines.{gap_read}
use Rattle.toml_layout.specs.TreeOutlines.{lines_with}
use Rattle.toml_layout.proofs.opening.Opener.gap.Given as goal

abbrev pub invariant-loop-line : goal.invariant-loop-line
invariant-loop-line l =
    (ws : List ℕ) → gap_read l.opened ++ lines_with (map gap_line (drop l.line-index l.line-items)) ws ≡ lines_with (map gap_line l.line-items) ws
