-- What is written where the working tree stands for the lines of a tree.
use Rattle.std.proofs.Common.{◌≡◌, ◌∙◌, ◌+◌, ℕ, List, [], ◌∷◌, ◌++◌, ap, refl, map}
use Rattle.toml_names.specs.mentions.Mentions.{Named, named_by, root}
use Rattle.toml_tree.specs.Tree.{Line}
use Rattle.toml_tree.proofs.Proved.{text_is_spelled}
use Rattle.toml_layout.proofs.Proved.{lines_outlined_are}
use Rattle.toml_layout.specs.Outlines.{line_outlined, lines_outlined}
use Rattle.toml_working.specs.Standing.{Standing, standing, standing_from}
use Rattle.toml_layout.specs.TreeOutlines.{line_outline}
use Rattle.toml_working.specs.Writing.{LinesAreWritten, TextIsWritten}

-- the texts of lines, one behind the other
abbrev all_outlined : List Standing → List ℕ
all_outlined ss = lines_outlined (map (λ (s : Standing). s.outline) ss)

standing_outlined : (earlier : List Named) (n : ℕ) (ls : List Line) → all_outlined (standing_from earlier n ls) ≡ lines_outlined (map line_outline ls)
standing_outlined earlier n [] = refl
standing_outlined earlier n (l ∷ ls) = ap (λ r. line_outlined (line_outline l) ++ r) (standing_outlined (earlier ++ named_by earlier n l.expr) (n + 1) ls)

pub lines_are_written : LinesAreWritten
lines_are_written before mark read slots lines out written stands =
    written read (standing lines) stands ∙ ap (λ r. mark ++ r) (standing_outlined (root ∷ []) 0 lines ∙ lines_outlined_are lines)

pub text_is_written : TextIsWritten
text_is_written text d read slots out spelled written stands =
    lines_are_written text d.mark.text read slots d.lines out written stands ∙ text_is_spelled d text spelled
