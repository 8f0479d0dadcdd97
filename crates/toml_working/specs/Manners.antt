-- What new text is written by.
use Rattle.std.specs.Prelude.{ℕ, Bool, false, List, [], ◌∷◌, length, ◌==◌, if◌then◌else◌}
use Rattle.toml_tree.specs.Spells.{joined, lines_parts}
use Rattle.toml_tree.specs.Tree.{Line}
use Rattle.toml_layout.specs.declared.layout.Layout.{Layout}

-- the newline of new lines, how new text is laid out, and whether a blank line may be written before a header line
pub record Manner : Type 0 where
  pub newline : List ℕ
  pub layout : Layout
  pub may_blank : Bool

-- the newline of the first line, or LF where there is none
abbrev pub style_of : List Line → List ℕ
style_of [] = 0x0A ∷ []
style_of (l ∷ ls) = if length l.newline.text == 0 then 0x0A ∷ [] else l.newline.text

-- whether a text ends in a newline
abbrev pub ends_in_newline : List ℕ → Bool
ends_in_newline [] = false
ends_in_newline (b ∷ []) = b == 0x0A
ends_in_newline (b ∷ c ∷ bs) = ends_in_newline (c ∷ bs)

-- what is written by at first, where the text before all edits has these lines: a blank line may be written where it ends in a newline
abbrev pub manner_of : Layout → List Line → Manner
manner_of layout lines = record { newline = style_of lines; layout = layout; may_blank = ends_in_newline (joined (lines_parts lines)) }
