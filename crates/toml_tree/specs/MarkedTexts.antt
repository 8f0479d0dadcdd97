-- A document's text, by its mark and its lines.
use Rattle.std.specs.Prelude.{◌≡◌, ◌++◌, ℕ, List, length}
use Rattle.std.specs.Str.{IsCharBoundary}
use Rattle.toml_text.specs.Limit.{IsText}
use Rattle.toml_tree.specs.Spells.{Spells, joined, lines_parts, mark_of}
use Rattle.toml_tree.specs.Tree.{Doc}

-- Laws: the text is the mark, or nothing, and the lines behind it,
abbrev pub TextIsSpelled : Type 0
TextIsSpelled = (d : Doc) (text : List ℕ) → Spells d text → d.mark.text ++ joined (lines_parts d.lines) ≡ text

-- and these begin where a character does.
abbrev pub MarkEndsAtChar : Type 0
MarkEndsAtChar = (text : List ℕ) → IsText text → IsCharBoundary text (length (mark_of text))
