-- What a reader of lines has handed out of a text, and what it hands out next.
use Rattle.std.specs.Prelude.{◌≡◌, ◌<◌, ◌≤◌, ◌+◌, ℕ, List, [], ◌∷◌, ◌++◌, length, Option, Some, None, Result, Ok, Err}
use Rattle.toml_scalar.specs.declared.fault.SyntaxFault.{SyntaxFault}
use Rattle.toml_tree.specs.declared.line.Line as declared
use Rattle.toml_tree.specs.declared.line_reader.LineReader.{LineReader}
use Rattle.toml_tree.specs.declared.profile.Profile.{Profile}
use Rattle.toml_tree.specs.Document.{Refuses}
use Rattle.toml_tree.specs.Lines.{line}
use Rattle.toml_tree.specs.Loops.{Loop}
use Rattle.toml_tree.specs.Profiles.{SpellsIn}
use Rattle.toml_tree.specs.Reading.{Cursor, here, ahead}
use Rattle.toml_tree.specs.ReadingLines.{line_step}
use Rattle.toml_tree.specs.Reads.{cursor}
use Rattle.toml_tree.specs.Spells.{mark_of}
use Rattle.toml_tree.specs.Tree.{Piece, BlankLine, Doc, Line}
use Rattle.toml_tree.specs.declared.step.Step.{Step}
use Rattle.toml_tree.specs.declared.step.Step.TheVariants.{Next, Done}

-- where a text begins, and where its lines do
abbrev pub front_of : List ℕ → Cursor
front_of text = record { at = 0; rest = text }

abbrev pub lines_from : List ℕ → Cursor
lines_from text = ahead (length (mark_of text)) (front_of text)

-- the tree of these lines behind the mark of the text
abbrev pub tree_of : List ℕ → List Line → Doc
tree_of text lines = record { mark = here (length (mark_of text)) (front_of text); lines = lines }

-- the lines are all lines of the text in the profile; all but the last end in a newline, so there are not many
pub record AreLinesIn (profile : Profile) (text : List ℕ) (lines : List Line) : Type 0 where
  pub spelled : SpellsIn profile (tree_of text lines) text
  pub few : length lines ≤ length text + 1

-- the first lines of the text in the profile were handed out, if it has a tree, and the reader stands behind them, in the text;
-- each took a byte or more
pub record HandsOut (profile : Profile) (text : List ℕ) (front : List Line) (r : LineReader) : Type 0 where
  pub profile_is : r.profile ≡ profile
  pub behind : Loop (line_step profile) front (cursor r.reader) (lines_from text)
  pub few : length front ≤ r.reader.at
  pub within : r.reader.at ≤ length text

-- how many bytes are left
abbrev pub left : LineReader → ℕ
left r = length (cursor r.reader).rest

-- One line more was handed out, and less is left; or the last line, and all are the text's; a refusal says that no tree spells it.
abbrev pub HandsOn : Profile → List ℕ → List Line → ℕ → Result (declared.Line × Option LineReader) SyntaxFault → Type 0
HandsOn profile text front more (Ok (l, Some r)) = HandsOut profile text (front ++ line l ∷ []) r × (left r < more)
HandsOn profile text front more (Ok (l, None)) = AreLinesIn profile text (front ++ line l ∷ [])
HandsOn profile text front more (Err fault) = Refuses profile text fault

-- so it is whichever first lines of whichever text, in whichever profile, were handed out
abbrev pub HandsNext : LineReader → Result (declared.Line × Option LineReader) SyntaxFault → Type 0
HandsNext r result = (profile : Profile) (text : List ℕ) (front : List Line) → HandsOut profile text front r
    → HandsOn profile text front (left r) result

-- the line that a step read, and one of no bytes where there is none
abbrev pub line_read : Option (Step Line Line × Cursor) → Line
line_read (Some (Next l, c)) = l
line_read (Some (Done l, c)) = l
line_read None =
    let nothing : Piece = record { start = 0; text = [] } in
    record { expr = BlankLine (record { ws = nothing; comment = None }); newline = nothing }

-- the line that a reader hands out next, whenever it is asked
abbrev pub line_ahead : LineReader → Line
line_ahead r = line_read (line_step r.profile (cursor r.reader))
