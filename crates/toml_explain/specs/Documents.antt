-- Where the explanation of a text that is no document begins.
use Rattle.std.specs.Prelude.{◌≡◌, ◌≢◌, ◌⊎◌, ◌<◌, ◌≤◌, ◌+◌, ◌-◌, ℕ, List, [], ◌∷◌, ◌++◌, Option, Some, None, slice_get}
use Rattle.toml_text.specs.Limit.{IsText}
use Rattle.toml_tree.specs.HandedOut.{AreLinesIn, HandsOut, left}
use Rattle.toml_tree.specs.Pieces.{expr_start}
use Rattle.toml_tree.specs.Profiles.{SpelledByNone}
use Rattle.toml_tree.specs.Tree.{Piece, Expr, BlankLine, KeyValLine, TableLine, ArrayTableLine, Line}
use Rattle.toml_tree.specs.declared.line_reader.LineReader.{LineReader}
use Rattle.toml_tree.specs.declared.profile.Profile.{Profile}
use Rattle.toml_names.specs.reader.Texts.{AreLeft, more_left}
use Rattle.toml_mentions.specs.Mentioned.{StandsForOffence}
use Rattle.toml_mentions.specs.Redefined.{AreClashing, found_clash}
use Rattle.toml_mentions.specs.Sought.{Sight}
use Rattle.toml_mentions.specs.declared.redefined.Redefined.{Redefined}
use Rattle.toml_units.specs.Ends.{expr_end}
use Rattle.toml_explain.specs.declared.spans.LineSpans.{LineSpans}
use Rattle.toml_explain.specs.Excerpts.{EndsInBoth, EndsInLine, HasLineOf}
use Rattle.toml_explain.specs.Openings.{OpensAt, OpensBare, OpensInFile}

-- The text begins with the line and the column of a place of the bytes, and ends in the line of that place; or it begins with the word alone.
abbrev pub ShowsInFile : List ℕ → List ℕ → List ℕ → Type 0
ShowsInFile word bytes text = ((at : ℕ) × OpensAt word bytes at text × EndsInLine bytes at text) ⊎ OpensBare word text

-- So it begins, and has the line of that place, with more behind it.
abbrev pub ShowsMoreInFile : List ℕ → List ℕ → List ℕ → Type 0
ShowsMoreInFile word bytes text = ((at : ℕ) × OpensAt word bytes at text × HasLineOf bytes at text) ⊎ OpensBare word text

-- the line of a text of the profile that has the number, from 0
pub record HasLine (profile : Profile) (bytes : List ℕ) (number : ℕ) (l : Line) : Type 0 where
  pub text : IsText bytes
  pub lines : List Line
  pub are : AreLinesIn profile bytes lines
  pub here : slice_get lines number ≡ Some l

-- where the key of a line begins; of a blank line there is none, and the place is its start
abbrev pub key_start : Expr → ℕ
key_start (BlankLine b) = b.ws.start
key_start (KeyValLine ws k b) = k.assign.key.first.start
key_start (TableLine ws h b) = h.key.first.start
key_start (ArrayTableLine ws h b) = h.key.first.start

-- The text begins with the line and the column of the key of that line.
abbrev pub OpensAtKey : Profile → List ℕ → List ℕ → ℕ → List ℕ → Type 0
OpensAtKey profile word bytes number text = (l : Line) → HasLine profile bytes number l → OpensAt word bytes (key_start l.expr) text

-- It ends in the line of that key.
abbrev pub ShowsKey : Profile → List ℕ → ℕ → List ℕ → Type 0
ShowsKey profile bytes number text = (l : Line) → HasLine profile bytes number l → EndsInLine bytes (key_start l.expr) text

-- It begins with the line and the column of a place in the expression of that line, or directly behind it.
pub record OpensIn (word bytes : List ℕ) (e : Expr) (text : List ℕ) : Type 0 where
  pub at : ℕ
  pub low : expr_start e ≤ at
  pub high : at ≤ expr_end e
  pub opens : OpensAt word bytes at text

abbrev pub OpensInLine : Profile → List ℕ → List ℕ → ℕ → List ℕ → Type 0
OpensInLine profile word bytes number text = (l : Line) → HasLine profile bytes number l → OpensIn word bytes l.expr text

-- It begins with the line and the column of the key part that stands for the first mention of that line which breaks the table rules.
abbrev pub OpensAtOffence : Profile → List ℕ → List ℕ → ℕ → List ℕ → Type 0
OpensAtOffence profile word bytes number text = (p : Piece) → StandsForOffence profile bytes number p → OpensAt word bytes p.start text

-- It ends in the line of that mention, and in that of the earliest mention which forbids it, below which that is said.
abbrev pub ShowsClash : Profile → List ℕ → ℕ → List ℕ → Type 0
ShowsClash profile bytes number text = (first again : Sight) → AreClashing profile bytes number first again → EndsInBoth bytes first.span.start again.span.start text

-- the same of the two mentions that were found
abbrev pub EndsInFound : List ℕ → Option Redefined → List ℕ → Type 0
EndsInFound bytes found text = (first again : Sight) → found_clash found ≡ Some (first, again) → EndsInBoth bytes first.span.start again.span.start text

-- what is told of a name that is defined again in that line
pub record OpensTwice (profile : Profile) (word bytes : List ℕ) (number : ℕ) (text : List ℕ) : Type 0 where
  pub inside : OpensInLine profile word bytes number text
  pub offence : OpensAtOffence profile word bytes number text
  pub clash : ShowsClash profile bytes number text

-- The text begins as the code and the place of a refusal ask: with the line and the column of the byte; with the word alone, of a text that
-- is too long; with those of the key part whose mention breaks the rules, in the line, of a name that is defined again; with those of the
-- line's key, of a long address. Below that stands the line of that byte or that key. Lines are counted from 1 here.
pub record OpensAs (profile : Profile) (word bytes : List ℕ) (code place : ℕ) (text : List ℕ) : Type 0 where
  pub file : OpensInFile word bytes text
  pub byte : code ≢ 102 → code ≢ 201 → code ≢ 203 → OpensAt word bytes place text
  pub byte_below : code ≢ 102 → code ≢ 201 → code ≢ 203 → EndsInLine bytes place text
  pub long : code ≡ 102 → OpensBare word text
  pub twice : code ≡ 201 → OpensTwice profile word bytes (place - 1) text
  pub key : code ≡ 203 → OpensAtKey profile word bytes (place - 1) text
  pub key_below : code ≡ 203 → ShowsKey profile bytes (place - 1) text

-- the spans of an expression
pub record AreSpansOf (e : Expr) (s : LineSpans) : Type 0 where
  pub key : s.key.start ≡ key_start e
  pub start : s.whole.start ≡ expr_start e
  pub stop : s.whole.end ≡ expr_end e

-- The spans of one line more, and what is left behind it; or the text has no tree. It is so whichever first lines of whichever text
-- were handed out before.
abbrev pub ReadsSpans : LineReader → Option (LineSpans × Option LineReader) → Type 0
ReadsSpans r (Some read) = (profile : Profile) (text : List ℕ) (front : List Line) → HandsOut profile text front r
    → (l : Line) × AreSpansOf l.expr read.0 × AreLeft profile text (front ++ l ∷ []) read.1 × (more_left read.1 < left r + 1)
ReadsSpans r None = (profile : Profile) (text : List ℕ) (front : List Line) → HandsOut profile text front r → SpelledByNone profile text

-- the spans are those of the line with the number, where there is one
abbrev pub Finds : List Line → ℕ → LineSpans → Type 0
Finds lines number s = (l : Line) → slice_get lines number ≡ Some l → AreSpansOf l.expr s

abbrev pub AreSpansIn : Profile → List ℕ → ℕ → LineSpans → Type 0
AreSpansIn profile text number s = (lines : List Line) → AreLinesIn profile text lines → Finds lines number s

abbrev pub AreSpansAt : Profile → List ℕ → ℕ → LineSpans → Type 0
AreSpansAt profile bytes number s = (l : Line) → HasLine profile bytes number l → AreSpansOf l.expr s
