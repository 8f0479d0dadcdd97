-- The working tree of a document that is as it was.
use Rattle.std.specs.Prelude.{◌≡◌, ◌↔◌, ◌⊎◌, ◌+◌, ℕ, true, false, List, [], None, Some, length, map, slice_get, Option, IsTrue, MatchOption}
use Rattle.toml_text.specs.Limit.{IsText}
use Rattle.toml_text.specs.Source.{text_of}
use Rattle.toml_tree.specs.HandedOut.{tree_of}
use Rattle.toml_layout.specs.KnownLines.{lines_known}
use Rattle.toml_tree.specs.Pieces.{expr_start}
use Rattle.toml_tree.specs.Spells.{Spells}
use Rattle.toml_tree.specs.Tree.{Line}
use Rattle.toml_units.specs.declared.unit.Unit.{Unit as TextUnit}
use Rattle.toml_units.specs.Places.{is_line}
use Rattle.toml_units.specs.Plain.{spanned}
use Rattle.toml_units.specs.Units.{units}
use Rattle.toml_units.specs.View.{all_units}
use Rattle.toml_working.specs.declared.elements.Elements.{Elements}
use Rattle.toml_working.specs.declared.lines.Kept.{Kept}
use Rattle.toml_working.specs.declared.lines.Slot.{Slot}
use Rattle.toml_working.specs.declared.reading.LineFacts.{LineFacts}
use Rattle.toml_layout.specs.declared.texts.Texts.{Texts}
use Rattle.toml_working.specs.declared.working.Before.{Before}
use Rattle.toml_working.specs.declared.working.Tree.{Tree}
use Rattle.toml_layout.specs.OpenOutlines.{leaf_text}
use Rattle.toml_working.specs.Reading.{fact_of}
use Rattle.toml_working.specs.Standing.{Read, standing}
use Rattle.toml_working.specs.Stands.{Stands}
use Rattle.toml_working.specs.Manners.{style_of}

-- the document as the working tree looks at it, by its units and its lines
abbrev pub read_of : Before → Read
read_of before = record { units = before.units.now; lines = lines_known before.known.now }

-- it is read of the text: its tree spells that, and its units are those of its lines
pub record IsReadOf (text : List ℕ) (before : Before) : Type 0 where
  pub within : IsText text
  pub spelled : Spells (tree_of text (read_of before).lines) text
  pub units : all_units before.units.now ≡ map spanned (units (read_of before).lines)

-- the facts are those of its lines
abbrev pub AreFacts : Before → List LineFacts → Type 0
AreFacts before facts = facts ≡ map fact_of (read_of before).lines

-- the slots stand for the lines of the document
abbrev pub StandAsRead : List ℕ → Before → List Slot → Type 0
StandAsRead text before slots = Stands text (read_of before) slots (standing (read_of before).lines)

-- so it is of whatever document has these units and these facts
abbrev pub StandForUnits : List TextUnit → List LineFacts → List Slot → Type 0
StandForUnits us facts slots = (text : List ℕ) (before : Before) → before.units.now ≡ us → AreFacts before facts → IsReadOf text before
    → StandAsRead text before slots

-- what is kept of a line: where it stands, and what it is
pub record IsKeptOf (l : Line) (kept : Kept) : Type 0 where
  pub start : kept.span.start ≡ expr_start l.expr
  pub end : kept.span.end ≡ l.newline.start + length l.newline.text
  pub last : IsTrue kept.is_last ↔ (l.newline.text ≡ [])

-- The unit is a line, and of the line with this number it is kept what it is.
pub record KeepsLine (lines : List Line) (number : ℕ) (u : TextUnit) (first : ℕ) (kept : Kept) : Type 0 where
  pub own : is_line u.kind ≡ true
  pub begins : kept.first ≡ first
  pub counts : kept.line ≡ number
  pub line : Line
  pub is : slice_get lines number ≡ Some line
  pub says : IsKeptOf line kept

-- a unit that is no line has no line of its own, and lines may be too few
abbrev pub TakesLine : List Line → ℕ → TextUnit → ℕ → Option Kept → Type 0
TakesLine lines number u first found =
    MatchOption found ((is_line u.kind ≡ false) ⊎ (slice_get lines number ≡ None)) (KeepsLine lines number u first)

-- none was taken out
abbrev pub NoneIsGone : Elements → Type 0
NoneIsGone elements = elements.gone.items ≡ []

-- the tree is that of the document in these texts, as it was read, and new lines end as its first one, in LF where that has no newline
pub record IsAsRead (texts : Texts) (before : Before) (tree : Tree) : Type 0 where
  pub stands : StandAsRead (text_of texts.source) before tree.slots.items
  pub texts_are : tree.texts ≡ texts
  pub elements : NoneIsGone tree.elements
  pub style : leaf_text tree.style ≡ style_of (lines_known before.known.now)
  pub blank : tree.has_written_blank ≡ false
