-- What is read of a text line by line.
use Rattle.std.specs.Prelude.{◌≡◌, ◌<◌, ◌≤◌, ◌+◌, ◌∷◌, ◌++◌, [], ℕ, List, length, Option, Some, None, Result, Ok, Err, IfOk}
use Rattle.std.specs.declared.alloc.AllocError.{AllocError}
use Rattle.std.specs.Borrow.{Bor}
use Rattle.toml_tree.specs.HandedOut.{AreLinesIn, HandsNext, HandsOut, left}
use Rattle.toml_scalar.specs.declared.fault.SyntaxFault.{SyntaxFault}
use Rattle.toml_tree.specs.Tree.{Line}
use Rattle.toml_tree.specs.View.{expr}
use Rattle.toml_tree.specs.declared.line.Line as declared
use Rattle.toml_tree.specs.declared.line_reader.LineReader.{LineReader}
use Rattle.toml_tree.specs.declared.profile.Profile.{Profile}
use Rattle.toml_names.specs.declared.fault.NameFault.{NameFault}
use Rattle.toml_names.specs.mentions.Mentions.{named, section}
use Rattle.toml_names.specs.model.Addresses.{Address}
use Rattle.toml_names.specs.model.Documents.{IsDocumentIn}
use Rattle.toml_names.specs.reader.LineNames.{StandFor}
use Rattle.toml_names.specs.reader.Names.{RefusesNames, own_address}
use Rattle.toml_units.specs.declared.reading.Left.{Left}
use Rattle.toml_units.specs.declared.reading.Left.TheVariants.{Lines, Nothing, Refused}
use Rattle.toml_units.specs.declared.opened.Opened.{Opened}
use Rattle.toml_units.specs.declared.reading.Reading.{Reading}
use Rattle.toml_units.specs.declared.unit.Unit.{Unit as Made}
use Rattle.toml_units.specs.Arrays.{HasItems, IsOwn}
use Rattle.toml_units.specs.Opened.{AddsFirst, opened_items, opened_units, rest_of}
use Rattle.toml_units.specs.Plain.{line_span, line_spans}

-- what is left to read, where a reader may have lines left
abbrev pub left_of : Option LineReader → Left
left_of (Some reader) = Lines reader
left_of None = Nothing

-- the lines were entered: the names are theirs, and so is the address of the last header's table
pub record HasEntered (r : Reading) (lines : List Line) : Type 0 where
  pub names : StandFor r.names lines
  pub section_is : r.section ≡ section (named lines)
  pub few : length lines < 18446744073709551615

-- what one line more names was entered, and the address is that of what it stands for
pub record HasNames (lines : List Line) (l : Line) (r : Reading) (own : Option Address) : Type 0 where
  pub names : StandFor r.names (lines ++ l ∷ [])
  pub section_is : r.section ≡ section (named (lines ++ l ∷ []))
  pub own_is : own ≡ own_address (named lines) l.expr

-- what the line names was entered, and its address is told, or the names of the lines with it are refused
abbrev pub Enters : List Line → Line → Reading → Option Address → Result (Unit {0}) NameFault → Type 0
Enters lines l r own (Ok _) = HasNames lines l r own
Enters lines l r own (Err fault) = RefusesNames (lines ++ l ∷ []) fault

-- the same, and the code's only unit is the line's own
abbrev pub EntersFirst : List Line → Line → Reading → List Made → Result (Unit {0}) NameFault → Type 0
EntersFirst lines l r units (Ok _) = (own : Option Address) × HasNames lines l r own × IsOwn own l.expr units
EntersFirst lines l r units (Err fault) = RefusesNames (lines ++ l ∷ []) fault

-- the lines were entered, of a text within the limit
pub record HasEnteredText (profile : Profile) (text : List ℕ) (r : Reading) (lines : List Line) : Type 0 where
  pub entered : HasEntered r lines
  pub fits : length text ≤ 16777216

-- the lines were read of the text, and there may be more; or they are all, and the names are theirs; or the text is no document
abbrev pub IsLeft : Profile → List ℕ → Reading → List Line → Left → Type 0
IsLeft profile text r lines (Lines reader) = HasEnteredText profile text r lines × HandsOut profile text lines reader
IsLeft profile text r lines Nothing = StandFor r.names lines × AreLinesIn profile text lines
IsLeft profile text r lines Refused = ¬ IsDocumentIn profile text

-- these lines were read of the text, and what is left says whether they are all
abbrev pub HasRead : Profile → List ℕ → Reading → List Line → Type 0
HasRead profile text r lines = IsLeft profile text r lines r.left

-- some lines were read of some text
abbrev pub Goes : Reading → Type 0
Goes r = (profile : Profile) × (text : List ℕ) × (lines : List Line) × HasRead profile text r lines

-- how much is left to read
abbrev pub to_read : Left → ℕ
to_read (Lines reader) = left reader + 1
to_read Nothing = 0
to_read Refused = 0

-- nothing is left to read
abbrev pub IsDone : Left → Type 0
IsDone (Lines reader) = ⊥
IsDone Nothing = Unit {0}
IsDone Refused = Unit {0}

-- one line more was read, and the text is not refused; its first units are held, and the others are left where it is opened
pub record IsHanded (profile : Profile) (text : List ℕ) (lines : List Line) (before : Reading) (r : Reading) (held : List Made) (newline : Bor (List ℕ)) : Type 0 where
  pub line : Line
  pub read : HasRead profile text r (lines ++ line ∷ [])
  pub units : AddsFirst [] held (line_spans (own_address (named lines) line.expr) line.expr) (opened_units r.opened)
  pub newline_is : newline.now ≡ line.newline.text
  pub less : to_read r.left < to_read before.left
  pub kept : ¬ (r.left ≡ Refused)

-- there was no line more; a text that was refused stays refused
pub record IsOver (profile : Profile) (text : List ℕ) (lines : List Line) (before : Reading) (r : Reading) : Type 0 where
  pub read : HasRead profile text r lines
  pub over : IsDone r.left
  pub closed : r.opened ≡ None
  pub stays : before.left ≡ Refused → r.left ≡ Refused

-- one line more was read, or there was none
abbrev pub Hands : Profile → List ℕ → List Line → Reading → Reading → List Made → Option (Bor (List ℕ)) → Type 0
Hands profile text lines before r held (Some newline) = IsHanded profile text lines before r held newline
Hands profile text lines before r held None = IsOver profile text lines before r

-- whichever lines of whichever text were read before, one line more is read, where there is memory
abbrev pub HandsOne : Reading → Reading → List Made → Result (Option (Bor (List ℕ))) AllocError → Type 0
HandsOne before r held result = (profile : Profile) (text : List ℕ) (lines : List Line) → HasRead profile text before lines
    → IfOk result (Hands profile text lines before r held)

-- what a reader of lines hands out
abbrev pub Handed : Type 0
Handed = Result (declared.Line × Option LineReader) SyntaxFault

-- the lines were entered, and this is what the reader behind them hands out
abbrev pub IsReadBehind : Profile → List ℕ → List Line → Reading → LineReader → Handed → Type 0
IsReadBehind profile text lines r reader handed = HasEnteredText profile text r lines × HandsOut profile text lines reader × HandsNext reader handed

-- so it is of some lines of some text
abbrev pub IsRead : Reading → Handed → Type 0
IsRead r handed = (profile : Profile) × (text : List ℕ) × (lines : List Line) × (reader : LineReader) × IsReadBehind profile text lines r reader handed

-- the same with this left to read
abbrev pub with_left : Reading → Left → Reading
with_left r left = record { names = r.names; section = r.section; left = left; opened = r.opened }

-- whichever lines of whichever text were read before that reader handed it out, one line more is read, where there is memory
abbrev pub HoldsRead : Reading → Handed → Reading → List Made → Result (Option (Bor (List ℕ))) AllocError → Type 0
HoldsRead before handed r held result = (profile : Profile) (text : List ℕ) (lines : List Line) (reader : LineReader)
    → IsReadBehind profile text lines before reader handed → IfOk result (Hands profile text lines (with_left before (Lines reader)) r held)

-- a line was handed out whose value is an array with an item
abbrev pub IsArrayRead : Handed → Type 0
IsArrayRead (Ok (l, more)) = HasItems (expr l.expr)
IsArrayRead (Err fault) = ⊥

-- the line that was handed out is opened: its own unit was handed out, and the others are left
abbrev pub IsOpened : Handed → Address → Option Opened → Type 0
IsOpened (Ok (l, more)) at opened = (o : Opened) × (opened ≡ Some o) × (line_spans (Some at) (expr l.expr) ≡ line_span (Some at) (expr l.expr) ∷ rest_of o)
IsOpened (Err fault) at opened = Unit {0}

-- the next item of the opened line was handed out; the lines that were read stay
pub record HandsMore (before : Reading) (old : List Made) (r : Reading) (new : List Made) : Type 0 where
  pub names : r.names ≡ before.names
  pub section_is : r.section ≡ before.section
  pub left : r.left ≡ before.left
  pub units : AddsFirst old new (opened_units before.opened) (opened_units r.opened)
  pub less : opened_items r.opened < opened_items before.opened

-- nothing is left to read, and all units of the lines were handed out
abbrev pub IsAtEnd : Reading → Type 0
IsAtEnd r = IsDone r.left × (r.opened ≡ None)
