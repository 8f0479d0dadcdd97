-- What the reading of a text line by line answers.
use Rattle.std.specs.Prelude.{◌≡◌, ◌<◌, ◌+◌, ◌∷◌, ◌++◌, ℕ, List, [], Option, Some, None, Result, Ok, Err}
use Rattle.toml_scalar.specs.declared.fault.SyntaxFault.{SyntaxFault}
use Rattle.toml_scalar.specs.declared.fault.SyntaxFault.TheVariants as syntax
use Rattle.toml_tree.specs.declared.profile.Profile.{Profile}
use Rattle.toml_tree.specs.Document.{Refuses}
use Rattle.toml_tree.specs.HandedOut.{AreLinesIn, HandsOn, HandsOut, left}
use Rattle.toml_tree.specs.Lines.{line}
use Rattle.toml_tree.specs.declared.line.Line as declared
use Rattle.toml_tree.specs.declared.line_reader.LineReader.{LineReader}
use Rattle.toml_tree.specs.Tree.{Line}
use Rattle.toml_names.specs.declared.fault.NameFault.{NameFault}
use Rattle.toml_names.specs.declared.fault.NameFault.TheVariants as names
use Rattle.toml_names.specs.declared.fault.ReadFault.{ReadFault}
use Rattle.toml_names.specs.declared.fault.ReadFault.TheVariants as faults
use Rattle.toml_names.specs.declared.line_names.LineNames.{LineNames as Names}
use Rattle.toml_names.specs.model.Documents.{IsDocumentIn}
use Rattle.toml_names.specs.reader.LineNames.{StandFor}
use Rattle.toml_names.specs.reader.Names.{AreGood, RefusesNames}
use Rattle.toml_names.specs.reader.Reading.{IsReader}
use Rattle.toml_names.specs.tree.Nodes.{Spot}

-- the text is a document of the profile: its lines, which are good
pub record GoodText (profile : Profile) (text : List ℕ) : Type 0 where
  pub lines : List Line
  pub are : AreLinesIn profile text lines
  pub good : AreGood lines

-- why a text is none: no tree spells it, or it has one whose names are refused; want of memory says nothing of it
abbrev pub RefusesText : Profile → List ℕ → ReadFault → Type 0
RefusesText profile text (faults.Syntax fault) = Refuses profile text fault
RefusesText profile text (faults.Names fault) = (fault ≡ names.NoMemory → ⊥) → (lines : List Line) × AreLinesIn profile text lines × RefusesNames lines fault

-- there was no memory
abbrev pub IsOfMemory : ReadFault → Type 0
IsOfMemory (faults.Syntax fault) = fault ≡ syntax.NoMemory
IsOfMemory (faults.Names fault) = fault ≡ names.NoMemory

-- Law: a text that is refused, where memory did not lack, is no document.
abbrev pub RefusedIsNoDocument : Type 0
RefusedIsNoDocument = (profile : Profile) (text : List ℕ) (fault : ReadFault) → ¬ IsOfMemory fault → RefusesText profile text fault → ¬ IsDocumentIn profile text

-- the first lines of the text, and what is left to read
abbrev pub AreLeft : Profile → List ℕ → List Line → Option LineReader → Type 0
AreLeft profile text front (Some reader) = HandsOut profile text front reader
AreLeft profile text front None = AreLinesIn profile text front

-- how much of a text is left
abbrev pub more_left : Option LineReader → ℕ
more_left (Some reader) = left reader + 1
more_left None = 0

-- Law: behind a line that was handed out less is left, or nothing.
abbrev pub LessIsLeft : Type 0
LessIsLeft = (profile : Profile) (text : List ℕ) (front : List Line) (n : ℕ) (l : declared.Line) (more : Option LineReader) → HandsOn profile text front n (Ok (l, more))
    → AreLeft profile text (front ++ line l ∷ []) more × (more_left more < n + 1)

-- one line more was passed, and less is left
abbrev pub Passes : Profile → List ℕ → List Line → ℕ → Result (Option LineReader) SyntaxFault → Type 0
Passes profile text front n (Ok more) = ((l : Line) × AreLeft profile text (front ++ l ∷ []) more) × (more_left more < n + 1)
Passes profile text front n (Err fault) = Refuses profile text fault

-- whichever first lines of whichever text were handed out, one line more is passed
abbrev pub PassesLine : LineReader → Result (Option LineReader) SyntaxFault → Type 0
PassesLine reader result = (profile : Profile) (text : List ℕ) (front : List Line) → HandsOut profile text front reader
    → Passes profile text front (left reader) result

-- all lines of the text were passed, these and more, or no tree spells it
abbrev pub PassesAll : Profile → List ℕ → List Line → Result (Unit {0}) SyntaxFault → Type 0
PassesAll profile text front (Ok _) = (more : List Line) × AreLinesIn profile text (front ++ more)
PassesAll profile text front (Err fault) = Refuses profile text fault

-- whichever first lines of whichever text were handed out, the others are passed
abbrev pub PassesLines : Option LineReader → Result (Unit {0}) SyntaxFault → Type 0
PassesLines more result = (profile : Profile) (text : List ℕ) (front : List Line) → AreLeft profile text front more
    → PassesAll profile text front result

-- whichever text it is of which these lines are left behind first ones whose names are refused so, it is refused so
abbrev pub RefusesRest : Option LineReader → NameFault → ReadFault → Type 0
RefusesRest more fault result = (profile : Profile) (text : List ℕ) (front : List Line) → AreLeft profile text front more → RefusesNames front fault
    → RefusesText profile text result

-- some first lines were handed out, and these names stand for what they name
pub record AreTaken (profile : Profile) (text : List ℕ) (taken : Names) (left : Option LineReader) : Type 0 where
  pub front : List Line
  pub are : AreLeft profile text front left
  pub stand : StandFor taken front

-- one line more was taken, and less is left; or the text is refused
abbrev pub TakesOn : Profile → List ℕ → ℕ → Names → Result (Option LineReader) ReadFault → Type 0
TakesOn profile text n taken (Ok more) = AreTaken profile text taken more × (more_left more < n + 1)
TakesOn profile text n taken (Err fault) = RefusesText profile text fault

-- whichever text it is of which the first lines were taken, one line more is taken
abbrev pub TakesNext : Names → LineReader → Names → Result (Option LineReader) ReadFault → Type 0
TakesNext old reader new result = (profile : Profile) (text : List ℕ) → AreTaken profile text old (Some reader) → TakesOn profile text (left reader) new result

-- the nodes stand for what the lines of the text name
pub record StandForText (profile : Profile) (text : List ℕ) (nodes : List Spot) : Type 0 where
  pub lines : List Line
  pub are : AreLinesIn profile text lines
  pub own : List (Option ℕ)
  pub at : ℕ
  pub reads : IsReader nodes lines own at
