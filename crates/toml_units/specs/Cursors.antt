-- A walk over the units of a text.
use Rattle.std.specs.Prelude.{◌≡◌, ◌≤◌, ◌<◌, ◌+◌, ◌*◌, ◌∷◌, ◌++◌, [], ℕ, List, drop, length, map, Option, Some, None, option_map, Result, OnOk, slice_get}
use Rattle.std.specs.Vec.Iter.{into_iter_items}
use Rattle.std.specs.declared.alloc.AllocError.{AllocError}
use Rattle.toml_tree.specs.HandedOut.{AreLinesIn}
use Rattle.toml_tree.specs.Profiles.{SpellsIn}
use Rattle.toml_tree.specs.Tree.{Doc, Line}
use Rattle.toml_tree.specs.declared.profile.Profile.{Profile}
use Rattle.toml_names.specs.declared.line_names.LineNames.{LineNames}
use Rattle.toml_names.specs.model.Documents.{IsDocumentIn}
use Rattle.toml_names.specs.reader.LineNames.{StandFor}
use Rattle.toml_units.specs.declared.cursor.UnitCursor.{UnitCursor}
use Rattle.toml_units.specs.declared.reading.Left.TheVariants.{Refused}
use Rattle.toml_units.specs.declared.taken.TakenLines.{TakenLines}
use Rattle.toml_units.specs.declared.unit.Unit.{Unit as Made}
use Rattle.toml_units.specs.declared.unit.UnitKind.{UnitKind}
use Rattle.toml_units.specs.declared.unit.UnitKind.TheVariants as kinds
use Rattle.toml_units.specs.Lined.{LinedUnit, lined}
use Rattle.toml_units.specs.Opened.{opened_items, opened_units}
use Rattle.toml_units.specs.Reading.{HasRead, IsAtEnd, to_read}
use Rattle.toml_units.specs.Taken.{HasTaken, newline_text}
use Rattle.toml_units.specs.View.{Spanned, all_units, unit}

-- a unit of the code, with the newline of the cursor's line
abbrev pub lined_by : UnitCursor → Made → LinedUnit
lined_by c u = record { unit = unit u; newline = c.newline.now }

-- the unit before which the cursor stands
abbrev pub current : UnitCursor → Option LinedUnit
current c = option_map (lined_by c) (slice_get c.units.items c.place)

-- the newlines of the lines that are held behind that of the cursor
abbrev pub newlines_ahead : UnitCursor → List (List ℕ)
newlines_ahead c = map newline_text (into_iter_items c.newlines)

-- the newline of a unit: a line has the next one, if there is one, and what is no line has that of the unit before it
abbrev pub own_newline : UnitKind → List ℕ → List (List ℕ) → List ℕ
own_newline kinds.Line newline (next ∷ more) = next
own_newline _ newline _ = newline

-- the newlines of the lines behind the unit
abbrev pub later_newlines : UnitKind → List (List ℕ) → List (List ℕ)
later_newlines kinds.Line (next ∷ more) = more
later_newlines _ newlines = newlines

-- units behind one with this newline, each with the newline of its line, where these are the newlines of the lines among them
abbrev pub lined_behind : List ℕ → List (List ℕ) → List Spanned → List LinedUnit
lined_behind newline newlines [] = []
lined_behind newline newlines (u ∷ us) =
    let own = own_newline u.kind newline newlines in
    record { unit = u; newline = own } ∷ lined_behind own (later_newlines u.kind newlines) us

-- the first unit with this newline, and those behind it with theirs
abbrev pub lined_first : List ℕ → List (List ℕ) → List Spanned → List LinedUnit
lined_first newline newlines [] = []
lined_first newline newlines (u ∷ us) = record { unit = u; newline = newline } ∷ lined_behind newline newlines us

-- the units that it holds and that were not walked past, and those of the opened line that it does not hold yet
abbrev pub ahead : UnitCursor → List LinedUnit
ahead c = lined_first c.newline.now (newlines_ahead c) (all_units (drop c.place c.units.items) ++ opened_units c.reading.opened)

-- the cursor's line has the next of the newlines, if there is one; it stands where it stood
pub record HasNextNewline (old new : UnitCursor) : Type 0 where
  pub reading : new.reading ≡ old.reading
  pub units : new.units ≡ old.units
  pub place : new.place ≡ old.place
  pub newline : new.newline.now ≡ own_newline kinds.Line old.newline.now (newlines_ahead old)
  pub newlines : newlines_ahead new ≡ later_newlines kinds.Line (newlines_ahead old)

-- of the text these were walked past, and what is ahead comes next; a text that is refused is no document, and nothing is ahead
pub record Stands (profile : Profile) (text : List ℕ) (c : UnitCursor) (past : List LinedUnit) : Type 0 where
  pub lines : List Line
  pub read : HasRead profile text c.reading lines
  pub units : ¬ (c.reading.left ≡ Refused) → lined lines ≡ past ++ ahead c
  pub none : c.reading.left ≡ Refused → ahead c ≡ []

-- the cursor does for some text, all units that it holds being walked past
abbrev pub Stand : UnitCursor → Type 0
Stand c = (profile : Profile) × (text : List ℕ) × (past : List LinedUnit) × Stands profile text c past × (current c ≡ None)

-- the same, and it holds a unit that is ahead, or nothing is left to read and to hand out
pub record Walks (profile : Profile) (text : List ℕ) (c : UnitCursor) (past : List LinedUnit) : Type 0 where
  pub stands : Stands profile text c past
  pub some : current c ≡ None → IsAtEnd c.reading

-- so it walks over some text
abbrev pub Goes : UnitCursor → Type 0
Goes c = (profile : Profile) × (text : List ℕ) × (past : List LinedUnit) × Walks profile text c past

-- how far it is to the end; an array has fewer than 2 ^ 64 items, and fewer than 2 ^ 64 units are held
abbrev pub to_go : UnitCursor → ℕ
to_go c = (to_read c.reading.left * 18446744073709551616 + opened_items c.reading.opened) * 18446744073709551616
    + length (drop c.place c.units.items)

-- all but the units that were walked past is as it was; of these nothing is said
pub record HasLetGo (old new : UnitCursor) : Type 0 where
  pub reading : new.reading ≡ old.reading
  pub units : drop new.place new.units.items ≡ drop old.place old.units.items
  pub newline : new.newline ≡ old.newline
  pub newlines : new.newlines ≡ old.newlines

-- the unit before which it stood was walked past
pub record Moves (profile : Profile) (text : List ℕ) (past : List LinedUnit) (old : UnitCursor) (new : UnitCursor) : Type 0 where
  pub walks : (x : LinedUnit) → current old ≡ Some x → Walks profile text new (past ++ x ∷ [])
  pub less : to_go new < to_go old

-- whatever was walked past of whichever text, the cursor goes past one unit more, where there is memory
abbrev pub StepsOn : UnitCursor → UnitCursor → Result (Unit {0}) AllocError → Type 0
StepsOn old new result = (profile : Profile) (text : List ℕ) (past : List LinedUnit) → Walks profile text old past
    → OnOk result (Moves profile text past old new)

-- it came to the next item of the opened line, or to the next line, if there was one
pub record IsCome (profile : Profile) (text : List ℕ) (past : List LinedUnit) (old : UnitCursor) (new : UnitCursor) : Type 0 where
  pub walks : Walks profile text new past
  pub less : to_go new ≤ to_go old

-- so it came, if all units that it held were walked past
abbrev pub Comes : Profile → List ℕ → List LinedUnit → UnitCursor → UnitCursor → Type 0
Comes profile text past old new = current old ≡ None → IsCome profile text past old new

-- whatever was walked past of whichever text, the cursor comes so, where there is memory
abbrev pub ComesOn : UnitCursor → UnitCursor → Result (Unit {0}) AllocError → Type 0
ComesOn old new result = (profile : Profile) (text : List ℕ) (past : List LinedUnit) → Stands profile text old past
    → OnOk result (Comes profile text past old new)

-- the names are those of all lines of the text, whose units were walked past
pub record HasWalked (profile : Profile) (text : List ℕ) (past : List LinedUnit) (names : LineNames) : Type 0 where
  pub lines : List Line
  pub are : AreLinesIn profile text lines
  pub names_are : StandFor names lines
  pub units : lined lines ≡ past

-- the names are those of all lines, or the text is no document
abbrev pub Ends : Profile → List ℕ → List LinedUnit → Option LineNames → Type 0
Ends profile text past (Some names) = HasWalked profile text past names
Ends profile text past None = ¬ IsDocumentIn profile text

-- whatever was walked past of whichever text, the walk ends so
abbrev pub EndsAll : UnitCursor → Option LineNames → Type 0
EndsAll c names = (profile : Profile) (text : List ℕ) (past : List LinedUnit) → Walks profile text c past → Ends profile text past names

-- whichever text's lines these are, the cursor stands before its first unit
abbrev pub StandsBefore : TakenLines → UnitCursor → Type 0
StandsBefore taken c = (profile : Profile) (text : List ℕ) (d : Doc) → SpellsIn profile d text → HasTaken taken d.lines → Walks profile text c []
