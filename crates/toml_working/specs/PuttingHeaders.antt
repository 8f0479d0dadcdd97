-- A header line that is put in, by what then stands on the lines.
use Rattle.std.specs.Prelude.{◌≡◌, ◌<◌, ◌+◌, ◌^◌, ℕ, zero, suc, Bool, true, List, [], ◌∷◌, ◌++◌, length, map, take, Option, Some, None, MatchOption, slice_get, string_bytes}
use Rattle.std.specs.declared.alloc.Global.{Global}
use Rattle.std.specs.declared.string.String.{String}
use Rattle.toml_scalar.specs.Spelling.{spelled}
use Rattle.toml_names.specs.declared.model.address.Step.TheVariants.{Name, Index}
use Rattle.toml_names.specs.model.Addresses.{Address}
use Rattle.toml_tree.specs.Spells.{EachIs}
use Rattle.toml_layout.specs.declared.tree.Brackets.{Brackets}
use Rattle.toml_working.specs.declared.lines.Line.{Line}
use Rattle.toml_working.specs.declared.lines.Slot.{Slot}
use Rattle.toml_working.specs.declared.working.Position.{Position}
use Rattle.toml_working.specs.Headers.{ElementStands, has_no_bytes, header_outline, new_header, put_at_text_end, put_plainly}
use Rattle.toml_working.specs.OpeningLines.{HasOutline}
use Rattle.toml_working.specs.Placing.{lines_before, lines_from}
use Rattle.toml_working.specs.Seeing.{line_at}
use Rattle.toml_working.specs.Standing.{Standing, Read, line_standing, slot_standing, slots_standing}
use Rattle.toml_working.specs.Stands.{BodyKept, SlotKept, Stands}

-- of the texts, one for each step, those of names
abbrev pub name_texts : Address → List (List ℕ) → List (List ℕ)
name_texts [] texts = []
name_texts (s ∷ steps) [] = []
name_texts (Name n ∷ steps) (text ∷ texts) = text ∷ name_texts steps texts
name_texts (Index i ∷ steps) (text ∷ texts) = name_texts steps texts

-- there is a text for each step, and that of a name is its spelling
abbrev pub AreSpellings : Address → List (List ℕ) → Type 0
AreSpellings [] texts = Unit {0}
AreSpellings (s ∷ steps) [] = ⊥
AreSpellings (Name n ∷ steps) (text ∷ texts) = (text ≡ spelled n) × AreSpellings steps texts
AreSpellings (Index i ∷ steps) (text ∷ texts) = AreSpellings steps texts

-- a header line without whitespace before it
abbrev pub IsHeaderOf : Address → Brackets → List (String Global) → List ℕ → Line → Type 0
IsHeaderOf p brackets steps newline l = AreSpellings p (map string_bytes steps)
    → (l.address ≡ Some p) × (l.base ≡ None) × HasOutline (header_outline p brackets [] newline) l.body

-- with this whitespace it is put in at a place
abbrev pub PutsHeader : Address → Brackets → List ℕ → List (String Global) → List ℕ → Read → Position → List Slot → List Slot → Bool → Type 0
PutsHeader p brackets ws steps style read at old now done = AreSpellings p (map string_bytes steps) → at.slot < length old
    → (text : List ℕ) → EachIs (SlotKept text read) old → EachIs (SlotKept text read) now
    × (slots_standing read now ≡ lines_before read old at.slot at.index ++ new_header p brackets ws style ∷ lines_from read old at.slot at.index)
    × (done ≡ true)

-- the first so many steps, if there are any
abbrev pub up_to : ℕ → Address → Option Address
up_to zero p = None
up_to (suc n) p = Some (take (suc n) p)

-- whether a line has no bytes
abbrev pub TellsNoBytes : Bool → Standing → Type 0
TellsNoBytes result s = result ≡ has_no_bytes s.outline

abbrev pub LineHasNoBytes : Line → Bool → Type 0
LineHasNoBytes l result = (text : List ℕ) (read : Read) → BodyKept text read l.body → TellsNoBytes result (line_standing read l)

abbrev pub SlotHasNoBytes : Slot → ℕ → Bool → Type 0
SlotHasNoBytes slot index result = (text : List ℕ) (read : Read) → SlotKept text read slot
    → (s : Standing) → slice_get (slot_standing read slot) index ≡ Some s → TellsNoBytes result s

abbrev pub HasNoBytesAt : List Slot → Position → Bool → Type 0
HasNoBytesAt slots at result = (text : List ℕ) (read : Read) → EachIs (SlotKept text read) slots
    → (s : Standing) → line_at read slots at ≡ Some s → TellsNoBytes result s

-- the line at the place is the last one of all
pub record IsEnd (read : Read) (slots : List Slot) (at : Position) : Type 0 where
  pub line : Standing
  pub there : line_at read slots at ≡ Some line
  pub next : at.index + 1 < 2 ^ 64
  pub from : lines_from read slots at.slot at.index ≡ line ∷ []

-- it is found, or there is no line
abbrev pub FindsEnd : List Slot → Option Position → Type 0
FindsEnd slots result = (read : Read) → MatchOption result (slots_standing read slots ≡ []) (IsEnd read slots)

-- a header line is put in at the end of the text
abbrev pub PutsLast : Address → Brackets → List ℕ → List (String Global) → List ℕ → List ℕ → Read → List Slot → List Slot → Bool → Type 0
PutsLast p brackets ws steps style text read old now done = AreSpellings p (map string_bytes steps) → (ss : List Standing) → Stands text read old ss → ¬ (ss ≡ [])
    → Stands text read now (put_at_text_end (new_header p brackets ws) style ss) × (done ≡ true)

-- it is put in where it goes in layout `Plain`
abbrev pub AddsPlainly : Option Address → Address → Brackets → List (String Global) → List ℕ → List ℕ → Read → List Slot → List Slot → Bool → Type 0
AddsPlainly element p brackets steps style text read old now done = AreSpellings p (map string_bytes steps) → (ss : List Standing) → Stands text read old ss
    → ¬ (ss ≡ []) → ElementStands element ss → Stands text read now (put_plainly element (new_header p brackets []) style ss) × (done ≡ true)
