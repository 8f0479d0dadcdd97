-- Where a table stands that has no header: the line whose dotted key makes it, or the first header below it.
use Rattle.std.specs.Prelude.{◌≡◌, ◌+◌, ◌<◌, ◌^◌, ℕ, true, List, take, Option, Some, IfSome, MatchOption, slice_get}
use Rattle.std.specs.List.{list_any}
use Rattle.toml_names.specs.model.Addresses.{Address}
use Rattle.toml_tree.specs.Tree as tree
use Rattle.toml_units.specs.declared.unit.Unit.{Unit as ReadUnit}
use Rattle.toml_working.specs.declared.lines.Slot.{Slot}
use Rattle.toml_working.specs.declared.lines.Sought.{Sought}
use Rattle.toml_working.specs.declared.lines.Sought.TheVariants as sought
use Rattle.toml_working.specs.declared.working.Position.{Position}
use Rattle.toml_working.specs.declared.working.TablePlace.{TablePlace}
use Rattle.toml_working.specs.declared.working.TablePlace.TheVariants as places
use Rattle.toml_working.specs.Placing.{lines_before}
use Rattle.toml_working.specs.Seeing.{LacksSought, is_sought_line, read_by}
use Rattle.toml_working.specs.Standing.{Read, slot_standing, slots_standing}

-- no line of the slot before the one with the index is what is sought
abbrev pub LacksBefore : Sought → Address → Read → ℕ → Slot → Type 0
LacksBefore what p read index s = LacksSought what p (take index (slot_standing read s))

-- so it is of the line that is found in a slot, if one is
abbrev pub FindsFirstIn : Sought → Address → List ReadUnit → Slot → Option ℕ → Type 0
FindsFirstIn what p units slot result = (lines : List tree.Line) → IfSome result (λ i. LacksBefore what p (read_by units lines) i slot)

-- the place is one of the slot, and no line of the slot before it is what is sought
abbrev pub IsFirstIn : Sought → Address → Read → List Slot → ℕ → Position → Type 0
IsFirstIn what p read slots slot at = (at.slot ≡ slot) × IfSome (slice_get slots slot) (LacksBefore what p read at.index)

-- so it is of the place that is found, if one is
abbrev pub FindsFirst : Sought → Address → List ReadUnit → List Slot → ℕ → Option Position → Type 0
FindsFirst what p units slots slot result = (lines : List tree.Line) → IfSome result (IsFirstIn what p (read_by units lines) slots slot)

-- ---- a line whose dotted key makes the table

-- it is the place of such a line, with an index that can be counted on from
abbrev pub IsDottedPlace : TablePlace → Type 0
IsDottedPlace (places.Header at) = ⊥
IsDottedPlace (places.Dotted at) = at.index + 1 < 2 ^ 64
IsDottedPlace (places.Implicit at) = ⊥

-- it is found among the lines of a slot, or none of them is one
abbrev pub FindsDottedIn : Address → List ReadUnit → List Slot → ℕ → Option TablePlace → Type 0
FindsDottedIn p units slots slot result = (lines : List tree.Line) → let read = read_by units lines in
    MatchOption result (IfSome (slice_get slots slot) (λ s. LacksSought sought.Dotted p (slot_standing read s))) IsDottedPlace

-- where no line is a header of the table, no other place is found
abbrev pub MeetsDotted : Address → List ReadUnit → List Slot → Option TablePlace → Type 0
MeetsDotted p units slots result = (lines : List tree.Line) → LacksSought sought.Header p (slots_standing (read_by units lines) slots) → IfSome result IsDottedPlace

-- and where one of them makes the table by its dotted key, such a line is found
abbrev pub FindsDotted : Address → List ReadUnit → List Slot → Option TablePlace → Type 0
FindsDotted p units slots result = (lines : List tree.Line) → let ss = slots_standing (read_by units lines) slots in LacksSought sought.Header p ss
    → list_any (is_sought_line sought.Dotted p) ss ≡ true → (place : TablePlace) × (result ≡ Some place) × IsDottedPlace place

-- ---- the first header below the table

-- it is the place of a line in the slot, before which no such header stands there
abbrev pub IsImpliedIn : Address → Read → List Slot → ℕ → TablePlace → Type 0
IsImpliedIn p read slots slot (places.Header at) = ⊥
IsImpliedIn p read slots slot (places.Dotted at) = ⊥
IsImpliedIn p read slots slot (places.Implicit at) = IsFirstIn sought.HeaderBelow p read slots slot at

-- it is found among the lines of a slot, or none of them is one
abbrev pub FindsImpliedIn : Address → List ReadUnit → List Slot → ℕ → Option TablePlace → Type 0
FindsImpliedIn p units slots slot result = (lines : List tree.Line) → let read = read_by units lines in
    MatchOption result (IfSome (slice_get slots slot) (λ s. LacksSought sought.HeaderBelow p (slot_standing read s))) (IsImpliedIn p read slots slot)

-- it is the place of a line before which no such header stands
abbrev pub IsImpliedPlace : Address → Read → List Slot → TablePlace → Type 0
IsImpliedPlace p read slots (places.Header at) = ⊥
IsImpliedPlace p read slots (places.Dotted at) = ⊥
IsImpliedPlace p read slots (places.Implicit at) = LacksSought sought.HeaderBelow p (lines_before read slots at.slot at.index)

-- it is found where no line makes the table, and such a header is there
abbrev pub FindsImplied : Address → List ReadUnit → List Slot → Option TablePlace → Type 0
FindsImplied p units slots result = (lines : List tree.Line) → let read = read_by units lines in let ss = slots_standing read slots in
    LacksSought sought.Header p ss → LacksSought sought.Dotted p ss → list_any (is_sought_line sought.HeaderBelow p) ss ≡ true
    → (place : TablePlace) × (result ≡ Some place) × IsImpliedPlace p read slots place
