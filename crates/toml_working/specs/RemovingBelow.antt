-- Words of the contracts by which all lines at an address and below it are taken out, where they stand together.
use Rattle.std.specs.Prelude.{◌≡◌, ◌&&◌, ◌||◌, ◌⊎◌, Bool, true, false, ℕ, List, [], is_some, take}
use Rattle.std.specs.List.{list_any}
use Rattle.toml_names.specs.model.Addresses.{Address}
use Rattle.toml_text.specs.Source.{text_of}
use Rattle.toml_tree.specs.Tree as tree
use Rattle.toml_units.specs.declared.unit.Unit.{Unit as ReadUnit}
use Rattle.toml_layout.specs.declared.texts.Texts.{Texts}
use Rattle.toml_working.specs.declared.lines.Slot.{Slot}
use Rattle.toml_working.specs.declared.working.Tree.{Tree}
use Rattle.toml_working.specs.FollowingHeaders.{is_header_line}
use Rattle.toml_working.specs.Headers.{begins_later, element_of}
use Rattle.toml_working.specs.RemoveStanding.{makes_beside}
use Rattle.toml_working.specs.RemovingIn.{left_of_all, stays_behind}
use Rattle.toml_working.specs.RemovingTables.{HeaderIsFirst, NoneBehindLater, StandInOneSection, StandTogether, TableRemoved, is_root, remove_below}
use Rattle.toml_working.specs.Seeing.{read_by}
use Rattle.toml_working.specs.Standing.{Standing, Read, is_below, slot_standing, slots_standing}
use Rattle.toml_working.specs.Stands.{SlotKept, Stands}

-- ---- what is asked of the lines of a slot

-- whether one of them is what the test says
abbrev pub TellsAny : (Standing → Bool) → List ReadUnit → Slot → Bool → Type 0
TellsAny test units slot result = (lines : List tree.Line) → result ≡ list_any test (slot_standing (read_by units lines) slot)

-- whether a line is the header of a later element of the array
abbrev pub is_later_line : Address → Standing → Bool
is_later_line p s = begins_later p s.base s.address

-- whether one of them is such a header; or any header, where the lines that go stand in one section
abbrev pub TellsEnd : Address → List ReadUnit → Bool → Slot → Bool → Type 0
TellsEnd p units in_section slot result = (lines : List tree.Line) → let ss = slot_standing (read_by units lines) slot in
    result ≡ ((in_section && list_any is_header_line ss) || list_any (is_later_line p) ss)

-- whether a line at the address or below it was met by now: before the slot, or in it
abbrev pub MeetsBelow : Address → List ReadUnit → Bool → Slot → Bool → Type 0
MeetsBelow p units met slot then_met = (lines : List tree.Line) → then_met ≡ (met || list_any (is_below p) (slot_standing (read_by units lines) slot))

-- A line at the address or below it was met before these lines; one of these is a header, and none is at the address or below it.
pub record IsSectionEnd (p : Address) (flat met : Bool) (ss : List Standing) : Type 0 where
  pub is_flat : flat ≡ true
  pub is_met : met ≡ true
  pub none : list_any (is_below p) ss ≡ false
  pub header : list_any is_header_line ss ≡ true

-- behind these lines none is at the address or below it, if all of them stand together
abbrev pub IsEnd : Address → Bool → Bool → List Standing → Type 0
IsEnd p flat met ss = IsSectionEnd p flat met ss ⊎ (list_any (is_later_line p) ss ≡ true)

abbrev pub EndsBelow : Address → List ReadUnit → Bool → Bool → Slot → Type 0
EndsBelow p units flat met slot = (lines : List tree.Line) → IsEnd p flat met (slot_standing (read_by units lines) slot)

-- ---- what is left of the lines

-- whether the table above stays behind the lines of a slot
abbrev pub StaysBehindSlot : Texts → Read → Address → Address → Bool → Bool → Slot → Type 0
StaysBehindSlot texts read p q stays then_stays slot = SlotKept (text_of texts.source) read slot
    → then_stays ≡ stays_behind p q stays (slot_standing read slot)

-- The lines at the address and below are taken out, if none of them stands in the slots before the first; where no table stands in the one
-- there, all are in one section; and none stands behind the header of a later element.
abbrev pub LeavesBelow : Texts → Read → Address → Bool → ℕ → Address → Bool → List Slot → List Slot → Type 0
LeavesBelow texts read p flat first q stays old now = (ss : List Standing) → Stands (text_of texts.source) read old ss
    → list_any (is_below p) (slots_standing read (take first old)) ≡ false → (flat ≡ true → StandInOneSection p ss) → NoneBehindLater p ss
    → Stands (text_of texts.source) read now (left_of_all p q stays ss)

-- so it is of a tree
abbrev pub RemovesBelow : Address → Bool → ℕ → Read → Tree → Tree → Type 0
RemovesBelow p flat first read old now = ¬ (p ≡ []) → (ss : List Standing) → Stands (text_of old.texts.source) read old.slots.items ss
    → list_any (is_below p) (slots_standing read (take first old.slots.items)) ≡ false → (flat ≡ true → StandInOneSection p ss) → NoneBehindLater p ss
    → Stands (text_of old.texts.source) read now.slots.items (remove_below p ss)

-- ---- around them

-- no line at the address or below it stands in the slots before this one, where those that begin with a header have theirs first
abbrev pub FindsFirstBelow : Address → List ReadUnit → List Slot → Bool → ℕ → Type 0
FindsFirstBelow p units slots begins k = (lines : List tree.Line) → let read = read_by units lines in
    (begins ≡ true → HeaderIsFirst p (slots_standing read slots)) → list_any (is_below p) (slots_standing read (take k slots)) ≡ false

-- whether what is right above the address is the root, or stays by a line that does not go
abbrev pub TellsLeft : Address → List ReadUnit → List Slot → Address → Bool → Type 0
TellsLeft p units slots q stays = (lines : List tree.Line) → stays ≡ (is_root q || list_any (makes_beside q p) (slots_standing (read_by units lines) slots))

-- what is no element may always go
abbrev pub KeepsOthers : Address → Bool → Type 0
KeepsOthers p result = is_some (element_of p) ≡ false → result ≡ true

-- a `remove` of lines that stand together
abbrev pub RemovesTogether : Address → Bool → Read → Tree → Tree → Bool → Type 0
RemovesTogether p flat read old now done = ¬ (p ≡ []) → (ss : List Standing) → Stands (text_of old.texts.source) read old.slots.items ss
    → StandTogether p flat ss → TableRemoved p read old now ss done
