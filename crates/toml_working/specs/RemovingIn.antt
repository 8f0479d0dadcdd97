-- What a `remove` makes of the lines of the working tree, and whether that of an element is made.
use Rattle.std.specs.Prelude.{◌≡◌, ◌&&◌, ◌||◌, ◌++◌, Bool, true, false, not, ℕ, List, [], ◌∷◌, is_some, length, map, if◌then◌else◌, Option, Some, None}
use Rattle.std.specs.Bool.{nat_lt}
use Rattle.std.specs.List.{list_any}
use Rattle.toml_names.specs.model.Addresses.{Address}
use Rattle.toml_text.specs.Source.{text_of}
use Rattle.toml_tree.specs.Spells.{EachIs}
use Rattle.toml_tree.specs.Tree as tree
use Rattle.toml_units.specs.declared.unit.Unit.{Unit as ReadUnit}
use Rattle.toml_layout.specs.declared.texts.Texts.{Texts}
use Rattle.toml_working.specs.declared.lines.Line.{Line}
use Rattle.toml_working.specs.declared.lines.Slot.{Slot}
use Rattle.toml_working.specs.declared.working.Position.{Position}
use Rattle.toml_working.specs.declared.working.Tree.{Tree}
use Rattle.toml_layout.specs.Holders.{parent_of}
use Rattle.toml_working.specs.Headers.{element_of}
use Rattle.toml_working.specs.Parents.{IsParent}
use Rattle.toml_working.specs.RemoveStanding.{is_pair, left_of_pair, makes, makes_beside, remove_standing}
use Rattle.toml_working.specs.Seeing.{line_at, read_by}
use Rattle.toml_working.specs.Standing.{Standing, Read, AreOrdered, holds, is_below, line_standing, slot_standing, slots_standing}
use Rattle.toml_working.specs.Stands.{BodyKept, KeepsRest, SlotKept, Stands}
use Rattle.toml_working.specs.Turning.{OneTurns}

abbrev pub LinesKept : List ℕ → Read → List Line → Type 0
LinesKept text read = EachIs (λ (l : Line). BodyKept text read l.body)

abbrev pub lines_of : Option Line → List Line
lines_of None = []
lines_of (Some l) = l ∷ []

-- A line at the address or below it goes. Where the table above does not stay, a line that makes it comes to stand for it.
abbrev pub left_of_one : Address → Address → Bool → Standing → List Standing
left_of_one p q stays s = if is_below p s then left_of_pair q (stays || not (makes q s.base s.address)) s else s ∷ []

-- Behind such a line the table stays.
abbrev pub stays_past : Address → Address → Bool → Standing → Bool
stays_past p q stays s = stays || (is_below p s && makes q s.base s.address)

abbrev pub left_of_all : Address → Address → Bool → List Standing → List Standing
left_of_all p q stays [] = []
left_of_all p q stays (s ∷ ss) = left_of_one p q stays s ++ left_of_all p q (stays_past p q stays s) ss

abbrev pub stays_behind : Address → Address → Bool → List Standing → Bool
stays_behind p q stays [] = stays
stays_behind p q stays (s ∷ ss) = stays_behind p q (stays_past p q stays s) ss

-- so it is of lines of the working tree, and whether the table then stays
abbrev pub LeavesLines : Texts → List tree.Line → Address → Address → Bool → Bool → List Line → List Line → Type 0
LeavesLines texts lines p q stays then_stays old now = (read : Read) → read.lines ≡ lines → LinesKept (text_of texts.source) read old
    → LinesKept (text_of texts.source) read now × (map (line_standing read) now ≡ left_of_all p q stays (map (line_standing read) old))
    × (then_stays ≡ stays_behind p q stays (map (line_standing read) old))

-- what is left of a line at the address or below it
abbrev pub LeavesBehind : Texts → List tree.Line → Address → Bool → Bool → Line → Option Line → Type 0
LeavesBehind texts lines q stays then_stays l left = (read : Read) → read.lines ≡ lines → BodyKept (text_of texts.source) read l.body
    → LinesKept (text_of texts.source) read (lines_of left)
    × (map (line_standing read) (lines_of left) ≡ left_of_pair q (stays || not (makes q l.base l.address)) (line_standing read l))
    × (then_stays ≡ (stays || makes q l.base l.address))

-- what is left of the lines of a slot
abbrev pub LeavesSlot : Texts → Read → Address → Address → Bool → Slot → Slot → Type 0
LeavesSlot texts read p q stays old now = SlotKept (text_of texts.source) read old
    → SlotKept (text_of texts.source) read now × (slot_standing read now ≡ left_of_all p q stays (slot_standing read old))

-- of those of the slot with the number, while the others stay; or there is none
abbrev pub LeavesSlots : Texts → Read → Address → Address → Bool → ℕ → List Slot → List Slot → Type 0
LeavesSlots texts read p q stays = OneTurns (LeavesSlot texts read p q stays)

-- a number of steps, if there is one
abbrev pub steps_or_zero : Option ℕ → ℕ
steps_or_zero None = 0
steps_or_zero (Some n) = n

-- how many steps lead to the table in which a line with a key and a value stands; of another line none
abbrev pub base_of : Option Standing → ℕ
base_of None = 0
base_of (Some s) = steps_or_zero s.base

-- the number is that of the line at the place
abbrev pub CountsBase : List ReadUnit → List Slot → Position → ℕ → Type 0
CountsBase units slots at result = (lines : List tree.Line) → result ≡ base_of (line_at (read_by units lines) slots at)

-- whether one of the lines makes the table, and stands beside the address
abbrev pub TellsMaker : Address → Address → List ReadUnit → List Slot → Bool → Type 0
TellsMaker q p units slots result = (lines : List tree.Line) → result ≡ list_any (makes_beside q p) (slots_standing (read_by units lines) slots)

abbrev pub SlotTellsMaker : Address → Address → List ReadUnit → Slot → Bool → Type 0
SlotTellsMaker q p units slot result = (lines : List tree.Line) → result ≡ list_any (makes_beside q p) (slot_standing (read_by units lines) slot)

-- whether the table at the other address, right above this one, stays: the line at the place stands in it, or another line makes it
abbrev pub TellsStays : Address → Address → Read → List Slot → Position → Bool → Type 0
TellsStays p q read slots at stays =
    stays ≡ (not (nat_lt (base_of (line_at read slots at)) (length q)) || list_any (makes_beside q p) (slots_standing read slots))

-- the line at the place, whose value stands at the address, is taken out
pub record TakesOutLine (p : Address) (read : Read) (at : Position) (old now : Tree) : Type 0 where
  pub parent : Address
  pub stays : Bool
  pub is_parent : IsParent p parent
  pub tells : TellsStays p parent read old.slots.items at stays
  pub leaves : LeavesSlots old.texts read p parent stays at.slot old.slots.items now.slots.items

-- an element goes just where a line that is not at it, nor below it, makes its array
abbrev pub LeavesElements : Address → List ReadUnit → List Slot → Bool → Type 0
LeavesElements p units slots result = is_some (element_of p) ≡ true → TellsMaker (parent_of p) p units slots result

-- a `remove` of an element that is no line's value, and in none: so it is told whether it is made
abbrev pub TakesElement : Address → Read → Tree → Bool → Type 0
TakesElement p read old done = (ss : List Standing) → Stands (text_of old.texts.source) read old.slots.items ss → AreOrdered ss
    → list_any (holds p) ss ≡ false → is_some (element_of p) ≡ true → done ≡ list_any (makes_beside (parent_of p) p) ss

-- a `remove` on lines of which one has the value
abbrev pub RemovesLines : Address → Read → Tree → Tree → Type 0
RemovesLines p read old now = ¬ (p ≡ []) → (ss : List Standing) → Stands (text_of old.texts.source) read old.slots.items ss → AreOrdered ss
    → list_any (is_pair p) ss ≡ true → KeepsRest old now × Stands (text_of old.texts.source) read now.slots.items (remove_standing p ss)
