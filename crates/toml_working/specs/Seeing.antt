-- What is seen of the lines of the working tree, and what is sought among them.
use Rattle.std.specs.Prelude.{◌≡◌, ◌+◌, ◌<◌, ◌^◌, ℕ, Bool, true, false, ◌&&◌, List, length, Option, Some, None, option_and_then, option_map, slice_get, IfSome, MatchOption, []}
use Rattle.std.specs.Bool.{nat_lt}
use Rattle.std.specs.List.{list_any}
use Rattle.toml_names.specs.model.Addresses.{Address, is_above, lent, same_address}
use Rattle.toml_tree.specs.Tree as tree
use Rattle.toml_units.specs.declared.unit.Unit.{Unit as ReadUnit}
use Rattle.toml_working.specs.declared.lines.Kept.{Kept}
use Rattle.toml_working.specs.declared.lines.Line.{Line}
use Rattle.toml_working.specs.declared.lines.Seen.{Seen}
use Rattle.toml_working.specs.declared.lines.Slot.{Slot}
use Rattle.toml_working.specs.declared.lines.Sought.{Sought}
use Rattle.toml_working.specs.declared.lines.Sought.TheVariants as sought
use Rattle.toml_working.specs.declared.working.Position.{Position}
use Rattle.toml_working.specs.declared.working.TablePlace.{TablePlace}
use Rattle.toml_working.specs.declared.working.TablePlace.TheVariants as places
use Rattle.toml_working.specs.Standing.{Standing, Read, StandAlone, slot_standing, slots_standing, lies_below, leads_to}

-- a line by what finds it
pub record Found : Type 0 where
  pub address : Option Address
  pub base : Option ℕ

abbrev pub found : Standing → Found
found s = record { address = s.address; base = s.base }

abbrev pub seen : Seen → Found
seen s = record { address = lent s.address; base = s.base }

-- a line that is as it was, by the units, and a line of the working tree
abbrev pub kept_found : List ReadUnit → Kept → Found
kept_found units kept = record {
  address = option_and_then (λ (u : ReadUnit). u.address) (slice_get units kept.first);
  base = option_and_then (λ (u : ReadUnit). u.base) (slice_get units kept.first);
}

abbrev pub line_found : Line → Found
line_found l = record { address = l.address; base = l.base }

-- how many steps lead to it
abbrev pub steps_to : Option Address → ℕ
steps_to None = 0
steps_to (Some a) = length a

-- whether it is the header line of what stands at the address
abbrev pub heads : Address → Option ℕ → Option Address → Bool
heads p (Some n) own = false
heads p None None = false
heads p None (Some a) = same_address a p

-- whether the address is that of a table which the dotted key of the line makes
abbrev pub is_dotted : Address → Option ℕ → Option Address → Bool
is_dotted p None own = false
is_dotted p (Some n) None = false
is_dotted p (Some n) (Some a) = nat_lt n (length p) && is_above p a

-- whether it is a header line at the address or below it
abbrev pub heads_below : Address → Option ℕ → Option Address → Bool
heads_below p (Some n) own = false
heads_below p None own = lies_below p own

-- whether the line is what is sought
abbrev pub is_sought : Sought → Address → Found → Bool
is_sought sought.Holder p f = leads_to p f.base f.address
is_sought sought.Header p f = heads p f.base f.address
is_sought sought.Dotted p f = is_dotted p f.base f.address
is_sought sought.HeaderBelow p f = heads_below p f.base f.address

abbrev pub is_sought_line : Sought → Address → Standing → Bool
is_sought_line what p s = is_sought what p (found s)

-- what the lines of the document stand for, by its units
abbrev pub read_by : List ReadUnit → List tree.Line → Read
read_by units lines = record { units = units; lines = lines }

-- the line at a place
abbrev pub line_at : Read → List Slot → Position → Option Standing
line_at read slots at = option_and_then (λ (s : Slot). slice_get (slot_standing read s) at.index) (slice_get slots at.slot)

-- a line of a slot is seen as it stands, and one at a place
abbrev pub SeesLine : List ReadUnit → Slot → ℕ → Option Seen → Type 0
SeesLine units slot index result =
    (lines : List tree.Line) → option_map seen result ≡ option_map found (slice_get (slot_standing (read_by units lines) slot) index)

abbrev pub SeesAt : List ReadUnit → List Slot → Position → Option Seen → Type 0
SeesAt units slots at result = (lines : List tree.Line) → option_map seen result ≡ option_map found (line_at (read_by units lines) slots at)

-- how many steps lead to the line at a place, if there is one
abbrev pub steps_of : Option Standing → ℕ
steps_of None = 0
steps_of (Some s) = steps_to s.address

abbrev pub CountsSteps : List ReadUnit → List Slot → Position → ℕ → Type 0
CountsSteps units slots at result = (lines : List tree.Line) → result ≡ steps_of (line_at (read_by units lines) slots at)

-- none of these lines is what is sought
abbrev pub LacksSought : Sought → Address → List Standing → Type 0
LacksSought what p ss = list_any (is_sought_line what p) ss ≡ false

-- the line at a place is what is sought
abbrev pub IsSoughtAt : Sought → Address → Read → List Slot → Position → Type 0
IsSoughtAt what p read slots at = option_map (is_sought_line what p) (line_at read slots at) ≡ Some true

-- the index of a line of the slot that is what is sought, or none is
abbrev pub FindsIn : Sought → Address → List ReadUnit → Slot → Option ℕ → Type 0
FindsIn what p units slot result = (lines : List tree.Line) → let ss = slot_standing (read_by units lines) slot in
    MatchOption result (LacksSought what p ss) (λ i. option_map (is_sought_line what p) (slice_get ss i) ≡ Some true)

-- the place of a line of one slot that is what is sought, or no line of that slot is, if there is one
abbrev pub FindsLine : Sought → Address → List ReadUnit → List Slot → ℕ → Option Position → Type 0
FindsLine what p units slots slot result = (lines : List tree.Line) → let read = read_by units lines in
    MatchOption result (IfSome (slice_get slots slot) (λ s. LacksSought what p (slot_standing read s))) (IsSoughtAt what p read slots)

-- a line that makes the table at the address, or is the header of one below it
abbrev pub IsTableLine : Address → Read → List Slot → TablePlace → Type 0
IsTableLine p read slots (places.Header at) = IsSoughtAt sought.Header p read slots at
IsTableLine p read slots (places.Dotted at) = IsSoughtAt sought.Dotted p read slots at
IsTableLine p read slots (places.Implicit at) = IsSoughtAt sought.HeaderBelow p read slots at

abbrev pub FindsTable : Address → List ReadUnit → List Slot → Option TablePlace → Type 0
FindsTable p units slots result = (lines : List tree.Line) → IfSome result (IsTableLine p (read_by units lines) slots)

-- lines have a header of the table at the address, and no dotted key makes that table
pub record AreHeaded (p : Address) (ss : List Standing) : Type 0 where
  pub header : list_any (is_sought_line sought.Header p) ss ≡ true
  pub no_dotted : list_any (is_sought_line sought.Dotted p) ss ≡ false

-- it is the place of a header line, with an index that can be counted on from
abbrev pub IsHeaderPlace : TablePlace → Type 0
IsHeaderPlace (places.Header at) = at.index + 1 < 2 ^ 64
IsHeaderPlace (places.Dotted at) = ⊥
IsHeaderPlace (places.Implicit at) = ⊥

-- the place of a header line of the slot is found, or the slot has none
abbrev pub FindsHeaderIn : Address → List ReadUnit → List Slot → ℕ → Option TablePlace → Type 0
FindsHeaderIn p units slots slot result = (lines : List tree.Line) → let read = read_by units lines in
    MatchOption result (IfSome (slice_get slots slot) (λ s. LacksSought sought.Header p (slot_standing read s))) IsHeaderPlace

-- where lines have a header of the table, and no dotted key makes it, no other place is found than a header's
abbrev pub MeetsHeader : Address → List ReadUnit → List Slot → Option TablePlace → Type 0
MeetsHeader p units slots result = (lines : List tree.Line) → AreHeaded p (slots_standing (read_by units lines) slots) → IfSome result IsHeaderPlace

-- and then the place of a header is found
abbrev pub FindsHeader : Address → List ReadUnit → List Slot → Option TablePlace → Type 0
FindsHeader p units slots result = (lines : List tree.Line) → AreHeaded p (slots_standing (read_by units lines) slots)
    → (place : TablePlace) × (result ≡ Some place) × IsHeaderPlace place

-- the place of a line whose value is what stands at the address, or holds it
abbrev pub FindsHolder : Address → List ReadUnit → List Slot → Option Position → Type 0
FindsHolder p units slots result = (lines : List tree.Line) → IfSome result (IsSoughtAt sought.Holder p (read_by units lines) slots)

-- the same, or there is none
abbrev pub FindsAny : Address → List ReadUnit → List Slot → Option Position → Type 0
FindsAny p units slots result = (lines : List tree.Line) → let read = read_by units lines in
    MatchOption result (LacksSought sought.Holder p (slots_standing read slots)) (IsSoughtAt sought.Holder p read slots)

-- of lines that stand alone none is such a line; the root stands on none
abbrev pub HoldsNone : Address → List ReadUnit → List Slot → Type 0
HoldsNone p units slots = ¬ (p ≡ []) → (lines : List tree.Line) → let ss = slots_standing (read_by units lines) slots in
    StandAlone ss → LacksSought sought.Holder p ss

-- the place of such a line, or of lines that stand alone none is
abbrev pub FindsValue : Address → List ReadUnit → List Slot → Option Position → Type 0
FindsValue p units slots result = FindsHolder p units slots result × (result ≡ None → HoldsNone p units slots)
