-- Where a line is put in: the lines before a place and from it on, and the last one with a key and a value.
use Rattle.std.specs.Prelude.{◌≡◌, ℕ, zero, suc, ◌+◌, ◌^◌, ◌<◌, Bool, true, false, List, [], ◌∷◌, ◌++◌, take, drop, Option, Some, None, IfSome, MatchOption}
use Rattle.toml_names.specs.model.Addresses.{Address}
use Rattle.toml_tree.specs.Spells.{EachIs}
use Rattle.toml_tree.specs.Tree as tree
use Rattle.toml_units.specs.declared.unit.Unit.{Unit as ReadUnit}
use Rattle.toml_working.specs.declared.lines.Slot.{Slot}
use Rattle.toml_working.specs.declared.working.Position.{Position}
use Rattle.toml_working.specs.InsertStanding.{RootIsFirst, has_pair}
use Rattle.toml_working.specs.Seeing.{line_at, read_by}
use Rattle.toml_working.specs.Standing.{Standing, Read, slot_standing, slots_standing}

-- the lines from this one of the slot on, and those before it
abbrev pub lines_from : Read → List Slot → ℕ → ℕ → List Standing
lines_from read [] slot index = []
lines_from read (s ∷ ss) zero index = drop index (slot_standing read s) ++ slots_standing read ss
lines_from read (s ∷ ss) (suc slot) index = lines_from read ss slot index

abbrev pub lines_before : Read → List Slot → ℕ → ℕ → List Standing
lines_before read [] slot index = []
lines_before read (s ∷ ss) zero index = take index (slot_standing read s)
lines_before read (s ∷ ss) (suc slot) index = slot_standing read s ++ lines_before read ss slot index

-- a header has an address without a base
abbrev pub is_header : Option ℕ → Option Address → Bool
is_header (Some n) own = false
is_header None None = false
is_header None (Some a) = true

-- the place of a line with a key and a value, or the last one of those before it
abbrev pub pair_at : Option ℕ → Position → Option Position → Option Position
pair_at (Some n) at last = Some at
pair_at None at last = last

abbrev pub IsNoHeader : Standing → Type 0
IsNoHeader s = is_header s.base s.address ≡ false

abbrev pub IsNoPair : Standing → Type 0
IsNoPair s = s.base ≡ None

abbrev pub IsPair : Standing → Type 0
IsPair s = (n : ℕ) × (s.base ≡ Some n)

-- the line at the place is the last one of those in front, of which these are left
pub record IsLast (read : Read) (slots : List Slot) (front rest : List Standing) (at : Position) : Type 0 where
  pub before : List Standing
  pub line : Standing
  pub between : List Standing
  pub is : front ≡ before ++ line ∷ between
  pub pair : IsPair line
  pub none : EachIs IsNoPair between
  pub there : line_at read slots at ≡ Some line
  pub next : at.index + 1 < 2 ^ 64
  pub from : lines_from read slots at.slot at.index ≡ line ∷ (between ++ rest)

-- so far no header was passed, and this is the last line with a key and a value
pub record Passed (read : Read) (slots : List Slot) (all rest : List Standing) (last : Option Position) : Type 0 where
  pub front : List Standing
  pub is : all ≡ front ++ rest
  pub heads : EachIs IsNoHeader front
  pub found : MatchOption last (EachIs IsNoPair front) (IsLast read slots front rest)

-- a slot is passed, or what is left begins with a header
abbrev pub PassedBy : Read → List Slot → List Standing → ℕ → Bool → Option Position → Type 0
PassedBy read slots all slot true last = (rest : List Standing) × (has_pair rest ≡ false) × Passed read slots all rest last
PassedBy read slots all slot false last = Passed read slots all (lines_from read slots (slot + 1) 0) last

abbrev pub PassesSlot : List ReadUnit → List Slot → ℕ → ℕ → Option Position → Bool → Option Position → Type 0
PassesSlot units slots slot index last ends found = (lines : List tree.Line) (all : List Standing) → let read = read_by units lines in
    Passed read slots all (lines_from read slots slot index) last → PassedBy read slots all slot ends found

-- the line at the place is the last one of these with a key and a value before the first header
pub record IsLastPair (read : Read) (slots : List Slot) (all : List Standing) (at : Position) : Type 0 where
  pub front : List Standing
  pub line : Standing
  pub back : List Standing
  pub is : all ≡ front ++ line ∷ back
  pub heads : EachIs IsNoHeader front
  pub pair : IsPair line
  pub none : has_pair back ≡ false
  pub there : line_at read slots at ≡ Some line
  pub next : at.index + 1 < 2 ^ 64
  pub from : lines_from read slots at.slot at.index ≡ line ∷ back

-- or there is none
abbrev pub FindsLastOf : Read → List Slot → List Standing → Option Position → Type 0
FindsLastOf read slots all result = MatchOption result (has_pair all ≡ false) (IsLastPair read slots all)

abbrev pub FindsLast : List ReadUnit → List Slot → Position → Option Position → Type 0
FindsLast units slots from result = (lines : List tree.Line) → let read = read_by units lines in
    FindsLastOf read slots (lines_from read slots from.slot from.index) result

-- a line at the place is one of the root
abbrev pub IsOfRoot : List ReadUnit → List Slot → Position → Type 0
IsOfRoot units slots at = (lines : List tree.Line) → IfSome (line_at (read_by units lines) slots at) (λ s. s.base ≡ Some 0)

-- of all lines, where those of the root come first
abbrev pub FindsRootEnd : List ReadUnit → List Slot → Option Position → Type 0
FindsRootEnd units slots result = (lines : List tree.Line) → let read = read_by units lines in
    RootIsFirst (slots_standing read slots) → FindsLastOf read slots (slots_standing read slots) result
