-- The first header line behind the last one of an element, as lines are gone through.
use Rattle.std.specs.Prelude.{◌≡◌, ◌<◌, true, false, List, ◌∷◌, ◌++◌, length, Option, Some, None, IfSome, option_map, slice_get, ℕ, ◌+◌}
use Rattle.toml_names.specs.model.Addresses.{Address}
use Rattle.toml_tree.specs.Spells.{EachIs}
use Rattle.toml_tree.specs.Tree as tree
use Rattle.toml_units.specs.declared.unit.Unit.{Unit as ReadUnit}
use Rattle.toml_working.specs.declared.lines.Seen.{Seen}
use Rattle.toml_working.specs.declared.lines.Slot.{Slot}
use Rattle.toml_working.specs.declared.lines.Sought.TheVariants as sought
use Rattle.toml_working.specs.declared.sections.Walk.{Walk}
use Rattle.toml_working.specs.declared.sections.Walk.TheVariants as walks
use Rattle.toml_working.specs.declared.working.Position.{Position}
use Rattle.toml_working.specs.Headers.{StandInTurn, before_next, has_below}
use Rattle.toml_working.specs.Placing.{IsNoHeader, is_header, lines_before, lines_from}
use Rattle.toml_working.specs.Seeing.{found, is_sought_line, line_at, read_by, seen}
use Rattle.toml_working.specs.Standing.{Standing, Read, slots_standing}

-- of the lines before the rest none is a header line at the element or below it
pub record IsBefore (e : Address) (all rest : List Standing) : Type 0 where
  pub passed : List Standing
  pub is : all ≡ passed ++ rest
  pub none : has_below e passed ≡ false

-- the last header line before the rest is one of them
pub record IsWithin (e : Address) (all rest : List Standing) : Type 0 where
  pub front : List Standing
  pub head : Standing
  pub between : List Standing
  pub is : all ≡ front ++ head ∷ (between ++ rest)
  pub below : is_sought_line sought.HeaderBelow e head ≡ true
  pub heads : EachIs IsNoHeader between

-- the line at the place is the first header line behind the last one of them before the rest
pub record IsNext (e : Address) (read : Read) (slots : List Slot) (all rest : List Standing) (next : Position) : Type 0 where
  pub front : List Standing
  pub head : Standing
  pub between : List Standing
  pub line : Standing
  pub more : List Standing
  pub is : all ≡ front ++ head ∷ (between ++ line ∷ (more ++ rest))
  pub below : is_sought_line sought.HeaderBelow e head ≡ true
  pub heads : EachIs IsNoHeader between
  pub header : is_header line.base line.address ≡ true
  pub none : has_below e (line ∷ more) ≡ false
  pub there : line_at read slots next ≡ Some line
  pub from : lines_from read slots next.slot next.index ≡ line ∷ (more ++ rest)

-- so far a walk has come, and these lines are left
abbrev pub Walked : Address → Read → List Slot → List Standing → List Standing → Walk → Type 0
Walked e read slots all rest walks.Before = IsBefore e all rest
Walked e read slots all rest walks.Within = IsWithin e all rest
Walked e read slots all rest (walks.Behind next) = IsNext e read slots all rest next
Walked e read slots all rest (walks.Ended next) = IsNext e read slots all rest next × (has_below e rest ≡ false)

-- past the header line at a place
abbrev pub WalksPast : Address → Seen → Position → Walk → Walk → Type 0
WalksPast e line at walk result = (read : Read) (slots : List Slot) (all rest : List Standing) (s : Standing) → seen line ≡ found s
    → is_header s.base s.address ≡ true → line_at read slots at ≡ Some s → lines_from read slots at.slot at.index ≡ s ∷ rest → StandInTurn e all
    → Walked e read slots all (s ∷ rest) walk → Walked e read slots all rest result

-- past the lines of a slot
abbrev pub WalksSlot : Address → List ReadUnit → Slot → ℕ → Walk → Walk → Type 0
WalksSlot e units slot k walk result = (lines : List tree.Line) (slots : List Slot) → slice_get slots k ≡ Some slot → let read = read_by units lines in
    (all : List Standing) → StandInTurn e all
    → Walked e read slots all (lines_from read slots k 0) walk → Walked e read slots all (lines_from read slots (k + 1) 0) result

-- before the line at the place, if there is one, a line goes that stands before the next header line
abbrev pub FindsNext : Address → List ReadUnit → List Slot → Option Position → Type 0
FindsNext e units slots result = (lines : List tree.Line) → let read = read_by units lines in
    let all = slots_standing read slots in StandInTurn e all → IfSome result (λ at. at.slot < length slots)
    × ((new : Standing)
    → before_next e new all ≡ option_map (λ at. lines_before read slots at.slot at.index ++ new ∷ lines_from read slots at.slot at.index) result)

-- the same of the innermost element above, if there is one
abbrev pub FindsPlace : Option Address → List ReadUnit → List Slot → Option Position → Type 0
FindsPlace None units slots result = result ≡ None
FindsPlace (Some e) units slots result = FindsNext e units slots result

-- no header line at the element or below it stands in the slots before this one
abbrev pub FindsFirst : Address → List ReadUnit → List Slot → ℕ → Type 0
FindsFirst e units slots k = (lines : List tree.Line) → let read = read_by units lines in
    StandInTurn e (slots_standing read slots) → has_below e (lines_before read slots k 0) ≡ false
