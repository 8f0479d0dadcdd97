-- What becomes of the items of an array or an inline table where one goes, by either layout.
use Rattle.std.specs.Prelude.{◌≡◌, ◌-◌, ℕ, zero, suc, Bool, true, false, List, ◌++◌, length, take, Option, Some, None, option_map, slice_get, if◌then◌else◌}
use Rattle.std.specs.List.{list_any, remove}
use Rattle.toml_layout.specs.declared.layout.Layout.{Layout}
use Rattle.toml_layout.specs.declared.layout.Layout.TheVariants as layouts
use Rattle.toml_layout.specs.declared.tree.GapPart.{GapPart}
use Rattle.toml_layout.specs.Gaps.{Beside, are_ws, is_none}
use Rattle.toml_layout.specs.Items.{Item, Items, last_item, with_after, with_before, with_end}
use Rattle.toml_layout.specs.Leaving.{Remains, what_is_left}
use Rattle.toml_layout.specs.PartOutlines.{IsParted}

abbrev pub without : Items → ℕ → Items
without m i = record m { list = remove m.list i }

-- ---- by layout `Plain`

-- what stands around an item
abbrev pub around_item : Item → List GapPart
around_item it = it.before ++ it.after

-- what an item leaves that goes with the comma behind it, and what stands behind that comma, unless this is whitespace alone
abbrev pub followed : List GapPart → List GapPart → List GapPart
followed left behind = if are_ws behind then left else left ++ behind

-- what the last one leaves, which goes with the comma before it, behind the item before that
abbrev pub closed : List GapPart → List GapPart → List GapPart → List GapPart
closed above before after = (if are_ws before then above else above ++ before) ++ after

-- before the next item, before the closing bracket and behind the last comma, behind the item before it, or alone between the brackets
abbrev pub taken_by : Items → ℕ → Item → Option Item → Option (List GapPart) → Option Item → Items
taken_by m i it (Some next) end last = with_before m i next (followed (around_item it) next.before)
taken_by m i it None (Some end) last = with_end m (Some (followed (around_item it) end))
taken_by m i it None None (Some last) = with_after m (length m.list - 1) last (closed last.after it.before it.after)
taken_by m i it None None None = with_end m (Some (around_item it))

-- an item goes; these are those left
abbrev pub leaves_plain : Items → ℕ → Item → Items
leaves_plain m i it = taken_by m i it (slice_get m.list i) m.end (last_item m)

-- the one with the index goes, if there is one
abbrev pub taken_if : Items → ℕ → Option Item → Items
taken_if m i None = m
taken_if m i (Some it) = leaves_plain (without m i) i it

abbrev pub taken : Items → ℕ → Items
taken m i = taken_if m i (slice_get m.list i)

-- ---- by layout `Follow`

-- the item before the one with the index, if there is one
abbrev pub item_above : Items → ℕ → Option Item
item_above m zero = None
item_above m (suc i) = slice_get m.list i

-- what stands before the next item, or behind the last comma, if one does
abbrev pub gap_behind : Option Item → Option (List GapPart) → Option (List GapPart)
gap_behind None end = end
gap_behind (Some next) end = Some next.before

abbrev pub IsPartedIf : Option (List GapPart) → Option (List GapPart) → Type 0
IsPartedIf None all = all ≡ None
IsPartedIf (Some gap) all = (parts : List GapPart) × IsParted gap parts × (all ≡ Some parts)

-- so it stands beside an item with these gaps that goes from before the one with the index
pub record StandsBeside (m : Items) (i : ℕ) (before after : List GapPart) (b : Beside) : Type 0 where
  pub above : IsPartedIf (option_map (λ a. a.after) (item_above m i)) b.above
  pub own : IsParted before b.before
  pub own_end : IsParted after b.after
  pub behind : IsPartedIf (gap_behind (slice_get m.list i) m.end) b.behind
  pub is_last : b.is_last ≡ is_none (slice_get m.list i)

-- what is left is put behind the item before it, and before the next one or the closing bracket
abbrev pub put_above : Items → ℕ → Option Item → Option (List GapPart) → Items
put_above m i it None = m
put_above m i None (Some gap) = m
put_above m i (Some it) (Some gap) = with_after m (i - 1) it gap

abbrev pub put_behind : Items → ℕ → Option Item → Option (List GapPart) → Items
put_behind m i None gap = with_end m gap
put_behind m i (Some next) None = m
put_behind m i (Some next) (Some gap) = with_before m i next gap

abbrev pub put_left : Items → ℕ → Remains → Items
put_left m i left = let above = put_above m i (item_above m i) left.above in put_behind above i (slice_get above.list i) left.behind

pub record ClosesUp (m : Items) (i : ℕ) (before after : List GapPart) (new : Items) : Type 0 where
  pub beside : Beside
  pub stands : StandsBeside m i before after beside
  pub now : new ≡ put_left m i (what_is_left beside)

abbrev pub ClosedIf : Items → ℕ → Items → Option Item → Type 0
ClosedIf old i new None = new ≡ old
ClosedIf old i new (Some it) = ClosesUp (without old i) i it.before it.after new

abbrev pub ClosesOne : ℕ → Items → Items → Type 0
ClosesOne i old new = ClosedIf old i new (slice_get old.list i)

-- ---- in a layout

abbrev pub TakesOne : Layout → ℕ → Items → Items → Type 0
TakesOne layouts.Plain i old new = new ≡ taken old i
TakesOne layouts.Follow i old new = ClosesOne i old new

-- the index is that of the first mark
pub record IsFirstMark (marks : List Bool) (i : ℕ) : Type 0 where
  pub marked : slice_get marks i ≡ Some true
  pub first : list_any (λ m. m) (take i marks) ≡ false

-- the first item that is marked goes, and these marks are left
pub record TakesFirst (layout : Layout) (marks left : List Bool) (old new : Items) : Type 0 where
  pub index : ℕ
  pub first : IsFirstMark marks index
  pub takes : TakesOne layout index old new
  pub left_are : left ≡ remove marks index

-- So many go, one after the other in text order, each from what the one before it left, until none is marked.
abbrev pub TakesMany : Layout → ℕ → List Bool → Items → Items → Type 0
TakesMany layout zero marks old new = (list_any (λ m. m) marks ≡ false) × (new ≡ old)
TakesMany layout (suc n) marks old new = (left : List Bool) × (mid : Items) × TakesFirst layout marks left old mid × TakesMany layout n left mid new

-- those with these marks go
abbrev pub TakesAll : Layout → List Bool → Items → Items → Type 0
TakesAll layout marks old new = (n : ℕ) × TakesMany layout n marks old new
