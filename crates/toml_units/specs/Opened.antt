-- The units of an opened line that are not handed out yet.
use Rattle.std.specs.Prelude.{◌≡◌, ◌<◌, ◌++◌, ◌-◌, [], ℕ, Bool, true, false, List, length, Option, Some, None}
use Rattle.toml_tree.specs.View.{expr}
use Rattle.toml_units.specs.Arrays.{behind_in_line, items_in}
use Rattle.toml_units.specs.View.{Spanned, all_units}
use Rattle.toml_units.specs.declared.opened.Opened.{Opened}
use Rattle.toml_units.specs.declared.unit.Unit.{Unit as Made}

-- the units that are not handed out yet: of the items from the next one on, and what stands behind the last one
abbrev pub rest_of : Opened → List Spanned
rest_of o = behind_in_line o.item o.at (expr o.line.expr)

-- how many items are not handed out yet
abbrev pub items_left : Opened → ℕ
items_left o = items_in (expr o.line.expr) - o.item

-- of the opened line, if there is one, the units that are not handed out yet
abbrev pub opened_units : Option Opened → List Spanned
opened_units None = []
opened_units (Some o) = rest_of o

-- how many items of it are not handed out yet
abbrev pub opened_items : Option Opened → ℕ
opened_items None = 0
opened_items (Some o) = items_left o

-- a unit or more was added, the first ones of these, and those are left
pub record AddsFirst (old new : List Made) (these left : List Spanned) : Type 0 where
  pub units : all_units new ++ left ≡ all_units old ++ these
  pub some : length old < length new

-- the next item was handed out, and there are fewer left; behind the last one nothing is left
abbrev pub HandsItem : Opened → List Made → Opened → List Made → Bool → Type 0
HandsItem before old now new true = AddsFirst old new (rest_of before) (rest_of now) × (items_left now < items_left before)
HandsItem before old now new false = AddsFirst old new (rest_of before) []
