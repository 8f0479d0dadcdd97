-- Lines whose value is an array: how many items it has, and the units that come behind the first ones.
use Rattle.std.specs.Prelude.{◌≡◌, ◌<◌, ℕ, zero, suc, ◌+◌, List, [], ◌∷◌, ◌++◌, map, Option, Some, None}
use Rattle.std.specs.Borrow.{Bor}
use Rattle.toml_tree.specs.Tree.{Piece, Assign, Value, Scalar, Array, Inline, Items, Close, Last, More, Expr, BlankLine, KeyValLine, TableLine, ArrayTableLine}
use Rattle.toml_tree.specs.View.{array_items, blank, element as tree_element, piece}
use Rattle.toml_tree.specs.declared.piece.Blank.{Blank}
use Rattle.toml_tree.specs.declared.tree.Array as declared
use Rattle.toml_tree.specs.declared.tree.Value.TheViews.{out-Array}
use Rattle.toml_names.specs.model.Addresses.{Address}
use Rattle.toml_units.specs.Plain.{line_span, line_spans, plain_elements}
use Rattle.toml_units.specs.Units.{tail_units}
use Rattle.toml_units.specs.View.{Spanned, all_units, spanned}
use Rattle.toml_units.specs.declared.unit.Unit.{Unit as Made}

-- how many items there are
abbrev pub count_items : Items → ℕ
count_items (Close g) = 0
count_items (Last g v h) = 1
count_items (More g v h is) = suc (count_items is)

-- how many items a value has, if it is an array
abbrev pub items_of_value : Value → ℕ
items_of_value (Scalar kind p) = 0
items_of_value (Array whole is) = count_items is
items_of_value (Inline whole ps) = 0

-- how many items the value of a line has, if it is an array
abbrev pub items_in : Expr → ℕ
items_in (BlankLine b) = 0
items_in (KeyValLine ws k b) = items_of_value k.value
items_in (TableLine ws h b) = 0
items_in (ArrayTableLine ws h b) = 0

-- the value of a line is an array with an item or more; in memory there are fewer than 2 ^ 64
abbrev pub HasItems : Expr → Type 0
HasItems e = (0 < items_in e) × (items_in e < 18446744073709551616)

-- the units that come behind so many first ones of these items, of which the first has the index
abbrev pub behind_items : ℕ → Address → ℕ → Items → List Spanned
behind_items zero at i is = plain_elements at i is
behind_items (suc n) at i (Close g) = []
behind_items (suc n) at i (Last g v h) = []
behind_items (suc n) at i (More g v h is) = behind_items n at (i + 1) is

-- those that come behind so many first items of a value, if it is an array
abbrev pub behind_in_value : ℕ → Address → Value → List Spanned
behind_in_value n at (Scalar kind p) = []
behind_in_value n at (Array whole is) = behind_items n at 0 is
behind_in_value n at (Inline whole ps) = []

-- those that come behind so many first items on a line, if its value is an array, which is at the address
abbrev pub behind_in_line : ℕ → Address → Expr → List Spanned
behind_in_line n at (BlankLine b) = []
behind_in_line n at (KeyValLine ws k b) = behind_in_value n at k.value ++ map spanned (tail_units (Some at) b)
behind_in_line n at (TableLine ws h b) = []
behind_in_line n at (ArrayTableLine ws h b) = []

-- the array of the code as a tree
abbrev pub array : declared.Array → Value
array a = Array (piece (out-Array a).whole) (array_items (map tree_element (out-Array a).items.items) (out-Array a).end)

-- the value of the line is this array, and this stands at its end
pub record IsArrayLine (e : Expr) (a : declared.Array) (tail : Blank) : Type 0 where
  pub ws : Piece
  pub assign : Assign
  pub is : e ≡ KeyValLine ws (record { assign = assign; value = array a }) (blank tail)

-- it is this array, if there is one; or no array that has an item
abbrev pub FindsArray : Expr → Option (Bor declared.Array × Bor Blank) → Type 0
FindsArray e (Some found) = IsArrayLine e found.0.now found.1.now
FindsArray e None = items_in e ≡ 0

-- the address of a line is told where its value is an array with an item, and else none
abbrev pub TellsArray : Option Address → Expr → Option Address → Type 0
TellsArray own e None = HasItems e → own ≡ None
TellsArray own e (Some at) = (own ≡ Some at) × HasItems e

-- the code's only unit is that of the line, which is at the address
abbrev pub IsOwn : Option Address → Expr → List Made → Type 0
IsOwn own e units = all_units units ≡ line_span own e ∷ []

-- of a line at the address these are all units; or its own alone, where its value is an array with an item, whose address is told
abbrev pub Begins : List Made → Option Address → Expr → Option Address → Type 0
Begins units own e None = (all_units units ≡ line_spans own e) × TellsArray own e None
Begins units own e (Some at) = IsOwn own e units × TellsArray own e (Some at)
