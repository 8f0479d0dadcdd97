-- The entries of an array or an inline table as the rules of layouts see them: what each of them is, and the parts of the gaps beside it.
use Rattle.std.specs.Prelude.{◌≡◌, ◌-◌, ℕ, min, List, length, map, set, Option, Some, option_map, slice_get}
use Rattle.std.specs.List.{insert}
use Rattle.std.specs.Global.{Box}
use Rattle.toml_lists.specs.Gaps.{items}
use Rattle.toml_layout.specs.declared.tree.Assign.{Assign}
use Rattle.toml_layout.specs.declared.tree.Entries.{Entries}
use Rattle.toml_layout.specs.declared.tree.Entry.{Entry}
use Rattle.toml_layout.specs.declared.tree.Gap.{Gap}
use Rattle.toml_layout.specs.declared.tree.GapPart.{GapPart}
use Rattle.toml_layout.specs.declared.tree.Leaf.{Leaf}
use Rattle.toml_layout.specs.declared.tree.Value.{Value}
use Rattle.toml_layout.specs.declared.tree.Value.TheViews.{out-Entries, out-Entry}

abbrev pub gap_parts : Gap → List GapPart
gap_parts g = g.parts.items

-- an element, or a pair with its key
pub record Item : Type 0 where
  pub before : List GapPart
  pub assign : Option (Box Assign)
  pub value : Value
  pub after : List GapPart

abbrev pub item : Entry → Item
item e = record {
  before = gap_parts (out-Entry e).before;
  assign = (out-Entry e).assign;
  value = (out-Entry e).value;
  after = gap_parts (out-Entry e).after;
}

-- all of them, and what stands behind the last comma, where one follows the last item; without an item all that stands there
pub record Items : Type 0 where
  pub opening : Leaf
  pub list : List Item
  pub end : Option (List GapPart)

abbrev pub items_of : Entries → Items
items_of e = record {
  opening = (out-Entries e).opening;
  list = map item (items (out-Entries e).list);
  end = option_map gap_parts (out-Entries e).end;
}

-- the last one, if there is one
abbrev pub last_item : Items → Option Item
last_item m = slice_get m.list (length m.list - 1)

-- the item with the index has another gap before it, the last one another gap behind it, and another gap stands before the closing bracket
abbrev pub with_before : Items → ℕ → Item → List GapPart → Items
with_before m i it gap = record m { list = set m.list i (record it { before = gap }) }

abbrev pub with_after : Items → ℕ → Item → List GapPart → Items
with_after m i it gap = record m { list = set m.list i (record it { after = gap }) }

abbrev pub with_end : Items → Option (List GapPart) → Items
with_end m end = record m { end = end }

-- an item is put in before the one with the index, or behind the last one
abbrev pub with_item : Items → ℕ → Item → Items
with_item m i it = record m { list = insert m.list (min i (length m.list)) it }

-- so the gap before the item with the index, or behind it, is changed, and this is the one that stood there
pub record ChangesBefore (i : ℕ) (gap : List GapPart) (old new : Items) (was : List GapPart) : Type 0 where
  pub item : Item
  pub here : slice_get old.list i ≡ Some item
  pub stood : was ≡ item.before
  pub now : new ≡ with_before old i item gap

pub record ChangesAfter (i : ℕ) (gap : List GapPart) (old new : Items) (was : List GapPart) : Type 0 where
  pub item : Item
  pub here : slice_get old.list i ≡ Some item
  pub stood : was ≡ item.after
  pub now : new ≡ with_after old i item gap

-- so it is at the place in a list of entries
pub record ChangesBeforeAt (place : ℕ) (gap : List GapPart) (old new : List Entry) (was : List GapPart) : Type 0 where
  pub one : Entry
  pub other : Entry
  pub here : slice_get old place ≡ Some one
  pub stood : was ≡ gap_parts (out-Entry one).before
  pub other_is : item other ≡ record (item one) { before = gap }
  pub now : new ≡ set old place other

pub record ChangesAfterAt (place : ℕ) (gap : List GapPart) (old new : List Entry) (was : List GapPart) : Type 0 where
  pub one : Entry
  pub other : Entry
  pub here : slice_get old place ≡ Some one
  pub stood : was ≡ gap_parts (out-Entry one).after
  pub other_is : item other ≡ record (item one) { after = gap }
  pub now : new ≡ set old place other
