-- Which pairs of an inline table a `remove` takes out, and what comes to stand for a table that would vanish with them.
use Rattle.std.specs.Prelude.{◌≡◌, ◌⊎◌, ◌&&◌, ℕ, Bool, true, false, not, List, [], ◌∷◌, length, map, set, Option, Some, None, option_and_then, option_map, slice_get}
use Rattle.std.specs.List.{list_any}
use Rattle.toml_names.specs.mentions.Keys.{Key}
use Rattle.toml_names.specs.model.Addresses.{Address}
use Rattle.toml_layout.specs.declared.layout.Layout.{Layout}
use Rattle.toml_layout.specs.Emptying.{assign_cut, no_pairs}
use Rattle.toml_layout.specs.declared.tree.Entry.{Entry}
use Rattle.toml_layout.specs.Items.{Item, Items, item}
use Rattle.toml_layout.specs.OpenOutlines.{assign, value}
use Rattle.toml_layout.specs.PairPlaces.{item_key}
use Rattle.toml_layout.specs.RenamingIn.{reaches}
use Rattle.toml_layout.specs.Takings.{IsFirstMark, TakesAll}

-- whether all these steps are the first names of a key, if there is one
abbrev pub key_reaches : Address → Option Key → Bool
key_reaches steps None = false
key_reaches steps (Some k) = reaches k steps

abbrev pub reaches_at : Address → List Item → ℕ → Bool
reaches_at steps items i = key_reaches steps (option_and_then item_key (slice_get items i))

-- which items stand at the steps, or below
abbrev pub marks_at : Address → List Item → List Bool
marks_at steps = map (λ it. key_reaches steps (item_key it))

-- whether an item that stays mentions the parent
abbrev pub is_kept : Address → Address → Item → Bool
is_kept parent steps it = key_reaches parent (item_key it) && not (key_reaches steps (item_key it))

-- the table at the parent is left: it is no table of dotted keys, or one does
abbrev pub is_left : Address → Address → List Item → Bool
is_left [] steps items = true
is_left (s ∷ parent) steps items = list_any (is_kept (s ∷ parent) steps) items

-- whether the one with the index does
abbrev pub keeps_at : Address → Address → List Item → ℕ → Bool
keeps_at parent steps items i = reaches_at parent items i && not (reaches_at steps items i)

-- an item comes to stand for an empty table, its key cut to so many parts
pub record IsEmptied (parts : ℕ) (old new : Item) : Type 0 where
  pub before : new.before ≡ old.before
  pub after : new.after ≡ old.after
  pub value_is : value new.value ≡ no_pairs
  pub key_is : option_map (λ a. assign a.value) new.assign ≡ option_map (λ a. assign_cut parts (assign a.value)) old.assign

-- so does the one with the index, and that at the place in a list of entries
pub record EmptiesAt (parts i : ℕ) (old now : Items) : Type 0 where
  pub one : Item
  pub other : Item
  pub here : slice_get old.list i ≡ Some one
  pub emptied : IsEmptied parts one other
  pub now_is : now ≡ record old { list = set old.list i other }

pub record EmptiesEntry (parts place : ℕ) (old now : List Entry) : Type 0 where
  pub one : Entry
  pub other : Entry
  pub here : slice_get old place ≡ Some one
  pub emptied : IsEmptied parts (item one) (item other)
  pub now_is : now ≡ set old place other

abbrev pub EmptiesIf : ℕ → ℕ → Items → Items → Type 0
EmptiesIf parts i old now = ((slice_get old.list i ≡ None) × (now ≡ old)) ⊎ EmptiesAt parts i old now

-- the item with it comes to stand so, and the mark goes; or there is none
abbrev pub ReplacesFirst : ℕ → List Bool → List Bool → Items → Items → Type 0
ReplacesFirst parts marks left old now =
    ((list_any (λ m. m) marks ≡ false) × (left ≡ marks) × (now ≡ old))
    ⊎ ((i : ℕ) × IsFirstMark marks i × (left ≡ set marks i false) × EmptiesIf parts i old now)

-- those with these marks go, but where the table would vanish the first of them stands for it
abbrev pub TakesBy : Bool → Layout → ℕ → List Bool → Items → Items → Type 0
TakesBy true layout parts marks old now = TakesAll layout marks old now
TakesBy false layout parts marks old now =
    (left : List Bool) × (mid : Items) × ReplacesFirst parts marks left old mid × TakesAll layout left mid now

-- by a `remove` at the steps, in the table at the parent
abbrev pub TakesPairs : Layout → Address → Address → Items → Items → Type 0
TakesPairs layout parent steps old now = TakesBy (is_left parent steps old.list) layout (length parent) (marks_at steps old.list) old now
