-- Where a pair is put into an inline table, and with which key.
use Rattle.std.specs.Prelude.{◌≡◌, ◌⊎◌, ◌+◌, ◌-◌, ◌<◌, ◌&&◌, ℕ, Bool, true, false, List, [], ◌∷◌, drop, length, map, Option, Some, None, option_and_then, option_map, slice_get, string_bytes, nat_lt}
use Rattle.std.specs.Global.{Box}
use Rattle.std.specs.declared.alloc.Global.{Global}
use Rattle.std.specs.declared.string.String.{String}
use Rattle.toml_names.specs.mentions.Keys.{Key}
use Rattle.toml_names.specs.model.Addresses.{Address}
use Rattle.toml_layout.specs.declared.layout.Layout.{Layout}
use Rattle.toml_layout.specs.declared.layout.Layout.TheVariants as layouts
use Rattle.toml_layout.specs.declared.tree.Assign.{Assign}
use Rattle.toml_layout.specs.declared.tree.Value.{Value}
use Rattle.toml_layout.specs.Items.{Item, Items}
use Rattle.toml_layout.specs.Leading.{open_names}
use Rattle.toml_layout.specs.Looks.{respaced}
use Rattle.toml_layout.specs.NewKeys.{key_of}
use Rattle.toml_layout.specs.OpenOutlines.{assign, leaf_text}
use Rattle.toml_layout.specs.Outlines.{AssignOutline}
use Rattle.toml_layout.specs.RenamingIn.{reaches}
use Rattle.toml_layout.specs.Rooms.{PutsItem}
use Rattle.toml_layout.specs.Takings.{item_above}

-- the names of the key of an item, if it is a pair
abbrev pub item_key : Item → Option Key
item_key it = option_map (λ a. open_names a.value.key) it.assign

-- whether a key goes on behind these steps, and whether that of the item with the index does
abbrev pub goes_on : Address → Option Key → Bool
goes_on steps None = false
goes_on steps (Some k) = nat_lt (length steps) (length k) && reaches k steps

abbrev pub goes_on_at : Address → List Item → ℕ → Bool
goes_on_at steps items i = goes_on steps (option_and_then item_key (slice_get items i))

-- one more than the last index at which the test is true, or this number where it is true at none
abbrev pub IsBehindLast : (ℕ → Bool) → ℕ → ℕ → Type 0
IsBehindLast test count i =
    ((k : ℕ) × (i ≡ k + 1) × (test k ≡ true) × ((j : ℕ) → k < j → test j ≡ false)) ⊎ ((i ≡ count) × ((j : ℕ) → test j ≡ false))

-- behind the last pair below the table at these steps, else behind the last one
abbrev pub IsPlaceBelow : Address → List Item → ℕ → Type 0
IsPlaceBelow [] items i = i ≡ length items
IsPlaceBelow (s ∷ parent) items i = IsBehindLast (goes_on_at (s ∷ parent) items) (length items) i

-- so it is by `Follow`; else behind the last one
abbrev pub IsPairPlace : Layout → Address → List Item → ℕ → Type 0
IsPairPlace layouts.Plain parent items i = i ≡ length items
IsPairPlace layouts.Follow parent items i = IsPlaceBelow parent items i

-- what stands around the `=` of an item, if it is a pair, and around that of the one before the index
abbrev pub item_equals : Item → Option (List ℕ × List ℕ)
item_equals it = option_map (λ a. (leaf_text a.value.before_equals, leaf_text a.value.after_equals)) it.assign

abbrev pub equals_above : Items → ℕ → Option (List ℕ × List ℕ)
equals_above m i = option_and_then item_equals (item_above m i)

-- by `Follow` a key has that around its `=`, where it is nothing or one space on each side
abbrev pub spaced_behind : Option (List ℕ × List ℕ) → AssignOutline → AssignOutline
spaced_behind None a = a
spaced_behind (Some (before, after)) a = respaced before after a

abbrev pub laid_key : Layout → Items → ℕ → AssignOutline → AssignOutline
laid_key layouts.Plain m i a = a
laid_key layouts.Follow m i a = spaced_behind (equals_above m i) a

-- a pair is put in for the table at these steps, its key of these parts
pub record PutsPair (layout : Layout) (parts : List (List ℕ)) (new : Value) (parent : Address) (old now : Items) : Type 0 where
  pub index : ℕ
  pub place : IsPairPlace layout parent old.list index
  pub key : Box Assign
  pub spelled : assign key.value ≡ laid_key layout old index (key_of parts)
  pub puts : PutsItem layout index (Some key) new old now

-- the last so many of these spellings, as there are steps
abbrev pub last_parts : List (String Global) → Address → List (List ℕ)
last_parts spelled steps = map string_bytes (drop (length spelled - length steps) spelled)
