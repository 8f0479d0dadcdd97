-- What an `insert` and a `remove` make of the array or the inline table that holds what the steps name, or would hold it.
use Rattle.std.specs.Prelude.{◌≡◌, ◌⊎◌, ℕ, Bool, true, false, List, [], ◌∷◌, ◌++◌, None}
use Rattle.std.specs.Global.{Box}
use Rattle.std.specs.declared.alloc.Global.{Global}
use Rattle.std.specs.declared.string.String.{String}
use Rattle.toml_names.specs.declared.model.address.Step.{Step}
use Rattle.toml_names.specs.declared.model.address.Step.TheVariants.{Index}
use Rattle.toml_names.specs.model.Addresses.{Address}
use Rattle.toml_layout.specs.declared.layout.Layout.{Layout}
use Rattle.toml_layout.specs.declared.members.Held.{Held}
use Rattle.toml_layout.specs.declared.members.Held.TheVariants as held
use Rattle.toml_layout.specs.declared.tree.Entries.{Entries}
use Rattle.toml_layout.specs.declared.tree.Value.{Value}
use Rattle.toml_layout.specs.declared.tree.Value.TheVariants as values
use Rattle.toml_layout.specs.Apart.{HasKeysApart}
use Rattle.toml_layout.specs.Holders.{has_holder}
use Rattle.toml_layout.specs.Items.{Items, items_of}
use Rattle.toml_layout.specs.Leading.{ChangesEntry, LeadsOn}
use Rattle.toml_layout.specs.OpenOutlines.{Enclosed, entries, value}
use Rattle.toml_layout.specs.Outlines.{ValueOutline}
use Rattle.toml_layout.specs.PairPlaces.{PutsPair, last_parts}
use Rattle.toml_layout.specs.PairRemovals.{TakesPairs}
use Rattle.toml_layout.specs.Rooms.{PutsItem}
use Rattle.toml_layout.specs.SettingIn.{SetsIn}
use Rattle.toml_layout.specs.Takings.{TakesOne}

-- ---- where what the steps name is held

-- what becomes of an array or an inline table that holds what these steps name
abbrev pub HolderChange : Type 1
HolderChange = Address → Value → Value → Type 0

-- The first steps lead to a value, which to set there changes nothing. Another one stands there now, and all else is as it was: this
-- is the change of the one, by the steps that are left.
pub record ChangesHolder {A : Type 0} (Sets : Address → ValueOutline → A → A → Bool → Type 0) (makes : HolderChange) (steps : Address) (old now : A) : Type 0 where
  pub to : Address
  pub rest : Address
  pub split : steps ≡ to ++ rest
  pub was : Value
  pub other : Value
  pub stood : Sets to (value was) old old true
  pub stands : Sets to (value other) old now true
  pub made : makes rest was other

-- so it is where the change was made
abbrev pub HoldsBy : {A : Type 0} → (Address → ValueOutline → A → A → Bool → Type 0) → Address → HolderChange → A → A → Bool → Type 0
HoldsBy Sets steps makes old now done = done ≡ true → ChangesHolder Sets makes steps old now

-- In a value: it is made where an array or an inline table holds what the steps name, if keys are apart; else nothing changes.
pub record HoldsIn (steps : Address) (makes : HolderChange) (old now : ValueOutline) (done : Bool) : Type 0 where
  pub made : HoldsBy SetsIn steps makes old now done
  pub stays : done ≡ false → now ≡ old
  pub tells : HasKeysApart old → done ≡ has_holder old steps

-- in that of the entry with the index, if there is one

abbrev pub HoldsEntry : ℕ → Address → HolderChange → Enclosed → Enclosed → Bool → Type 0
HoldsEntry i steps makes old now done = ChangesEntry (λ v w. HoldsIn steps makes v w done) (done ≡ false) i old now

-- ---- what becomes of the holder

-- an array, at the index that is the one step left
pub record ChangesArray (P : ℕ → Items → Items → Type 0) (steps : Address) (was other : Value) : Type 0 where
  pub old : Box Entries
  pub now : Box Entries
  pub was_is : was ≡ values.Array old
  pub other_is : other ≡ values.Array now
  pub index : ℕ
  pub named : steps ≡ Index index ∷ []
  pub made : P index (items_of old.value) (items_of now.value)

-- an inline table of which no pair leads on to all but the last of the steps
pub record ChangesTable (P : Address → Address → Items → Items → Type 0) (steps : Address) (was other : Value) : Type 0 where
  pub old : Box Entries
  pub now : Box Entries
  pub was_is : was ≡ values.Inline old
  pub other_is : other ≡ values.Inline now
  pub parent : Address
  pub last : Step
  pub split : steps ≡ parent ++ last ∷ []
  pub innermost : LeadsOn (entries old.value).entries parent None
  pub made : P parent steps (items_of old.value) (items_of now.value)

-- of what is held: an element at the index, or the pairs at some steps, whose parent is the table at others
abbrev pub ChangesElement : Layout → Held → ℕ → Items → Items → Type 0
ChangesElement layout (held.Put spelled new) i old now = PutsItem layout i None new old now
ChangesElement layout held.Out i old now = TakesOne layout i old now

abbrev pub ChangesPairs : Layout → Held → Address → Address → Items → Items → Type 0
ChangesPairs layout (held.Put spelled new) parent steps old now = PutsPair layout (last_parts spelled.now steps) new parent old now
ChangesPairs layout held.Out parent steps old now = TakesPairs layout parent steps old now

abbrev pub MakesHeld : Layout → Held → HolderChange
MakesHeld layout change steps was other = ChangesArray (ChangesElement layout change) steps was other ⊎ ChangesTable (ChangesPairs layout change) steps was other

-- by an `insert` of a value, the steps of whose whole address are spelled so
abbrev pub PutsHeld : Layout → List (String Global) → Value → HolderChange
PutsHeld layout spelled new steps was other =
    ChangesArray (λ i. PutsItem layout i None new) steps was other
    ⊎ ChangesTable (λ parent rest. PutsPair layout (last_parts spelled rest) new parent) steps was other

-- by a `remove`
abbrev pub TakesHeld : Layout → HolderChange
TakesHeld layout steps was other = ChangesArray (TakesOne layout) steps was other ⊎ ChangesTable (TakesPairs layout) steps was other
