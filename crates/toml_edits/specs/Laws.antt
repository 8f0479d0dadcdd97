-- Laws of edits, over the definitions alone.
use Rattle.std.specs.Prelude.{◌≡◌, ◌-◌, ◌^◌, ℕ, List, [], ◌∷◌, ◌++◌, length, Some, None, IsSome, option_map}
use Rattle.toml_tree.specs.declared.profile.Profile.{Profile}
use Rattle.toml_names.specs.declared.model.address.Step.{Step}
use Rattle.toml_names.specs.declared.model.datum.Datum.{Datum}
use Rattle.toml_names.specs.model.Addresses.{Address, IsAbove, element}
use Rattle.toml_names.specs.model.Data.{Kinds, kind_at, IsClosed}
use Rattle.toml_names.specs.mentions.Mentions.{a_table, an_array}
use Rattle.toml_names.specs.model.Indices.{IsLow}
use Rattle.toml_edits.specs.After.{IsAfter}
use Rattle.toml_edits.specs.Carry.{Carrier, carry, carry_below, nowhere, parted}
use Rattle.toml_edits.specs.Edits.{Change, set, insert, new_section, new_element, place}
use Rattle.toml_edits.specs.Faults.{IsFault}

-- for `set`, the address is not the edit's own
abbrev pub IsNotSet : Change → Address → Type 0
IsNotSet (set at value) a = ¬ (at ≡ a)
IsNotSet _ a = Unit {0}

-- Where the place edited is not strictly below an address, what is below the address is carried along with it.
abbrev pub CarriedAlong : Type 0
CarriedAlong = (c : Change) (a r : Address) → ¬ IsAbove a (place c) → IsNotSet c a → carry c (a ++ r) ≡ option_map (λ b. b ++ r) (carry c a)

-- An address that ends with a step is parted into what is before that and the step.
abbrev pub PartedAtLast : Type 0
PartedAtLast = (q : Address) (s : Step) → parted (q ++ s ∷ []) ≡ Some (q, s)

-- A beginning of what is carried is carried to a beginning of the same length.
pub record Front (c : Carrier) (a b : Address) : Type 0 where
  pub to : Address
  pub rest : Address
  pub carried : c a ≡ Some to
  pub whole : b ≡ to ++ rest
  pub same : length to ≡ length a

abbrev pub CarriedFront : Type 0
CarriedFront = (c : Change) (a r b : Address) → carry c (a ++ r) ≡ Some b → Front (carry c) a b

-- In data nothing stands below an address where nothing does.
abbrev pub DataAreClosed : Type 0
DataAreClosed = (d : Datum) → IsClosed (kind_at d)

-- Where nothing stands below nothing, something stands at each beginning of an address at which something does.
abbrev pub FrontsStand : Type 0
FrontsStand = (kinds : Kinds) → IsClosed kinds → (q r : Address) → IsSome (kinds (q ++ r)) → IsSome (kinds q)

-- the edit puts a value where it is made
abbrev pub PutsValue : Change → Type 0
PutsValue (set at value) = Unit {0}
PutsValue (insert at value) = Unit {0}
PutsValue _ = ⊥

-- it is a `set` at the address or above it
abbrev pub SetsOver : Change → Address → Type 0
SetsOver (set at value) a = (r : Address) × (a ≡ at ++ r)
SetsOver _ a = ⊥

-- After an edit that puts a value something stands at its place.
abbrev pub ValuesStand : Type 0
ValuesStand = (profile : Profile) (c : Change) (old new : Kinds) → IsAfter profile c old new → PutsValue c → IsSome (new (place c))

-- What an edit without a fault carries to where it puts a value, or below that, lay under a `set`: else nothing comes to stand there.
abbrev pub ValuesAreNew : Type 0
ValuesAreNew = (profile : Profile) (c : Change) (old : Kinds) → IsClosed old → IsFault profile c old None → PutsValue c → (a rest : Address) → IsSome (old a) → carry c a ≡ Some (place c ++ rest) → SetsOver c a

-- Two addresses of the data that an edit without a fault carries to one address are one.
abbrev pub CarriedApart : Type 0
CarriedApart = (profile : Profile) (c : Change) (kinds : Kinds) → IsClosed kinds → IsFault profile c kinds None → (a b to : Address) → IsSome (kinds a) → IsSome (kinds b) → carry c a ≡ Some to → carry c b ≡ Some to → a ≡ b

-- An edit makes one thing of data: two maps that are what it makes are equal.
abbrev pub OneAfter : Type 0
OneAfter = (profile : Profile) (c : Change) (old one two : Kinds) → IsAfter profile c old one → IsAfter profile c old two → (a : Address) → one a ≡ two a

-- An `insert` raises indices: each of them has room to rise by one.
abbrev pub HasRoom : Change → Kinds → Type 0
HasRoom (insert at value) kinds = (a : Address) → IsSome (kinds a) → IsLow (2 ^ 64 - 1) a
HasRoom _ kinds = Unit {0}

-- Of data in which nothing stands below nothing, an edit without a fault makes something. That a text is a value is told by what it
-- is not.
abbrev pub SomeAfter : Type 0
SomeAfter = (profile : Profile) (c : Change) (old : Kinds) → IsClosed old → HasRoom c old → IsFault profile c old None → ¬ ¬ ((new : Kinds) × IsAfter profile c old new)

-- For `set`, the place's own old fact aside, the facts move as the edit carries them.
abbrev pub SetCarries : Type 0
SetCarries = (s : Step) (p a : Address) (value : List ℕ) → ¬ (a ≡ s ∷ p) → carry_below (s ∷ p) nowhere a ≡ carry (set (s ∷ p) value) a

-- New sections and new elements carry every address to itself.
abbrev pub NewTablesStay : Type 0
NewTablesStay = (at a : Address) → (carry (new_section at) a ≡ Some a) × (carry (new_element at) a ≡ Some a)

-- With a new section an empty table stands at its address, and elsewhere what stood there.
abbrev pub SectionIsEmpty : Type 0
SectionIsEmpty = (profile : Profile) (at : Address) (old new : Kinds) → IsAfter profile (new_section at) old new
    → (new at ≡ Some a_table) × ((a : Address) → ¬ (a ≡ at) → new a ≡ old a)

-- With a new element that has no fault an empty table stands at its address, an array at that of its array, and elsewhere what
-- stood there.
abbrev pub ElementIsEmpty : Type 0
ElementIsEmpty = (profile : Profile) (q : Address) (i : ℕ) (old new : Kinds) → IsFault profile (new_element (element q i)) old None → IsAfter profile (new_element (element q i)) old new
    → (new (element q i) ≡ Some a_table) × (new q ≡ Some an_array) × ((a : Address) → ¬ (a ≡ element q i) → ¬ (a ≡ q) → new a ≡ old a)
