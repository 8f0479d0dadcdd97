-- When an edit is refused, and why: the first row that holds.
use Rattle.std.specs.Prelude.{◌≡◌, ◌⊎◌, ◌+◌, ◌<◌, ℕ, List, [], ◌∷◌, ◌++◌, length, Option, Some, None, IsSome, MatchOption}
use Rattle.toml_tree.specs.declared.profile.Profile.{Profile}
use Rattle.toml_names.specs.declared.model.address.Step.{Step}
use Rattle.toml_names.specs.model.Addresses.{Address, child, element}
use Rattle.toml_names.specs.model.Data.{Kinds}
use Rattle.toml_names.specs.mentions.Mentions.{a_table, an_array}
use Rattle.toml_names.specs.mentions.Rules.{max_steps}
use Rattle.toml_edits.specs.declared.fault.EditFault.{EditFault}
use Rattle.toml_edits.specs.declared.fault.EditFault.TheVariants.{RootNamed, NotAnElement, BadValue, NoSuchPlace, NotATable, IndexOutside, NotAName, AlreadyThere, AddressLength, NoMemory}
use Rattle.toml_edits.specs.Edits.{Change, set, insert, rename, remove, new_section, new_element, place}
use Rattle.toml_edits.specs.ValueTexts.{IsBadValue, IsLongValue, IsGoodValue}

-- the order of the rows
abbrev pub rank : EditFault → ℕ
rank RootNamed = 0
rank NotAnElement = 1
rank BadValue = 2
rank NoSuchPlace = 3
rank NotATable = 4
rank IndexOutside = 5
rank NotAName = 6
rank AlreadyThere = 7
rank AddressLength = 8
rank NoMemory = 9

-- an address of the value, placed at this one, would have more than 100 steps
abbrev pub IsTooDeep : Profile → Address → List ℕ → Type 0
IsTooDeep profile at value = IsLongValue profile value ⊎ ((v : Kinds) × IsGoodValue profile value v × (r : Address) × IsSome (v r) × (max_steps < length at + length r))

-- the data have no array at the address that has so many elements
abbrev pub HasFewer : Kinds → Address → ℕ → Type 0
HasFewer kinds q i = ¬ (kinds q ≡ Some an_array) ⊎ ((j : ℕ) × (j < i) × (kinds (element q j) ≡ None))

-- the address of an element of an array that a table may have: its last step is an index, and the one before it a name
abbrev pub IsElementOf : Address → Address → List ℕ → ℕ → Type 0
IsElementOf at r n i = at ≡ element (child r n) i

-- the array at the address has just so many elements; one that is not there has none
abbrev pub IsNextIndex : Kinds → Address → ℕ → Type 0
IsNextIndex kinds q i = MatchOption (kinds q) (i ≡ 0) (λ k. (k ≡ an_array) × ((j : ℕ) → j < i → IsSome (kinds (element q j))) × (kinds (element q i) ≡ None))

-- the rows of each edit, its value a text of the profile; want of memory has none
abbrev pub Row : Profile → Change → Kinds → EditFault → Type 0
Row profile c kinds RootNamed = place c ≡ []
Row profile (new_element at) kinds NotAnElement = (r : Address) (n : List ℕ) (i : ℕ) → ¬ IsElementOf at r n i
Row profile (set at value) kinds BadValue = IsBadValue profile value
Row profile (insert at value) kinds BadValue = IsBadValue profile value
Row profile (set at value) kinds NoSuchPlace = kinds at ≡ None
Row profile (insert at value) kinds NoSuchPlace = (q : Address) × (s : Step) × (at ≡ q ++ s ∷ []) × (kinds q ≡ None)
Row profile (rename at to) kinds NoSuchPlace = kinds at ≡ None
Row profile (remove at) kinds NoSuchPlace = kinds at ≡ None
Row profile (new_section at) kinds NoSuchPlace = (q : Address) × (s : Step) × (at ≡ q ++ s ∷ []) × (kinds q ≡ None)
Row profile (new_element at) kinds NoSuchPlace = (r : Address) × (n : List ℕ) × (i : ℕ) × IsElementOf at r n i × (kinds r ≡ None)
Row profile (insert at value) kinds NotATable = (q : Address) × (n : List ℕ) × (at ≡ child q n) × ¬ (kinds q ≡ Some a_table)
Row profile (new_section at) kinds NotATable = (q : Address) × (n : List ℕ) × (at ≡ child q n) × ¬ (kinds q ≡ Some a_table)
Row profile (new_element at) kinds NotATable = (r : Address) × (n : List ℕ) × (i : ℕ) × IsElementOf at r n i × ¬ (kinds r ≡ Some a_table)
Row profile (insert at value) kinds IndexOutside = (q : Address) × (i : ℕ) × (at ≡ element q i) × HasFewer kinds q i
Row profile (new_element at) kinds IndexOutside = (q : Address) × (i : ℕ) × (at ≡ element q i) × ¬ IsNextIndex kinds q i
Row profile (new_section at) kinds NotAName = (q : Address) × (i : ℕ) × (at ≡ element q i)
Row profile (rename at to) kinds NotAName = (q : Address) × (i : ℕ) × (at ≡ element q i)
Row profile (insert at value) kinds AlreadyThere = (q : Address) × (n : List ℕ) × (at ≡ child q n) × IsSome (kinds at)
Row profile (rename at to) kinds AlreadyThere = (q : Address) × (n : List ℕ) × (at ≡ child q n) × IsSome (kinds (child q to))
Row profile (new_section at) kinds AlreadyThere = (q : Address) × (n : List ℕ) × (at ≡ child q n) × IsSome (kinds at)
Row profile (set at value) kinds AddressLength = IsTooDeep profile at value
Row profile (insert at value) kinds AddressLength = IsTooDeep profile at value
Row profile (new_section at) kinds AddressLength = max_steps < length at
Row profile (new_element at) kinds AddressLength = max_steps < length at
Row profile _ kinds _ = ⊥

-- the first row that holds, or none
abbrev pub IsFirstRow : (EditFault → Type 0) → Option EditFault → Type 0
IsFirstRow Holds found = MatchOption found ((x : EditFault) → ¬ Holds x) (λ x. Holds x × ((y : EditFault) → rank y < rank x → ¬ Holds y))

-- the fault of an edit on data, its value a text of the profile
abbrev pub IsFault : Profile → Change → Kinds → Option EditFault → Type 0
IsFault profile c kinds = IsFirstRow (Row profile c kinds)
