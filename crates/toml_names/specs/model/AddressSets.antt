-- Which addresses a set has, and what it hides beside the ways to them: names with all below them, and what is below elements.
use Rattle.std.specs.Prelude.{◌≡◌, ◌==◌, ◌&&◌, ◌||◌, ℕ, Bool, true, false, List, [], ◌∷◌, ◌++◌, not, Option, Some, None, String, option_map, if◌then◌else◌}
use Rattle.std.specs.BTreeMap.{BTreeMap, get, get_by_text}
use Rattle.std.specs.Option.{unwrap_or}
use Rattle.std.specs.Ordering.{nat_cmp}
use Rattle.std.specs.Str.{bytes_eq}
use Rattle.std.specs.declared.alloc.Global.{Global}
use Rattle.toml_names.specs.declared.model.address.Step.{Step}
use Rattle.toml_names.specs.declared.model.address.Step.TheVariants.{Name, Index}
use Rattle.toml_names.specs.declared.model.address_set.AddressSet.{AddressSet}
use Rattle.toml_names.specs.declared.model.address_set.AddressSet.TheViews.{out-AddressSet}
use Rattle.toml_names.specs.model.Addresses.{Address, same_step}
use Rattle.toml_names.specs.model.Hidden.{Cover, is_off, is_off_way}
use denote.Ref.{Bor}

-- whether all below the way so far is meant
abbrev pub is_whole : AddressSet → Bool
is_whole set = (out-AddressSet set).whole

-- the set one step down
abbrev pub below : AddressSet → Step → Option AddressSet
below set (Name n) = get_by_text (out-AddressSet set).names n
below set (Index i) = get nat_cmp (out-AddressSet set).elements i

-- what is hidden: beside the ways to the addresses of the set a name with all below it, and what is below an element
abbrev pub is_hidden : AddressSet → Cover
is_hidden set [] = false
is_hidden set (s ∷ at) = if is_whole set then false else unwrap_or (option_map (λ t. is_hidden t at) (below set s)) (is_off s at)

-- whether an address is above or at one of the set, or below one that has all below it
abbrev pub reaches : AddressSet → Address → Bool
reaches set [] = true
reaches set (s ∷ at) = if is_whole set then true else unwrap_or (option_map (λ t. reaches t at) (below set s)) false

-- Law: of addresses that end in a name those are reached that are not hidden.
abbrev pub ReachedAreNotHidden : Type 0
ReachedAreNotHidden = (set : AddressSet) (at : Address) (n : List ℕ) → reaches set (at ++ Name n ∷ []) ≡ not (is_hidden set (at ++ Name n ∷ []))

-- what is hidden at a step and below it, with the set there, if there is one
abbrev pub hides : Option AddressSet → Step → Cover
hides part s at = unwrap_or (option_map (λ t. is_hidden t at) part) (is_off s at)

-- one address more: no more is hidden, and nothing on the way to it
abbrev pub HidesLess : AddressSet → AddressSet → Address → Type 0
HidesLess old new way = (at : Address) → is_hidden new at ≡ is_hidden old at && is_off_way way at

-- the step of a name, if there is one
abbrev pub last_step : Option (Bor (List ℕ)) → Address
last_step None = []
last_step (Some n) = Name n.now ∷ []

-- the same of the parts at names, for one behind a name, and of those at indices, for one behind an index
abbrev pub AddsName : BTreeMap (String Global) AddressSet → BTreeMap (String Global) AddressSet → List ℕ → Address → Type 0
AddsName old new n way =
    (m : List ℕ) (at : Address) → hides (get_by_text new m) (Name m) at ≡ hides (get_by_text old m) (Name m) at && is_off_way (Name n ∷ way) (Name m ∷ at)

abbrev pub AddsElement : BTreeMap ℕ AddressSet → BTreeMap ℕ AddressSet → ℕ → Address → Type 0
AddsElement old new i way =
    (j : ℕ) (at : Address) → hides (get nat_cmp new j) (Index j) at ≡ hides (get nat_cmp old j) (Index j) at && is_off_way (Index i ∷ way) (Index j ∷ at)

-- whether a set that may not be there reaches an address
abbrev pub reaches_in : Option AddressSet → Address → Bool
reaches_in o at = unwrap_or (option_map (λ t. reaches t at) o) false

-- whether an address is at or above one address, or below it where all below it is meant
abbrev pub reaches_one : Bool → Address → Address → Bool
reaches_one whole [] [] = true
reaches_one whole [] (s ∷ at) = whole
reaches_one whole (t ∷ way) [] = true
reaches_one whole (t ∷ way) (s ∷ at) = same_step t s && reaches_one whole way at

-- it reaches the root, and nothing below it
abbrev pub IsRootAlone : AddressSet → Type 0
IsRootAlone set = (s : Step) (at : Address) → reaches set (s ∷ at) ≡ false

-- one address more, with all below it or without
abbrev pub ReachesMore : AddressSet → AddressSet → Bool → Address → Type 0
ReachesMore old new whole way = (at : Address) → reaches new at ≡ (reaches old at || reaches_one whole way at)

-- the same of the parts at names, for one behind a name, and of those at indices, for one behind an index
abbrev pub ReachesName : BTreeMap (String Global) AddressSet → BTreeMap (String Global) AddressSet → List ℕ → Bool → Address → Type 0
ReachesName old new n whole way = (m : List ℕ) (at : Address) → reaches_in (get_by_text new m) at ≡ (reaches_in (get_by_text old m) at || (bytes_eq n m && reaches_one whole way at))

abbrev pub ReachesElement : BTreeMap ℕ AddressSet → BTreeMap ℕ AddressSet → ℕ → Bool → Address → Type 0
ReachesElement old new i whole way = (j : ℕ) (at : Address) → reaches_in (get nat_cmp new j) at ≡ (reaches_in (get nat_cmp old j) at || (i == j && reaches_one whole way at))

-- a set was put in at a name, at an index
abbrev pub IsNamePut : List ℕ → AddressSet → BTreeMap (String Global) AddressSet → BTreeMap (String Global) AddressSet → Type 0
IsNamePut n t old new = (m : List ℕ) → get_by_text new m ≡ (if bytes_eq n m then Some t else get_by_text old m)

abbrev pub IsElementPut : ℕ → AddressSet → BTreeMap ℕ AddressSet → BTreeMap ℕ AddressSet → Type 0
IsElementPut i t old new = (j : ℕ) → get nat_cmp new j ≡ (if i == j then Some t else get nat_cmp old j)
