-- Edits on what lies along the addresses that they touch, and on nothing beside these.
use Rattle.std.specs.Prelude.{◌≡◌, ◌⊎◌, ◌↔◌, ◌++◌, ℕ, suc, List, [], ◌∷◌, take, All, true, false}
use Rattle.toml_names.specs.model.Addresses.{Address, child, element}
use Rattle.toml_names.specs.model.Hidden.{Cover, is_off_all, is_off_way}
use Rattle.toml_names.specs.mentions.Rules.{max_steps}
use Rattle.toml_edits.specs.Edits.{Change, set, insert, rename, remove, new_section, new_element, place}

-- the address is that of an element of the array at the other
abbrev pub IsElementIn : Address → Address → Type 0
IsElementIn p at = (i : ℕ) × (at ≡ element p i)

-- the first address is that of a member, the other the same with the new name
abbrev pub IsRenamed : Address → List ℕ → Address → Type 0
IsRenamed at to p = (q : Address) × (n : List ℕ) × (at ≡ child q n) × (p ≡ child q to)

-- an edit at one address moves what is at the other and below it: they are the same, or it moves the elements of an array
abbrev pub Shifts : Address → Address → Type 0
Shifts at p = (p ≡ at) ⊎ IsElementIn p at

-- the edit moves or makes what is at the address and below it
abbrev pub Opens : Change → Address → Type 0
Opens (set at value) p = p ≡ at
Opens (insert at value) p = Shifts at p
Opens (rename at to) p = (p ≡ at) ⊎ IsRenamed at to p
Opens (remove at) p = Shifts at p
Opens (new_section at) p = p ≡ at
Opens (new_element at) p = p ≡ at

-- nothing is hidden that the edit looks at, moves or makes: no beginning of its place, no element of what stands at one, and
-- nothing at and below the addresses that it opens
pub record IsNear (h : Cover) (c : Change) : Type 0 where
  pub fronts : (q r : Address) → place c ≡ q ++ r → h q ≡ false
  pub elements : (q r : Address) (i : ℕ) → place c ≡ q ++ r → h (element q i) ≡ false
  pub opened : (p r : Address) → Opens c p → h (p ++ r) ≡ false

-- nothing is hidden that edits of the list look at, move or make
abbrev pub AreNear : Cover → List Change → Type 0
AreNear h [] = Unit {0}
AreNear h (c ∷ cs) = IsNear h c × AreNear h cs

-- the way to an address: its steps, up to one more than an address in data may have
abbrev pub way_to : Address → Address
way_to p = take (suc max_steps) p

-- the address is hidden beside the ways to all addresses that are told
abbrev pub IsBeside : (Address → Type 0) → Address → Type 0
IsBeside Told a = (p : Address) → Told p → is_off_way (way_to p) a ≡ true

-- hidden is now what was hidden and is beside the ways to all addresses that are told, and nothing else
abbrev pub OpensMore : (Address → Type 0) → Cover → Cover → Type 0
OpensMore Told old new = (a : Address) → (new a ≡ true) ↔ ((old a ≡ true) × IsBeside Told a)

-- hidden is what is so where no way goes on and is beside the ways to all that the edits open, and nothing else
abbrev pub HidesBeside : Cover → List Change → Type 0
HidesBeside h cs = (a : Address) → (h a ≡ true) ↔ ((is_off_all a ≡ true) × All (λ c. IsBeside (Opens c) a) cs)
