-- Where the thing at an address stands after an edit.
use Rattle.std.specs.Prelude.{ℕ, ◌+◌, ◌-◌, ◌^◌, ◌==◌, if◌then◌else◌, List, [], ◌∷◌, Option, Some, None, option_map}
use Rattle.std.specs.Bool.{nat_lt}
use Rattle.std.specs.Str.{bytes_eq}
use Rattle.toml_names.specs.declared.model.address.Step.{Step}
use Rattle.toml_names.specs.declared.model.address.Step.TheVariants.{Name, Index}
use Rattle.toml_names.specs.model.Addresses.{Address, same_step}
use Rattle.toml_edits.specs.Edits.{Change, set, insert, rename, remove, new_section, new_element}

-- an address, or nowhere
abbrev pub Carrier : Type 0
Carrier = Address → Option Address

-- what is at or below the address goes as the carrier says, all else stays
abbrev pub carry_below : Address → Carrier → Carrier
carry_below [] c a = c a
carry_below (s ∷ p) c [] = Some []
carry_below (s ∷ p) c (t ∷ a) = if same_step s t then option_map (λ r. t ∷ r) (carry_below p c a) else Some (t ∷ a)

abbrev pub nowhere : Carrier
nowhere a = None

-- what is below goes, the place stays
abbrev pub emptied : Carrier
emptied [] = Some []
emptied (t ∷ a) = None

-- one further from the index on; an index that would pass 64 bits stands nowhere
abbrev pub up_from : ℕ → Carrier
up_from i [] = Some []
up_from i (Name n ∷ a) = Some (Name n ∷ a)
up_from i (Index j ∷ a) = if nat_lt j i then Some (Index j ∷ a) else if nat_lt (j + 1) (2 ^ 64) then Some (Index (j + 1) ∷ a) else None

-- nowhere at the index, and one nearer above it
abbrev pub down_above : ℕ → Carrier
down_above i [] = Some []
down_above i (Name n ∷ a) = Some (Name n ∷ a)
down_above i (Index j ∷ a) = if nat_lt j i then Some (Index j ∷ a) else if j == i then None else Some (Index (j - 1) ∷ a)

abbrev pub to_name : List ℕ → List ℕ → Carrier
to_name from to [] = Some []
to_name from to (Index i ∷ a) = Some (Index i ∷ a)
to_name from to (Name n ∷ a) = if bytes_eq from n then Some (Name to ∷ a) else Some (Name n ∷ a)

-- an address as its parent and its last step; the root's has none
abbrev pub parted : Address → Option (Address × Step)
parted [] = None
parted (s ∷ []) = Some ([], s)
parted (s ∷ t ∷ p) = option_map (λ w. (s ∷ w.0, w.1)) (parted (t ∷ p))

abbrev pub inserting : Option (Address × Step) → Carrier
inserting None = Some
inserting (Some (q, Name n)) = Some
inserting (Some (q, Index i)) = carry_below q (up_from i)

abbrev pub renaming : Option (Address × Step) → List ℕ → Carrier
renaming None to = Some
renaming (Some (q, Name n)) to = carry_below q (to_name n to)
renaming (Some (q, Index i)) to = Some

abbrev pub removing : Option (Address × Step) → Carrier
removing None = Some
removing (Some (q, Name n)) = carry_below q (carry_below (Name n ∷ []) nowhere)
removing (Some (q, Index i)) = carry_below q (down_above i)

-- an edit at the root carries every address to itself
abbrev pub setting : Address → Carrier
setting [] = Some
setting (s ∷ p) = carry_below (s ∷ p) emptied

abbrev pub carry : Change → Carrier
carry (set at value) = setting at
carry (insert at value) = inserting (parted at)
carry (rename at to) = renaming (parted at) to
carry (remove at) = removing (parted at)
carry (new_section at) = Some
carry (new_element at) = Some
