-- Addresses: lists of steps, a step a name, as its bytes, or an index.
use Rattle.std.specs.Prelude.{◌≡◌, ◌↔◌, ℕ, Bool, true, false, ◌&&◌, ◌==◌, List, [], ◌∷◌, ◌++◌, map, Option, option_map}
use Rattle.std.specs.Borrow.{Bor}
use Rattle.std.specs.Cmp.Lexicographic.{pointwise}
use Rattle.std.specs.Str.{bytes_eq}
use Rattle.toml_names.specs.declared.model.address.Step.{Step}
use Rattle.toml_names.specs.declared.model.address.Step.TheVariants.{Name, Index}

abbrev pub Address : Type 0
Address = List Step

-- an address that is lent, if there is one
abbrev pub lent : Option (Bor Address) → Option Address
lent = option_map (λ (a : Bor Address). a.now)

abbrev pub same_step : Step → Step → Bool
same_step (Name m) (Name n) = bytes_eq m n
same_step (Index i) (Index j) = i == j
same_step _ _ = false

abbrev pub same_address : Address → Address → Bool
same_address = pointwise same_step

-- the address of a name in the table at the address
abbrev pub child : Address → List ℕ → Address
child at n = at ++ Name n ∷ []

-- the address of an element of the array at the address
abbrev pub element : Address → ℕ → Address
element at i = at ++ Index i ∷ []

-- the address that a whole key reaches from the table at the address
abbrev pub below : Address → List (List ℕ) → Address
below at key = at ++ map Name key

-- the first address is a beginning of the second, and shorter
abbrev pub IsAbove : Address → Address → Type 0
IsAbove a b = (s : Step) × (rest : Address) × (b ≡ a ++ s ∷ rest)

-- the plain function
abbrev pub is_above : Address → Address → Bool
is_above [] [] = false
is_above [] (t ∷ other) = true
is_above (s ∷ at) [] = false
is_above (s ∷ at) (t ∷ other) = same_step s t && is_above at other

-- Laws: steps that are the same are equal, and each is the same as itself;
abbrev pub SameStepIsEqual : Type 0
SameStepIsEqual = (s t : Step) → same_step s t ≡ true → s ≡ t

abbrev pub StepIsSame : Type 0
StepIsSame = (s : Step) → same_step s s ≡ true

-- addresses that are the same are equal, and equal ones the same.
abbrev pub SameIsEqual : Type 0
SameIsEqual = (a b : Address) → (same_address a b ≡ true) ↔ (a ≡ b)

abbrev pub AboveIsAbove : Type 0
AboveIsAbove = (a b : Address) → (is_above a b ≡ true) ↔ IsAbove a b
