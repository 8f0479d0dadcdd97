-- What is asked of a thing that keeps a list of it, as of the files that are read or made.
use Rattle.std.specs.Prelude.{◌≡◌, List, ◌++◌, Option, Some, None, ⊤}

-- The list is the one before, and then these. Of a thing that keeps none nothing is claimed.
abbrev pub Adds : {A : Type 0} → List A → Option (List A) → Option (List A) → Type 0
Adds new before None = ⊤
Adds new None (Some all) = ⊥
Adds new (Some earlier) (Some all) = all ≡ earlier ++ new

-- between the two, things were asked of which P holds
pub record Asked {A : Type 0} (before after : Option (List A)) (P : List A → Type 0) : Type 0 where
  pub new : List A
  pub added : Adds new before after
  pub which : P new
