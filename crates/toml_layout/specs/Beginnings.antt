-- Lists that begin others, by when an element of one goes with one of the other.
use Rattle.std.specs.Prelude.{Bool, true, false, ◌&&◌, List, [], ◌∷◌}
use Rattle.toml_names.specs.model.Addresses.{Address, same_step}

-- whether the first list is a beginning of the second, or all of it
abbrev pub begins_by : {A B : Type 0} → (A → B → Bool) → List A → List B → Bool
begins_by f [] ys = true
begins_by f (x ∷ xs) [] = false
begins_by f (x ∷ xs) (y ∷ ys) = f x y && begins_by f xs ys

-- whether the first address is a beginning of the second, or all of it
abbrev pub begins : Address → Address → Bool
begins = begins_by same_step
