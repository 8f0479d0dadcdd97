-- The form of a boolean, the plain function beside it and the value.
use Rattle.std.specs.Prelude.{◌≡◌, ℕ, Bool, ◌||◌, List, ◌⊎◌, codes}
use Rattle.std.specs.Str.{bytes_eq}

-- TOML v1.0.0, Boolean; `boolean = true / false`
abbrev pub IsBool : List ℕ → Type 0
IsBool bs = (bs ≡ codes "true") ⊎ (bs ≡ codes "false")

abbrev pub is_bool : List ℕ → Bool
is_bool bs = bytes_eq bs (codes "true") || bytes_eq bs (codes "false")

-- TOML v1.0.0, Boolean: the value that a boolean spells
abbrev pub bool_value : List ℕ → Bool
bool_value bs = bytes_eq bs (codes "true")
