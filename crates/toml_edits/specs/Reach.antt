-- How far below the root of data something stands.
use Rattle.std.specs.Prelude.{◌≤◌, ℕ, length, IsSome}
use Rattle.toml_names.specs.model.Addresses.{Address}
use Rattle.toml_names.specs.model.Data.{Kinds}

-- something stands so many steps below, or more
abbrev pub Reaches : Kinds → ℕ → Type 0
Reaches kinds steps = (at : Address) × IsSome (kinds at) × (steps ≤ length at)
