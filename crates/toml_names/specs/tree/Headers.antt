-- A header's key, front by front.
use Rattle.std.specs.Prelude.{ℕ, List, [], ◌∷◌}
use Rattle.toml_names.specs.declared.mentions.mention.Role.TheVariants.{Passed}
use Rattle.toml_names.specs.model.Addresses.{Address, child}
use Rattle.toml_names.specs.mentions.Keys.{Key}
use Rattle.toml_names.specs.mentions.Mentions.{Named, table_at, entered}

-- what the proper fronts of a header's key mention, followed from the address
abbrev pub header_fronts : ℕ → List Named → Address → Key → List Named
header_fronts line earlier at [] = []
header_fronts line earlier at (n ∷ []) = []
header_fronts line earlier at (n ∷ m ∷ more) =
    table_at line Passed (entered earlier (child at n)) ∷ header_fronts line earlier (entered earlier (child at n)) (m ∷ more)
