-- What stands right above an address.
use Rattle.std.specs.Prelude.{◌≡◌, ◌⊎◌, [], ◌∷◌, ◌++◌}
use Rattle.toml_names.specs.declared.model.address.Step.{Step}
use Rattle.toml_names.specs.model.Addresses.{Address}

-- the address without its last step, if it has one
abbrev pub IsParent : Address → Address → Type 0
IsParent at q = (at ≡ []) ⊎ ((s : Step) × (at ≡ q ++ s ∷ []))
