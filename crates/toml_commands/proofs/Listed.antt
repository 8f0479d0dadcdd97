-- The JSON of an address has no float, so its text is exact.
use Rattle.std.proofs.Common.{◌≡◌, false, map, [], ◌∷◌, refl}
use Rattle.serde_json.specs.View.{items_of}
use Rattle.serde_json.specs.Written.{has_float, items_have_float}
use Rattle.toml_names.specs.declared.model.address.Step.TheVariants.{Name, Index}
use Rattle.toml_names.specs.model.Addresses.{Address}
use Rattle.toml_commands.specs.Listing.{address_json, step_json}

steps_have_no_float : (at : Address) → items_have_float (items_of (map step_json at)) ≡ false
steps_have_no_float [] = refl
steps_have_no_float (Name n ∷ at) = steps_have_no_float at
steps_have_no_float (Index i ∷ at) = steps_have_no_float at

pub no_float : (at : Address) → has_float (address_json at) ≡ false
no_float = steps_have_no_float
