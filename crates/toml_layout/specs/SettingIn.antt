-- `set` in a value of the working tree, by the steps below the value.
use Rattle.std.specs.Prelude.{◌≡◌, ℕ, Bool, false, ◌++◌}
use Rattle.toml_names.specs.model.Addresses.{Address}
use Rattle.toml_layout.specs.Apart.{HasKeysApart}
use Rattle.toml_layout.specs.Leading.{ChangesEntry}
use Rattle.toml_layout.specs.OpenOutlines.{Enclosed}
use Rattle.toml_layout.specs.Outlines.{ValueOutline}
use Rattle.toml_layout.specs.SetOutlines.{set_outline, has_outline}

-- a `set` in a value: at the steps below it the new one stands where one stood, and it tells whether one did
abbrev pub SetsIn : Address → ValueOutline → ValueOutline → ValueOutline → Bool → Type 0
SetsIn steps new old now done =
    HasKeysApart old → (at : Address) → (now ≡ set_outline (at ++ steps) new at old) × (done ≡ has_outline (at ++ steps) at old)

-- a `set` in the value of the entry with the index, if there is one
abbrev pub SetsEntry : ℕ → Address → ValueOutline → Enclosed → Enclosed → Bool → Type 0
SetsEntry i steps new old now done = ChangesEntry (λ v w. SetsIn steps new v w done) (done ≡ false) i old now
