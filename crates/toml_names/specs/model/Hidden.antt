-- Data of which a part is hidden, and what stands where nothing is hidden and where something is.
use Rattle.std.specs.Prelude.{◌≡◌, ℕ, Bool, true, false, [], ◌∷◌, ◌++◌, None, if◌then◌else◌}
use Rattle.toml_names.specs.declared.model.address.Step.{Step}
use Rattle.toml_names.specs.declared.model.address.Step.TheVariants.{Name, Index}
use Rattle.toml_names.specs.model.Addresses.{Address, same_step}
use Rattle.toml_names.specs.model.Data.{Kinds}

-- which addresses are hidden
abbrev pub Cover : Type 0
Cover = Address → Bool

-- what stands where nothing is hidden
abbrev pub near : Cover → Kinds → Kinds
near hidden kinds at = if hidden at then None else kinds at

-- the old where it is hidden, the new elsewhere
abbrev pub beside : Cover → Kinds → Kinds → Kinds
beside hidden old new at = if hidden at then old at else new at

-- beside a way a name is hidden with all below it, and of an element what is below it
abbrev pub is_off : Step → Cover
is_off (Name n) at = true
is_off (Index i) [] = false
is_off (Index i) (t ∷ at) = true

-- where no way goes on
abbrev pub is_off_all : Cover
is_off_all [] = false
is_off_all (t ∷ at) = is_off t at

-- what is hidden beside the way from the root to an address; nothing is at the address and below it
abbrev pub is_off_way : Address → Cover
is_off_way [] at = false
is_off_way (s ∷ way) [] = false
is_off_way (s ∷ way) (t ∷ at) = if same_step s t then is_off_way way at else is_off t at

-- Laws: nothing is hidden at and below the address of a way,
abbrev pub WaysAreNear : Type 0
WaysAreNear = (way r : Address) → is_off_way way (way ++ r) ≡ false

-- nor above it,
abbrev pub FrontsAreNear : Type 0
FrontsAreNear = (q r : Address) → is_off_way (q ++ r) q ≡ false

-- nor at an element that stands in what is above it.
abbrev pub ElementsAreNear : Type 0
ElementsAreNear = (q r : Address) (i : ℕ) → is_off_way (q ++ r) (q ++ Index i ∷ []) ≡ false
