-- What edits owe, as the code holds it.
use Rattle.std.specs.Prelude.{◌≡◌, ◌↔◌, ◌⊎◌, ◌||◌, Bool, true, List, [], ◌∷◌, Option, Some, None, MatchOption}
use Rattle.toml_names.specs.declared.model.address_set.AddressSet.{AddressSet}
use Rattle.toml_names.specs.model.Addresses.{Address}
use Rattle.toml_names.specs.model.AddressSets.{IsRootAlone, reaches, reaches_in, reaches_one}
use Rattle.toml_edits.specs.Edits.{Change}
use Rattle.toml_edits.specs.Lists.{carried}
use Rattle.toml_units.specs.Plain.{Spanned}
use Rattle.toml_checker.specs.declared.debts.Debt.{Debt}
use Rattle.toml_checker.specs.declared.debts.Debts.{Debts}
use Rattle.toml_checker.specs.CarriedTo.{IsAtOrAbove, At}
use Rattle.toml_checker.specs.Owed.{result, Owes}

-- the address is at or above that of the debt, or below it where all below it is owed
abbrev pub Covers : Debt → Address → Type 0
Covers d a = IsAtOrAbove a d.at ⊎ ((d.below ≡ true) × IsAtOrAbove d.at a)

abbrev pub AnyCovers : List Debt → Address → Type 0
AnyCovers [] a = ⊥
AnyCovers (d ∷ ds) a = Covers d a ⊎ AnyCovers ds a

abbrev pub MayCover : Option Debt → Address → Type 0
MayCover o a = MatchOption o ⊥ (λ d. Covers d a)

-- the set reaches it, or one of the others covers it
abbrev pub IsCovered : Debts → Address → Type 0
IsCovered ds a = (reaches_in ds.short a ≡ true) ⊎ AnyCovers ds.long.items a

-- the set that is there, or one of no addresses
abbrev pub IsKept : Option AddressSet → AddressSet → Type 0
IsKept None set = IsRootAlone set
IsKept (Some old) set = old ≡ set

-- a set, or none, with one address more: all below it too, or it alone
abbrev pub ReachesWith : Option AddressSet → AddressSet → Bool → Address → Type 0
ReachesWith old new whole at = (a : Address) → reaches new a ≡ (reaches_in old a || reaches_one whole at a)

abbrev pub IsNothingOwed : Debts → Type 0
IsNothingOwed ds = (a : Address) → ¬ IsCovered ds a

-- what is covered so, and what was before
abbrev pub CoversMore : (Address → Type 0) → Debts → Debts → Address → Type 0
CoversMore P old new a = IsCovered new a ↔ (P a ⊎ IsCovered old a)

-- one edit owes the address, where the others follow it
abbrev pub IsOwedBy : Change → List Change → Address → Type 0
IsOwedBy c cs a = (r to : Address) × (result c ≡ Some r) × (carried cs r ≡ Some to) × Owes c to a

-- a line that is paired, or owed, or the last one and of no bytes
abbrev pub IsAsked : Debts → Bool → Bool → Spanned → Type 0
IsAsked ds paired last u = (paired ≡ true) ⊎ At u.address (IsCovered ds) ⊎ ((last ≡ true) × (u.start ≡ u.stop))
