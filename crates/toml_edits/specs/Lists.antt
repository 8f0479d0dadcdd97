-- Lists of edits, one after the other: where things then stand, what becomes of the data, and which edit is the first with a fault.
use Rattle.std.specs.Prelude.{◌≡◌, ℕ, zero, suc, List, [], ◌∷◌, Option, Some, None, option_and_then}
use Rattle.toml_tree.specs.declared.profile.Profile.{Profile}
use Rattle.toml_names.specs.model.Addresses.{Address}
use Rattle.toml_names.specs.model.Data.{Kinds}
use Rattle.toml_edits.specs.declared.fault.EditFault.{EditFault}
use Rattle.toml_edits.specs.After.{IsAfter}
use Rattle.toml_edits.specs.Carry.{carry}
use Rattle.toml_edits.specs.Edits.{Change}
use Rattle.toml_edits.specs.Faults.{IsFault}

-- where the thing at an address stands after the edits; what stands nowhere stays so
abbrev pub carried : List Change → Address → Option Address
carried [] a = Some a
carried (c ∷ cs) a = option_and_then (carried cs) (carry c a)

-- each edit is without a fault on the data so far, and the last data have the same at each address as these
abbrev pub Lead : Profile → List Change → Kinds → Kinds → Type 0
Lead profile [] old new = (a : Address) → old a ≡ new a
Lead profile (c ∷ cs) old new = IsFault profile c old None × (mid : Kinds) × IsAfter profile c old mid × Lead profile cs mid new

-- the edit of this number, from 0, has the fault on the data so far, and those before it have none
abbrev pub IsFirstFault : Profile → List Change → Kinds → ℕ → EditFault → Type 0
IsFirstFault profile [] old i fault = ⊥
IsFirstFault profile (c ∷ cs) old zero fault = IsFault profile c old (Some fault)
IsFirstFault profile (c ∷ cs) old (suc i) fault = IsFault profile c old None × (mid : Kinds) × IsAfter profile c old mid × IsFirstFault profile cs mid i fault
