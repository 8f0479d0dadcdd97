-- Laws of lists of edits.
use Rattle.std.specs.Prelude.{◌≡◌, ◌^◌, ℕ, List, ◌++◌, Some, None, IsSome, option_and_then}
use Rattle.toml_tree.specs.declared.profile.Profile.{Profile}
use Rattle.toml_names.specs.declared.model.datum.Datum.{Datum}
use Rattle.toml_names.specs.model.Addresses.{Address}
use Rattle.toml_names.specs.model.Indices.{IsLow}
use Rattle.toml_names.specs.model.Data.{Kinds, kind_at, IsClosed}
use Rattle.toml_edits.specs.declared.fault.EditFault.{EditFault}
use Rattle.toml_edits.specs.After.{IsAfter}
use Rattle.toml_edits.specs.Carry.{carry}
use Rattle.toml_edits.specs.Edits.{Change}
use Rattle.toml_edits.specs.Faults.{IsFault}
use Rattle.toml_edits.specs.Laws.{Front}
use Rattle.toml_edits.specs.Lists.{carried, Lead, IsFirstFault}

-- Through two lists, one after the other, a thing is carried by the second to where the first has carried it.
abbrev pub CarriedOn : Type 0
CarriedOn = (cs ds : List Change) (a : Address) → carried (cs ++ ds) a ≡ option_and_then (carried ds) (carried cs a)

-- The data after a list are one: two that edits lead to have the same at each address.
abbrev pub OneLead : Type 0
OneLead = (profile : Profile) (cs : List Change) (old one two : Kinds) → Lead profile cs old one → Lead profile cs old two → (a : Address) → one a ≡ two a

-- A list with a first fault leads nowhere, and has no other first fault.
abbrev pub FaultOrLead : Type 0
FaultOrLead = (profile : Profile) (cs : List Change) (old new : Kinds) (i : ℕ) (fault : EditFault) → IsFirstFault profile cs old i fault → Lead profile cs old new → ⊥

abbrev pub OneFirstFault : Type 0
OneFirstFault = (profile : Profile) (cs : List Change) (old : Kinds) (i j : ℕ) (fault other : EditFault) → IsFirstFault profile cs old i fault → IsFirstFault profile cs old j other → (i ≡ j) × (fault ≡ other)

-- What stands somewhere, and is carried by an edit without a fault, stands where it is carried.
abbrev pub CarriedStands : Type 0
CarriedStands = (profile : Profile) (c : Change) (old new : Kinds) → IsFault profile c old None → IsAfter profile c old new → (a to : Address) → carry c a ≡ Some to → IsSome (old a) → IsSome (new to)

-- Two things of data in which nothing stands below nothing that edits without a fault carry to one address are one.
abbrev pub ListsCarryApart : Type 0
ListsCarryApart = (profile : Profile) (cs : List Change) (old new : Kinds) → IsClosed old → Lead profile cs old new → (a b to : Address) → IsSome (old a) → IsSome (old b) → carried cs a ≡ Some to → carried cs b ≡ Some to → a ≡ b

-- A beginning of what a list carries is carried to a beginning of the same length.
abbrev pub ListsCarryFronts : Type 0
ListsCarryFronts = (cs : List Change) (a r b : Address) → carried cs (a ++ r) ≡ Some b → Front (carried cs) a b

-- If edits carry one thing to where they carry another, or below, it was at or below that one before.
abbrev pub CarriedKeepOrder : Type 0
CarriedKeepOrder = (profile : Profile) (cs : List Change) (old new : Kinds) → IsClosed old → Lead profile cs old new → (p a to rest : Address) → IsSome (old p) → IsSome (old a) → carried cs p ≡ Some to → carried cs a ≡ Some (to ++ rest)
    → (r : Address) × (a ≡ p ++ r)

-- Data in which nothing stands below nothing stay so under an edit without a fault.
abbrev pub StaysClosed : Type 0
StaysClosed = (profile : Profile) (c : Change) (old new : Kinds) → IsClosed old → IsFault profile c old None → IsAfter profile c old new → IsClosed new

-- They stay so under a list of edits none of which has a fault.
abbrev pub LeadsStayClosed : Type 0
LeadsStayClosed = (profile : Profile) (cs : List Change) (old new : Kinds) → IsClosed old → Lead profile cs old new → IsClosed new

-- Each index in data is below 2^63.
abbrev pub DataIndicesAreLow : Type 0
DataIndicesAreLow = (d : Datum) (a : Address) → IsSome (kind_at d a) → IsLow (2 ^ 63) a
