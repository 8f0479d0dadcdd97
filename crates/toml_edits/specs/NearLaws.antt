-- Laws of edits that are made on data of which a part is hidden, and not on all.
use Rattle.std.specs.Prelude.{◌≡◌, ◌↔◌, ℕ, List, Option, true}
use Rattle.toml_tree.specs.declared.profile.Profile.{Profile}
use Rattle.toml_names.specs.model.Addresses.{Address}
use Rattle.toml_names.specs.model.Data.{Kinds}
use Rattle.toml_names.specs.model.Hidden.{Cover, near, beside}
use Rattle.toml_edits.specs.declared.fault.EditFault.{EditFault}
use Rattle.toml_edits.specs.Edits.{Change}
use Rattle.toml_edits.specs.Faults.{IsFault}
use Rattle.toml_edits.specs.Lists.{Lead, IsFirstFault}
use Rattle.toml_edits.specs.Near.{AreNear, IsNear}

-- What edits make of the data that are not hidden, with the hidden left as they were, is what they make of all.
abbrev pub LeadsBeside : Type 0
LeadsBeside =
    (profile : Profile) (h : Cover) (cs : List Change) (old part new : Kinds) → AreNear h cs → ((at : Address) → part at ≡ near h old at)
    → Lead profile cs part new → Lead profile cs old (beside h old new)

-- Of what edits make of all data, what is not hidden is what they make of the data that are not hidden;
abbrev pub LeadsNear : Type 0
LeadsNear =
    (profile : Profile) (h : Cover) (cs : List Change) (old new : Kinds) → AreNear h cs → Lead profile cs old new
    → Lead profile cs (near h old) (near h new)

-- all that is hidden they leave as it was.
abbrev pub HiddenStays : Type 0
HiddenStays =
    (profile : Profile) (h : Cover) (cs : List Change) (old new : Kinds) → AreNear h cs → Lead profile cs old new
    → (a : Address) → h a ≡ true → new a ≡ old a

-- The first fault is the same on the data that are not hidden.
abbrev pub FaultsNear : Type 0
FaultsNear =
    (profile : Profile) (h : Cover) (cs : List Change) (old : Kinds) → AreNear h cs → (i : ℕ) (fault : EditFault)
    → IsFirstFault profile cs (near h old) i fault ↔ IsFirstFault profile cs old i fault

-- An edit has on data, beside anything hidden, the fault that it has on them.
abbrev pub FaultBeside : Type 0
FaultBeside =
    (profile : Profile) (h : Cover) (c : Change) (old new : Kinds) → IsNear h c → (found : Option EditFault)
    → IsFault profile c new found → IsFault profile c (beside h old new) found
