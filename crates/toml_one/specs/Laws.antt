-- Laws: one line of words stands for one list of edits, and one list is handed out; where something stands at a place, nothing is made above
-- it; what is put too deep is refused.
use Rattle.std.specs.Prelude.{◌≡◌, ℕ, true, List, [], ◌∷◌, None, IsSome}
use Rattle.toml_tree.specs.declared.profile.Profile.{Profile}
use Rattle.toml_names.specs.mentions.Mentions.{Named}
use Rattle.toml_names.specs.model.Addresses.{Address}
use Rattle.toml_names.specs.model.Data.{Kinds}
use Rattle.toml_places.specs.declared.place.PlaceStep.{PlaceStep}
use Rattle.toml_places.specs.Leading.{LeadsTo, below_steps}
use Rattle.toml_edits.specs.Edits.{Change, set}
use Rattle.toml_edits.specs.Faults.{IsFault}
use Rattle.toml_one.specs.Kept.{Keeps, puts_too_deep}
use Rattle.toml_one.specs.Wishes.{AreEditsAt, IsWithParents, Wished}

-- a wish at a place stands for one list of edits
abbrev pub OneEditList : Type 0
OneEditList = (kinds : Kinds) (ms : List Named) (place : List PlaceStep) (wish : Wished) (one two : List Change)
    → AreEditsAt kinds ms place wish one → AreEditsAt kinds ms place wish two → one ≡ two

-- so what is handed out of it is one list too
abbrev pub OneKeptList : Type 0
OneKeptList = (kinds : Kinds) (ms : List Named) (place : List PlaceStep) (wish : Wished) (one two : List Change)
    → Keeps (AreEditsAt kinds ms place wish) one → Keeps (AreEditsAt kinds ms place wish) two → one ≡ two

-- where something stands at the place, a `set` that makes what is missing above is one `set` of it
abbrev pub SetsWhatStands : Type 0
SetsWhatStands = (kinds : Kinds) (ms : List Named) (place : List PlaceStep) (value : List ℕ) (at : Address) (cs : List Change)
    → LeadsTo kinds place at → IsSome (below_steps at kinds []) → IsWithParents true kinds ms place value cs → cs ≡ set at value ∷ []

-- an edit that puts something too deep has a fault on all data
abbrev pub DeepIsRefused : Type 0
DeepIsRefused = (profile : Profile) (c : Change) (kinds : Kinds) → puts_too_deep c ≡ true → ¬ IsFault profile c kinds None
