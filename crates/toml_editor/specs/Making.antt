-- What the making of edits tells, one after the other.
use Rattle.std.specs.Prelude.{◌≡◌, ◌⊎◌, ℕ, List, [], Option, Some}
use Rattle.toml_tree.specs.declared.profile.Profile.{Profile}
use Rattle.toml_names.specs.declared.model.datum.Datum.{Datum}
use Rattle.toml_names.specs.model.Data.{Kinds, kind_in}
use Rattle.toml_names.specs.mentions.Mentions.{a_table, an_array}
use Rattle.toml_names.specs.reader.LineNames.{StandFor}
use Rattle.toml_editor.specs.declared.making.Read.{Read}
use Rattle.toml_working.specs.Starting.{read_of}
use Rattle.toml_edits.specs.declared.draft.Draft.{Draft}
use Rattle.toml_edits.specs.Applied.{IsApplied}
use Rattle.toml_edits.specs.Drafts.{drafted}
use Rattle.toml_edits.specs.Edits.{Change}
use Rattle.toml_edits.specs.Faults.{IsFault}
use Rattle.toml_editor.specs.Edited.{SoFar, OfDefined, TakesLastElement, MayBeSpread}
use Rattle.toml_editor.specs.declared.fault.EditorFault.{EditorFault}
use Rattle.toml_editor.specs.declared.fault.EditorFault.TheVariants.{Edit, Spread, LastElement, NoMemory}

-- the edit has no fault on the one data, and makes the other of them
abbrev pub IsMade : Profile → Change → Draft → Draft → Type 0
IsMade profile c old new = IsApplied profile c (drafted old) (drafted new)

-- what was found is a table or an array
abbrev pub IsMany : Option Datum → Type 0
IsMany found = (kind_in found [] ≡ Some a_table) ⊎ (kind_in found [] ≡ Some an_array)

-- the names are those of the lines of the document
abbrev pub HasNames : Read → Type 0
HasNames read = StandFor read.names.now (read_of read.before).lines

-- the edit with this number is not defined on the data
abbrev pub TellsRow : Profile → ℕ → Change → Kinds → EditorFault → Type 0
TellsRow profile i c kinds (Edit j fault) = (j ≡ i) × IsFault profile c kinds (Some fault)
TellsRow profile i c kinds NoMemory = Unit {0}
TellsRow profile i c kinds _ = ⊥

-- the fault is of the edit with this number, and on the data it is so: not defined; or defined, and its place may be spread, or it takes a last
-- element
abbrev pub TellsOne : Profile → ℕ → Change → Kinds → EditorFault → Type 0
TellsOne profile i c kinds (Edit j fault) = (j ≡ i) × IsFault profile c kinds (Some fault)
TellsOne profile i c kinds (Spread j) = (j ≡ i) × OfDefined profile MayBeSpread c kinds
TellsOne profile i c kinds (LastElement j) = (j ≡ i) × OfDefined profile TakesLastElement c kinds
TellsOne profile i c kinds NoMemory = Unit {0}
TellsOne profile i c kinds _ = ⊥

-- some edit has it on the data to which those before it lead
abbrev pub TellsAny : Profile → List Change → Kinds → EditorFault → Type 0
TellsAny profile cs old (Edit i fault) = SoFar profile cs old i (λ c kinds. IsFault profile c kinds (Some fault))
TellsAny profile cs old (Spread i) = SoFar profile cs old i (OfDefined profile MayBeSpread)
TellsAny profile cs old (LastElement i) = SoFar profile cs old i (OfDefined profile TakesLastElement)
TellsAny profile cs old NoMemory = Unit {0}
TellsAny profile cs old _ = ⊥
