-- Laws: the plain reader finds the places, and nothing else; a place leads to one address; what an address is spelled as is read back.
use Rattle.std.specs.Prelude.{◌≡◌, ◌≤◌, ◌^◌, ℕ, List, [], ◌∷◌, ◌++◌, map, length, take, Some, IsSome, Ok, Err}
use Rattle.toml_names.specs.declared.model.address.Step.{Step}
use Rattle.toml_names.specs.model.Addresses.{Address}
use Rattle.toml_names.specs.model.Data.{IsClosed, Kinds}
use Rattle.toml_names.specs.model.Indices.{IsLow}
use Rattle.toml_names.specs.reader.Parts.{IsPart, part_kinds}
use Rattle.toml_names.specs.tree.Nodes.{Spot}
use Rattle.toml_places.specs.declared.place.PlaceStep.{PlaceStep}
use Rattle.toml_places.specs.Leading.{LeadsTo, below_step, below_steps}
use Rattle.toml_places.specs.Places.{SpellsPlace}
use Rattle.toml_places.specs.Reading.{read_steps}
use Rattle.toml_places.specs.Spelled.{place_text, plain_step}

-- the steps that are found are spelled by the text
abbrev pub FoundIsSpelled : Type 0
FoundIsSpelled = (bytes : List ℕ) (steps : List PlaceStep) → read_steps bytes ≡ Ok steps → SpellsPlace steps bytes

-- steps that a text spells are found
abbrev pub SpelledIsFound : Type 0
SpelledIsFound = (bytes : List ℕ) (steps : List PlaceStep) → SpellsPlace steps bytes → read_steps bytes ≡ Ok steps

-- a text spells one list of steps
abbrev pub OnePlace : Type 0
OnePlace = (bytes : List ℕ) (one two : List PlaceStep) → SpellsPlace one bytes → SpellsPlace two bytes → one ≡ two

-- a text is refused at one of its bytes, or at its end
abbrev pub RefusedWithin : Type 0
RefusedWithin = (bytes : List ℕ) (at : ℕ) → read_steps bytes ≡ Err at → at ≤ length bytes

-- what stands before that byte can go on to be a place
abbrev pub FrontGoesOn : Type 0
FrontGoesOn = (bytes : List ℕ) (at : ℕ) → read_steps bytes ≡ Err at → (more : List ℕ) × (steps : List PlaceStep) × SpellsPlace steps (take at bytes ++ more)

-- the place that an address is spelled as is read back to its steps,
abbrev pub SpelledIsReadBack : Type 0
SpelledIsReadBack = (at : Address) (text : List ℕ) → IsLow (2 ^ 64) at → place_text at ≡ Some text → read_steps text ≡ Ok (map plain_step at)

-- which lead to it, whatever stands there;
abbrev pub PlainLeads : Type 0
PlainLeads = (kinds : Kinds) (at : Address) → LeadsTo kinds (map plain_step at) at

-- a place leads to one address.
abbrev pub OneAddress : Type 0
OneAddress = (kinds : Kinds) (place : List PlaceStep) (one two : Address) → LeadsTo kinds place one → LeadsTo kinds place two → one ≡ two

-- In closed data what stands below a step is what the data have there.
abbrev pub BelowClosed : Type 0
BelowClosed = (kinds : Kinds) (s : Step) (at : Address) → IsClosed kinds → below_step s kinds at ≡ kinds (s ∷ at)

-- So it is at the end of an address too.
abbrev pub BelowStepsClosed : Type 0
BelowStepsClosed = (kinds : Kinds) (at rest : Address) → IsClosed kinds → below_steps at kinds rest ≡ kinds (at ++ rest)

-- Something stands at each part of a text's data.
abbrev pub PartStands : Type 0
PartStands = (parts : List Spot) (id : ℕ) → IsPart parts id → IsSome (part_kinds parts id [])
