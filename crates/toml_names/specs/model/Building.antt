-- What a datum becomes where a part of it changes.
use Rattle.std.specs.Prelude.{◌≡◌, List, [], ◌∷◌, Some, None, if◌then◌else◌}
use Rattle.toml_names.specs.declared.model.address.Step.{Step}
use Rattle.toml_names.specs.model.Addresses.{Address, same_step}
use Rattle.toml_names.specs.model.Data.{Kinds, kind_at}
use Rattle.toml_names.specs.declared.model.datum.Datum.{Datum}
use Rattle.toml_names.specs.mentions.Mentions.{Kind, Named}

-- a part of the kind with nothing in it
abbrev pub only : Kind → Kinds
only k [] = Some k
only k (s ∷ at) = None

abbrev pub IsOnly : Kind → Datum → Type 0
IsOnly k d = (at : Address) → kind_at d at ≡ only k at

-- another part stands at the step
abbrev pub with_child : Step → Kinds → Kinds → Kinds
with_child s part kinds [] = kinds []
with_child s part kinds (t ∷ at) = if same_step s t then part at else kinds (t ∷ at)

-- the first thing named is the root
abbrev pub BeginsAtRoot : List Named → Type 0
BeginsAtRoot [] = ⊥
BeginsAtRoot (m ∷ ms) = m.address ≡ []
