-- The part of a datum one step below it.
use Rattle.std.specs.Prelude.{◌≡◌, ℕ, List, [], ◌∷◌, Option, Some, IsSome, if◌then◌else◌}
use Rattle.std.specs.BTreeMap.{get_by_text}
use Rattle.std.specs.Str.{bytes_eq}
use Rattle.toml_names.specs.declared.model.address.Step.{Step}
use Rattle.toml_names.specs.declared.model.datum.Datum.{Datum}
use Rattle.toml_names.specs.model.Addresses.{Address}
use Rattle.toml_names.specs.model.Building.{with_child}
use Rattle.toml_names.specs.model.Data.{Kinds, kind_at, kind_in}
use Rattle.toml_names.specs.model.Levels.{Members}

-- the part at the step, if there is one
abbrev pub HasPart : Step → Datum → Type 0
HasPart s d = (o : Option Datum) × ((at : Address) → kind_at d (s ∷ at) ≡ kind_in o at)

-- the new members have the datum at the name, and are the old ones elsewhere
abbrev pub HasMemberPut : List ℕ → Datum → Members → Members → Type 0
HasMemberPut name d old new = (n : List ℕ) → get_by_text new n ≡ (if bytes_eq name n then Some d else get_by_text old n)

-- the new datum has the part at the step, and is the old one elsewhere
abbrev pub HasPartPut : Step → Datum → Datum → Datum → Type 0
HasPartPut s part old new = (at : Address) → kind_at new at ≡ with_child s (kind_at part) (kind_at old) at

-- two data are each the same as another one
abbrev pub AreBothSame : Datum × Datum → Datum × Datum → Type 0
AreBothSame ds es = (at : Address) → (kind_at ds.0 at ≡ kind_at es.0 at) × (kind_at ds.1 at ≡ kind_at es.1 at)

-- Laws: a datum has a part at a step, or none;
abbrev pub DatumHasPart : Type 0
DatumHasPart = (s : Step) (d : Datum) → HasPart s d

-- where something stands below a step something stands at it;
abbrev pub StepIsThere : Type 0
StepIsThere = (d : Datum) (s : Step) (at : Address) → IsSome (kind_at d (s ∷ at)) → IsSome (kind_at d (s ∷ []))

-- and a part that is put at a step is there.
abbrev pub PartIsThere : Type 0
PartIsThere = (s : Step) (part kinds : Kinds) → IsSome (part []) → IsSome (with_child s part kinds (s ∷ []))
