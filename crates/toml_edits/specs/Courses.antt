-- What an edit does to the address of a thing, step by step.
use Rattle.std.specs.Prelude.{◌≡◌, ◌∷◌, ◌++◌, ℕ, Option, Some, None, set}
use Rattle.toml_names.specs.declared.model.address.Step.{Step}
use Rattle.toml_names.specs.declared.model.address.Step.TheVariants.{Name, Index}
use Rattle.toml_names.specs.model.Addresses.{Address}
use Rattle.toml_edits.specs.declared.course.Course.{Course}
use Rattle.toml_edits.specs.declared.course.Course.TheVariants.{Stays, ToIndex, ToName, Nowhere}

-- where the thing at the address arrives, one step of it being set
abbrev pub arrives : Course → Address → Option Address
arrives Stays a = Some a
arrives (ToIndex n i) a = Some (set a n (Index i))
arrives (ToName n m) a = Some (set a n (Name m.now))
arrives Nowhere a = None

-- the steps lead to the place, or below it, and these are left of them; they do not
abbrev pub LeadTo : Address → Address → Address → Type 0
LeadTo place rest steps = steps ≡ place ++ rest

abbrev pub LeadElsewhere : Address → Address → Type 0
LeadElsewhere place steps = (rest : Address) → ¬ LeadTo place rest steps

-- they lead on from the place by a step, and these are left behind it; they do not
abbrev pub LeadOn : Address → Step → Address → Address → Type 0
LeadOn place step rest = LeadTo place (step ∷ rest)

abbrev pub LeadNoFurther : Address → Address → Type 0
LeadNoFurther place steps = (step : Step) (rest : Address) → ¬ LeadOn place step rest steps

-- they lead on to an index; to none
abbrev pub LeadToIndex : Address → ℕ → Address → Type 0
LeadToIndex place i steps = (rest : Address) × LeadOn place (Index i) rest steps

abbrev pub LeadToNoIndex : Address → Address → Type 0
LeadToNoIndex place steps = (i : ℕ) (rest : Address) → ¬ LeadOn place (Index i) rest steps
