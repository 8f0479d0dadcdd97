-- What `get` answers.
use Rattle.std.specs.Prelude.{◌≡◌, ◌⊎◌, ◌++◌, ◌∷◌, ℕ, List, [], Option, Some, None}
use Rattle.toml_tree.specs.Tree.{Line}
use Rattle.toml_tree.specs.declared.profile.Profile.{Profile}
use Rattle.toml_names.specs.mentions.Mentions.{named}
use Rattle.toml_names.specs.model.Data.{Kinds, IsClosed, IsDataOf}
use Rattle.toml_places.specs.Reads.{IsPlace, IsNoPlace}
use Rattle.toml_places.specs.declared.place.PlaceStep.{PlaceStep}
use Rattle.toml_print.specs.Printed.{NothingAt, PrintsAt}
use Rattle.toml_print.specs.ValueTexts.{IsSpelledAt, IsSpreadAt}
use Rattle.toml_print.specs.declared.form.Form.{Form}
use Rattle.toml_delivery.specs.Outcomes.{IsMissing, Prints, Tells}
use Rattle.toml_commands.specs.Refusals.{Refuses}
use Rattle.toml_commands.specs.Reading.{IsGoodTextWith}
use Rattle.toml_commands.specs.declared.get.Found.{Found}
use Rattle.toml_commands.specs.declared.get.Found.TheVariants.{Nothing, Spread, Text}
use Rattle.toml_commands.specs.declared.get.GetForm.{GetForm}
use Rattle.toml_commands.specs.declared.get.GetForm.TheVariants.{Printed, Toml}
use Rattle.toml_delivery.specs.declared.outcome.Outcome.{Outcome}
use Rattle.toml_delivery.specs.declared.refusal.Refusal.{Refusal}

-- What is found at the place of a document with these lines and data: nothing; what stands there, in the form; or the bytes of the one
-- value that stands there, which may be none.
abbrev pub IsFoundAt : List Line → Kinds → List PlaceStep → GetForm → Found → Type 0
IsFoundAt lines kinds place form Nothing = NothingAt kinds place
IsFoundAt lines kinds place (Printed form) (Text text) = PrintsAt form kinds place text.items
IsFoundAt lines kinds place (Printed form) Spread = ⊥
IsFoundAt lines kinds place Toml (Text text) = IsSpelledAt lines kinds place text.items
IsFoundAt lines kinds place Toml Spread = IsSpreadAt lines kinds place

-- the bytes are a document of the profile, and this is what is found at the place
abbrev pub Finds : Profile → List ℕ → List PlaceStep → GetForm → Found → Type 0
Finds profile file place form found = IsGoodTextWith profile file (λ lines. (kinds : Kinds) × IsDataOf (named lines) kinds × IsFoundAt lines kinds place form found)

-- 307: no single value stands there
abbrev pub spread : Refusal
spread = record { code = 307; place = 0 }

-- 340: no place, at this byte
abbrev pub bad_place : ℕ → Refusal
bad_place at = record { code = 340; place = at }

-- What comes of what is found: its bytes and LF; where nothing is, the default and LF, or else status 5; a refusal where no single
-- value is.
abbrev pub Comes : Found → Option (List ℕ) → Outcome → Type 0
Comes (Text text) default o = Prints (text.items ++ 0x0A ∷ []) o
Comes Nothing (Some default) o = Prints (default ++ 0x0A ∷ []) o
Comes Nothing None o = IsMissing o
Comes Spread default o = Tells spread o

-- the place is none, and is refused at its byte
abbrev pub IsBadPlace : List ℕ → Refusal → Type 0
IsBadPlace place r = (at : ℕ) × IsNoPlace place at × (r ≡ bad_place at)

-- The place is judged first, then the document, and then what is found is told.
abbrev pub Gets : Profile → List ℕ → List ℕ → GetForm → Option (List ℕ) → Outcome → Type 0
Gets profile file place form default o =
    ((r : Refusal) × IsBadPlace place r × Tells r o)
    ⊎ ((steps : List PlaceStep) × IsPlace place steps × (Refuses profile file o ⊎ ((found : Found) × Finds profile file steps form found × Comes found default o)))

-- Words of the code's own contracts: what is found in closed data, in a form and as it is spelled.
abbrev pub FindsForm : Form → Kinds → List PlaceStep → Found → Type 0
FindsForm form kinds place found = (lines : List Line) → IsClosed kinds → IsFoundAt lines kinds place (Printed form) found

abbrev pub FindsSpelled : List Line → Kinds → List PlaceStep → Found → Type 0
FindsSpelled lines kinds place found = IsClosed kinds → IsFoundAt lines kinds place Toml found
