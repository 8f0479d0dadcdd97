-- What a command with one edit answers.
use Rattle.std.specs.Prelude.{◌≡◌, ◌⊎◌, ℕ, List, [], ◌∷◌, if◌then◌else◌}
use Rattle.toml_tree.specs.declared.profile.Profile.{Profile}
use Rattle.toml_scalar.specs.Spelling.{quoted}
use Rattle.toml_names.specs.mentions.Mentions.{named}
use Rattle.toml_names.specs.model.Data.{IsDataOf, Kinds}
use Rattle.toml_names.specs.reader.Texts.{GoodText}
use Rattle.toml_edits.specs.Edits.{Change}
use Rattle.toml_layout.specs.declared.layout.Layout.{Layout}
use Rattle.toml_places.specs.declared.place.PlaceStep.{PlaceStep}
use Rattle.toml_places.specs.Reads.{IsPlace}
use Rattle.toml_one.specs.Kept.{Keeps}
use Rattle.toml_one.specs.Wishes.{AreEditsAt, Wished, to_set, to_insert, to_rename, to_remove}
use Rattle.toml_words.specs.Request.{AskedEdit, AskedValue, set, insert, rename, remove}
use Rattle.toml_commands.specs.Edit.{IsMade, IsUnmade, PrintsText, Says}
use Rattle.toml_commands.specs.Refusals.{IsRefused}
use Rattle.toml_delivery.specs.Outcomes.{Tells}
use Rattle.toml_commands.specs.Get.{IsBadPlace}
use Rattle.toml_delivery.specs.declared.outcome.Outcome.{Outcome}
use Rattle.toml_delivery.specs.declared.refusal.Refusal.{Refusal}

-- the text of a value: of a string's characters their spelling
abbrev pub value_text : AskedValue → List ℕ
value_text v = if v.is_string then quoted v.text else v.text

-- what the words of an edit wish
abbrev pub wished_by : AskedEdit → Wished
wished_by (set value parents) = to_set (value_text value) parents
wished_by (insert value parents) = to_insert (value_text value) parents
wished_by (rename name) = to_rename name
wished_by remove = to_remove

-- the edits stand for the wish at the place in the document
pub record AreWished (profile : Profile) (before : List ℕ) (steps : List PlaceStep) (wish : Wished) (changes : List Change) : Type 0 where
  pub it : GoodText profile before
  pub kinds : Kinds
  pub facts : IsDataOf (named it.lines) kinds
  pub edits : AreEditsAt kinds (named it.lines) steps wish changes

-- PLACE is a place, and these are the edits that stand for the wish there, up to and with the first that puts something too deep; or PLACE
-- or the document is refused, and there are none
abbrev pub AreWishedOrNone : Profile → List ℕ → List ℕ → Wished → List Change → Type 0
AreWishedOrNone profile before place wish cs =
    ((steps : List PlaceStep) × IsPlace place steps × Keeps (AreWished profile before steps wish) cs)
    ⊎ ((r : Refusal) × (IsBadPlace place r ⊎ IsRefused profile before r) × (cs ≡ []))

-- PLACE is a place, the text is what the edits make of the document that stand for the wish there, and the one file the certificate which
-- shows it
pub record IsMadeAt (layout : Layout) (profile : Profile) (before place : List ℕ) (wish : Wished) (text : List ℕ) (written : List (List ℕ)) : Type 0 where
  pub steps : List PlaceStep
  pub spelled : IsPlace place steps
  pub changes : List Change
  pub wished : AreWished profile before steps wish changes
  pub certificate : List ℕ
  pub made : IsMade layout profile before changes text certificate
  pub files : written ≡ certificate ∷ []

-- PLACE is a place, and the edits that stand for the wish there are refused
pub record IsWishRefused (layout : Layout) (profile : Profile) (before place : List ℕ) (wish : Wished) (r : Refusal) : Type 0 where
  pub steps : List PlaceStep
  pub spelled : IsPlace place steps
  pub changes : List Change
  pub wished : AreWished profile before steps wish changes
  pub unmade : IsUnmade layout profile before changes r

-- PLACE is judged first, then the document, and then the edits
abbrev pub IsUnmadeAt : Layout → Profile → List ℕ → List ℕ → Wished → Refusal → Type 0
IsUnmadeAt layout profile before place wish r =
    IsBadPlace place r ⊎ (((steps : List PlaceStep) × IsPlace place steps × IsRefused profile before r) ⊎ IsWishRefused layout profile before place wish r)

-- The document is judged, and of the edits that stand for the wish at the steps is said what `edit` says of them, word for word, but for
-- the way in which a text is handed out.
abbrev pub MakesWishAt : Layout → Profile → List ℕ → List PlaceStep → Wished → Outcome → Type 0
MakesWishAt layout profile before steps wish o =
    ((r : Refusal) × IsRefused profile before r × Tells r o)
    ⊎ ((changes : List Change) × AreWished profile before steps wish changes × Says PrintsText layout profile before changes o)

-- PLACE is judged first
abbrev pub MakesWish : Layout → Profile → List ℕ → List ℕ → Wished → Outcome → Type 0
MakesWish layout profile before place wish o =
    ((r : Refusal) × IsBadPlace place r × Tells r o) ⊎ ((steps : List PlaceStep) × IsPlace place steps × MakesWishAt layout profile before steps wish o)
