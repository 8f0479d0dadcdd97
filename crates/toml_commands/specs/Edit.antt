-- What `edit` answers.
use Rattle.std.specs.Prelude.{◌≡◌, ◌⊎◌, ◌≤◌, ℕ, List, [], ◌∷◌, codes, length, Option, Some, None}
use Rattle.toml_text.specs.Limit.{max_len}
use Rattle.toml_text.specs.declared.fault.TextFault.{TextFault}
use Rattle.toml_tree.specs.declared.profile.Profile.{Profile}
use Rattle.toml_edits.specs.EditList.{IsEditList}
use Rattle.toml_edits.specs.Edits.{Change}
use Rattle.toml_edits.specs.declared.fault.EditFault.{EditFault}
use Rattle.toml_edits.specs.declared.fault.EditFault.TheVariants as edits
use Rattle.toml_units.specs.Certificates.{certificate_of}
use Rattle.toml_names.specs.model.Data.{Kinds}
use Rattle.toml_editor.specs.Edited as editor
use Rattle.toml_editor.specs.PlainAnswers.{PlainSoFar}
use Rattle.toml_layout.specs.declared.layout.Layout.{Layout}
use Rattle.toml_layout.specs.declared.layout.Layout.TheVariants.{Plain}
use Rattle.toml_editor.specs.declared.fault.EditorFault.{EditorFault}
use Rattle.toml_editor.specs.declared.fault.EditorFault.TheVariants as faults
use Rattle.toml_commands.specs.EditLists.{IsListRefusal}
use Rattle.toml_delivery.specs.Outcomes.{Gives, Tells, texts_of}
use Rattle.toml_commands.specs.Reading.{HasNumber, IsNameEnding, IsSyntaxEnding, IsTextRefusal}
use Rattle.toml_commands.specs.Verify.{reason_code}
use Rattle.toml_delivery.specs.declared.ending.Ending.{Ending}
use Rattle.toml_delivery.specs.declared.ending.Ending.TheVariants.{Refused, NoMemory}
use Rattle.toml_delivery.specs.declared.outcome.Answer.{Answer}
use Rattle.toml_delivery.specs.declared.outcome.Outcome.{Outcome}
use Rattle.toml_delivery.specs.declared.refusal.Refusal.{Refusal}

-- a text, and a certificate which shows that the text is what these edits make, in the layout, of the one before
pub record IsMade (layout : Layout) (profile : Profile) (before : List ℕ) (changes : List Change) (text certificate : List ℕ) : Type 0 where
  pub pairs : List (ℕ × ℕ)
  pub edited : editor.IsEditedWith layout profile before changes text pairs
  pub written : certificate ≡ certificate_of pairs

-- so of the edits whose list the bytes are
pub record AreEdited (layout : Layout) (profile : Profile) (before edits text certificate : List ℕ) : Type 0 where
  pub changes : List Change
  pub listed : IsEditList edits changes
  pub made : IsMade layout profile before changes text certificate

-- the code of a fault of an edit; want of memory has none
abbrev pub edit_code : EditFault → Option ℕ
edit_code edits.NoSuchPlace = Some 301
edit_code edits.AlreadyThere = Some 302
edit_code edits.NotATable = Some 303
edit_code edits.IndexOutside = Some 304
edit_code edits.NotAName = Some 305
edit_code edits.BadValue = Some 306
edit_code edits.RootNamed = Some 310
edit_code edits.AddressLength = Some 312
edit_code edits.NotAnElement = Some 313
edit_code edits.NoMemory = None

-- it is refused with this code and place
abbrev pub IsRefusedAt : ℕ → ℕ → Ending → Type 0
IsRefusedAt code place (Refused r) = (r.code ≡ code) × (r.place ≡ place)
IsRefusedAt code place NoMemory = ⊥

-- what a fault of the edit with this number comes to
abbrev pub IsEditEnding : ℕ → EditFault → Ending → Type 0
IsEditEnding index fault (Refused r) = (edit_code fault ≡ Some r.code) × (r.place ≡ index)
IsEditEnding index fault NoMemory = fault ≡ edits.NoMemory

-- what a fault of the bytes as a text comes to
abbrev pub IsTextEnding : TextFault → Ending → Type 0
IsTextEnding fault (Refused r) = IsTextRefusal fault r
IsTextEnding fault NoMemory = ⊥

-- what a fault of the editor comes to: of the document as `check` tells it, of an edit with its number from 0, of the judge
-- with the number of the reason
abbrev pub IsEditorEnding : EditorFault → Ending → Type 0
IsEditorEnding (faults.Text fault) = IsTextEnding fault
IsEditorEnding (faults.Syntax fault) = IsSyntaxEnding fault
IsEditorEnding (faults.Names fault) = IsNameEnding fault
IsEditorEnding (faults.Edit index fault) = IsEditEnding index fault
IsEditorEnding (faults.Spread index) = IsRefusedAt 307 index
IsEditorEnding (faults.LastElement index) = IsRefusedAt 308 index
IsEditorEnding faults.TooLong = IsRefusedAt 102 max_len
IsEditorEnding (faults.Unverified reason) = IsRefusedAt 309 (reason_code reason)
IsEditorEnding faults.NoMemory = λ ending. ending ≡ NoMemory

-- the number of a line that it tells, from 1, is a machine number
abbrev pub TellsNumber : EditorFault → Type 0
TellsNumber (faults.Names fault) = HasNumber fault
TellsNumber _ = Unit {0}

-- the refusal stands for what the editor tells of these edits of the document
pub record IsUnmade (layout : Layout) (profile : Profile) (before : List ℕ) (changes : List Change) (r : Refusal) : Type 0 where
  pub fault : EditorFault
  pub told : editor.TellsWith layout profile before changes fault
  pub stands : IsEditorEnding fault (Refused r)

-- the bytes are the list of some edits, and the refusal stands for what the editor tells of them and the document
pub record IsEditorRefusal (layout : Layout) (profile : Profile) (before edits : List ℕ) (r : Refusal) : Type 0 where
  pub changes : List Change
  pub listed : IsEditList edits changes
  pub unmade : IsUnmade layout profile before changes r

-- the edit list is judged first
abbrev pub IsUnedited : Layout → Profile → List ℕ → List ℕ → Refusal → Type 0
IsUnedited layout profile before edits r = IsListRefusal edits r ⊎ IsEditorRefusal layout profile before edits r

-- the answer is `ok` and LF, and the edited text and its certificate as files
abbrev pub IsEditing : Profile → List ℕ → List ℕ → Answer → Type 0
IsEditing profile before edits a = (a.out.items ≡ codes "ok\n") × (text : List ℕ) × (certificate : List ℕ) × (texts_of a.files.items ≡ text ∷ certificate ∷ []) × AreEdited Plain profile before edits text certificate

-- What is said of some edits of a document, whichever command makes them: a text that they make of it and its certificate are handed out,
-- in the command's own way, or the refusal is told that stands for what the editor tells.
abbrev pub Says : (List ℕ → List ℕ → Outcome → Type 0) → Layout → Profile → List ℕ → List Change → Outcome → Type 0
Says HandsOut layout profile before changes o =
    ((text : List ℕ) × (certificate : List ℕ) × IsMade layout profile before changes text certificate × HandsOut text certificate o)
    ⊎ ((r : Refusal) × IsUnmade layout profile before changes r × Tells r o)

-- So of a list of edits, which is judged first.
abbrev pub SaysOfList : (List ℕ → List ℕ → Outcome → Type 0) → Layout → Profile → List ℕ → List ℕ → Outcome → Type 0
SaysOfList HandsOut layout profile before edits o =
    ((r : Refusal) × IsListRefusal edits r × Tells r o) ⊎ ((changes : List Change) × IsEditList edits changes × Says HandsOut layout profile before changes o)

-- `edit`: `ok` and LF, and two files
abbrev pub Edits : Profile → List ℕ → List ℕ → Outcome → Type 0
Edits = SaysOfList (λ text certificate. Gives (codes "ok\n") (text ∷ certificate ∷ [])) Plain

-- the commands that print an edited text: it, and its certificate as the one file
abbrev pub PrintsText : List ℕ → List ℕ → Outcome → Type 0
PrintsText text certificate = Gives text (certificate ∷ [])

-- Law: where all edits of a list are defined on the data so far and plain on a document, and the text that they write is within the
-- limit, the answer is `ok`, with that text as the first file.
abbrev pub PlainIsPrinted : Type 0
PlainIsPrinted = (profile : Profile) (before edits : List ℕ) (cs : List Change) (after : List ℕ) (now : Kinds) → IsEditList edits cs
    → PlainSoFar Plain profile before cs (length cs) after now → length after ≤ max_len → (o : Outcome) → Edits profile before edits o
    → (certificate : List ℕ) × AreEdited Plain profile before edits after certificate × Gives (codes "ok\n") (after ∷ certificate ∷ []) o
