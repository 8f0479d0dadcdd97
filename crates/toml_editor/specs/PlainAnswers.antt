-- What the editor answers of plain edits, gathered from what its contracts say of the text and of each fault.
use Rattle.std.specs.Prelude.{◌≡◌, ◌⊎◌, ◌<◌, ◌≤◌, ℕ, List, length, take, Some, None, Result, Ok, Err, slice_get}
use Rattle.toml_text.specs.Limit.{max_len}
use Rattle.toml_tree.specs.declared.profile.Profile.{Profile}
use Rattle.toml_names.specs.mentions.Mentions.{named}
use Rattle.toml_names.specs.model.Data.{IsDataOf, Kinds}
use Rattle.toml_names.specs.model.Documents.{IsDocumentIn}
use Rattle.toml_edits.specs.declared.fault.EditFault.{EditFault}
use Rattle.toml_edits.specs.Edits.{Change, remove}
use Rattle.toml_edits.specs.Faults.{IsFault}
use Rattle.toml_edits.specs.Laws.{HasRoom}
use Rattle.toml_edits.specs.Lists.{Lead}
use Rattle.toml_editor.specs.CertifiedLists.{ArePlain}
use Rattle.toml_editor.specs.Edited.{IsEditedWith, TellsWith}
use Rattle.toml_editor.specs.PlainTexts.{IsRefusedIn}
use Rattle.toml_editor.specs.Steps.{AreWritten}
use Rattle.toml_layout.specs.declared.layout.Layout.{Layout}
use Rattle.toml_working.specs.Manners.{manner_of}
use Rattle.toml_editor.specs.declared.fault.EditorFault.{EditorFault}
use Rattle.toml_editor.specs.declared.fault.EditorFault.TheVariants.{Edit, LastElement, Spread, TooLong, NoMemory}

-- So many edits of a list, from the first on, have no fault on a document and are plain, each on the text written so far; this is the
-- text that they write, and these are its data. There is such a text (`PlainListIsCertified`), and no other (`OneListWritten`). The
-- first field of `document` is the tree of the document.
pub record PlainSoFar (layout : Layout) (profile : Profile) (before : List ℕ) (cs : List Change) (n : ℕ) (after : List ℕ) (now : Kinds) : Type 0 where
  pub document : IsDocumentIn profile before
  pub old : Kinds
  pub facts : IsDataOf (named document.1.lines) old
  pub lead : Lead profile (take n cs) old now
  pub plain : ArePlain profile (take n cs) (manner_of layout document.1.lines) before
  pub written : AreWritten profile (take n cs) (manner_of layout document.1.lines) before after

-- a text with its pairs, or a fault, of which the editor's contract holds
abbrev pub IsAnswer : Layout → Profile → List ℕ → List Change → Result (List ℕ × List (ℕ × ℕ)) EditorFault → Type 0
IsAnswer layout profile before cs (Ok (text, pairs)) = IsEditedWith layout profile before cs text pairs
IsAnswer layout profile before cs (Err fault) = TellsWith layout profile before cs fault

-- the answer is this fault, or want of memory
abbrev pub IsFaultOrMemory : EditorFault → Result (List ℕ × List (ℕ × ℕ)) EditorFault → Type 0
IsFaultOrMemory fault answer = (answer ≡ Err fault) ⊎ (answer ≡ Err NoMemory)

-- how the edit with this number is refused, if it has no fault: a `remove` with 308, another with 307
abbrev pub refusal : ℕ → Change → EditorFault
refusal n (remove p) = LastElement n
refusal n _ = Spread n

-- Laws, want of memory aside. Where all edits are defined on the data so far and plain, the answer is the text that they write, if it is
-- within the limit;
abbrev pub PlainIsAnswered : Type 0
PlainIsAnswered = (layout : Layout) (profile : Profile) (before : List ℕ) (cs : List Change) (after : List ℕ) (now : Kinds)
    → PlainSoFar layout profile before cs (length cs) after now → length after ≤ max_len
    → (answer : Result (List ℕ × List (ℕ × ℕ)) EditorFault) → IsAnswer layout profile before cs answer
    → ((pairs : List (ℕ × ℕ)) × (answer ≡ Ok (after, pairs))) ⊎ (answer ≡ Err NoMemory)

-- else that it is too long.
abbrev pub LongIsAnswered : Type 0
LongIsAnswered = (layout : Layout) (profile : Profile) (before : List ℕ) (cs : List Change) (after : List ℕ) (now : Kinds)
    → PlainSoFar layout profile before cs (length cs) after now → max_len < length after → (answer : Result (List ℕ × List (ℕ × ℕ)) EditorFault)
    → IsAnswer layout profile before cs answer → IsFaultOrMemory TooLong answer

-- Where the edits before one are so, and it has a fault on the data so far, that is the answer, with its number;
abbrev pub FirstFaultIsAnswered : Type 0
FirstFaultIsAnswered = (layout : Layout) (profile : Profile) (before : List ℕ) (cs : List Change) (n : ℕ) (between : List ℕ) (mid : Kinds)
    → PlainSoFar layout profile before cs n between mid → (c : Change) → slice_get cs n ≡ Some c → (fault : EditFault)
    → IsFault profile c mid (Some fault) → (answer : Result (List ℕ × List (ℕ × ℕ)) EditorFault) → IsAnswer layout profile before cs answer
    → IsFaultOrMemory (Edit n fault) answer

-- and where it has none, but on the text so far it is refused, as `IsRefusedIn` has it, the answer is, with its number: of a `set`, an
-- `insert`, a `section` and an `element` that its place is spread, of a `remove` that it takes a last element.
abbrev pub FirstRefusedIsAnswered : Type 0
FirstRefusedIsAnswered = (layout : Layout) (profile : Profile) (before : List ℕ) (cs : List Change) (n : ℕ) (between : List ℕ) (mid : Kinds)
    → PlainSoFar layout profile before cs n between mid → (c : Change) → slice_get cs n ≡ Some c → IsFault profile c mid None
    → IsRefusedIn profile between c → (answer : Result (List ℕ × List (ℕ × ℕ)) EditorFault) → IsAnswer layout profile before cs answer
    → IsFaultOrMemory (refusal n c) answer

-- Where the edits before one are so, and there is room for the indices that it raises, it is told as refused only if it is so refused.
abbrev pub OnlyRefusedIsTold : Type 0
OnlyRefusedIsTold = (layout : Layout) (profile : Profile) (before : List ℕ) (cs : List Change) (n : ℕ) (between : List ℕ) (mid : Kinds)
    → PlainSoFar layout profile before cs n between mid → (c : Change) → slice_get cs n ≡ Some c → HasRoom c mid
    → TellsWith layout profile before cs (refusal n c) → IsRefusedIn profile between c
