-- What an edit without a fault is.
use Rattle.std.specs.Prelude.{◌≡◌, ◌⊎◌, ◌<◌, ◌^◌, ◌∷◌, ◌++◌, List, [], ℕ, None, Result, Err, length}
use Rattle.toml_tree.specs.declared.profile.Profile.{Profile}
use Rattle.toml_names.specs.model.Data.{Kinds}
use Rattle.toml_edits.specs.Edits.{Change}
use Rattle.toml_edits.specs.Faults.{IsFault}
use Rattle.toml_layout.specs.declared.layout.Layout.{Layout}
use Rattle.toml_edits.specs.Laws.{HasRoom}
use Rattle.toml_editor.specs.Edited.{IsTextOf}
use Rattle.toml_editor.specs.LastTexts.{IsOneChange}
use Rattle.toml_editor.specs.PlainAnswers.{IsAnswer, PlainSoFar}
use Rattle.toml_editor.specs.PlainTexts.{IsRefusedIn}
use Rattle.toml_editor.specs.Steps.{IsGoodText, IsPlain}
use Rattle.toml_editor.specs.declared.fault.EditorFault.{EditorFault}
use Rattle.toml_editor.specs.declared.fault.EditorFault.TheVariants.{NoMemory}

-- Law: on a good text it is plain, or makes one change of which `WritesLast` tells the text, or is refused; the removal of an only element is both
-- of the last.
abbrev pub EachEditIsTold : Type 0
EachEditIsTold = (profile : Profile) (c : Change) (text : List ℕ) (kinds : Kinds) (good : IsGoodText profile text kinds) → IsFault profile c kinds None
    → IsPlain good.tree.lines c ⊎ (IsOneChange good.tree.lines c ⊎ IsRefusedIn profile text c)

-- Law: where the edits before the last one have no fault on a document and are plain, and the last one has none and is not refused, there is at
-- most one text of which `IsTextOf` holds.
abbrev pub LastHasOneText : Type 0
LastHasOneText = (layout : Layout) (profile : Profile) (before : List ℕ) (front : List Change) (c : Change) (between : List ℕ) (mid : Kinds)
    → PlainSoFar layout profile before (front ++ c ∷ []) (length front) between mid → IsFault profile c mid None → ¬ IsRefusedIn profile between c
    → (one two : List ℕ) → IsTextOf layout profile before (front ++ c ∷ []) one → IsTextOf layout profile before (front ++ c ∷ []) two → one ≡ two

-- Law: so, want of memory aside, two answers of which the editor's contract holds are the same: below 2^63 edits, and where there is room for the
-- indices that the last one raises.
abbrev pub LastHasOneAnswer : Type 0
LastHasOneAnswer = (layout : Layout) (profile : Profile) (before : List ℕ) (front : List Change) (c : Change) (between : List ℕ) (mid : Kinds)
    → PlainSoFar layout profile before (front ++ c ∷ []) (length front) between mid → HasRoom c mid → length (front ++ c ∷ []) < 2 ^ 63
    → (one two : Result (List ℕ × List (ℕ × ℕ)) EditorFault) → IsAnswer layout profile before (front ++ c ∷ []) one
    → IsAnswer layout profile before (front ++ c ∷ []) two → ¬ (one ≡ Err NoMemory) → ¬ (two ≡ Err NoMemory) → one ≡ two
