-- What `apply` answers.
use Rattle.std.specs.Prelude.{◌≡◌, ℕ, List, [], ◌∷◌}
use Rattle.toml_tree.specs.declared.profile.Profile.{Profile}
use Rattle.toml_layout.specs.declared.layout.Layout.{Layout}
use Rattle.toml_commands.specs.Edit.{AreEdited, PrintsText, SaysOfList}
use Rattle.toml_delivery.specs.declared.outcome.Outcome.{Outcome}

-- the text is one that the edits of the list make, and the one file its certificate
abbrev pub IsListApplied : Layout → Profile → List ℕ → List ℕ → List ℕ → List (List ℕ) → Type 0
IsListApplied layout profile before edits text written = (certificate : List ℕ) × AreEdited layout profile before edits text certificate × (written ≡ certificate ∷ [])

-- what `edit` says of the list, word for word, but for the way in which a text is handed out
abbrev pub Applies : Layout → Profile → List ℕ → List ℕ → Outcome → Type 0
Applies = SaysOfList PrintsText
