-- What is written by after edits: in the same layout, and with the same newline.
use Rattle.std.proofs.Common.{◌≡◌, ℕ, List, [], ◌∷◌, refl, ap, ◌∙◌}
use Rattle.toml_tree.specs.Tree.{Line}
use Rattle.toml_tree.specs.declared.profile.Profile.{Profile}
use Rattle.toml_edits.specs.Edits.{Change, set, insert, rename, remove, new_section, new_element}
use Rattle.toml_working.specs.Manners.{Manner}
use Rattle.toml_editor.specs.EditedLines.{manner_after}
use Rattle.toml_editor.specs.Steps.{AreWritten, last_manner}

-- the edit itself changes at most whether a blank line may be written
same_but_blank : (c : Change) (manner : Manner) (lines : List Line)
    → manner_after c manner lines ≡ record manner { may_blank = (manner_after c manner lines).may_blank }
same_but_blank (set p text) manner lines = refl
same_but_blank (insert p text) manner lines = refl
same_but_blank (rename p to) manner lines = refl
same_but_blank (remove p) manner lines = refl
same_but_blank (new_section p) manner lines = refl
same_but_blank (new_element p) manner lines = refl

pub keeps_newline : (c : Change) (manner : Manner) (lines : List Line) → (manner_after c manner lines).newline ≡ manner.newline
keeps_newline c manner lines = ap (λ (m : Manner). m.newline) (same_but_blank c manner lines)

keeps_layout : (c : Change) (manner : Manner) (lines : List Line) → (manner_after c manner lines).layout ≡ manner.layout
keeps_layout c manner lines = ap (λ (m : Manner). m.layout) (same_but_blank c manner lines)

pub last_layout : (profile : Profile) (cs : List Change) (manner : Manner) (before after : List ℕ) (written : AreWritten profile cs manner before after)
    → (last_manner profile cs manner before after written).layout ≡ manner.layout
last_layout profile [] manner before after written = refl
last_layout profile (c ∷ cs) manner before after (between, first, rest) =
    last_layout profile cs (manner_after c manner first.0.lines) between after rest ∙ keeps_layout c manner first.0.lines
