-- What plain edits carry along: the units that no edit names have their partners.
use Rattle.std.specs.Prelude.{◌↔◌, ℕ, List, [], ◌∷◌, None}
use Rattle.toml_text.specs.Forms.{IsNewline}
use Rattle.toml_tree.specs.Tree.{Doc}
use Rattle.toml_tree.specs.declared.profile.Profile.{Profile}
use Rattle.toml_names.specs.model.Data.{Kinds}
use Rattle.toml_edits.specs.After.{IsAfter}
use Rattle.toml_edits.specs.Edits.{Change}
use Rattle.toml_edits.specs.Faults.{IsFault}
use Rattle.toml_units.specs.Units.{units}
use Rattle.toml_checker.specs.Comments.{NoCommentsAdded}
use Rattle.toml_checker.specs.Lines.{NoLinesAdded}
use Rattle.toml_checker.specs.Pairs.{PairsFit, IsFirst}
use Rattle.toml_checker.specs.Protected.{IsProtected}
use Rattle.toml_editor.specs.Steps.{IsGoodText}
use Rattle.toml_editor.specs.EditedLines.{IsWritten}
use Rattle.toml_working.specs.Manners.{Manner}

-- The pairs name just the protected units of the first tree; they fit, and the second tree has no line and no comment that is unasked.
pub record ArePartners (cs : List Change) (d e : Doc) (ps : List (ℕ × ℕ)) : Type 0 where
  pub named : (i : ℕ) → IsFirst ps i ↔ IsProtected cs (units d.lines) i
  pub fit : PairsFit cs d e ps
  pub lines : NoLinesAdded cs e ps
  pub comments : NoCommentsAdded cs e ps

-- Law: a good text and what a plain edit without a fault writes of it have pairs of partners.
abbrev pub PlainIsCarried : Type 0
PlainIsCarried = (c : Change) (profile : Profile) (manner : Manner) (before after : List ℕ) (old now : Kinds) → IsNewline manner.newline → (good : IsGoodText profile before old)
    → IsFault profile c old None → IsAfter profile c old now → IsWritten profile c manner before after → (new : IsGoodText profile after now)
    → (ps : List (ℕ × ℕ)) × ArePartners (c ∷ []) good.tree new.tree ps
