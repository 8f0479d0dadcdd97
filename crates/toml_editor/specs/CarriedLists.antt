-- What lists of plain edits carry along: the units that no edit of the list names have their partners.
use Rattle.std.specs.Prelude.{◌≡◌, ℕ, true, List}
use Rattle.toml_text.specs.Forms.{IsNewline}
use Rattle.toml_tree.specs.Spells.{Spells}
use Rattle.toml_tree.specs.Tree.{Doc}
use Rattle.toml_tree.specs.declared.profile.Profile.{Profile}
use Rattle.toml_names.specs.model.Data.{Kinds}
use Rattle.toml_edits.specs.Edits.{Change}
use Rattle.toml_edits.specs.Lists.{Lead}
use Rattle.toml_editor.specs.CarriedUnits.{ArePartners}
use Rattle.toml_editor.specs.Steps.{IsGoodText, AreWritten}
use Rattle.toml_layout.specs.declared.layout.Layout.{Layout}
use Rattle.toml_working.specs.Manners.{Manner, ends_in_newline, manner_of}

-- where a blank line may be written before a header line, the text ends in a newline
abbrev pub BlankNeedsNewline : Manner → List ℕ → Type 0
BlankNeedsNewline manner text = manner.may_blank ≡ true → ends_in_newline text ≡ true

-- Law: so it is of a text and what is written by at first.
abbrev pub FirstBlankNeedsNewline : Type 0
FirstBlankNeedsNewline = (layout : Layout) (d : Doc) (text : List ℕ) → Spells d text → BlankNeedsNewline (manner_of layout d.lines) text

-- Law: a good text and what a list of plain edits without a fault writes of it have pairs of partners.
abbrev pub ListIsCarried : Type 0
ListIsCarried = (cs : List Change) (profile : Profile) (manner : Manner) (before after : List ℕ) (old now : Kinds) → IsNewline manner.newline
    → (good : IsGoodText profile before old) → BlankNeedsNewline manner before
    → Lead profile cs old now → AreWritten profile cs manner before after → (new : IsGoodText profile after now)
    → (ps : List (ℕ × ℕ)) × ArePartners cs good.tree new.tree ps
