-- What the steps of an edit hand on to each other.
use Rattle.std.specs.Prelude.{◌≡◌, ℕ, List, length, string_bytes}
use Rattle.toml_text.specs.Limit.{IsText}
use Rattle.toml_tree.specs.HandedOut.{AreLinesIn}
use Rattle.toml_tree.specs.declared.profile.Profile.{Profile}
use Rattle.toml_edits.specs.Edits.{Change}
use Rattle.toml_units.specs.declared.piece.Piece.{Piece}
use Rattle.toml_units.specs.Plain.{plain_units}
use Rattle.toml_units.specs.View.{all_units}
use Rattle.toml_checker.specs.Findings.{IsFirstUnmet}
use Rattle.toml_editor.specs.Edited.{AreDefinedOn, IsEditedWith}
use Rattle.toml_working.specs.Tidy.{ArePieces}
use Rattle.toml_editor.specs.LastTexts.{WritesLast}
use Rattle.toml_editor.specs.PlainTexts.{NoneIsRefused, WritesPlain}
use Rattle.toml_editor.specs.declared.editing.Edited.{Edited}
use Rattle.toml_editor.specs.declared.editing.Unjudged.{Unjudged}
use Rattle.toml_editor.specs.declared.fault.EditorFault.{EditorFault}
use Rattle.toml_editor.specs.declared.fault.EditorFault.TheVariants.{Unverified}
use Rattle.toml_layout.specs.declared.layout.Layout.{Layout}
use Rattle.toml_editor.specs.declared.making.Read.{Read}
use Rattle.toml_working.specs.declared.reading.LineFacts.{LineFacts}
use Rattle.toml_editor.specs.Making.{HasNames}
use Rattle.toml_working.specs.Starting.{AreFacts, read_of}

-- by what the edits are made on it: the lines of the text, their names, their units and the facts of them
pub record IsReadFrom (text : List ℕ) (read : Read) (known : List LineFacts) : Type 0 where
  pub within : IsText text
  pub lines : AreLinesIn read.profile text (read_of read.before).lines
  pub names : HasNames read
  pub units : all_units read.before.units.now ≡ plain_units (read_of read.before).lines
  pub facts : AreFacts read.before known

-- The edits are defined on the data of the first text, and the pieces of that text are the second one. Of plain edits that is the one
-- that they write in the layout, and none of the edits is refused (`IsRefusedIn`).
pub record IsMadeText (layout : Layout) (profile : Profile) (before : List ℕ) (cs : List Change) (after : List ℕ) (list : List Piece) : Type 0 where
  pub are_defined : AreDefinedOn profile before cs
  pub plain : WritesPlain layout profile before cs after
  pub passed : NoneIsRefused layout profile before cs (length cs)
  pub last : WritesLast layout profile before cs after
  pub pieces : ArePieces before after list

-- the same of what the code hands on: its text, and its pieces
abbrev pub IsMadeAs : Layout → Profile → List ℕ → List Change → Unjudged → Type 0
IsMadeAs layout profile before cs made = IsMadeText layout profile before cs (string_bytes made.text) made.pieces.items

-- a refusal by the judge has the first demand that no certificate of this text meets
abbrev pub IsJudged : Profile → List ℕ → List Change → List ℕ → EditorFault → Type 0
IsJudged profile before cs after (Unverified reason) = IsFirstUnmet profile before cs after reason
IsJudged profile before cs after _ = Unit {0}

-- the text is certified to be what the edits make of the first one, and the pieces of that one are it
pub record IsEditedText (layout : Layout) (profile : Profile) (before : List ℕ) (cs : List Change) (after : List ℕ) (list : List Piece)
    (ps : List (ℕ × ℕ)) : Type 0 where
  pub edited : IsEditedWith layout profile before cs after ps
  pub pieces : ArePieces before after list

-- and its pairs
abbrev pub IsEditedAs : Layout → Profile → List ℕ → List Change → Edited → Type 0
IsEditedAs layout profile before cs e =
    IsEditedText layout profile before cs (string_bytes e.text) e.pieces.items e.certificate.pairs.items
