-- A document that was read line by line.
use Rattle.std.specs.Prelude.{◌≡◌, ◌==◌, ◌+◌, ◌∷◌, ◌++◌, [], ℕ, List, length, map, Result, Ok, Err}
use Rattle.toml_text.specs.Limit.{IsText}
use Rattle.toml_tree.specs.HandedOut.{AreLinesIn}
use Rattle.toml_tree.specs.Pieces.{expr_start}
use Rattle.toml_tree.specs.Tree.{Line}
use Rattle.toml_tree.specs.declared.profile.Profile.{Profile}
use Rattle.toml_names.specs.declared.fault.NameFault.{NameFault}
use Rattle.toml_names.specs.reader.Names.{RefusesNames}
use Rattle.toml_units.specs.Taken.{HasTaken}
use Rattle.toml_working.specs.declared.reading.LineFacts.{LineFacts}
use Rattle.toml_working.specs.declared.reading.ReadDocument.{ReadDocument}
use Rattle.toml_layout.specs.KnownLines.{lines_known}

-- what the working tree knows of a line: where it stands with its newline, and what it is
abbrev pub fact_of : Line → LineFacts
fact_of l = record {
  span = record { start = expr_start l.expr; end = l.newline.start + length l.newline.text };
  is_last = length l.newline.text == 0;
}

-- these lines were read: they are known, and the facts, the names and the units are theirs
pub record HasRead (read : ReadDocument) (these : List Line) : Type 0 where
  pub lines : lines_known read.lines.items ≡ these
  pub facts : read.facts.items ≡ map fact_of these
  pub taken : HasTaken read.taken these

-- one line more was read, or the names of the lines with it are refused
abbrev pub ReadsLine : List Line → Line → ReadDocument → Result (Unit {0}) NameFault → Type 0
ReadsLine lines l read (Ok _) = HasRead read (lines ++ l ∷ [])
ReadsLine lines l read (Err fault) = RefusesNames (lines ++ l ∷ []) fault

-- all lines of the text were read
pub record IsReadText (profile : Profile) (text : List ℕ) (read : ReadDocument) : Type 0 where
  pub are : AreLinesIn profile text (lines_known read.lines.items)
  pub read_so : HasRead read (lines_known read.lines.items)

-- and it is within the limit
pub record IsRead (profile : Profile) (text : List ℕ) (read : ReadDocument) : Type 0 where
  pub within : IsText text
  pub lines : IsReadText profile text read

-- the bytes are this text, and the document was read of them
pub record IsReadAs (profile : Profile) (before text : List ℕ) (document : ReadDocument) : Type 0 where
  pub text_is : text ≡ before
  pub read : IsRead profile before document
