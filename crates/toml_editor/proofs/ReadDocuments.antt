-- Documents that were read line by line.
use Rattle.std.proofs.Common.{◌≡◌, ◌∙◌, ℕ, List, ap, map, sym, subst₂}
use Rattle.toml_tree.specs.HandedOut.{AreLinesIn, tree_of}
use Rattle.toml_layout.specs.KnownLines.{lines_known}
use Rattle.toml_tree.specs.Spells.{Spells}
use Rattle.toml_tree.specs.Tree.{Doc}
use Rattle.toml_tree.specs.declared.profile.Profile.{Profile}
use Rattle.toml_names.specs.model.Documents.{IsDocumentIn}
use Rattle.toml_names.specs.reader.LineNames.{StandFor}
use Rattle.toml_names.proofs.Proved.{taken_are_good}
use Rattle.toml_units.specs.Plain.{plain_units, spanned}
use Rattle.toml_units.specs.Units.{units}
use Rattle.toml_units.specs.View.{all_units}
use Rattle.toml_units.proofs.Proved.{plain_is_units}
use Rattle.toml_editor.specs.declared.making.Read.{Read}
use Rattle.toml_working.specs.declared.reading.LineFacts.{LineFacts}
use Rattle.toml_working.specs.declared.reading.ReadDocument.{ReadDocument}
use Rattle.toml_editor.specs.Editing.{IsReadFrom}
use Rattle.toml_working.specs.Starting.{IsReadOf, read_of}
use Rattle.toml_working.specs.Reading.{IsRead, fact_of}

-- by what was read the edits are made on the document
pub read_from : (profile : Profile) (text : List ℕ) (document : ReadDocument) (read : Read) (facts : List LineFacts) → IsRead profile text document → read.profile ≡ profile
    → read.before.known.now ≡ document.lines.items → read.before.units.now ≡ document.taken.units.items → read.names.now ≡ document.taken.reading.names
    → facts ≡ document.facts.items → IsReadFrom text read facts
read_from profile text document read facts h same readers us names are =
    let lines : lines_known read.before.known.now ≡ lines_known document.lines.items = ap lines_known readers in
    let so = h.lines.read_so in
    record {
      within = h.within;
      lines = subst₂ (λ p ls. AreLinesIn p text ls) (sym same) (sym lines) h.lines.are;
      names = subst₂ StandFor (sym names) (sym lines) so.taken.names;
      units = ap all_units us ∙ so.taken.units ∙ ap plain_units (sym lines);
      facts = are ∙ so.facts ∙ ap (map fact_of) (sym lines);
    }

module _ (text : List ℕ) (read : Read) (facts : List LineFacts) (h : IsReadFrom text read facts) where
  abbrev pub tree : Doc
  tree = tree_of text (read_of read.before).lines

  pub spelled : Spells tree text
  spelled = h.lines.spelled.0

  pub is_document : IsDocumentIn read.profile text
  is_document = (h.within, tree, spelled, taken_are_good read.names.now tree.lines h.names, h.lines.spelled.1)

  units_are : all_units read.before.units.now ≡ map spanned (units tree.lines)
  units_are = h.units ∙ plain_is_units tree text spelled

  pub is_read_of : IsReadOf text read.before
  is_read_of = record { within = h.within; spelled = spelled; units = units_are }
