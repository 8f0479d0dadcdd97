-- Documents that were read line by line.
use Rattle.std.proofs.Common.{◌≡◌, ◌<◌, ◌∷◌, ◌++◌, [], ℕ, List, Option, Some, Ok, sym, subst}
use Rattle.toml_tree.specs.HandedOut.{AreLinesIn, HandsNext, HandsOut, left}
use Rattle.toml_tree.specs.Lines.{line}
use Rattle.toml_tree.specs.Tree.{Line}
use Rattle.toml_tree.specs.declared.line.Line as declared
use Rattle.toml_tree.specs.declared.line_reader.LineReader.{LineReader}
use Rattle.toml_tree.specs.declared.profile.Profile.{Profile}
use Rattle.toml_names.specs.reader.Texts.{AreLeft, more_left}
use Rattle.toml_names.proofs.Proved.{less_is_left}
use Rattle.toml_working.specs.declared.reading.ReadDocument.{ReadDocument}
use Rattle.toml_working.specs.Reading.{HasRead, IsReadText}

-- what is left of the text is a reader that stands behind these lines
pub stood : (profile : Profile) (text : List ℕ) (front : List Line) (o : Option LineReader) (r : LineReader) → o ≡ Some r → AreLeft profile text front o
    → HandsOut profile text front r
stood profile text front o r is = subst (AreLeft profile text front) is

-- behind the line that it hands out there is what is left then, and that is less
pub behind_it : (profile : Profile) (text : List ℕ) (front : List Line) (o : Option LineReader) (r : LineReader) (l : declared.Line) (more : Option LineReader)
    → o ≡ Some r → AreLeft profile text front o → HandsNext r (Ok (l, more)) → AreLeft profile text (front ++ line l ∷ []) more × (more_left more < more_left o)
behind_it profile text front o r l more is are hands =
    let passed = less_is_left profile text front (left r) l more (hands profile text front (stood profile text front o r is are)) in
    (passed.0, subst (λ o. more_left more < more_left o) (sym is) passed.1)

-- all lines were read
pub all_read : (profile : Profile) (text : List ℕ) (lines : List Line) (read : ReadDocument) → AreLinesIn profile text lines → HasRead read lines → IsReadText profile text read
all_read profile text lines read are h = record {
  are = subst (AreLinesIn profile text) (sym h.lines) are;
  read_so = subst (HasRead read) (sym h.lines) h;
}
