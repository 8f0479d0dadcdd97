-- Lines that were taken one after another.
use Rattle.std.specs.Prelude.{◌≡◌, ◌∷◌, ◌++◌, [], ℕ, List, map, None, Result, Ok, Err}
use Rattle.toml_tree.specs.Tree.{Line}
use Rattle.toml_names.specs.declared.fault.NameFault.{NameFault}
use Rattle.toml_names.specs.mentions.Mentions.{named, section}
use Rattle.toml_names.specs.reader.LineNames.{StandFor}
use Rattle.toml_names.specs.reader.Names.{RefusesNames}
use Rattle.toml_units.specs.declared.reading.Left.TheVariants.{Nothing}
use Rattle.toml_units.specs.declared.taken.Newline.{Newline}
use Rattle.toml_units.specs.declared.taken.Newline.TheVariants.{Lacking, Lf, CrLf}
use Rattle.toml_units.specs.declared.taken.TakenLines.{TakenLines}
use Rattle.toml_units.specs.Plain.{plain_units}
use Rattle.toml_units.specs.View.{all_units}

abbrev pub newline_text : Newline → List ℕ
newline_text Lacking = []
newline_text Lf = 0x0A ∷ []
newline_text CrLf = 0x0D ∷ 0x0A ∷ []

-- these are the newlines of the lines, one each
abbrev pub AreNewlines : List Newline → List Line → Type 0
AreNewlines newlines lines = map newline_text newlines ≡ map (λ (l : Line). l.newline.text) lines

-- these lines were taken: their names, the table of the last header, their units, and the newline of each
pub record HasTaken (taken : TakenLines) (lines : List Line) : Type 0 where
  pub names : StandFor taken.reading.names lines
  pub section_is : taken.reading.section ≡ section (named lines)
  pub left : taken.reading.left ≡ Nothing
  pub closed : taken.reading.opened ≡ None
  pub units : all_units taken.units.items ≡ plain_units lines
  pub newlines : AreNewlines taken.newlines.items lines

-- one line more was taken, or the names of the lines with it are refused
abbrev pub TakesLine : List Line → Line → TakenLines → Result (Unit {0}) NameFault → Type 0
TakesLine lines l taken (Ok _) = HasTaken taken (lines ++ l ∷ [])
TakesLine lines l taken (Err fault) = RefusesNames (lines ++ l ∷ []) fault
