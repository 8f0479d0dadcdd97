-- What a list of edits makes of data.
use Rattle.std.specs.Prelude.{ℕ, List, Bool, Option, MatchOption, IsTrue, ◌↔◌}
use Rattle.toml_tree.specs.Spells.{Spells}
use Rattle.toml_tree.specs.Tree.{Doc, Line}
use Rattle.toml_tree.specs.declared.profile.Profile.{Profile}
use Rattle.toml_names.specs.declared.line_names.LineNames.{LineNames}
use Rattle.toml_names.specs.declared.model.datum.Data.{Data}
use Rattle.toml_names.specs.model.AddressSets.{is_hidden}
use Rattle.toml_names.specs.model.Data.{IsDataOf, Kinds, kind_at}
use Rattle.toml_names.specs.model.Hidden.{beside}
use Rattle.toml_names.specs.mentions.Mentions.{named}
use Rattle.toml_names.specs.reader.LineNames.{StandFor}
use Rattle.toml_edits.specs.Edits.{Change}
use Rattle.toml_edits.specs.Lists.{Lead}
use Rattle.toml_checker.specs.declared.facts.Made.{Made}
use Rattle.toml_checker.specs.Documents.{OfData, AreDefined}

-- the data to which the edits lead; without them some edit is not defined on the data so far
abbrev pub GivesData : Profile → List Change → Data → Option Data → Type 0
GivesData profile cs old found = MatchOption found (¬ AreDefined profile cs (kind_at old.root)) (λ new. Lead profile cs (kind_at old.root) (kind_at new.root))

-- what was made, beside the old data of its document
abbrev pub made_of : Made → Kinds → Kinds
made_of made old = beside (is_hidden made.touched) old (kind_at made.«data».root)

-- the names are those of the lines, and it is what the edits make of their data
pub record IsMadeFrom (profile : Profile) (lines : List Line) (cs : List Change) (old : Kinds) (made : Made) : Type 0 where
  pub taken : StandFor made.names lines
  pub leads : Lead profile cs old (made_of made old)

-- what the edits make of the data of the lines for which the names stand; without it some edit is not defined on the data so far
abbrev pub Makes : Profile → LineNames → List Change → Option Made → Type 0
Makes profile names cs found =
    (lines : List Line) → StandFor names lines → (old : Kinds) → IsDataOf (named lines) old → MatchOption found (¬ AreDefined profile cs old) (IsMadeFrom profile lines cs old)

-- whether what was made are the data of the lines for which the names stand
abbrev pub TellsMade : LineNames → Made → Bool → Type 0
TellsMade names made b =
    (lines others : List Line) → StandFor names lines → StandFor made.names others → (old : Kinds) → IsDataOf (named others) old → (IsTrue b ↔ IsDataOf (named lines) (made_of made old))

-- it is what the edits make of the data of the text, whose names it has
pub record IsMadeOf (profile : Profile) (text : List ℕ) (cs : List Change) (made : Made) : Type 0 where
  pub tree : Doc
  pub spelled : Spells tree text
  pub taken : StandFor made.names tree.lines
  pub old : Kinds
  pub facts : IsDataOf (named tree.lines) old
  pub leads : Lead profile cs old (made_of made old)

-- what the edits make of the data of the text; without it some edit is not defined on the data so far
abbrev pub GivesMade : Profile → List ℕ → List Change → Option Made → Type 0
GivesMade profile text cs found = MatchOption found (¬ OfData text (AreDefined profile cs)) (λ made. IsMadeOf profile text cs made)
