-- What reading the text of an edit's value answers.
use Rattle.std.specs.Prelude.{List, ℕ}
use Rattle.toml_tree.specs.declared.profile.Profile.{Profile}
use Rattle.toml_tree.specs.Tree.{Value}
use Rattle.toml_names.specs.model.Data.{kind_at, IsDataOf}
use Rattle.toml_names.specs.mentions.Mentions.{value_facts}
use Rattle.toml_names.specs.mentions.Rules.{KeepsRules, IsShort}
use Rattle.toml_edits.specs.declared.value.Reading.{Reading}
use Rattle.toml_edits.specs.declared.value.Reading.TheVariants.{Good, Bad, Long}
use Rattle.toml_edits.specs.ValueTexts.{IsBadValue, IsLongValue, IsGoodValue}

abbrev pub IsReading : Profile → List ℕ → Reading → Type 0
IsReading profile text (Good d) = IsGoodValue profile text (kind_at d)
IsReading profile text Bad = IsBadValue profile text
IsReading profile text Long = IsLongValue profile text

-- the same of a value's tree
abbrev pub IsTreeReading : Value → Reading → Type 0
IsTreeReading v (Good d) = KeepsRules (value_facts v) × IsShort (value_facts v) × IsDataOf (value_facts v) (kind_at d)
IsTreeReading v Bad = ¬ KeepsRules (value_facts v)
IsTreeReading v Long = KeepsRules (value_facts v) × ¬ IsShort (value_facts v)
