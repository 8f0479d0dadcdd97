-- What the text of an edit's value is.
use Rattle.std.specs.Prelude.{List, ℕ}
use Rattle.toml_text.specs.Limit.{IsText}
use Rattle.toml_tree.specs.declared.profile.Profile.{Profile}
use Rattle.toml_tree.specs.Profiles.{IsValueIn}
use Rattle.toml_tree.specs.Tree.{Value}
use Rattle.toml_names.specs.model.Data.{Kinds, IsDataOf}
use Rattle.toml_names.specs.mentions.Mentions.{value_facts}
use Rattle.toml_names.specs.mentions.Rules.{KeepsRules, IsShort}

-- the text is one value of the profile, within the limit of a text, and the mentions in it keep the table rules
pub record IsValueText (profile : Profile) (text : List ℕ) : Type 0 where
  pub within : IsText text
  pub tree : Value
  pub is_value : IsValueIn profile tree text
  pub keeps : KeepsRules (value_facts tree)

-- it is none
abbrev pub IsBadValue : Profile → List ℕ → Type 0
IsBadValue profile text = ¬ IsValueText profile text

-- it is one with an address of more than 100 steps in it
pub record IsLongValue (profile : Profile) (text : List ℕ) : Type 0 where
  pub value : IsValueText profile text
  pub long : ¬ IsShort (value_facts value.tree)

-- it is one without, and these are its data
pub record IsGoodValue (profile : Profile) (text : List ℕ) (kinds : Kinds) : Type 0 where
  pub value : IsValueText profile text
  pub short : IsShort (value_facts value.tree)
  pub facts : IsDataOf (value_facts value.tree) kinds
