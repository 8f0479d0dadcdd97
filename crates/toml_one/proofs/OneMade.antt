-- At one front no edit is made, or one; and where something stands none.
use Rattle.std.proofs.Common.{◌≡◌, ℕ, Bool, true, false, List, [], inl, inr, Option, Some, None}
use Rattle.std.proofs.lemmas.Bool.{false≢true}
use Rattle.toml_names.specs.declared.model.address.Step.{Step}
use Rattle.toml_names.specs.declared.model.address.Step.TheVariants as steps
use Rattle.toml_names.specs.model.Addresses.{Address}
use Rattle.toml_names.specs.model.Data.{Kinds}
use Rattle.toml_places.specs.declared.place.PlaceStep.{PlaceStep}
use Rattle.toml_edits.specs.Edits.{Change, insert, new_element, new_section}
use Rattle.toml_one.specs.Parents.{MakesAt, MakesElement, MakesMissing, MakesProper, MakesTable, empty_value}
use Rattle.toml_one.specs.Steps.{is_index}
use Rattle.toml_one.proofs.Cutting.{IsOneOrNone}

pub nothing_made : (there in_value : Bool) (next : Option PlaceStep) (above : Kinds) (t : Option Step) (at : Address) (cs : List Change) → there ≡ true → MakesAt there in_value next above t at cs → cs ≡ []
nothing_made there in_value None above t at cs is makes = makes
nothing_made true in_value (Some next) above t at cs is makes = makes
nothing_made false in_value (Some next) above t at cs is makes = absurd (false≢true is)

module _ (above : Kinds) (at : Address) (cs : List Change) where
  few_element : (i : ℕ) → MakesElement above i at cs → IsOneOrNone cs
  few_element i (inl made) = inr (new_element at, made.1)
  few_element i (inr made) = inl made.1

  few_table : (t : Option Step) → MakesTable above t at cs → IsOneOrNone cs
  few_table None makes = inl makes
  few_table (Some (steps.Name name)) makes = inr (new_section at, makes)
  few_table (Some (steps.Index i)) makes = few_element i makes

  few_missing : (in_value indexed : Bool) (next : PlaceStep) (t : Option Step) → MakesMissing in_value indexed next above t at cs → IsOneOrNone cs
  few_missing true indexed next t makes = inr (insert at (empty_value next), makes)
  few_missing false true next t makes = inl makes
  few_missing false false next t makes = few_table t makes

  few_proper : (there in_value : Bool) (next : PlaceStep) (t : Option Step) → MakesProper there in_value next above t at cs → IsOneOrNone cs
  few_proper true in_value next t makes = inl makes
  few_proper false in_value next t makes = few_missing in_value (is_index next) next t makes

  pub few_made : (there in_value : Bool) (next : Option PlaceStep) (t : Option Step) → MakesAt there in_value next above t at cs → IsOneOrNone cs
  few_made there in_value None t makes = inl makes
  few_made there in_value (Some next) t makes = few_proper there in_value next t makes
