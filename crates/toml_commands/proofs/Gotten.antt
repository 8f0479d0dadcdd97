-- What `get` answers of what is found.
use Rattle.std.proofs.Common.{◌≡◌, ℕ, List, sym, subst}
use Rattle.toml_tree.specs.HandedOut.{AreLinesIn}
use Rattle.toml_tree.specs.Tree.{Line}
use Rattle.toml_tree.specs.declared.profile.Profile.{Profile}
use Rattle.toml_names.specs.mentions.Mentions.{named}
use Rattle.toml_names.specs.model.Data.{Kinds, IsClosed, IsDataOf}
use Rattle.toml_names.proofs.Proved.{lines_are_closed}
use Rattle.toml_places.specs.declared.place.PlaceStep.{PlaceStep}
use Rattle.toml_print.specs.declared.form.Form.{Form}
use Rattle.toml_commands.specs.Get.{Finds, FindsForm, FindsSpelled}
use Rattle.toml_commands.specs.Reading.{IsGoodTextWith}
use Rattle.toml_commands.specs.declared.get.Found.{Found}
use Rattle.toml_commands.specs.declared.get.GetForm.{GetForm}
use Rattle.toml_commands.specs.declared.get.GetForm.TheVariants.{Printed, Toml}

module _ (profile : Profile) (file : List ℕ) (kinds : Kinds) (place : List PlaceStep) (found : Found) (good : IsGoodTextWith profile file (λ lines. IsDataOf (named lines) kinds)) where
  closed : IsClosed kinds
  closed = lines_are_closed good.1.lines kinds good.1.good.0 good.2

  pub finds_form : (form : Form) → FindsForm form kinds place found → Finds profile file place (Printed form) found
  finds_form form is = (good.0, good.1, (kinds, good.2, is good.1.lines closed))

  pub finds_spelled : ((lines : List Line) → AreLinesIn profile file lines → FindsSpelled lines kinds place found) → Finds profile file place Toml found
  finds_spelled is = (good.0, good.1, (kinds, good.2, is good.1.lines good.1.are closed))

-- what was found so is found
pub told : (profile : Profile) (file : List ℕ) (place : List PlaceStep) (form other : GetForm) (found same : Found) → form ≡ other → found ≡ same → Finds profile file place other same → Finds profile file place form found
told profile file place form other found same form_is found_is finds =
    subst (λ f. Finds profile file place f found) (sym form_is) (subst (λ x. Finds profile file place other x) (sym found_is) finds)
