-- Words of the code's own contracts: how far a place was followed.
use Rattle.std.specs.Prelude.{◌≡◌, Bool, true, false, List, [], ◌∷◌, ◌++◌, Option, Some, None, map, slice_get}
use Rattle.std.specs.List.{list_any}
use Rattle.toml_names.specs.declared.model.address.Step.{Step}
use Rattle.toml_names.specs.mentions.Mentions.{Named}
use Rattle.toml_names.specs.reader.Parts.{part_kinds}
use Rattle.toml_names.specs.tree.Nodes.{Spot}
use Rattle.toml_places.specs.declared.place.PlaceStep.{PlaceStep}
use Rattle.toml_places.specs.Parts.{Stands}
use Rattle.toml_edits.specs.Edits.{Change, change}
use Rattle.toml_edits.specs.declared.edit.Edit.{Edit}
use Rattle.toml_one.specs.Kept.{puts_too_deep, up_to_too_deep}
use Rattle.toml_one.specs.Parents.{Front, IsNewStepOf, Makes, MakesBelow, further, root}
use Rattle.toml_one.specs.declared.parents.Made.{Made}
use Rattle.toml_one.specs.declared.parents.Reached.{Reached}

-- the edit, if there is one
abbrev pub changes_of : Option Edit → List Change
changes_of None = []
changes_of (Some edit) = change edit ∷ []

-- this front was reached
pub record IsReached (parts : List Spot) (reached : Reached) (front : Front) : Type 0 where
  pub at : reached.at ≡ front.at
  pub stands : Stands parts reached.here.part front.kinds
  pub in_value : reached.here.in_value ≡ front.in_value

-- one step further was gone from the front, with these steps left behind it, and what is missing there was made behind the edits so far
pub record IsPassed (parts : List Spot) (ms : List Named) (front : Front) (s : PlaceStep) (left : List PlaceStep) (old new : List Edit) (to : Reached)
    : Type 0 where
  pub step : Option Step
  pub made : List Change
  pub is : IsNewStepOf front.kinds s step
  pub makes : MakesBelow front step (further ms front step) (slice_get left 0) made
  pub reached : IsReached parts to (further ms front step)
  pub edits : map change new ≡ map change old ++ made

-- whether the last of the edits puts something too deep
abbrev pub ends_too_deep : List Change → Bool
ends_too_deep [] = false
ends_too_deep (c ∷ []) = puts_too_deep c
ends_too_deep (c ∷ d ∷ cs) = ends_too_deep (d ∷ cs)

-- the end was reached, and no edit puts something too deep; or it was not, and one does
abbrev pub HasEnd : List Spot → Option Reached → Front → List Change → Type 0
HasEnd parts None end all = list_any puts_too_deep all ≡ true
HasEnd parts (Some reached) end all = (list_any puts_too_deep all ≡ false) × IsReached parts reached end

-- what is missing above the place was made, up to and with the first edit that puts something too deep
pub record IsMadeAbove (parts : List Spot) (ms : List Named) (place : List PlaceStep) (made : Made) : Type 0 where
  pub all : List Change
  pub end : Front
  pub makes : Makes ms (root (part_kinds parts 0)) place all end
  pub edits : map change made.edits.items ≡ up_to_too_deep all
  pub reached : HasEnd parts made.end end all
