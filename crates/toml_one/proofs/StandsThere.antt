-- Where something stands at a place, nothing is made above it.
use Rattle.std.proofs.Common.{◌≡◌, List, [], ◌∷◌, ◌++◌, Option, Some, None, sym, refl, ap, ◌∙◌, subst, append_assoc, append-nil}
use Rattle.std.specs.Prelude.{IsSome, is_some, option_and_then, slice_get}
use Rattle.toml_names.specs.declared.model.address.Step.{Step}
use Rattle.toml_names.specs.mentions.Mentions.{Kind, Named}
use Rattle.toml_names.specs.model.Addresses.{Address}
use Rattle.toml_names.specs.model.Data.{Kinds}
use Rattle.toml_places.specs.declared.place.PlaceStep.{PlaceStep}
use Rattle.toml_places.specs.Leading.{LeadsTo, below_step, below_steps}
use Rattle.toml_edits.specs.Edits.{Change}
use Rattle.toml_one.specs.Laws.{SetsWhatStands}
use Rattle.toml_one.specs.Parents.{Front, IsNewStep, IsNewStepOf, Makes, MakesBelow, further, root}
use Rattle.toml_one.specs.Wishes.{put_at}
use Rattle.toml_one.proofs.OneList.{one_new_step}
use Rattle.toml_one.proofs.OneMade.{nothing_made}
use Rattle.toml_one.proofs.Standing.{step_on}

-- above what stands something stands
step_above : (kinds : Kinds) (t : Step) → IsSome (below_step t kinds []) → IsSome (kinds [])
step_above kinds t = by (kinds [])
  where
    by : (o : Option Kind) → IsSome (option_and_then (λ k. kinds (t ∷ [])) o) → IsSome o
    by None some = some
    by (Some k) some = refl

stands_above : (at : Address) (kinds : Kinds) → IsSome (below_steps at kinds []) → IsSome (kinds [])
stands_above [] kinds some = some
stands_above (t ∷ at) kinds some = step_above kinds t (stands_above at (below_step t kinds) some)

-- the step is the one that leads there
found_is : (kinds : Kinds) (s : PlaceStep) (t : Step) (found : Option Step) → IsNewStep kinds s t → IsNewStepOf kinds s found → found ≡ Some t
found_is kinds s t None is never = absurd (never t is)
found_is kinds s t (Some u) is so = ap Some (one_new_step kinds s u t so is)

-- what was reached
pub record Stood (at : Address) (cs : List Change) (end : Front) : Type 0 where
  pub none : cs ≡ []
  pub at_end : end.at ≡ at
  pub there : IsSome (end.kinds [])

stood : (ms : List Named) (place : List PlaceStep) (front : Front) (at : Address) (cs : List Change) (end : Front)
    → LeadsTo front.kinds place at → IsSome (below_steps at front.kinds []) → Makes ms front place cs end → Stood (front.at ++ at) cs end
stood ms [] front at cs end leads some makes = record {
  none = makes.0;
  at_end = ap (λ (f : Front). f.at) makes.1 ∙ sym (append-nil front.at) ∙ ap (λ a. front.at ++ a) (sym leads);
  there = subst (λ (f : Front). IsSome (f.kinds [])) (sym makes.1) (subst (λ a. IsSome (below_steps a front.kinds [])) leads some);
}
stood ms (s ∷ place) front at cs end (t, rest, step, leads, whole) some (found, first, more, is, makes, on, all) =
    let below : IsSome (below_steps rest (below_step t front.kinds) []) = subst (λ a. IsSome (below_steps a front.kinds [])) whole some in
    let there : IsSome (below_step t front.kinds []) = stands_above rest (below_step t front.kinds) below in
    let same : found ≡ Some t = found_is front.kinds s t found (step_on front.kinds s t (step_above front.kinds t there) step) is in
    let to = further ms front (Some t) in
    let none : first ≡ [] =
    nothing_made (is_some (to.kinds [])) front.in_value (slice_get place 0) front.kinds (Some t) to.at first there
    (subst (λ f. MakesBelow front f (further ms front f) (slice_get place 0) first) same makes)
    in
    let behind = stood ms place to rest more end leads below (subst (λ f. Makes ms (further ms front f) place more end) same on) in
    record {
      none = all ∙ (λ i. none i ++ behind.none i);
      at_end = behind.at_end ∙ append_assoc front.at (t ∷ []) rest ∙ ap (λ a. front.at ++ a) (sym whole);
      there = behind.there;
    }

pub sets_what_stands : SetsWhatStands
sets_what_stands kinds ms place value at cs leads some (first, end, makes, all) =
    let stands = stood ms place (root kinds) at first end leads some makes in
    all ∙ (λ i. stands.none i ++ put_at (stands.there i) (stands.at_end i) value ∷ [])
