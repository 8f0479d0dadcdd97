-- What is made behind a front at which nothing stands: there is always such a list.
use Rattle.std.proofs.Common.{◌≡◌, ◌⊎◌, ℕ, zero, suc, Bool, true, false, List, [], ◌∷◌, ◌++◌, inl, inr, Option, Some, None, sym, refl, ap, subst, arith}
use Rattle.std.specs.Prelude.{MatchOption, is_some, option_and_then, slice_get}
use Rattle.std.proofs.lemmas.Bool.{false≢true}
use Rattle.toml_names.specs.declared.model.address.Step.{Step}
use Rattle.toml_names.specs.declared.model.address.Step.TheVariants as steps
use Rattle.toml_names.specs.mentions.Mentions.{Named}
use Rattle.toml_names.specs.model.Addresses.{Address}
use Rattle.toml_names.specs.model.Data.{Kinds}
use Rattle.toml_places.specs.declared.place.PlaceStep.{PlaceStep}
use Rattle.toml_places.specs.declared.place.PlaceStep.TheVariants.{Name, Index, FromEnd, Behind}
use Rattle.toml_places.specs.Leading.{IsArrayOf, IsStep}
use Rattle.toml_edits.specs.Edits.{Change, insert, new_element, new_section}
use Rattle.toml_one.specs.Parents.{Front, IsNewStepOf, IsNextElement, Makes, MakesAt, MakesMissing, MakesTable, empty_value, further}
use Rattle.toml_one.specs.Steps.{is_index}
use Rattle.toml_one.proofs.Standing.{no_array}

-- the step
some_step : (kinds : Kinds) (s : PlaceStep) → kinds [] ≡ None → (found : Option Step) × IsNewStepOf kinds s found
some_step kinds (Name name) none = (Some (steps.Name name), refl)
some_step kinds (Index i) none = (Some (steps.Index i), refl)
some_step kinds (FromEnd n) none = (None, λ t is. no_array kinds is.0 none is.1)
some_step kinds Behind none = (Some (steps.Index 0), subst (λ o. MatchOption o (steps.Index 0 ≡ steps.Index 0) (λ k. IsStep kinds Behind (steps.Index 0))) (sym none) refl)

-- whether the index is the next one
is_next : (kinds : Kinds) (i : ℕ) → kinds [] ≡ None → IsNextElement kinds i ⊎ (¬ IsNextElement kinds i)
is_next kinds zero none = inl (subst (λ o. MatchOption o (zero ≡ zero) (λ k. IsArrayOf kinds zero)) (sym none) refl)
is_next kinds (suc i) none = inr no
  where
    no : ¬ IsNextElement kinds (suc i)
    no h = let e : suc i ≡ 0 = subst (λ o. MatchOption o (suc i ≡ 0) (λ k. IsArrayOf kinds (suc i))) none h in omega (arith, e)

module _ (above : Kinds) (none : above [] ≡ None) (at : Address) where
  some_element : (i : ℕ) → IsNextElement above i ⊎ (¬ IsNextElement above i) → (cs : List Change) × MakesTable above (Some (steps.Index i)) at cs
  some_element i (inl is) = (new_element at ∷ [], inl (is, refl))
  some_element i (inr not) = ([], inr (not, refl))

  some_table : (t : Option Step) → (cs : List Change) × MakesTable above t at cs
  some_table None = ([], refl)
  some_table (Some (steps.Name name)) = (new_section at ∷ [], refl)
  some_table (Some (steps.Index i)) = some_element i (is_next above i none)

  some_missing : (indexed : Bool) (next : PlaceStep) (t : Option Step) → (cs : List Change) × MakesMissing false indexed next above t at cs
  some_missing true next t = ([], refl)
  some_missing false next t = some_table t

  some_made : (there in_value : Bool) (next : Option PlaceStep) (t : Option Step) → (cs : List Change) × MakesAt there in_value next above t at cs
  some_made there in_value None t = ([], refl)
  some_made true in_value (Some next) t = ([], refl)
  some_made false true (Some next) t = (insert at (empty_value next) ∷ [], refl)
  some_made false false (Some next) t = some_missing (is_index next) next t

still_none : (ms : List Named) (front : Front) (found : Option Step) → front.kinds [] ≡ None → (further ms front found).kinds [] ≡ None
still_none ms front (Some t) none = ap (option_and_then (λ k. front.kinds (t ∷ []))) none
still_none ms front None none = refl

-- what is made at the rest of a place
abbrev pub Rest : List Named → Front → List PlaceStep → Type 0
Rest ms front left = (cs : List Change) × (end : Front) × Makes ms front left cs end

module _ (ms : List Named) (front : Front) (none : front.kinds [] ≡ None) (s : PlaceStep) (left : List PlaceStep) where
  with_step : (found : Option Step) → IsNewStepOf front.kinds s found → (first : List Change)
      → MakesAt (is_some ((further ms front found).kinds [])) front.in_value (slice_get left 0) front.kinds found (further ms front found).at first
      → Rest ms (further ms front found) left → Rest ms front (s ∷ left)
  with_step found is first makes (more, end, on) = (first ++ more, end, (found, first, more, is, makes, on, refl))

  one_step : ((found : Option Step) × IsNewStepOf front.kinds s found) → ((to : Front) → to.kinds [] ≡ None → Rest ms to left) → Rest ms front (s ∷ left)
  one_step (found, is) rest =
      let to = further ms front found in
      let first = some_made front.kinds none to.at (is_some (to.kinds [])) front.in_value (slice_get left 0) found in
      with_step found is first.0 first.1 (rest to (still_none ms front found none))

pub rest_is_made : (ms : List Named) (front : Front) (left : List PlaceStep) → front.kinds [] ≡ None → Rest ms front left
rest_is_made ms front [] none = ([], front, (refl, refl))
rest_is_made ms front (s ∷ left) none = one_step ms front none s left (some_step front.kinds s none) (λ to. rest_is_made ms to left)

pub none_is : (part : Option ℕ) → is_some part ≡ false → part ≡ None
none_is None is = refl
none_is (Some id) is = absurd (false≢true (sym is))
