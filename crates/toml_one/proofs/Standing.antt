-- What stands at a front is what its part has; where no part is, no more counts than that nothing stands there.
use Rattle.std.proofs.Common.{◌≡◌, ℕ, Bool, true, false, List, [], ◌∷◌, inl, inr, Option, Some, None, Result, Ok, Err, sym, refl, ap, ◌∙◌, subst, arith, eq-eqb}
use Rattle.std.specs.Prelude.{IfOk, IfSome, IsSome, IsTrue, MatchOption, ◌↔◌, is_some, nat_eq, option_and_then}
use Rattle.std.proofs.lemmas.Bool.{false≢true}
use Rattle.std.proofs.lemmas.Option.{none-some}
use Rattle.toml_names.specs.declared.model.address.Step.{Step}
use Rattle.toml_names.specs.declared.model.address.Step.TheVariants as steps
use Rattle.toml_names.specs.mentions.Mentions.{Kind, an_array}
use Rattle.toml_names.specs.model.Addresses.{Address}
use Rattle.toml_names.specs.model.Data.{Kinds}
use Rattle.toml_names.specs.reader.Parts.{IsPart}
use Rattle.toml_names.specs.tree.Nodes.{Spot}
use Rattle.toml_places.specs.declared.place.PlaceStep.{PlaceStep}
use Rattle.toml_places.specs.declared.place.PlaceStep.TheVariants.{Name, Index, FromEnd, Behind}
use Rattle.toml_places.specs.Leading.{IsArrayOf, IsStep, LeadsTo, below_step}
use Rattle.toml_places.specs.Parts.{IsStepOf, Stands, kinds_in}
use Rattle.toml_places.proofs.Proved.{one_address, part_is_there}
use Rattle.toml_edits.specs.Edits.{Change}
use Rattle.toml_one.specs.Parents.{IsNewStep, IsNewStepOf, IsNextElement, MakesAt, MakesMissing, MakesProper, MakesTable}
use Rattle.toml_one.specs.Steps.{is_behind, is_index}

-- something stands at a part, and only there
pub part_there : (parts : List Spot) (part : Option ℕ) (kinds : Kinds) → Stands parts part kinds → is_some part ≡ is_some (kinds [])
part_there parts None kinds stands = sym (ap is_some stands)
part_there parts (Some id) kinds stands = sym (ap is_some (stands.1 []) ∙ part_is_there parts id stands.0)

pub some_there : (parts : List Spot) (part : Option ℕ) → IfSome part (IsPart parts) → is_some part ≡ true → IsSome (kinds_in parts part [])
some_there parts None is some = absurd (false≢true some)
some_there parts (Some id) is some = part_is_there parts id is

the_same : (parts : List Spot) (id : ℕ) (here : Kinds) → Stands parts (Some id) here → kinds_in parts (Some id) ≡ here
the_same parts id here stands = λ i at. sym (stands.1 at) i

pub no_array : (kinds : Kinds) (len : ℕ) → kinds [] ≡ None → ¬ IsArrayOf kinds len
no_array kinds len none array = none-some an_array (sym none ∙ array.array)

-- what a step is
new_step_on : (parts : List Spot) (part : Option ℕ) (here : Kinds) (s : PlaceStep) (t : Step) → Stands parts part here → IsNewStep (kinds_in parts part) s t → IsNewStep here s t
new_step_on parts (Some id) here s t stands is = subst (λ k. IsNewStep k s t) (the_same parts id here stands) is
new_step_on parts None here (Name name) t stands is = is
new_step_on parts None here (Index i) t stands is = is
new_step_on parts None here (FromEnd n) t stands is = absurd (no_array (kinds_in parts None) is.0 refl is.1)
new_step_on parts None here Behind t stands is = subst (λ o. MatchOption o (t ≡ steps.Index 0) (λ k. IsStep here Behind t)) (sym stands) is

new_step_back : (parts : List Spot) (part : Option ℕ) (here : Kinds) (s : PlaceStep) (t : Step) → Stands parts part here → IsNewStep here s t → IsNewStep (kinds_in parts part) s t
new_step_back parts (Some id) here s t stands is = subst (λ k. IsNewStep k s t) (sym (the_same parts id here stands)) is
new_step_back parts None here (Name name) t stands is = is
new_step_back parts None here (Index i) t stands is = is
new_step_back parts None here (FromEnd n) t stands is = absurd (no_array here is.0 stands is.1)
new_step_back parts None here Behind t stands is = subst (λ o. MatchOption o (t ≡ steps.Index 0) (λ k. IsStep here Behind t)) stands is

pub new_step_is : (parts : List Spot) (part : Option ℕ) (here : Kinds) (s : PlaceStep) (found : Option Step) → Stands parts part here → IsNewStepOf (kinds_in parts part) s found → IsNewStepOf here s found
new_step_is parts part here s None stands never = λ t h. never t (new_step_back parts part here s t stands h)
new_step_is parts part here s (Some t) stands is = new_step_on parts part here s t stands is

-- what holds of the value in an `Ok`
pub if_ok : {T E : Type 0} (P Q : T → Type 0) (r : Result T E) → ((x : T) → P x → Q x) → IfOk r P → IfOk r Q
if_ok P Q (Ok x) on h = on x h
if_ok P Q (Err e) on h = h

-- but for `[+]` a new step is a step
step_unless : (kinds : Kinds) (s : PlaceStep) (t : Step) → is_behind s ≡ false → IsStep kinds s t ↔ IsNewStep kinds s t
step_unless kinds (Name name) t other = (λ h. h, λ h. h)
step_unless kinds (Index i) t other = (λ h. h, λ h. h)
step_unless kinds (FromEnd n) t other = (λ h. h, λ h. h)
step_unless kinds Behind t other = absurd (false≢true (sym other))

pub step_not_behind : (kinds : Kinds) (s : PlaceStep) (found : Option Step) → is_behind s ≡ false → IsStepOf kinds s found → IsNewStepOf kinds s found
step_not_behind kinds s None other never = λ t h. never t ((step_unless kinds s t other).1 h)
step_not_behind kinds s (Some t) other is = (step_unless kinds s t other).0 is

-- where something stands too
pub step_on : (kinds : Kinds) (s : PlaceStep) (t : Step) → IsSome (kinds []) → IsStep kinds s t → IsNewStep kinds s t
step_on kinds (Name name) t there is = is
step_on kinds (Index i) t there is = is
step_on kinds (FromEnd n) t there is = is
step_on kinds Behind t there is = by (kinds []) there
  where
    by : (o : Option Kind) → IsSome o → MatchOption o (t ≡ steps.Index 0) (λ k. IsStep kinds Behind t)
    by None some = absurd (false≢true some)
    by (Some k) some = is

step_back : (kinds : Kinds) (s : PlaceStep) (t : Step) → IsSome (kinds []) → IsNewStep kinds s t → IsStep kinds s t
step_back kinds (Name name) t there is = is
step_back kinds (Index i) t there is = is
step_back kinds (FromEnd n) t there is = is
step_back kinds Behind t there is = by (kinds []) there is
  where
    by : (o : Option Kind) → IsSome o → MatchOption o (t ≡ steps.Index 0) (λ k. IsStep kinds Behind t) → IsStep kinds Behind t
    by None some h = absurd (false≢true some)
    by (Some k) some h = h

pub step_there : (kinds : Kinds) (s : PlaceStep) (found : Option Step) → IsSome (kinds []) → IsStepOf kinds s found → IsNewStepOf kinds s found
step_there kinds s None there never = λ t h. never t (step_back kinds s t there h)
step_there kinds s (Some t) there is = step_on kinds s t there is

-- what stands one step below
pub next_stands : (parts : List Spot) (part next : Option ℕ) (here : Kinds) (t : Step) → Stands parts part here → Stands parts next (below_step t (kinds_in parts part)) → Stands parts next (below_step t here)
next_stands parts (Some id) next here t stands behind = subst (λ k. Stands parts next (below_step t k)) (the_same parts id here stands) behind
next_stands parts None None here t stands behind = ap (option_and_then (λ k. here (t ∷ []))) stands
next_stands parts None (Some id) here t stands behind = absurd (false≢true (ap is_some (behind.1 []) ∙ part_is_there parts id behind.0))

-- the element behind the last
next_on : (parts : List Spot) (part : Option ℕ) (here : Kinds) (i : ℕ) → Stands parts part here → IsNextElement (kinds_in parts part) i → IsNextElement here i
next_on parts (Some id) here i stands is = subst (λ k. IsNextElement k i) (the_same parts id here stands) is
next_on parts None here i stands is = subst (λ o. MatchOption o (i ≡ 0) (λ k. IsArrayOf here i)) (sym stands) is

next_back : (parts : List Spot) (part : Option ℕ) (here : Kinds) (i : ℕ) → Stands parts part here → IsNextElement here i → IsNextElement (kinds_in parts part) i
next_back parts (Some id) here i stands is = subst (λ k. IsNextElement k i) (sym (the_same parts id here stands)) is
next_back parts None here i stands is = subst (λ o. MatchOption o (i ≡ 0) (λ k. IsArrayOf here i)) stands is

-- what is made
module _ (parts : List Spot) (part : Option ℕ) (here : Kinds) (stands : Stands parts part here) (at : Address) (cs : List Change) where
  table_is : (found : Option Step) → MakesTable (kinds_in parts part) found at cs → MakesTable here found at cs
  table_is None makes = makes
  table_is (Some (steps.Name name)) makes = makes
  table_is (Some (steps.Index i)) (inl made) = inl (next_on parts part here i stands made.0, made.1)
  table_is (Some (steps.Index i)) (inr made) = inr (λ h. made.0 (next_back parts part here i stands h), made.1)

  missing_is : (in_value indexed : Bool) (next : PlaceStep) (found : Option Step) → MakesMissing in_value indexed next (kinds_in parts part) found at cs → MakesMissing in_value indexed next here found at cs
  missing_is true indexed next found makes = makes
  missing_is false true next found makes = makes
  missing_is false false next found makes = table_is found makes

  proper_is : (there in_value : Bool) (next : PlaceStep) (found : Option Step) → MakesProper there in_value next (kinds_in parts part) found at cs → MakesProper there in_value next here found at cs
  proper_is true in_value next found makes = makes
  proper_is false in_value next found makes = missing_is in_value (is_index next) next found makes

  pub made_is : (there in_value : Bool) (next : Option PlaceStep) (found : Option Step) → MakesAt there in_value next (kinds_in parts part) found at cs → MakesAt there in_value next here found at cs
  made_is there in_value None found makes = makes
  made_is there in_value (Some next) found makes = proper_is there in_value next found makes

-- an array has one length
one_length : (kinds : Kinds) (m n : ℕ) → IsArrayOf kinds m → IsArrayOf kinds n → m ≡ n
one_length kinds m n one two =
    let same : steps.Index m ∷ [] ≡ steps.Index n ∷ [] = one_address kinds (Behind ∷ []) (steps.Index m ∷ []) (steps.Index n ∷ []) (led m one) (led n two) in cc
  where
    led : (k : ℕ) → IsArrayOf kinds k → LeadsTo kinds (Behind ∷ []) (steps.Index k ∷ [])
    led k array = (steps.Index k, [], (k, array, refl), refl, refl)

in_array : (kinds : Kinds) (i : ℕ) → IsSome (kinds []) → IsNextElement kinds i → IsArrayOf kinds i
in_array kinds i there h = by (kinds []) there h
  where
    by : (o : Option Kind) → IsSome o → MatchOption o (i ≡ 0) (λ k. IsArrayOf kinds i) → IsArrayOf kinds i
    by None some is = absurd (false≢true some)
    by (Some k) some is = is

-- by the index that `[+]` is
next_is : (kinds : Kinds) (len i : ℕ) → IsStep kinds Behind (steps.Index len) → (len ≡ i) ↔ IsNextElement kinds i
next_is kinds len i (n, array, is) =
    let same : len ≡ n = cc in (
      λ e. subst (λ o. MatchOption o (i ≡ 0) (λ k. IsArrayOf kinds i)) (sym array.array) (subst (IsArrayOf kinds) (sym same ∙ e) array),
      λ h. same ∙ one_length kinds n i array (subst (λ o. MatchOption o (i ≡ 0) (λ k. IsArrayOf kinds i)) array.array h),
    )

pub test_is : (kinds : Kinds) (len i : ℕ) → IsStep kinds Behind (steps.Index len) → IsTrue (nat_eq len i) ↔ IsNextElement kinds i
test_is kinds len i step =
    let next = next_is kinds len i step in
    (λ t. next.0 (grind arith), λ h. eq-eqb len i (next.1 h))

pub no_next : (kinds : Kinds) (i : ℕ) → IsSome (kinds []) → ((t : Step) → ¬ IsStep kinds Behind t) → ¬ IsNextElement kinds i
no_next kinds i there never h = never (steps.Index i) (i, in_array kinds i there h, refl)

pub no_element : (kinds : Kinds) (s : Step) (i : ℕ) (at : Address) (r : Bool) → s ≡ steps.Index i → r ≡ false → IsTrue r ↔ IsNextElement kinds i → MakesTable kinds (Some s) at []
no_element kinds s i at r is other next = subst (λ t. MakesTable kinds (Some t) at []) (sym is) (inr (λ h. false≢true (sym other ∙ next.1 h), refl))
