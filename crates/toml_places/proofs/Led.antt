-- The walk of a place through the parts of a text's data.
use Rattle.std.proofs.Common.{◌≡◌, ℕ, suc, ◌<◌, ◌≤◌, List, [], ◌∷◌, ◌++◌, length, Option, Some, None, sym, refl, ap, ◌∙◌, subst, arith, append_assoc, drop, drop-cons, get_or, ◌+◌}
use Rattle.std.proofs.Math.ListN.{drop_of_length-le}
use Rattle.std.specs.Prelude.{IfSome}
use Rattle.std.proofs.lemmas.Bool.{false≢true}
use Rattle.std.proofs.lemmas.List.{append-nil}
use Rattle.std.proofs.lemmas.Option.{none-some}
use Rattle.std.specs.Option.{is_some}
use Rattle.toml_names.specs.declared.model.address.Step.{Step}
use Rattle.toml_names.specs.mentions.Mentions.{an_array}
use Rattle.toml_names.specs.model.Addresses.{Address}
use Rattle.toml_names.specs.model.Data.{Kinds}
use Rattle.toml_names.specs.reader.Parts.{IsPart, part_kinds}
use Rattle.toml_names.specs.tree.Nodes.{Spot}
use Rattle.toml_places.specs.declared.place.PlaceStep.{PlaceStep}
use Rattle.toml_places.specs.declared.place.PlaceStep.TheVariants.{Name, Index, FromEnd, Behind}
use Rattle.toml_places.specs.Leading.{IsArrayOf, IsStep, LeadsTo, LeadsNowhere, below_step}
use Rattle.toml_places.specs.Parts.{IsStepOf, Stands, kinds_in}
use Rattle.toml_places.proofs.Addresses.{one_step}
use Rattle.toml_places.proofs.Parts.{below_none, part_is_there}

-- the steps that were taken, and what is left of the place at the part that was reached
pub record Led (kinds : Kinds) (place : List PlaceStep) (parts : List Spot) (taken : Address) (left : List PlaceStep) (part : Option ℕ) : Type 0 where
  pub here : Kinds
  pub stands : Stands parts part here
  pub on : (rest : Address) → LeadsTo here left rest → LeadsTo kinds place (taken ++ rest)
  pub back : (at : Address) → LeadsTo kinds place at → (rest : Address) × LeadsTo here left rest × (at ≡ taken ++ rest)

pub stands_at : (parts : List Spot) (part : Option ℕ) (here : Kinds) → Stands parts part here → IfSome part (IsPart parts)
stands_at parts None here stands = tt
stands_at parts (Some id) here stands = stands.0

the_same : (parts : List Spot) (id : ℕ) (here : Kinds) → Stands parts (Some id) here → kinds_in parts (Some id) ≡ here
the_same parts id here stands = λ i at. sym (stands.1 at) i

-- where nothing stands there is no array
no_array_here : (here : Kinds) (len : ℕ) → here [] ≡ None → ¬ IsArrayOf here len
no_array_here here len none array = absurd (none-some an_array (sym none ∙ array.array))

-- what a step is does not depend on more than what stands there
same_step : (parts : List Spot) (part : Option ℕ) (here : Kinds) (s : PlaceStep) (t : Step) → Stands parts part here → IsStep (kinds_in parts part) s t → IsStep here s t
same_step parts (Some id) here s t stands is = subst (λ k. IsStep k s t) (the_same parts id here stands) is
same_step parts None here (Name name) t stands is = is
same_step parts None here (Index i) t stands is = is
same_step parts None here (FromEnd n) t stands is = absurd (no_array_here (kinds_in parts None) is.0 refl is.1)
same_step parts None here Behind t stands is = absurd (no_array_here (kinds_in parts None) is.0 refl is.1)

same_back : (parts : List Spot) (part : Option ℕ) (here : Kinds) (s : PlaceStep) (t : Step) → Stands parts part here → IsStep here s t → IsStep (kinds_in parts part) s t
same_back parts (Some id) here s t stands is = subst (λ k. IsStep k s t) (sym (the_same parts id here stands)) is
same_back parts None here (Name name) t stands is = is
same_back parts None here (Index i) t stands is = is
same_back parts None here (FromEnd n) t stands is = absurd (no_array_here here is.0 stands is.1)
same_back parts None here Behind t stands is = absurd (no_array_here here is.0 stands is.1)

-- nor does what stands behind it
pub next_stands : (parts : List Spot) (part next : Option ℕ) (here : Kinds) (t : Step) → Stands parts part here → Stands parts next (below_step t (kinds_in parts part)) → Stands parts next (below_step t here)
next_stands parts (Some id) next here t stands behind = subst (λ k. Stands parts next (below_step t k)) (the_same parts id here stands) behind
next_stands parts None None here t stands behind = below_none here t [] stands
next_stands parts None (Some id) here t stands behind = absurd (false≢true (ap is_some (behind.1 []) ∙ part_is_there parts id behind.0))

pub led_start : (parts : List Spot) (place : List PlaceStep) → IsPart parts 0 → Led (part_kinds parts 0) place parts [] place (Some 0)
led_start parts place part = record { here = part_kinds parts 0; stands = (part, λ at. refl); on = λ rest h. h; back = λ at h. (at, h, refl) }

module _ (kinds : Kinds) (place : List PlaceStep) (parts : List Spot) (taken : Address) (part : Option ℕ) where
  pub led_next : (s : PlaceStep) (left : List PlaceStep) (t : Step) (next : Option ℕ) → Led kinds place parts taken (s ∷ left) part → IsStepOf (kinds_in parts part) s (Some t) → Stands parts next (below_step t (kinds_in parts part)) → Led kinds place parts (taken ++ t ∷ []) left next
  led_next s left t next led is behind =
      let step : IsStep led.here s t = same_step parts part led.here s t led.stands is in
      record {
        here = below_step t led.here;
        stands = next_stands parts part next led.here t led.stands behind;
        on = λ rest more. subst (LeadsTo kinds place) (sym (append_assoc taken (t ∷ []) rest)) (led.on (t ∷ rest) (t, rest, step, more, refl));
        back = λ at h.
            let b = led.back at h in
            let u = b.1 in
            let same : u.0 ≡ t = one_step led.here s u.0 t u.2 step in (
              u.1,
              subst (λ v. LeadsTo (below_step v led.here) left u.1) same u.3,
              b.2 ∙ ap (λ l. taken ++ l) (u.4 ∙ ap (λ v. v ∷ u.1) same) ∙ sym (append_assoc taken (t ∷ []) u.1),
            );
      }

  pub led_end : Led kinds place parts taken [] part → LeadsTo kinds place taken
  led_end led = subst (LeadsTo kinds place) (append-nil taken) (led.on [] refl)

  pub led_nowhere : (s : PlaceStep) (left : List PlaceStep) → Led kinds place parts taken (s ∷ left) part → IsStepOf (kinds_in parts part) s None → LeadsNowhere kinds place
  led_nowhere s left led none at h =
      let b = led.back at h in
      none b.1.0 (same_back parts part led.here s b.1.0 led.stands b.1.2)

pub left_is : (place : List PlaceStep) (i : ℕ) (s d : PlaceStep) → i < length place → s ≡ get_or place i d → drop i place ≡ s ∷ drop (i + 1) place
left_is place i s d low is =
    let one : suc i ≡ i + 1 = omega arith in
    drop-cons place i d low ∙ (λ k. sym is k ∷ drop (one k) place)

pub left_none : (place : List PlaceStep) (i : ℕ) → length place ≤ i → drop i place ≡ []
left_none place i high = drop_of_length-le place high
