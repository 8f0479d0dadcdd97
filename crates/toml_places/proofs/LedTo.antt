-- The walk of an address through the parts of a text's data.
use Rattle.std.proofs.Common.{◌≡◌, ℕ, suc, ◌<◌, ◌≤◌, ◌+◌, List, [], ◌∷◌, length, Option, Some, sym, refl, ap, ◌∙◌, subst, arith, drop, drop-cons, get_or}
use Rattle.std.proofs.Math.ListN.{drop_of_length-le}
use Rattle.std.proofs.Math.Path.{fun_ext}
use Rattle.toml_names.specs.declared.model.address.Step.{Step}
use Rattle.toml_names.specs.model.Addresses.{Address}
use Rattle.toml_names.specs.model.Data.{IsClosed, Kinds}
use Rattle.toml_names.specs.reader.Parts.{IsPart, part_kinds}
use Rattle.toml_names.specs.tree.Nodes.{Spot}
use Rattle.toml_places.specs.Laws.{BelowStepsClosed}
use Rattle.toml_places.specs.Leading.{below_step, below_steps}
use Rattle.toml_places.specs.Parts.{Stands, kinds_in}
use Rattle.toml_places.proofs.Addresses.{below_closed}
use Rattle.toml_places.proofs.Led.{next_stands}

-- what stands at the part that was reached, of which the steps left lead to the end
pub record LedTo (kinds : Kinds) (at : Address) (parts : List Spot) (left : Address) (part : Option ℕ) : Type 0 where
  pub here : Kinds
  pub stands : Stands parts part here
  pub is : below_steps left here ≡ below_steps at kinds

pub led_to_start : (parts : List Spot) (at : Address) → IsPart parts 0 → LedTo (part_kinds parts 0) at parts at (Some 0)
led_to_start parts at part = record { here = part_kinds parts 0; stands = (part, λ rest. refl); is = refl }

module _ (kinds : Kinds) (at : Address) (parts : List Spot) (part : Option ℕ) where
  pub led_to_next : (s : Step) (left : Address) (next : Option ℕ) → LedTo kinds at parts (s ∷ left) part → Stands parts next (below_step s (kinds_in parts part)) → LedTo kinds at parts left next
  led_to_next s left next led behind = record { here = below_step s led.here; stands = next_stands parts part next led.here s led.stands behind; is = led.is }

  pub led_to_end : LedTo kinds at parts [] part → Stands parts part (below_steps at kinds)
  led_to_end led = subst (Stands parts part) led.is led.stands

pub steps_left : (at : Address) (i : ℕ) (s d : Step) → i < length at → s ≡ get_or at i d → drop i at ≡ s ∷ drop (i + 1) at
steps_left at i s d low is =
    let one : suc i ≡ i + 1 = omega arith in
    drop-cons at i d low ∙ (λ k. sym is k ∷ drop (one k) at)

pub no_steps_left : (at : Address) (i : ℕ) → length at ≤ i → drop i at ≡ []
no_steps_left at i high = drop_of_length-le at high

-- what stands below a step of closed data
one_step_down : (kinds : Kinds) (s : Step) → IsClosed kinds → below_step s kinds ≡ (λ at. kinds (s ∷ at))
one_step_down kinds s closed = fun_ext (λ at. below_closed kinds s at closed)

pub below_steps_closed : BelowStepsClosed
below_steps_closed kinds [] rest closed = refl
below_steps_closed kinds (s ∷ at) rest closed =
    ap (λ (k : Kinds). below_steps at k rest) (one_step_down kinds s closed)
    ∙ below_steps_closed (λ at. kinds (s ∷ at)) at rest (λ below t none. closed (s ∷ below) t none)
