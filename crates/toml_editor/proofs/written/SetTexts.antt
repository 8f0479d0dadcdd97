-- What a `set` leaves as it was, and the carried addresses.
use Rattle.std.proofs.Common.{◌≡◌, Bool, true, false, Some, option_map, cond, [], ◌∷◌, refl, sym, ap, ap₂, ◌∙◌}
use Rattle.toml_tree.specs.Bare.{bare_value}
use Rattle.toml_tree.specs.Spells.{joined, value_parts, IsValue}
use Rattle.toml_tree.specs.Tree.{Value}
use Rattle.toml_tree.proofs.Proved.{bare_value_text}
use Rattle.toml_names.specs.model.Addresses.{Address, IsAbove, same_step}
use Rattle.toml_names.proofs.Proved.{same_step-equal}
use Rattle.toml_edits.specs.Carry.{carry_below, emptied, setting}
use Rattle.toml_working.specs.Setting.{set_within}
use Rattle.toml_editor.proofs.written.Elsewhere.{set_within_kept}
use Rattle.toml_editor.proofs.written.Unplaced.{set_bared}

pub within_text : (p : Address) (new : Value) (v : Value) (at : Address) → IsValue v → ¬ IsAbove at p → joined (value_parts (set_within p new at v)) ≡ joined (value_parts v)
within_text p new v at is not =
    sym (bare_value_text (set_within p new at v))
    ∙ ap (λ x. joined (value_parts x)) (set_bared p new v at ∙ set_within_kept p (bare_value new) at v is not)
    ∙ bare_value_text v

below_stays : (p a : Address) → ¬ IsAbove p a → carry_below p emptied a ≡ Some a
below_stays [] [] not = refl
below_stays [] (t ∷ a) not = absurd (not (t, a, refl))
below_stays (s ∷ p) [] not = refl
below_stays (s ∷ p) (t ∷ a) not = by (same_step s t) refl (λ far. below_stays p a far)
  where
    by : (b : Bool) → same_step s t ≡ b → (¬ IsAbove p a → carry_below p emptied a ≡ Some a) → cond b (option_map (λ r. t ∷ r) (carry_below p emptied a)) (Some (t ∷ a)) ≡ Some (t ∷ a)
    by true same more = ap (option_map (λ r. t ∷ r)) (more (λ above. not (above.0, above.1, ap₂ (λ x y. x ∷ y) (sym (same_step-equal s t same)) above.2)))
    by false other more = refl

-- what is not below the address stays
pub set_stays : (p a : Address) → ¬ IsAbove p a → setting p a ≡ Some a
set_stays [] a not = refl
set_stays (s ∷ p) a not = below_stays (s ∷ p) a not
