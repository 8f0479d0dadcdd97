-- What is set at a place, and what is below it.
use Rattle.std.proofs.Common.{◌≡◌, Bool, true, false, cond, [], ◌∷◌, Some, option_map, refl, sym, ap, ◌∙◌}
use Rattle.toml_names.specs.model.Addresses.{Address, same_step}
use Rattle.toml_names.proofs.Proved.{same_step-equal}
use Rattle.toml_edits.specs.Carry.{carry_below, nowhere, emptied}
use Rattle.toml_edits.specs.Laws.{SetCarries}

emptied_below : (p a : Address) → ¬ (a ≡ p) → carry_below p nowhere a ≡ carry_below p emptied a
emptied_below [] [] apart = absurd (apart refl)
emptied_below [] (t ∷ a) apart = refl
emptied_below (s ∷ p) [] apart = refl
emptied_below (s ∷ p) (t ∷ a) apart = by (same_step s t) refl (λ other. emptied_below p a other)
  where
    by : (b : Bool) → same_step s t ≡ b → (¬ (a ≡ p) → carry_below p nowhere a ≡ carry_below p emptied a)
        → cond b (option_map (λ r. t ∷ r) (carry_below p nowhere a)) (Some (t ∷ a)) ≡ cond b (option_map (λ r. t ∷ r) (carry_below p emptied a)) (Some (t ∷ a))
    by true same ih = ap (option_map (λ r. t ∷ r)) (ih (λ is. apart (ap (λ l. t ∷ l) is ∙ ap (λ u. u ∷ p) (sym (same_step-equal s t same)))))
    by false other ih = refl

pub set_carries : SetCarries
set_carries s p a value apart = emptied_below (s ∷ p) a apart
