-- An address is the root's, or has a parent and a last step.
use Rattle.std.proofs.Common.{◌≡◌, ◌⊎◌, inl, inr, [], ◌∷◌, ◌++◌, Option, Some, None, refl, sym, ap, subst}
use Rattle.toml_names.specs.declared.model.address.Step.{Step}
use Rattle.toml_names.specs.model.Addresses.{Address}
use Rattle.toml_edits.specs.Carry.{parted}
use Rattle.toml_edits.proofs.Proved.{parted_at_last}

pub ends : (p : Address) → (p ≡ []) ⊎ ((q : Address) × (s : Step) × (p ≡ q ++ s ∷ []))
ends [] = inl refl
ends (s ∷ p) = by (ends p)
  where
    by : (p ≡ []) ⊎ ((q : Address) × (t : Step) × (p ≡ q ++ t ∷ [])) → (s ∷ p ≡ []) ⊎ ((q : Address) × (t : Step) × (s ∷ p ≡ q ++ t ∷ []))
    by (inl is) = inr ([], s, ap (λ r. s ∷ r) is)
    by (inr w) = inr (s ∷ w.0, w.1, ap (λ r. s ∷ r) w.2)

-- what is claimed of an address and its parts holds if it does of the root and of each parent and last step
pub by_parts : (Claim : Option (Address × Step) → Address → Type 0) → Claim None [] → ((q : Address) (s : Step) → Claim (Some (q, s)) (q ++ s ∷ [])) → (at : Address) → Claim (parted at) at
by_parts Claim root step at = by (ends at)
  where
    by : (at ≡ []) ⊎ ((q : Address) × (s : Step) × (at ≡ q ++ s ∷ [])) → Claim (parted at) at
    by (inl is) = subst (λ p. Claim (parted p) p) (sym is) root
    by (inr w) = subst (λ p. Claim (parted p) p) (sym w.2) (subst (λ o. Claim o (w.0 ++ w.1 ∷ [])) (sym (parted_at_last w.0 w.1)) (step w.0 w.1))
