-- What is above an edit's place stays where it is.
use Rattle.std.proofs.Common.{◌≡◌, ◌⊎◌, inl, inr, [], ◌∷◌, ◌++◌, length, Some, Bool, true, false, cond, refl, sym, ap, ◌∙◌, arith, length-append}
use Rattle.std.specs.Prelude.{option_map}
use Rattle.toml_names.specs.declared.model.address.Step.{Step}
use Rattle.toml_names.specs.declared.model.address.Step.TheVariants.{Name, Index}
use Rattle.toml_names.specs.model.Addresses.{Address, IsAbove, same_step}
use Rattle.toml_names.proofs.Proved.{same_step-equal}
use Rattle.toml_edits.specs.Carry.{Carrier, carry, carry_below, emptied, nowhere, up_from, down_above, to_name, setting, inserting, renaming, removing, parted}
use Rattle.toml_edits.specs.Edits.{Change, set, insert, rename, remove, new_section, new_element, place}
use Rattle.toml_edits.proofs.Proved.{parted_at_last}
use Rattle.toml_checker.proofs.Parted.{ends}

-- what the carrier keeps of all at or below the place stays
below_keeps : (p : Address) (g : Carrier) (a : Address) → ((r : Address) → a ≡ p ++ r → g r ≡ Some r) → carry_below p g a ≡ Some a
below_keeps [] g a h = h a refl
below_keeps (s ∷ p) g [] h = refl
below_keeps (s ∷ p) g (t ∷ a) h = by (same_step s t) refl (below_keeps p g a)
  where
    by : (b : Bool) → same_step s t ≡ b → (((r : Address) → a ≡ p ++ r → g r ≡ Some r) → carry_below p g a ≡ Some a) → cond b (option_map (λ r. t ∷ r) (carry_below p g a)) (Some (t ∷ a)) ≡ Some (t ∷ a)
    by false e next = refl
    by true e next = ap (option_map (λ r. t ∷ r)) (next (λ r w. h r (ap (λ u. u ∷ a) (sym (same_step-equal s t e)) ∙ ap (λ x. s ∷ x) w)))

above_stays : (q a : Address) (s : Step) (at : Address) (g : Carrier) → g [] ≡ Some [] → at ≡ q ++ s ∷ [] → IsAbove a at → carry_below q g a ≡ Some a
above_stays q a s at g nil is w = below_keeps q g a by
  where
    by : (r : Address) → a ≡ q ++ r → g r ≡ Some r
    by [] e = nil
    by (t ∷ r) e = absurd (omega (arith, ap length e, length-append q (t ∷ r), ap length w.2, length-append a (w.0 ∷ w.1), ap length is, length-append q (s ∷ [])))

set_above : (at a : Address) → IsAbove a at → setting at a ≡ Some a
set_above [] a w = refl
set_above (s ∷ p) a w = below_keeps (s ∷ p) emptied a by
  where
    by : (r : Address) → a ≡ s ∷ p ++ r → emptied r ≡ Some r
    by [] e = refl
    by (t ∷ r) e = absurd (omega (arith, ap length e, length-append p (t ∷ r), ap length w.2, length-append a (w.0 ∷ w.1)))

pub within_stays : (c : Change) (a : Address) → IsAbove a (place c) → carry c a ≡ Some a
within_stays (set at value) a w = set_above at a w
within_stays (insert at value) a w = by (ends at)
  where
    by : (at ≡ []) ⊎ ((q : Address) × (s : Step) × (at ≡ q ++ s ∷ [])) → inserting (parted at) a ≡ Some a
    by (inl e) = ap (λ p. inserting (parted p) a) e
    by (inr (q, Name n, e)) = ap (λ o. inserting o a) (ap parted e ∙ parted_at_last q (Name n))
    by (inr (q, Index i, e)) = ap (λ o. inserting o a) (ap parted e ∙ parted_at_last q (Index i)) ∙ above_stays q a (Index i) at (up_from i) refl e w
within_stays (rename at to) a w = by (ends at)
  where
    by : (at ≡ []) ⊎ ((q : Address) × (s : Step) × (at ≡ q ++ s ∷ [])) → renaming (parted at) to a ≡ Some a
    by (inl e) = ap (λ p. renaming (parted p) to a) e
    by (inr (q, Name n, e)) = ap (λ o. renaming o to a) (ap parted e ∙ parted_at_last q (Name n)) ∙ above_stays q a (Name n) at (to_name n to) refl e w
    by (inr (q, Index i, e)) = ap (λ o. renaming o to a) (ap parted e ∙ parted_at_last q (Index i))
within_stays (remove at) a w = by (ends at)
  where
    by : (at ≡ []) ⊎ ((q : Address) × (s : Step) × (at ≡ q ++ s ∷ [])) → removing (parted at) a ≡ Some a
    by (inl e) = ap (λ p. removing (parted p) a) e
    by (inr (q, Name n, e)) = ap (λ o. removing o a) (ap parted e ∙ parted_at_last q (Name n)) ∙ above_stays q a (Name n) at (carry_below (Name n ∷ []) nowhere) refl e w
    by (inr (q, Index i, e)) = ap (λ o. removing o a) (ap parted e ∙ parted_at_last q (Index i)) ∙ above_stays q a (Index i) at (down_above i) refl e w
within_stays (new_section at) a w = refl
within_stays (new_element at) a w = refl
