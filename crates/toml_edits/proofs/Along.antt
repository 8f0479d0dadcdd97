-- What is below an address is carried along with it.
use Rattle.std.proofs.Common.{◌≡◌, ◌⊎◌, inl, inr, ℕ, ◌+◌, ◌-◌, ◌^◌, List, [], ◌∷◌, ◌++◌, Option, Some, None, Bool, true, false, cond, bytes_eq, refl, sym, ap, subst, ◌∙◌, append_assoc, append-nil}
use Rattle.std.specs.Prelude.{option_map}
use Rattle.std.specs.Bool.{nat_lt, nat_eq}
use Rattle.toml_names.specs.declared.model.address.Step.{Step}
use Rattle.toml_names.specs.declared.model.address.Step.TheVariants.{Name, Index}
use Rattle.toml_names.specs.model.Addresses.{Address, IsAbove, same_step}
use Rattle.toml_names.proofs.Proved.{same_step-equal}
use Rattle.toml_edits.specs.Carry.{Carrier, carry_below, emptied, nowhere, up_from, down_above, to_name, setting, inserting, renaming, removing, parted}
use Rattle.toml_edits.specs.Edits.{set, insert, rename, remove, new_section, new_element}
use Rattle.toml_edits.specs.Laws.{CarriedAlong}
use Rattle.toml_edits.proofs.LastStep.{parted_at_last}

-- an address is the root's, or has a last step
pub ends : (p : Address) → (p ≡ []) ⊎ ((q : Address) × (s : Step) × (p ≡ q ++ s ∷ []))
ends [] = inl refl
ends (s ∷ p) = by (ends p)
  where
    by : (p ≡ []) ⊎ ((q : Address) × (t : Step) × (p ≡ q ++ t ∷ [])) → (s ∷ p ≡ []) ⊎ ((q : Address) × (t : Step) × (s ∷ p ≡ q ++ t ∷ []))
    by (inl is) = inr ([], s, ap (λ r. s ∷ r) is)
    by (inr w) = inr (s ∷ w.0, w.1, ap (λ r. s ∷ r) w.2)

-- what is claimed of the way an edit carries holds if it does of an edit at the root, and of one at each parent and last step
pub by_parts : (Claim : Option (Address × Step) → Address → Type 0) → Claim None [] → ((q : Address) (s : Step) → Claim (Some (q, s)) (q ++ s ∷ [])) → (at : Address) → Claim (parted at) at
by_parts Claim root step at = by (ends at)
  where
    by : (at ≡ []) ⊎ ((q : Address) × (s : Step) × (at ≡ q ++ s ∷ [])) → Claim (parted at) at
    by (inl is) = subst (λ p. Claim (parted p) p) (sym is) root
    by (inr w) = subst (λ p. Claim (parted p) p) (sym w.2) (subst (λ o. Claim o (w.0 ++ w.1 ∷ [])) (sym (parted_at_last w.0 w.1)) (step w.0 w.1))

-- what is below is carried along
abbrev pub GoesAlong : Carrier → Address → Address → Type 0
GoesAlong c a r = c (a ++ r) ≡ option_map (λ b. b ++ r) (c a)

one_step : (t : Step) (a r : Address) (x y : Option Address) → x ≡ option_map (λ b. b ++ r) y → option_map (λ b. t ∷ b) x ≡ option_map (λ b. b ++ r) (option_map (λ b. t ∷ b) y)
one_step t a r x None e = ap (option_map (λ b. t ∷ b)) e
one_step t a r x (Some y) e = ap (option_map (λ b. t ∷ b)) e

pub below_along : (p : Address) (c : Carrier) (a r : Address) → ¬ IsAbove a p → ((b : Address) → a ≡ p ++ b → GoesAlong c b r) → GoesAlong (carry_below p c) a r
below_along [] c a r n h = h a refl
below_along (s ∷ p) c [] r n h = absurd (n (s, p, refl))
below_along (s ∷ p) c (t ∷ a) r n h = by (same_step s t) refl (below_along p c a r)
  where
    by : (b : Bool) → same_step s t ≡ b → (¬ IsAbove a p → ((b : Address) → a ≡ p ++ b → GoesAlong c b r) → GoesAlong (carry_below p c) a r)
        → cond b (option_map (λ x. t ∷ x) (carry_below p c (a ++ r))) (Some (t ∷ a ++ r)) ≡ option_map (λ x. x ++ r) (cond b (option_map (λ x. t ∷ x) (carry_below p c a)) (Some (t ∷ a)))
    by false is next = refl
    by true is next =
        let st : s ≡ t = same_step-equal s t is in
        one_step t a r _ _ (next (λ w. n (w.0, w.1, ap (λ u. u ∷ p) st ∙ ap (λ x. t ∷ x) w.2)) (λ b e. h b (ap (λ u. u ∷ a) (sym st) ∙ ap (λ x. s ∷ x) e)))

above_more : (a q : Address) (s : Step) → IsAbove a q → IsAbove a (q ++ s ∷ [])
above_more a q s w = (w.0, w.1 ++ s ∷ [], ap (λ x. x ++ s ∷ []) w.2 ∙ append_assoc a (w.0 ∷ w.1) (s ∷ []))

-- a carrier that looks at the first step alone, below the parent of the place
pub parent_along : (q : Address) (s : Step) (c : Carrier) (a r : Address) → ((t : Step) (b : Address) → GoesAlong c (t ∷ b) r) → ¬ IsAbove a (q ++ s ∷ []) → GoesAlong (carry_below q c) a r
parent_along q s c a r step n = below_along q c a r (λ w. n (above_more a q s w)) at
  where
    at : (b : Address) → a ≡ q ++ b → GoesAlong c b r
    at [] e = absurd (n (s, [], ap (λ x. x ++ s ∷ []) (sym (e ∙ append-nil q))))
    at (t ∷ b) e = step t b

emptied_along : (t : Step) (b r : Address) → GoesAlong emptied (t ∷ b) r
emptied_along t b r = refl

up_along : (i : ℕ) (r : Address) (t : Step) (b : Address) → GoesAlong (up_from i) (t ∷ b) r
up_along i r (Name n) b = refl
up_along i r (Index j) b = by (nat_lt j i) (nat_lt (j + 1) (2 ^ 64))
  where
    by : (low fits : Bool) → cond low (Some (Index j ∷ b ++ r)) (cond fits (Some (Index (j + 1) ∷ b ++ r)) None) ≡ option_map (λ x. x ++ r) (cond low (Some (Index j ∷ b)) (cond fits (Some (Index (j + 1) ∷ b)) None))
    by true fits = refl
    by false true = refl
    by false false = refl

down_along : (i : ℕ) (r : Address) (t : Step) (b : Address) → GoesAlong (down_above i) (t ∷ b) r
down_along i r (Name n) b = refl
down_along i r (Index j) b = by (nat_lt j i) (nat_eq j i)
  where
    by : (low same : Bool) → cond low (Some (Index j ∷ b ++ r)) (cond same None (Some (Index (j - 1) ∷ b ++ r))) ≡ option_map (λ x. x ++ r) (cond low (Some (Index j ∷ b)) (cond same None (Some (Index (j - 1) ∷ b))))
    by true same = refl
    by false true = refl
    by false false = refl

name_along : (from to : List ℕ) (r : Address) (t : Step) (b : Address) → GoesAlong (to_name from to) (t ∷ b) r
name_along from to r (Index j) b = refl
name_along from to r (Name n) b = by (bytes_eq from n)
  where
    by : (same : Bool) → cond same (Some (Name to ∷ b ++ r)) (Some (Name n ∷ b ++ r)) ≡ option_map (λ x. x ++ r) (cond same (Some (Name to ∷ b)) (Some (Name n ∷ b)))
    by true = refl
    by false = refl

away_along : (n : List ℕ) (r : Address) (t : Step) (b : Address) → GoesAlong (carry_below (Name n ∷ []) nowhere) (t ∷ b) r
away_along n r t b = by (same_step (Name n) t)
  where
    by : (same : Bool) → cond same (option_map (λ x. t ∷ x) None) (Some (t ∷ b ++ r)) ≡ option_map (λ x. x ++ r) (cond same (option_map (λ x. t ∷ x) None) (Some (t ∷ b)))
    by true = refl
    by false = refl

set_along : (at a r : Address) → ¬ IsAbove a at → ¬ (at ≡ a) → GoesAlong (setting at) a r
set_along [] a r n other = refl
set_along (s ∷ p) a r n other = below_along (s ∷ p) emptied a r n by
  where
    by : (b : Address) → a ≡ s ∷ p ++ b → GoesAlong emptied b r
    by [] e = absurd (other (sym (e ∙ append-nil (s ∷ p))))
    by (t ∷ b) e = emptied_along t b r

insert_along : (a r q : Address) (s : Step) → ¬ IsAbove a (q ++ s ∷ []) → GoesAlong (inserting (Some (q, s))) a r
insert_along a r q (Name n) above = refl
insert_along a r q (Index i) above = parent_along q (Index i) (up_from i) a r (up_along i r) above

rename_along : (to : List ℕ) (a r q : Address) (s : Step) → ¬ IsAbove a (q ++ s ∷ []) → GoesAlong (renaming (Some (q, s)) to) a r
rename_along to a r q (Index i) above = refl
rename_along to a r q (Name n) above = parent_along q (Name n) (to_name n to) a r (name_along n to r) above

remove_along : (a r q : Address) (s : Step) → ¬ IsAbove a (q ++ s ∷ []) → GoesAlong (removing (Some (q, s))) a r
remove_along a r q (Name n) above = parent_along q (Name n) (carry_below (Name n ∷ []) nowhere) a r (away_along n r) above
remove_along a r q (Index i) above = parent_along q (Index i) (down_above i) a r (down_along i r) above

pub carried_along : CarriedAlong
carried_along (set at value) a r n other = set_along at a r n other
carried_along (insert at value) a r n other = by_parts (λ o p. ¬ IsAbove a p → GoesAlong (inserting o) a r) (λ h. refl) (insert_along a r) at n
carried_along (rename at to) a r n other = by_parts (λ o p. ¬ IsAbove a p → GoesAlong (renaming o to) a r) (λ h. refl) (rename_along to a r) at n
carried_along (remove at) a r n other = by_parts (λ o p. ¬ IsAbove a p → GoesAlong (removing o) a r) (λ h. refl) (remove_along a r) at n
carried_along (new_section at) a r n other = refl
carried_along (new_element at) a r n other = refl
