-- Where edits put values.
use Rattle.std.proofs.Common.{◌≡◌, ◌⊎◌, inl, inr, ℕ, ◌+◌, ◌<◌, ◌≤◌, ◌^◌, [], ◌∷◌, ◌++◌, Some, None, IsSome, is_some, Bool, true, false, cond, refl, sym, ap, subst, ◌∙◌, arith, append_assoc}
use Rattle.std.proofs.lemmas.Bool.Decides.{nat_tests}
use Rattle.std.proofs.lemmas.List.{append-nil}
use Rattle.std.proofs.lemmas.Option.{same_Some}
use Rattle.std.specs.Bool.{nat_lt}
use Rattle.std.specs.Prelude.{option_map}
use Rattle.toml_names.specs.declared.model.address.Step.{Step}
use Rattle.toml_names.specs.declared.model.address.Step.TheVariants.{Name, Index}
use Rattle.toml_names.specs.model.Addresses.{Address, same_step}
use Rattle.toml_names.proofs.Proved.{same_step-self, same_step-equal}
use Rattle.toml_edits.specs.Carry.{Carrier, carry_below, emptied, up_from, inserting, parted}
use Rattle.toml_edits.specs.Edits.{set, insert, rename, remove, new_section, new_element}
use Rattle.toml_edits.specs.Laws.{ValuesAreNew, ValuesStand}
use Rattle.toml_edits.specs.declared.fault.EditFault.TheVariants.{RootNamed, AlreadyThere}
use Rattle.toml_edits.proofs.Fronts.{onto}
use Rattle.toml_edits.proofs.Along.{ends}
use Rattle.toml_edits.proofs.LastStep.{parted_at_last}
use Rattle.toml_edits.proofs.ListFronts.{fronts_stand}
use Rattle.toml_edits.proofs.Standing.{good_root}

pub values_stand : ValuesStand
values_stand profile (set at value) old new after puts = let root = good_root profile value after.0 after.1 in ap is_some (ap new (sym (append-nil at)) ∙ after.2.placed [] root.0 root.1)
values_stand profile (insert at value) old new after puts = let root = good_root profile value after.0 after.1 in ap is_some (ap new (sym (append-nil at)) ∙ after.2.placed [] root.0 root.1)
values_stand profile (rename at to) old new after puts = absurd puts
values_stand profile (remove at) old new after puts = absurd puts
values_stand profile (new_section at) old new after puts = absurd puts
values_stand profile (new_element at) old new after puts = absurd puts

-- ---- where an edit carries, by its parts

-- what is carried to below the place comes from below it
back : (p : Address) (g : Carrier) (a to r : Address) → carry_below p g a ≡ Some to → to ≡ p ++ r → (x : Address) × (a ≡ p ++ x) × (g x ≡ Some r)
back [] g a to r e f = (a, refl, e ∙ ap Some f)
back (s ∷ p) g [] to r e f = cc
back (s ∷ p) g (t ∷ a) to r e f = by (λ y. back p g a y r) (same_step s t) refl e
  where
    by : ((y : Address) → carry_below p g a ≡ Some y → y ≡ p ++ r → (x : Address) × (a ≡ p ++ x) × (g x ≡ Some r)) → (b : Bool) → same_step s t ≡ b → cond b (option_map (λ x. t ∷ x) (carry_below p g a)) (Some (t ∷ a)) ≡ Some to → (x : Address) × (t ∷ a ≡ s ∷ p ++ x) × (g x ≡ Some r)
    by next true same e =
        let w = onto t (carry_below p g a) to e in
        let rest : w.0 ≡ p ++ r = (let z = w.2 in cc) in
        let v = next w.0 w.1 rest in
        (v.0, ap (λ x. x ∷ a) (sym (same_step-equal s t same)) ∙ ap (λ x. s ∷ x) v.1, v.2)
    by next false other e =
        let head : t ≡ s = cc in
        let clash : same_step s t ≡ true = ap (same_step s) head ∙ same_step-self s in
        cc

-- where an element is put, nothing comes from the elements
up_not : (i : ℕ) (x rest : Address) → up_from i x ≡ Some (Index i ∷ rest) → ⊥
up_not i [] rest e = cc
up_not i (Name n ∷ x) rest e = cc
up_not i (Index j ∷ x) rest e = by (nat_lt j i) refl (nat_lt (j + 1) (2 ^ 64)) e
  where
    by : (b : Bool) → nat_lt j i ≡ b → (f : Bool) → cond b (Some (Index j ∷ x)) (cond f (Some (Index (j + 1) ∷ x)) None) ≡ Some (Index i ∷ rest) → ⊥
    by true low f e = let same : j ≡ i = cc in let l : j < i = grind (arith, nat_tests) in omega arith
    by false high true e = let same : j + 1 ≡ i = cc in let l : i ≤ j = grind (arith, nat_tests) in omega arith
    by false high false e = cc

pub values_are_new : ValuesAreNew
values_are_new profile (set [] value) old closed fault puts a rest some e = (a, refl)
values_are_new profile (set (s ∷ p) value) old closed fault puts a rest some e = let w = back (s ∷ p) emptied a (s ∷ p ++ rest) rest e refl in (w.0, w.1)
values_are_new profile (insert at value) old closed fault puts a rest some e = absurd (by (ends at))
  where
    by : (at ≡ []) ⊎ ((q : Address) × (s : Step) × (at ≡ q ++ s ∷ [])) → ⊥
    by (inl is) = fault RootNamed is
    by (inr (q, Name n, is)) =
        let way : inserting (parted at) a ≡ Some a = ap (λ p. inserting (parted p) a) is ∙ ap (λ o. inserting o a) (parted_at_last q (Name n)) in
        let same : a ≡ at ++ rest = same_Some a (at ++ rest) (sym way ∙ e) in
        let there = fronts_stand old closed at rest (subst (λ x. IsSome (old x)) same some) in
        fault AlreadyThere (q, n, is, there)
    by (inr (q, Index i, is)) =
        let way : inserting (parted at) a ≡ carry_below q (up_from i) a = ap (λ p. inserting (parted p) a) is ∙ ap (λ o. inserting o a) (parted_at_last q (Index i)) in
        let w = back q (up_from i) a (at ++ rest) (Index i ∷ rest) (sym way ∙ e) (ap (λ p. p ++ rest) is ∙ append_assoc q (Index i ∷ []) rest) in
        up_not i w.0 rest w.2
values_are_new profile (rename at to) old closed fault puts a rest some e = absurd puts
values_are_new profile (remove at) old closed fault puts a rest some e = absurd puts
values_are_new profile (new_section at) old closed fault puts a rest some e = absurd puts
values_are_new profile (new_element at) old closed fault puts a rest some e = absurd puts
