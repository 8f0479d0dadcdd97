-- A place leads to one address.
use Rattle.std.proofs.Common.{◌≡◌, ℕ, zero, suc, ◌-◌, ◌<◌, ◌≤◌, [], ◌∷◌, ◌++◌, Option, Some, None, sym, refl, ap, ◌∙◌, subst, arith, append_assoc}
use Rattle.std.proofs.lemmas.List.{append-nil}
use Rattle.toml_names.specs.declared.model.address.Step.{Step}
use Rattle.toml_names.specs.declared.model.address.Step.TheVariants as steps
use Rattle.toml_names.specs.mentions.Mentions.{Kind}
use Rattle.toml_names.specs.model.Addresses.{Address}
use Rattle.toml_names.specs.model.Data.{IsClosed, Kinds}
use Rattle.toml_places.specs.declared.place.PlaceStep.{PlaceStep}
use Rattle.toml_places.specs.declared.place.PlaceStep.TheVariants.{Name, Index, FromEnd, Behind}
use Rattle.toml_places.specs.Laws.{PlainLeads, OneAddress, BelowClosed}
use Rattle.toml_places.specs.Leading.{IsArrayOf, IsStep, LeadsTo, below_step}

pub plain_leads : PlainLeads
plain_leads kinds [] = refl
plain_leads kinds (steps.Name name ∷ at) = (steps.Name name, at, refl, plain_leads (below_step (steps.Name name) kinds) at, refl)
plain_leads kinds (steps.Index i ∷ at) = (steps.Index i, at, refl, plain_leads (below_step (steps.Index i) kinds) at, refl)

not_longer : (kinds : Kinds) (m n : ℕ) → IsArrayOf kinds m → IsArrayOf kinds n → n ≤ m
not_longer kinds m zero one two = omega arith
not_longer kinds m (suc n) one two = let last : n < m = (one.elements n).0 ((two.elements n).1 (omega arith)) in omega arith

pub one_length : (kinds : Kinds) (m n : ℕ) → IsArrayOf kinds m → IsArrayOf kinds n → m ≡ n
one_length kinds m n one two = omega (arith, not_longer kinds m n one two, not_longer kinds n m two one)

pub one_step : (kinds : Kinds) (s : PlaceStep) (t u : Step) → IsStep kinds s t → IsStep kinds s u → t ≡ u
one_step kinds (Name name) t u one two = one ∙ sym two
one_step kinds (Index i) t u one two = one ∙ sym two
one_step kinds (FromEnd n) t u (m, one, some, low, is) (k, two, _, _, so) = is ∙ ap (λ len. steps.Index (len - n)) (one_length kinds m k one two) ∙ sym so
one_step kinds Behind t u (m, one, is) (k, two, so) = is ∙ ap (λ len. steps.Index len) (one_length kinds m k one two) ∙ sym so

pub one_address : OneAddress
one_address kinds [] one two first second = first ∙ sym second
one_address kinds (s ∷ place) one two (t, at, step, more, is) (u, behind, other, others, so) =
    let same : t ≡ u = one_step kinds s t u step other in
    let rest : at ≡ behind = one_address (below_step u kinds) place at behind (subst (λ v. LeadsTo (below_step v kinds) place at) same more) others in
    is ∙ ap (λ v. v ∷ at) same ∙ ap (λ l. u ∷ l) rest ∙ sym so

nothing_below : (kinds : Kinds) → IsClosed kinds → (rest at : Address) → kinds at ≡ None → kinds (at ++ rest) ≡ None
nothing_below kinds closed [] at none = ap kinds (append-nil at) ∙ none
nothing_below kinds closed (s ∷ rest) at none = ap kinds (sym (append_assoc at (s ∷ []) rest)) ∙ nothing_below kinds closed rest (at ++ s ∷ []) (closed at s none)

pub below_closed : BelowClosed
below_closed kinds s at closed = by (kinds []) refl
  where
    by : (o : Option Kind) → kinds [] ≡ o → below_step s kinds at ≡ kinds (s ∷ at)
    by (Some k) e = rw e refl
    by None e = rw e (sym (nothing_below kinds closed (s ∷ at) [] e))
