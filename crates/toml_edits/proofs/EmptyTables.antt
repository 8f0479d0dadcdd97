-- Laws of new sections and elements: nothing moves, and an empty table is there.
use Rattle.std.proofs.Common.{◌≡◌, inl, inr, ℕ, zero, suc, [], ◌∷◌, ◌++◌, append-nil, Option, Some, None, Bool, true, false, refl, sym, ap, subst, ◌∙◌, arith, length}
use Rattle.std.proofs.lemmas.List.{length-append}
use Rattle.toml_tree.specs.declared.profile.Profile.{Profile}
use Rattle.toml_names.specs.declared.model.address.Step.{Step}
use Rattle.toml_names.specs.declared.model.address.Step.TheVariants.{Index}
use Rattle.toml_names.specs.model.Addresses.{Address, element, same_step}
use Rattle.toml_names.specs.model.Data.{Kinds}
use Rattle.toml_names.specs.mentions.Mentions.{Kind, a_table, an_array}
use Rattle.toml_names.proofs.Proved.{same_step-equal}
use Rattle.toml_edits.specs.After.{Moves, AddsElement, an_empty_table, one_empty_table}
use Rattle.toml_edits.specs.Edits.{new_element}
use Rattle.toml_edits.specs.Faults.{IsFault}
use Rattle.toml_edits.specs.Laws.{NewTablesStay, SectionIsEmpty, ElementIsEmpty}
use Rattle.toml_edits.specs.declared.fault.EditFault.TheVariants.{IndexOutside}
use Rattle.toml_edits.proofs.LastStep.{same_parent}
use Rattle.toml_edits.proofs.Made.{some_array}
use Rattle.toml_edits.proofs.NewRows.{IsNext}

pub tables_stay : NewTablesStay
tables_stay at a = (refl, refl)

-- what is put nowhere near an address leaves it as it was
stays : (v : Kinds) (p a : Address) (old new : Kinds) → Moves Some p v old new → ((r : Address) → a ≡ p ++ r → v r ≡ None) → new a ≡ old a
stays v p a old new m apart = by (old a) (new a) refl refl
  where
    by : (o n : Option Kind) → old a ≡ o → new a ≡ n → new a ≡ old a
    by (Some k) n is there = m.carried a a k is refl ∙ sym is
    by None None is there = there ∙ sym is
    by None (Some k) is there = elim (m.no_other a k there) [
      | inl (b, have, same) ↦ absurd (grind (arith, is, have, same))
      | inr (r, whole, have) ↦ absurd (grind (arith, apart r whole, have))
    ]

-- an empty table has nothing but itself
alone : (p a r : Address) → ¬ (a ≡ p) → a ≡ p ++ r → an_empty_table r ≡ None
alone p a [] other is = absurd (other (is ∙ append-nil p))
alone p a (s ∷ r) other is = refl

put_there : (v : Kinds) (p : Address) (k : Kind) (old new : Kinds) → Moves Some p v old new → v [] ≡ Some k → new p ≡ Some k
put_there v p k old new m is = ap new (sym (append-nil p)) ∙ m.placed [] k is

pub section_is_empty : SectionIsEmpty
section_is_empty profile at old new m = (put_there an_empty_table at a_table old new m refl, λ a other. stays an_empty_table at a old new m (λ r is. alone at a r other is))

-- ---- an element

abbrev Empty : Address → ℕ → Kinds → Kinds → Type 0
Empty q i old new = (new (element q i) ≡ Some a_table) × (new q ≡ Some an_array) × ((a : Address) → ¬ (a ≡ element q i) → ¬ (a ≡ q) → new a ≡ old a)

-- an array of one has nothing but itself and its element
two : (q a r : Address) → ¬ (a ≡ element q 0) → ¬ (a ≡ q) → a ≡ q ++ r → one_empty_table r ≡ None
two q a [] first other is = absurd (other (is ∙ append-nil q))
two q a (s ∷ r) first other is = by (same_step (Index 0) s) refl
  where
    below : (t : Address) → s ≡ Index 0 → a ≡ q ++ s ∷ t → an_empty_table t ≡ None
    below [] zeroth whole = absurd (first (whole ∙ ap (λ (u : Step). q ++ u ∷ []) zeroth))
    below (u ∷ t) zeroth whole = refl

    by : (e : Bool) → same_step (Index 0) s ≡ e → one_empty_table (s ∷ r) ≡ None
    by false e = rw e refl
    by true e = rw e (below r (sym (same_step-equal (Index 0) s e)) is)

with_array : (q : Address) (i : ℕ) (old new : Kinds) → i ≡ 0 → Moves Some q one_empty_table old new → Empty q i old new
with_array q i old new first m = rw first (
  m.placed (Index 0 ∷ []) a_table refl,
  put_there one_empty_table q an_array old new m refl,
  λ a other above. stays one_empty_table q a old new m (λ r is. two q a r other above is),
)

no_longer : (q r : Address) (s : Step) → ¬ (q ≡ (q ++ s ∷ []) ++ r)
no_longer q r s is = let e = ap length is ∙ length-append (q ++ s ∷ []) r in let f = length-append q (s ∷ []) in omega (arith, e, f)

behind : (q : Address) (i : ℕ) (old new : Kinds) → old q ≡ Some an_array → Moves Some (element q i) an_empty_table old new → Empty q i old new
behind q i old new there m = (
  put_there an_empty_table (element q i) a_table old new m refl,
  stays an_empty_table (element q i) q old new m (λ r is. absurd (no_longer q r (Index i) is)) ∙ there,
  λ a other above. stays an_empty_table (element q i) a old new m (λ r is. alone (element q i) a r other is),
)

first_index : (i : ℕ) → ¬ ¬ (i ≡ 0) → i ≡ 0
first_index zero not = refl
first_index (suc i) not = absurd (not (λ is. omega (arith, is)))

by_array : (profile : Profile) (q : Address) (i : ℕ) (old new : Kinds) (o : Option Kind) → old q ≡ o → IsFault profile (new_element (element q i)) old None → AddsElement q (element q i) o old new → Empty q i old new
by_array profile q i old new None empty free m =
    with_array q i old new (first_index i (λ other. free IndexOutside (q, i, refl, λ next. other (subst (IsNext old q i) empty next)))) m
by_array profile q i old new (Some k) there free m =
    behind q i old new (some_array (old q) (λ other. free IndexOutside (q, i, refl, λ next. other (there ∙ ap Some (subst (IsNext old q i) there next).0)))) m

pub element_is_empty : ElementIsEmpty
element_is_empty profile q i old new free (p, j, is, m) =
    by_array profile q i old new (old q) refl free (subst (λ (x : Address). AddsElement x (element q i) (old x) old new) (sym (same_parent q p (Index i) (Index j) is)) m)
