-- Edits of an open array.
use Rattle.std.proofs.Common.{◌≡◌, ◌∙◌, ◌<◌, ◌≤◌, ℕ, List, [], ◌∷◌, ◌++◌, append-nil, length, insert, inr, remove, Some, None, IsSome, is_some, refl, sym, ap, subst, arith}
use mathlib.Core.Path.{fun_ext}
use Rattle.toml_lists.specs.Gaps.{items}
use Rattle.toml_lists.specs.declared.gap_list.GapList.{GapList}
use Rattle.toml_tree.specs.declared.profile.Profile.{Profile}
use Rattle.toml_names.specs.declared.model.address.Step.TheVariants.{Index}
use Rattle.toml_names.specs.declared.model.datum.Datum.{Datum}
use Rattle.toml_names.specs.model.Addresses.{Address, element}
use Rattle.toml_names.specs.model.Data.{Kinds, kind_at}
use Rattle.toml_edits.specs.declared.fault.EditFault.TheVariants.{BadValue, IndexOutside, NoSuchPlace}
use Rattle.toml_edits.specs.After.{IsAfter, Moves, nothing}
use Rattle.toml_edits.specs.Carry.{carry_below, down_above, inserting, parted, removing, up_from}
use Rattle.toml_edits.specs.Changed.{below, shifted_in, shifted_out}
use Rattle.toml_edits.specs.Drafts.{elements_at}
use Rattle.toml_edits.specs.Edits as edits
use Rattle.toml_edits.specs.Faults.{IsFault, Row}
use Rattle.toml_edits.specs.Judged.{IsStepFault}
use Rattle.toml_edits.specs.ValueTexts.{IsGoodValue}
use Rattle.toml_edits.proofs.FirstRows.{past_place, past}
use Rattle.toml_edits.proofs.LastStep.{no_root, parted_at_last}
use Rattle.toml_edits.proofs.Made.{moves_as, moves_nothing}
use Rattle.toml_edits.proofs.Moved.{moves_below, moves_in, moves_out}
use Rattle.toml_edits.proofs.OpenElements as open_elements
use Rattle.toml_edits.proofs.OpenElements.{as_change, elements_added, elements_taken, open_fits, within}

module _ (g : GapList Datum) (q : Address) (f : Kinds) (stand : (r : Address) → f (q ++ r) ≡ elements_at (items g) r) where
  whole : (λ r. f (q ++ r)) ≡ elements_at (items g)
  whole = fun_ext stand

  -- ---- what may be put in

  pub array_there : IsSome (f q)
  array_there = ap is_some (ap f (sym (append-nil q)) ∙ stand [])

  pub has_room : (i : ℕ) → i ≤ length (items g) → IsStepFault (Index i) (λ r. f (q ++ r)) None
  has_room i low = subst (λ (k : Kinds). IsStepFault (Index i) k None) (sym whole) (refl, λ j lower. within (items g) j (omega (arith, low, lower)))

  pub has_no_room : (i : ℕ) → length (items g) < i → IsStepFault (Index i) (λ r. f (q ++ r)) (Some IndexOutside)
  has_no_room i past =
      subst (λ (k : Kinds). IsStepFault (Index i) k (Some IndexOutside)) (sym whole)
      (inr (length (items g), past, open_elements.past (items g) (length (items g)) [] (omega arith)))

  -- ---- an element more

  pub inserts : (profile : Profile) (at : Address) (text : List ℕ) (i : ℕ) (d : Datum) (h : Kinds) → at ≡ element q i → IsGoodValue profile text (kind_at d) → i ≤ length (items g)
      → ((p : Address) → h p ≡ below q (λ part. elements_at (insert (items g) i d)) f p) → IsAfter profile (edits.insert at text) f h
  inserts profile at text i d h is good low made =
      let same : (p : Address) → h p ≡ below q (shifted_in i (kind_at d)) f p = λ p. made p ∙ as_change q p (elements_at (insert (items g) i d)) (shifted_in i (kind_at d)) f
      (λ r. elements_added (items g) i d low r ∙ ap (λ (k : Kinds). shifted_in i (kind_at d) k r) (sym whole)) in (
        kind_at d,
        good,
        moves_as (inserting (parted at)) (carry_below q (up_from i)) at (q ++ Index i ∷ []) (kind_at d) f _ h (ap inserting (ap parted is ∙ parted_at_last q (Index i))) is same
            (moves_below q (up_from i) (Index i ∷ []) (kind_at d) f (shifted_in i (kind_at d)) (moves_in i (kind_at d) (λ r. f (q ++ r)) (open_fits g q f stand))),
      )

  -- ---- an element less

  pub element_there : (at : Address) (i : ℕ) → at ≡ element q i → i < length (items g) → IsSome (f at)
  element_there at i is low = subst IsSome (sym (ap f is ∙ stand (Index i ∷ []))) (within (items g) i low)

  pub nothing_there : (profile : Profile) (at : Address) (i : ℕ) → at ≡ element q i → length (items g) ≤ i → IsFault profile (edits.remove at) f (Some NoSuchPlace)
  nothing_there profile at i is low = (
    ap f is ∙ stand (Index i ∷ []) ∙ open_elements.past (items g) i [] low,
    past (Row profile (edits.remove at) f) BadValue (λ h. h) (past_place profile (edits.remove at) f (λ e. no_root q (Index i) (sym is ∙ e)) (λ h. h)),
  )

  pub removes : (at : Address) (i : ℕ) (h : Kinds) → at ≡ element q i → ((p : Address) → h p ≡ below q (λ part. elements_at (remove (items g) i)) f p) → Moves (removing (parted at)) [] nothing f h
  removes at i h is made =
      let same : (p : Address) → h p ≡ below q (shifted_out i) f p = λ p. made p ∙ as_change q p (elements_at (remove (items g) i)) (shifted_out i) f
      (λ r. elements_taken (items g) i r ∙ ap (λ (k : Kinds). shifted_out i k r) (sym whole)) in
      moves_nothing (removing (parted at)) (carry_below q (down_above i)) (q ++ []) f _ h (ap removing (ap parted is ∙ parted_at_last q (Index i))) same
      (moves_below q (down_above i) [] nothing f (shifted_out i) (moves_out i (λ r. f (q ++ r))))
