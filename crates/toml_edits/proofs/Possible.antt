-- An edit without a fault makes something of closed data.
use Rattle.std.proofs.Common.{◌≡◌, ◌⊎◌, inl, inr, ◌-◌, ◌^◌, ◌<◌, ℕ, Option, Some, None, IsSome, is_some, List, [], ◌∷◌, ◌++◌, refl, sym, ap, ◌∙◌, subst, append_assoc, append-nil, arith}
use Rattle.std.specs.Prelude.{MatchOption}
use Rattle.toml_tree.specs.declared.profile.Profile.{Profile}
use Rattle.toml_names.specs.declared.model.address.Step.{Step}
use Rattle.toml_names.specs.declared.model.address.Step.TheVariants.{Name, Index}
use Rattle.toml_names.specs.mentions.Mentions.{Kind, an_array, value_facts}
use Rattle.toml_names.specs.mentions.Rules.{IsShort}
use Rattle.toml_names.specs.model.Addresses.{Address, child, element}
use Rattle.toml_names.specs.model.Data.{IsClosed, Kinds, fact_at}
use Rattle.toml_names.specs.model.Indices.{IsLow}
use Rattle.toml_names.proofs.Proved.{first_is_data, values_join}
use Rattle.toml_edits.specs.declared.fault.EditFault.TheVariants.{AddressLength, AlreadyThere, BadValue, IndexOutside, NotAName, NotAnElement, RootNamed}
use Rattle.toml_edits.specs.After.{AddsElement, IsAfter, Moves, an_empty_table, nothing, one_empty_table}
use Rattle.toml_edits.specs.Carry.{carry_below, down_above, inserting, nowhere, parted, removing, renaming, to_name, up_from}
use Rattle.toml_edits.specs.Changed.{below, renamed, shifted_in, shifted_out}
use Rattle.toml_edits.specs.Edits.{Change, insert, new_element, new_section, remove, rename, set}
use Rattle.toml_edits.specs.Faults.{IsFault, IsNextIndex}
use Rattle.toml_edits.specs.Laws.{HasRoom, SomeAfter}
use Rattle.toml_edits.specs.ValueTexts.{IsGoodValue, IsValueText}
use Rattle.toml_edits.proofs.Found.{none_of, some_none}
use Rattle.toml_edits.proofs.LastStep.{parted_at_last}
use Rattle.toml_edits.proofs.ListFronts.{fronts_stand}
use Rattle.toml_edits.proofs.Made.{adds, moves_as, moves_nothing}
use Rattle.toml_edits.proofs.Moved.{IndicesFit, moves_below, moves_drop, moves_in, moves_name, moves_out, moves_put}

-- an address is the root, or has a parent and a last step
last_step : (p : Address) → (p ≡ []) ⊎ ((q : Address) × (s : Step) × (p ≡ q ++ s ∷ []))
last_step [] = inl refl
last_step (s ∷ p) = by (last_step p)
  where
    by : (p ≡ []) ⊎ ((q : Address) × (t : Step) × (p ≡ q ++ t ∷ [])) → (s ∷ p ≡ []) ⊎ ((q : Address) × (t : Step) × (s ∷ p ≡ q ++ t ∷ []))
    by (inl root) = inr ([], s, ap (λ r. s ∷ r) root)
    by (inr (q, t, is)) = inr (s ∷ q, t, ap (λ r. s ∷ r) is)

-- what stands below an address lies within the bound
rest_is_low : (n : ℕ) (q r : Address) → IsLow n (q ++ r) → IsLow n r
rest_is_low n [] r low = low
rest_is_low n (s ∷ q) r low = rest_is_low n q r low.1

module _ (profile : Profile) (old : Kinds) (closed : IsClosed old) where
  abbrev Makes : Change → Type 0
  Makes c = (new : Kinds) × IsAfter profile c old new

  -- nothing stands below what is not there
  none_below : (q : Address) (s : Step) → old (q ++ s ∷ []) ≡ None → (r : Address) → old (q ++ s ∷ r) ≡ None
  none_below q s free r =
      none_of _ (λ some. some_none _ (fronts_stand old closed (q ++ s ∷ []) r (subst (λ p. IsSome (old p)) (sym (append_assoc q (s ∷ []) r)) some)) free)

  -- that a text is a good value is told by what it is not
  module _ (text : List ℕ) (X : Type 0) (made : (v : Kinds) → IsGoodValue profile text v → X) where
    short_value : (value : IsValueText profile text) → IsShort (value_facts value.tree) → X
    short_value value short =
        made (fact_at (value_facts value.tree))
        (record { value = value; short = short; facts = first_is_data (value_facts value.tree) (values_join value.tree value.keeps) })

  set_makes : (at : Address) (text : List ℕ) → IsFault profile (set at text) old None → ¬ ¬ Makes (set at text)
  set_makes at text none not =
      none BadValue (λ value. none AddressLength (inl (record { value = value; long = λ short. not (short_value text _ put value short) })))
    where
      put : (v : Kinds) → IsGoodValue profile text v → Makes (set at text)
      put v good = (
        below at (λ part. v) old,
        (
          v,
          good,
          moves_as (carry_below at nowhere) (carry_below at nowhere) at (at ++ []) v old _ _ refl (sym (append-nil at)) (λ a. refl)
              (moves_below at nowhere [] v old (λ part. v) (moves_put v _)),
        ),
      )

  -- the indices below an address have room
  room_at : (q : Address) → ((a : Address) → IsSome (old a) → IsLow (2 ^ 64 - 1) a) → IndicesFit (λ r. old (q ++ r))
  room_at q low j a k is =
      let bound : j < 2 ^ 64 - 1 = (rest_is_low (2 ^ 64 - 1) q (Index j ∷ a) (low (q ++ Index j ∷ a) (ap is_some is))).0 in
      omega arith

  insert_makes : (at : Address) (text : List ℕ) → HasRoom (insert at text) old → IsFault profile (insert at text) old None → ¬ ¬ Makes (insert at text)
  insert_makes at text room none not = none BadValue (λ value. none AddressLength (inl (record { value = value; long = λ short. not (short_value text _ put value short) })))
    where
      put : (v : Kinds) → IsGoodValue profile text v → Makes (insert at text)
      put v good = by (last_step at)
        where
          by : (at ≡ []) ⊎ ((q : Address) × (s : Step) × (at ≡ q ++ s ∷ [])) → Makes (insert at text)
          by (inl root) = absurd (none RootNamed root)
          by (inr (q, Name n, is)) =
              let free : old (q ++ Name n ∷ []) ≡ None = none_of _ (λ some. none AlreadyThere (q, n, is, subst (λ p. IsSome (old p)) (sym is) some)) in (
                below q (below (Name n ∷ []) (λ part. v)) old,
                (
                  v,
                  good,
                  moves_as (inserting (parted at)) Some at (q ++ Name n ∷ []) v old _ _ (ap inserting (ap parted is ∙ parted_at_last q (Name n))) is (λ a. refl)
                      (adds old v q (Name n) (none_below q (Name n) free)),
                ),
              )
          by (inr (q, Index i, is)) = (
            below q (shifted_in i v) old,
            (
              v,
              good,
              moves_as (inserting (parted at)) (carry_below q (up_from i)) at (q ++ Index i ∷ []) v old _ _ (ap inserting (ap parted is ∙ parted_at_last q (Index i)))
                  is (λ a. refl)
                  (moves_below q (up_from i) (Index i ∷ []) v old (shifted_in i v) (moves_in i v (λ r. old (q ++ r)) (room_at q room))),
            ),
          )

  rename_makes : (at : Address) (to : List ℕ) → IsFault profile (rename at to) old None → Makes (rename at to)
  rename_makes at to none = by (last_step at)
    where
      by : (at ≡ []) ⊎ ((q : Address) × (s : Step) × (at ≡ q ++ s ∷ [])) → Makes (rename at to)
      by (inl root) = absurd (none RootNamed root)
      by (inr (q, Index i, is)) = absurd (none NotAName (q, i, is))
      by (inr (q, Name n, is)) =
          let free : old (q ++ Name to ∷ []) ≡ None = none_of _ (λ some. none AlreadyThere (q, n, is, some)) in (
            below q (renamed n to) old,
            moves_nothing (renaming (parted at) to) (carry_below q (to_name n to)) (q ++ []) old _ _
                (ap (λ x. renaming x to) (ap parted is ∙ parted_at_last q (Name n))) (λ a. refl)
                (moves_below q (to_name n to) [] nothing old (renamed n to) (moves_name n to (λ r. old (q ++ r)) (none_below q (Name to) free))),
          )

  remove_makes : (at : Address) → IsFault profile (remove at) old None → Makes (remove at)
  remove_makes at none = by (last_step at)
    where
      by : (at ≡ []) ⊎ ((q : Address) × (s : Step) × (at ≡ q ++ s ∷ [])) → Makes (remove at)
      by (inl root) = absurd (none RootNamed root)
      by (inr (q, Name n, is)) = (
        below q (below (Name n ∷ []) (λ part. nothing)) old,
        moves_nothing (removing (parted at)) (carry_below q (carry_below (Name n ∷ []) nowhere)) (q ++ Name n ∷ []) old _ _
            (ap removing (ap parted is ∙ parted_at_last q (Name n))) (λ a. refl)
            (moves_below q (carry_below (Name n ∷ []) nowhere) (Name n ∷ []) nothing old (below (Name n ∷ []) (λ part. nothing))
            (moves_below (Name n ∷ []) nowhere [] nothing (λ r. old (q ++ r)) (λ part. nothing) (moves_drop _))),
      )
      by (inr (q, Index i, is)) = (
        below q (shifted_out i) old,
        moves_nothing (removing (parted at)) (carry_below q (down_above i)) (q ++ []) old _ _ (ap removing (ap parted is ∙ parted_at_last q (Index i))) (λ a. refl)
            (moves_below q (down_above i) [] nothing old (shifted_out i) (moves_out i (λ r. old (q ++ r)))),
      )

  section_makes : (at : Address) → IsFault profile (new_section at) old None → Makes (new_section at)
  section_makes at none = by (last_step at)
    where
      by : (at ≡ []) ⊎ ((q : Address) × (s : Step) × (at ≡ q ++ s ∷ [])) → Makes (new_section at)
      by (inl root) = absurd (none RootNamed root)
      by (inr (q, Index i, is)) = absurd (none NotAName (q, i, is))
      by (inr (q, Name n, is)) =
          let free : old (q ++ Name n ∷ []) ≡ None = none_of _ (λ some. none AlreadyThere (q, n, is, subst (λ p. IsSome (old p)) (sym is) some)) in
          let new = below q (below (Name n ∷ []) (λ part. an_empty_table)) old in
          (new, subst (λ p. Moves Some p an_empty_table old new) (sym is) (adds old an_empty_table q (Name n) (none_below q (Name n) free)))

  -- `IsNextIndex`, by what stands at the array's address
  abbrev IsNextOf : Address → ℕ → Option Kind → Type 0
  IsNextOf q i there = MatchOption there (i ≡ 0) (λ k. (k ≡ an_array) × ((j : ℕ) → j < i → IsSome (old (element q j))) × (old (element q i) ≡ None))

  -- a new element of an array that is not there makes the array too
  element_makes : (at : Address) → IsFault profile (new_element at) old None → ¬ ¬ Makes (new_element at)
  element_makes at none not =
      none NotAnElement (λ r n i is. none IndexOutside (child r n, i, is, (λ next. not (by r n i is (old (child r n)) refl next))))
    where
      by : (r : Address) (n : List ℕ) (i : ℕ) → at ≡ element (child r n) i → (there : Option Kind) → old (child r n) ≡ there → IsNextIndex old (child r n) i → Makes (new_element at)
      by r n i is None there next =
          let new = below r (below (Name n ∷ []) (λ part. one_empty_table)) old in
          let moves : Moves Some (child r n) one_empty_table old new = adds old one_empty_table r (Name n) (none_below r (Name n) there) in
          (new, (child r n, i, is, subst (λ o. AddsElement (child r n) at o old new) (sym there) moves))
      by r n i is (Some k) there next =
          let q = child r n in
          let free : old (element q i) ≡ None = (subst (IsNextOf q i) there next).2 in
          let new = below q (below (Index i ∷ []) (λ part. an_empty_table)) old in
          let moves : Moves Some (element q i) an_empty_table old new = adds old an_empty_table q (Index i) (none_below q (Index i) free) in
          (new, (q, i, is, subst (λ o. AddsElement q at o old new) (sym there) (subst (λ p. Moves Some p an_empty_table old new) (sym is) moves)))

pub some_after : SomeAfter
some_after profile (set at text) old closed room none = set_makes profile old closed at text none
some_after profile (insert at text) old closed room none = insert_makes profile old closed at text room none
some_after profile (rename at to) old closed room none = λ not. not (rename_makes profile old closed at to none)
some_after profile (remove at) old closed room none = λ not. not (remove_makes profile old closed at none)
some_after profile (new_section at) old closed room none = λ not. not (section_makes profile old closed at none)
some_after profile (new_element at) old closed room none = element_makes profile old closed at none
