-- The faults of an edit are told by what is not hidden from it.
use Rattle.std.proofs.Common.{◌≡◌, inl, inr, ℕ, ◌<◌, List, [], ◌∷◌, ◌++◌, Option, Some, None, IsSome, refl, sym, ap, subst, ◌∙◌, append_assoc, append-nil}
use Rattle.std.specs.Prelude.{MatchOption}
use Rattle.toml_tree.specs.declared.profile.Profile.{Profile}
use Rattle.toml_names.specs.declared.model.address.Step.TheVariants.{Name, Index}
use Rattle.toml_names.specs.model.Addresses.{Address, child, element}
use Rattle.toml_names.specs.model.Data.{Kinds}
use Rattle.toml_names.specs.model.Hidden.{Cover}
use Rattle.toml_names.specs.mentions.Mentions.{Kind, an_array}
use Rattle.toml_edits.specs.declared.fault.EditFault.{EditFault}
use Rattle.toml_edits.specs.declared.fault.EditFault.TheVariants.{NoSuchPlace, NotATable, IndexOutside, AlreadyThere}
use Rattle.toml_edits.specs.Edits.{Change, set, insert, rename, remove, new_section, new_element, place}
use Rattle.toml_edits.specs.Faults.{HasFewer, IsNextIndex, IsElementOf, IsFault, Row}
use Rattle.toml_edits.specs.Near.{IsNear, Opens}
use Rattle.toml_edits.proofs.HiddenFacts.{Agree}

module _ (profile : Profile) (h : Cover) (f g : Kinds) (agree : Agree h f g) where
  at_front : {c : Change} → IsNear h c → (q r : Address) → place c ≡ q ++ r → f q ≡ g q
  at_front near q r is = agree q (near.fronts q r is)

  at_opened : {c : Change} → IsNear h c → (p : Address) → Opens c p → f p ≡ g p
  at_opened near p opens = agree p (ap h (sym (append-nil p)) ∙ near.opened p [] opens)

  at_place : {c : Change} → IsNear h c → f (place c) ≡ g (place c)
  at_place {c} near = at_front near (place c) [] (sym (append-nil (place c)))

  at_element : {c : Change} → IsNear h c → (q r : Address) (j : ℕ) → place c ≡ q ++ r → f (element q j) ≡ g (element q j)
  at_element near q r j is = agree (element q j) (near.elements q r j is)

  table_at : {c : Change} → IsNear h c → (r : Address) (n : List ℕ) (i : ℕ) → IsElementOf (place c) r n i → f r ≡ g r
  table_at near r n i is = at_front near r (Name n ∷ Index i ∷ []) (is ∙ append_assoc r (Name n ∷ []) (Index i ∷ []))

  fewer : {c : Change} → IsNear h c → (q r : Address) (i : ℕ) → place c ≡ q ++ r → HasFewer f q i → HasFewer g q i
  fewer near q r i is (inl other) = inl (λ e. other (at_front near q r is ∙ e))
  fewer near q r i is (inr w) = inr (w.0, w.1, sym (at_element near q r w.0 is) ∙ w.2)

  next_from : {c : Change} → IsNear h c → (q r : Address) (i : ℕ) → place c ≡ q ++ r → (o : Option Kind)
      → MatchOption o (i ≡ 0) (λ k. (k ≡ an_array) × ((j : ℕ) → j < i → IsSome (g (element q j))) × (g (element q i) ≡ None))
      → MatchOption o (i ≡ 0) (λ k. (k ≡ an_array) × ((j : ℕ) → j < i → IsSome (f (element q j))) × (f (element q i) ≡ None))
  next_from near q r i is None has = has
  next_from near q r i is (Some k) has = (has.0, (λ j low. subst IsSome (sym (at_element near q r j is)) (has.1 j low)), at_element near q r i is ∙ has.2)

  next_index : {c : Change} → IsNear h c → (q r : Address) (i : ℕ) → place c ≡ q ++ r → IsNextIndex g q i → IsNextIndex f q i
  next_index near q r i is has =
      next_from near q r i is (f q)
      (subst (λ o. MatchOption o (i ≡ 0) (λ k. (k ≡ an_array) × ((j : ℕ) → j < i → IsSome (g (element q j))) × (g (element q i) ≡ None))) (sym (at_front near q r is)) has)

  pub row : (c : Change) (x : EditFault) → IsNear h c → Row profile c f x → Row profile c g x
  row (set at value) NoSuchPlace near none = sym (at_place near) ∙ none
  row (insert at value) NoSuchPlace near (q, s, is, none) = (q, s, is, sym (at_front near q (s ∷ []) is) ∙ none)
  row (rename at to) NoSuchPlace near none = sym (at_place near) ∙ none
  row (remove at) NoSuchPlace near none = sym (at_place near) ∙ none
  row (new_section at) NoSuchPlace near (q, s, is, none) = (q, s, is, sym (at_front near q (s ∷ []) is) ∙ none)
  row (new_element at) NoSuchPlace near (r, n, i, is, none) = (r, n, i, is, sym (table_at near r n i is) ∙ none)
  row (insert at value) NotATable near (q, n, is, other) = (q, n, is, λ e. other (at_front near q (Name n ∷ []) is ∙ e))
  row (new_section at) NotATable near (q, n, is, other) = (q, n, is, λ e. other (at_front near q (Name n ∷ []) is ∙ e))
  row (new_element at) NotATable near (r, n, i, is, other) = (r, n, i, is, λ e. other (table_at near r n i is ∙ e))
  row (insert at value) IndexOutside near (q, i, is, few) = (q, i, is, fewer near q (Index i ∷ []) i is few)
  row (new_element at) IndexOutside near (q, i, is, other) = (q, i, is, λ next. other (next_index near q (Index i ∷ []) i is next))
  row (insert at value) AlreadyThere near (q, n, is, there) = (q, n, is, subst IsSome (at_place near) there)
  row (rename at to) AlreadyThere near (q, n, is, there) = (q, n, is, subst IsSome (at_opened near (child q to) (inr (q, n, is, refl))) there)
  row (new_section at) AlreadyThere near (q, n, is, there) = (q, n, is, subst IsSome (at_place near) there)
  row c x near has = has

-- two maps that have the same where nothing is hidden have the same fault
pub same_fault : (profile : Profile) (h : Cover) (f g : Kinds) → Agree h f g → (c : Change) → IsNear h c → (found : Option EditFault) → IsFault profile c f found → IsFault profile c g found
same_fault profile h f g agree c near = by
  where
    back : (x : EditFault) → Row profile c g x → Row profile c f x
    back x = row profile h g f (λ a low. sym (agree a low)) c x near

    by : (found : Option EditFault) → IsFault profile c f found → IsFault profile c g found
    by None none = λ x r. none x (back x r)
    by (Some x) first = (row profile h f g agree c x near first.0, λ y low r. first.1 y low (back y r))
