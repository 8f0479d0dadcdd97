-- What a walk shows in a tree with one edit more in front.
use Rattle.std.proofs.Common.{◌≡◌, ℕ, ◌-◌, ◌^◌, List, [], ◌∷◌, ◌++◌, Option, Some, Bool, true, false, cond, length, refl, ap, subst, append-nil}
use Rattle.std.specs.Prelude.{option_map}
use Rattle.toml_names.specs.declared.model.address.Step.{Step}
use Rattle.toml_names.specs.declared.model.address.Step.TheVariants.{Name, Index}
use Rattle.toml_names.specs.model.Addresses.{Address, same_step}
use Rattle.toml_names.specs.model.Indices.{IsLow}
use Rattle.toml_edits.specs.Carry.{carry, carry_below, parted, inserting, renaming, removing, emptied, nowhere, up_from, down_above, to_name}
use Rattle.toml_edits.specs.Sides.{side}
use Rattle.toml_edits.specs.Edits.{Change, set, insert, rename, remove, new_section, new_element, place}
use Rattle.toml_edits.proofs.Along.{by_parts}
use Rattle.toml_edits.specs.Fitting.{FitsOne}
use Rattle.toml_edits.specs.Fronts.{IsFront, InsertedFront, RemovedFront, RenamedFront, MadeFront, Along, Above, IsEmptied, IsMarked, NoneMove, IsDropped, IsLost, NameIsLost, TakesName}
use Rattle.toml_edits.specs.Notes.{Sort, sort}
use Rattle.toml_edits.specs.Trees.{View, told_at, walk}
use Rattle.toml_edits.proofs.Noting.{noting, no_sort}
use Rattle.toml_edits.proofs.WalkAlong.{Under, along}
use Rattle.toml_edits.proofs.WalkEnds.{sets_sort, renames_sort, emptied_shows, marked_shows, still_shows, HasRoom, dropped_shows, lost_shows, away_shows, takes_shows}

-- a carrier that carries nothing away
pub carry_still : (q a : Address) → carry_below q Some a ≡ Some a
carry_still [] a = refl
carry_still (s ∷ q) [] = refl
carry_still (s ∷ q) (t ∷ a) = by (same_step s t) (carry_still q a)
  where
    by : (b : Bool) → carry_below q Some a ≡ Some a → cond b (option_map (λ r. t ∷ r) (carry_below q Some a)) (Some (t ∷ a)) ≡ Some (t ∷ a)
    by false e = refl
    by true e = ap (option_map (λ r. t ∷ r)) e

Always : Address → Type 0
Always a = Unit {0}

always : (a b : Address) → Always b
unfolding Always
always a b = tt

pub room : (q a : Address) → IsLow (2 ^ 64 - 1) a → (b : Address) → a ≡ q ++ b → HasRoom b
room [] a low b e = by b (subst (IsLow (2 ^ 64 - 1)) e low)
  where
    by : (b : Address) → IsLow (2 ^ 64 - 1) b → HasRoom b
    by [] h = tt
    by (Name n ∷ b) h = tt
    by (Index j ∷ b) h = h.0
room (s ∷ q) [] low b e = absurd cc
room (s ∷ q) (t ∷ a) low b e = room q a low.1 b cc

module _ {T : Type 0} (v : View T) (o : Option T) (t : T) (a : Address) where
  -- what a walk shows, the edit's place and its carrier given
  abbrev Noted : Sort → Address → Option Address → Type 0
  Noted k p y = Under (walk v (Some t) a) (noting k (length p) (side p a) (told_at (walk v o) y))

  still : (k : Sort) (p q : Address) → Noted k p (carry_below q Some a) → Noted k p (Some a)
  still k p q h = subst (Noted k p) (carry_still q a) h

  none_moves : (q : Address) (s : Step) → Along v q (Above v NoneMove) o t → Noted no_sort (q ++ s ∷ []) (Some a)
  none_moves q s h = still no_sort (q ++ s ∷ []) q (along v (Above v NoneMove) no_sort (s ∷ []) Some Always (λ b ok. still_shows v s b) q a (λ b e. always a b) o t h)

  at_place : (s : Step) (p : Address) → Along v (s ∷ p) (IsEmptied v) o t → Noted sets_sort (s ∷ p) (carry_below (s ∷ p) emptied a)
  at_place s p h = subst (λ x. Noted sets_sort x (carry_below (s ∷ p) emptied a)) (append-nil (s ∷ p)) (along v (IsEmptied v) sets_sort [] emptied Always (λ b ok. emptied_shows v b) (s ∷ p) a (λ b e. always a b) o t h)

  index_marked : (p : Address) → Along v p (IsMarked v) o t → Noted renames_sort p (Some a)
  index_marked p h = still renames_sort p p (subst (λ x. Noted renames_sort x (carry_below p Some a)) (append-nil p) (along v (IsMarked v) renames_sort [] Some Always (λ b ok. marked_shows v b) p a (λ b e. always a b) o t h))

  made_shows : (at : Address) → ¬ (at ≡ []) → MadeFront v (parted at) o t → Noted no_sort at (Some a)
  made_shows at = by_parts (λ x p. ¬ (p ≡ []) → MadeFront v x o t → Noted no_sort p (Some a)) (λ n h. absurd (n refl)) (λ q s n h. none_moves q s h) at

  inserted_shows : IsLow (2 ^ 64 - 1) a → (at : Address) → ¬ (at ≡ []) → InsertedFront v (parted at) o t → Noted no_sort at (inserting (parted at) a)
  inserted_shows low at = by_parts (λ x p. ¬ (p ≡ []) → InsertedFront v x o t → Noted no_sort p (inserting x a)) (λ n h. absurd (n refl)) by at
    where
      by : (q : Address) (s : Step) → ¬ (q ++ s ∷ [] ≡ []) → InsertedFront v (Some (q, s)) o t → Noted no_sort (q ++ s ∷ []) (inserting (Some (q, s)) a)
      by q (Name n) ne h = none_moves q (Name n) h
      by q (Index i) ne h = along v (Above v (IsDropped i)) no_sort (Index i ∷ []) (up_from i) HasRoom (λ b ok. dropped_shows v i b ok) q a (room q a low) o t h

  removed_shows : IsLow (2 ^ 64 - 1) a → (at : Address) → ¬ (at ≡ []) → RemovedFront v (parted at) o t → Noted no_sort at (removing (parted at) a)
  removed_shows low at = by_parts (λ x p. ¬ (p ≡ []) → RemovedFront v x o t → Noted no_sort p (removing x a)) (λ n h. absurd (n refl)) by at
    where
      by : (q : Address) (s : Step) → ¬ (q ++ s ∷ [] ≡ []) → RemovedFront v (Some (q, s)) o t → Noted no_sort (q ++ s ∷ []) (removing (Some (q, s)) a)
      by q (Name n) ne h = along v (Above v (NameIsLost n)) no_sort (Name n ∷ []) (carry_below (Name n ∷ []) nowhere) Always (λ b ok. away_shows v n b) q a (λ b e. always a b) o t h
      by q (Index i) ne h = along v (Above v (IsLost i)) no_sort (Index i ∷ []) (down_above i) HasRoom (λ b ok. lost_shows v i b ok) q a (room q a low) o t h

  renamed_shows : (to : List ℕ) (at : Address) → ¬ (at ≡ []) → RenamedFront v at (parted at) to o t → Noted renames_sort at (renaming (parted at) to a)
  renamed_shows to at = by_parts (λ x p. ¬ (p ≡ []) → RenamedFront v p x to o t → Noted renames_sort p (renaming x to a)) (λ n h. absurd (n refl)) by at
    where
      by : (q : Address) (s : Step) → ¬ (q ++ s ∷ [] ≡ []) → RenamedFront v (q ++ s ∷ []) (Some (q, s)) to o t → Noted renames_sort (q ++ s ∷ []) (renaming (Some (q, s)) to a)
      by q (Name n) ne h = along v (Above v (TakesName v n to)) renames_sort (Name n ∷ []) (to_name n to) Always (λ b ok. takes_shows v n to b) q a (λ b e. always a b) o t h
      by q (Index i) ne h = index_marked (q ++ Index i ∷ []) h

  set_shows : (at : Address) → ¬ (at ≡ []) → Along v at (IsEmptied v) o t → (value : List ℕ) → Noted sets_sort at (carry (set at value) a)
  set_shows [] ne h value = absurd (ne refl)
  set_shows (s ∷ p) ne h value = at_place s p h

pub front_shows : {T : Type 0} (v : View T) (c : Change) (o : Option T) (t : T) → IsFront v c o t → (a : Address) → FitsOne c a
    → Under (walk v (Some t) a) (noting (sort c) (length (place c)) (side (place c) a) (told_at (walk v o) (carry c a)))
front_shows v (set at value) o t h a f = set_shows v o t a at f.placed h value
front_shows v (insert at value) o t h a f = inserted_shows v o t a f.low at f.placed h
front_shows v (rename at to) o t h a f = renamed_shows v o t a to at f.placed h
front_shows v (remove at) o t h a f = removed_shows v o t a f.low at f.placed h
front_shows v (new_section at) o t h a f = made_shows v o t a at f.placed h
front_shows v (new_element at) o t h a f = made_shows v o t a at f.placed h
