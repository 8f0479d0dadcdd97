-- What the edits do at their own places, and a walk from there.
use Rattle.std.proofs.Common.{◌≡◌, ℕ, suc, ◌+◌, ◌-◌, ◌<◌, ◌≤◌, ◌^◌, List, [], ◌∷◌, Option, Some, None, Bool, true, false, cond, refl, sym, ap, subst, ◌∙◌, arith}
use Rattle.std.specs.Prelude.{max, option_map}
use Rattle.std.specs.Bool.{nat_lt, nat_eq}
use Rattle.std.specs.Str.{bytes_eq}
use Rattle.std.proofs.lemmas.Bool.Decides.{nat_tests}
use Rattle.toml_names.specs.declared.model.address.Step.{Step}
use Rattle.toml_names.specs.declared.model.address.Step.TheVariants.{Name, Index}
use Rattle.toml_names.specs.model.Addresses.{Address, same_step}
use Rattle.toml_names.proofs.Proved.{same_step-equal}
use Rattle.toml_edits.specs.Carry.{Carrier, carry_below, emptied, nowhere, up_from, down_above, to_name}
use Rattle.toml_edits.specs.declared.side.Side.TheVariants as sides
use Rattle.toml_edits.specs.Sides.{side}
use Rattle.toml_edits.specs.Fronts.{Downs, Goes, Above, IsEmptied, IsMarked, NoneMove, IsDropped, IsLost, NameIsLost, TakesName, with_below}
use Rattle.toml_edits.specs.Notes.{Sort, deepest}
use Rattle.toml_edits.specs.Trees.{Told, Marks, Down, View, Seen, walk, told_above, told_at, marks_in, down_in, seen_here, depth_here, one_deeper}
use Rattle.toml_edits.proofs.Noting.{step_on, noting, no_sort, unnoted, apart}
use Rattle.toml_edits.proofs.WalkAlong.{Shows, Under, under_between, under_same, under_step, stepped}

abbrev pub sets_sort : Sort
sets_sort = record { sets = true; renames = false }

abbrev pub renames_sort : Sort
renames_sort = record { sets = false; renames = true }

-- ---- at the place itself

pub emptied_shows : {T : Type 0} (v : View T) (a : Address) → Shows v (IsEmptied v) sets_sort [] emptied a
emptied_shows v [] o t h = under_same (ap (λ (m : Marks). Some (Some (seen_here m))) h.0)
emptied_shows v (u ∷ a) o t h = under_same (ap (step_on v (v.marks t).renamed a) (h.1 u))

here_deep : (b : Bool) → Some 0 ≡ deepest (Some 0) (depth_here b)
here_deep true = refl
here_deep false = refl

above_deep : (b : Bool) (r : Option ℕ) → one_deeper true r ≡ deepest (Some 0) (one_deeper b r)
above_deep b None = here_deep b
above_deep b (Some n) = let e : suc n ≡ max 0 (suc n) = omega arith in ap Some e

marked_step : {T : Type 0} (v : View T) (b : Bool) (a : Address) (d : Down T) → step_on v true a d ≡ noting renames_sort 0 sides.Above (step_on v b a d)
marked_step v b a None = refl
marked_step v b a (Some None) = refl
marked_step v b a (Some (Some w)) = by (walk v w.tree a)
  where
    by : (z : Told (Option Seen)) → told_above w.to true z ≡ noting renames_sort 0 sides.Above (told_above w.to b z)
    by None = refl
    by (Some None) = refl
    by (Some (Some o)) = ap (λ (r : Option ℕ). Some (Some (record { to = w.to ∷ o.to; set = o.set; below = o.below; renamed = r }))) (above_deep b o.renamed)

pub marked_shows : {T : Type 0} (v : View T) (a : Address) → Shows v (IsMarked v) renames_sort [] Some a
marked_shows v [] o t h =
    under_same
    (ap (λ (m : Marks). Some (Some (seen_here m))) h.0 ∙ ap (λ (r : Option ℕ). Some (Some (record { to = []; set = (marks_in v o).set; below = (marks_in v o).below; renamed = r }))) (here_deep (marks_in v o).renamed))
marked_shows v (u ∷ a) o t h = under_same (ap (λ (m : Marks). step_on v m.renamed a (v.down t u)) h.0 ∙ ap (step_on v true a) (h.1 u) ∙ marked_step v (marks_in v o).renamed a (down_in v o u))

-- ---- one step above it

-- the thing at the parent itself
pub parent_shows : {T : Type 0} (v : View T) (D : Downs T → Downs T → Type 0) (k : Sort) (s : Step) (c : Carrier) → c [] ≡ Some [] → Shows v (Above v D) k (s ∷ []) c []
parent_shows v D k s c keep o t h = under_same (ap (λ (m : Marks). Some (Some (seen_here m))) h.0 ∙ sym (ap (λ y. noting k 1 sides.Below (told_at (walk v o) y)) keep))

-- one step down, what was there before at a step, or nothing
module _ {T : Type 0} (v : View T) (o : Option T) (t : T) (marks : v.marks t ≡ with_below (marks_in v o)) where
  pub from_step : (u w : Step) (a : Address) → v.down t u ≡ down_in v o w → walk v (Some t) (u ∷ a) ≡ walk v o (w ∷ a)
  from_step u w a e = ap (λ (m : Marks). step_on v m.renamed a (v.down t u)) marks ∙ ap (step_on v (marks_in v o).renamed a) e

  pub from_none : (u : Step) (a : Address) → v.down t u ≡ Some None → walk v (Some t) (u ∷ a) ≡ Some None
  from_none u a e = ap (step_on v (v.marks t).renamed a) e

  pub moved : (s u w : Step) (a : Address) (y : Option Address) → y ≡ Some (w ∷ a) → v.down t u ≡ down_in v o w → walk v (Some t) (u ∷ a) ≡ noting no_sort 1 (side (s ∷ []) (u ∷ a)) (told_at (walk v o) y)
  moved s u w a y is e = from_step u w a e ∙ sym (unnoted 1 s u a (walk v o (w ∷ a))) ∙ sym (ap (λ z. noting no_sort 1 (side (s ∷ []) (u ∷ a)) (told_at (walk v o) z)) is)

  pub gone : (k : Sort) (s u : Step) (a : Address) (y : Option Address) → y ≡ None → v.down t u ≡ Some None → walk v (Some t) (u ∷ a) ≡ noting k 1 (side (s ∷ []) (u ∷ a)) (told_at (walk v o) y)
  gone k s u a y is e = from_none u a e ∙ sym (ap (λ z. noting k 1 (side (s ∷ []) (u ∷ a)) (told_at (walk v o) z)) is)

pub still_shows : {T : Type 0} (v : View T) (s : Step) (a : Address) → Shows v (Above v NoneMove) no_sort (s ∷ []) Some a
still_shows v s [] o t h = parent_shows v NoneMove no_sort s Some refl o t h
still_shows v s (u ∷ a) o t h = under_same (moved v o t h.0 s u u a (Some (u ∷ a)) refl (h.1 u))

-- an index as this edit finds it
abbrev pub HasRoom : Address → Type 0
HasRoom [] = Unit {0}
HasRoom (Name n ∷ a) = Unit {0}
HasRoom (Index j ∷ a) = j < 2 ^ 64 - 1

pub dropped_shows : {T : Type 0} (v : View T) (i : ℕ) (a : Address) → HasRoom a → Shows v (Above v (IsDropped i)) no_sort (Index i ∷ []) (up_from i) a
dropped_shows v i [] room o t h = parent_shows v (IsDropped i) no_sort (Index i) (up_from i) refl o t h
dropped_shows v i (Name n ∷ a) room o t h = under_same (moved v o t h.0 (Index i) (Name n) (Name n) a (Some (Name n ∷ a)) refl (h.1.0 n))
dropped_shows v i (Index j ∷ a) room o t h = under_same (by (nat_lt j i) refl)
  where
    by : (b : Bool) → nat_lt j i ≡ b → walk v (Some t) (Index j ∷ a) ≡ noting no_sort 1 (side (Index i ∷ []) (Index j ∷ a)) (told_at (walk v o) (cond b (Some (Index j ∷ a)) (cond (nat_lt (j + 1) (2 ^ 64)) (Some (Index (j + 1) ∷ a)) None)))
    by true e = let low : j < i = grind (arith, nat_tests) in moved v o t h.0 (Index i) (Index j) (Index j) a (Some (Index j ∷ a)) refl (h.1.1 j low)
    by false e =
        let high : i ≤ j = grind (arith, nat_tests) in
        let fits : nat_lt (j + 1) (2 ^ 64) ≡ true = (let f : j + 1 < 2 ^ 64 = omega (arith, room) in grind (arith, nat_tests)) in
        moved v o t h.0 (Index i) (Index j) (Index (j + 1)) a (cond (nat_lt (j + 1) (2 ^ 64)) (Some (Index (j + 1) ∷ a)) None) (ap (λ (b : Bool). cond b (Some (Index (j + 1) ∷ a)) None) fits) (h.1.2 j high (omega (arith, room)))

pub lost_shows : {T : Type 0} (v : View T) (i : ℕ) (a : Address) → HasRoom a → Shows v (Above v (IsLost i)) no_sort (Index i ∷ []) (down_above i) a
lost_shows v i [] room o t h = parent_shows v (IsLost i) no_sort (Index i) (down_above i) refl o t h
lost_shows v i (Name n ∷ a) room o t h = under_same (moved v o t h.0 (Index i) (Name n) (Name n) a (Some (Name n ∷ a)) refl (h.1.0 n))
lost_shows v i (Index j ∷ a) room o t h = under_same (by (nat_lt j i) refl (nat_eq j i) refl)
  where
    by : (b : Bool) → nat_lt j i ≡ b → (d : Bool) → nat_eq j i ≡ d → walk v (Some t) (Index j ∷ a) ≡ noting no_sort 1 (side (Index i ∷ []) (Index j ∷ a)) (told_at (walk v o) (cond b (Some (Index j ∷ a)) (cond d None (Some (Index (j - 1) ∷ a)))))
    by true e d f = let low : j < i = grind (arith, nat_tests) in moved v o t h.0 (Index i) (Index j) (Index j) a (Some (Index j ∷ a)) refl (h.1.1 j low)
    by false e true f = let same : i ≡ j = grind (arith, nat_tests) in gone v o t h.0 no_sort (Index i) (Index j) a None refl (subst (λ (n : ℕ). v.down t (Index n) ≡ Some None) same h.1.2)
    by false e false f = let high : i < j = grind (arith, nat_tests) in moved v o t h.0 (Index i) (Index j) (Index (j - 1)) a (Some (Index (j - 1) ∷ a)) refl (h.1.3 j high (omega (arith, room)))

pub away_shows : {T : Type 0} (v : View T) (n : List ℕ) (a : Address) → Shows v (Above v (NameIsLost n)) no_sort (Name n ∷ []) (carry_below (Name n ∷ []) nowhere) a
away_shows v n [] o t h = parent_shows v (NameIsLost n) no_sort (Name n) (carry_below (Name n ∷ []) nowhere) refl o t h
away_shows v n (u ∷ a) o t h = under_same (by (same_step (Name n) u) refl)
  where
    by : (b : Bool) → same_step (Name n) u ≡ b → walk v (Some t) (u ∷ a) ≡ noting no_sort 1 (side (Name n ∷ []) (u ∷ a)) (told_at (walk v o) (cond b (option_map (λ f. u ∷ f) None) (Some (u ∷ a))))
    by false e = moved v o t h.0 (Name n) u u a (Some (u ∷ a)) refl (h.1.0 u e)
    by true e = gone v o t h.0 no_sort (Name n) u a None refl (subst (λ w. v.down t w ≡ Some None) (same_step-equal (Name n) u e) h.1.1)

pub takes_shows : {T : Type 0} (v : View T) (n to : List ℕ) (a : Address) → Shows v (Above v (TakesName v n to)) renames_sort (Name n ∷ []) (to_name n to) a
takes_shows v n to [] o t h = parent_shows v (TakesName v n to) renames_sort (Name n) (to_name n to) refl o t h
takes_shows v n to (Index i ∷ a) o t h = under_same (from_step v o t h.0 (Index i) (Index i) a (h.1.0 (Index i) refl refl) ∙ sym (apart renames_sort 1 (walk v o (Index i ∷ a))))
takes_shows v n to (Name m ∷ a) o t h = by (bytes_eq n m) refl (bytes_eq to m) refl
  where
    shown : Bool → Told (Option Seen)
    shown b = noting renames_sort 1 (cond b (side [] a) sides.Apart) (told_at (walk v o) (cond b (Some (Name to ∷ a)) (Some (Name m ∷ a))))

    by : (b : Bool) → bytes_eq n m ≡ b → (d : Bool) → bytes_eq to m ≡ d → Under (walk v (Some t) (Name m ∷ a)) (shown b)
    by false e true f =
        let same : Name to ≡ Name m = same_step-equal (Name to) (Name m) f in
        let other : same_step (Name n) (Name to) ≡ false = ap (same_step (Name n)) same ∙ e in
        let told : Under (v.down t (Name m)) (down_in v o (Name m)) = subst (λ u. Under (v.down t u) (down_in v o u)) same (h.1.2 other) in
        under_between (step_on v (marks_in v o).renamed a (down_in v o (Name m))) (shown false) (ap (λ (x : Marks). step_on v x.renamed a (v.down t (Name m))) h.0) (sym (apart renames_sort 1 (walk v o (Name m ∷ a))))
        (under_step v (marks_in v o).renamed a (v.down t (Name m)) (down_in v o (Name m)) told)
    by false e false f = under_same (from_step v o t h.0 (Name m) (Name m) a (h.1.0 (Name m) e f) ∙ sym (apart renames_sort 1 (walk v o (Name m ∷ a))))
    by true e d f =
        let g : Goes (IsMarked v) (down_in v o (Name to)) (v.down t (Name m)) = subst (λ u. Goes (IsMarked v) (down_in v o (Name to)) (v.down t u)) (same_step-equal (Name n) (Name m) e) h.1.1 in
        under_between (shown true) (shown true) (ap (λ (x : Marks). step_on v x.renamed a (v.down t (Name m))) h.0) refl
        (stepped v (IsMarked v) renames_sort [] Some a (marked_shows v a) (marks_in v o).renamed (down_in v o (Name to)) (v.down t (Name m)) g)
