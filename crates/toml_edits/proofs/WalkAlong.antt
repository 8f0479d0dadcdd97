-- What changes along an edit's place, and what a walk then shows.
use Rattle.std.proofs.Common.{◌≡◌, ℕ, suc, [], ◌∷◌, ◌++◌, length, Option, Some, None, Bool, true, false, cond, refl, sym, ap, subst, ◌∙◌}
use Rattle.std.specs.Prelude.{IfSome, option_map}
use Rattle.toml_names.specs.declared.model.address.Step.{Step}
use Rattle.toml_names.specs.model.Addresses.{Address, same_step}
use Rattle.toml_names.proofs.Proved.{same_step-equal}
use Rattle.toml_edits.specs.Carry.{Carrier, carry_below}
use Rattle.toml_edits.specs.declared.side.Side.{Side}
use Rattle.toml_edits.specs.declared.side.Side.TheVariants as sides
use Rattle.toml_edits.specs.Sides.{side}
use Rattle.toml_edits.specs.Fronts.{Turns, Goes, Along}
use Rattle.toml_edits.specs.Notes.{Sort}
use Rattle.toml_edits.specs.Trees.{Told, Marks, Down, View, Seen, walk, told_above, told_at, marks_in, down_in, seen_here, seen_above}
use Rattle.toml_edits.proofs.Noting.{step_on, noting, noted_above, apart}

-- the one tells what the other tells, or less
abbrev pub Under : {A : Type 0} → Told A → Told A → Type 0
Under x y = IfSome x (λ z. y ≡ Some z)

under : {A : Type 0} (x y : Told A) → x ≡ y → Under x y
under None y e = tt
under (Some z) y e = sym e

pub under_same : {A : Type 0} {x y : Told A} → x ≡ y → Under x y
under_same {A} {x} {y} e = under x y e

under_map : {A B : Type 0} (f : A → B) (x y : Told A) → Under x y → Under (option_map f x) (option_map f y)
under_map f None y h = tt
under_map f (Some z) y h = ap (option_map f) h

pub under_between : {A : Type 0} {x z : Told A} (u y : Told A) → x ≡ z → u ≡ y → Under z u → Under x y
under_between {A} {x} {z} u y e f h = subst (λ w. Under w y) (sym e) (subst (λ w. Under z w) f h)

under_none : {A : Type 0} {x : Told A} (y : Told A) → x ≡ None → Under x y
under_none y e = subst (λ w. Under w y) (sym e) tt

pub under_step : {T : Type 0} (v : View T) (b : Bool) (a : Address) (d e : Down T) → Under d e → Under (step_on v b a d) (step_on v b a e)
under_step v b a None e h = tt
under_step v b a (Some z) e h = under_same (ap (step_on v b a) (sym h))

-- what a walk shows of a tree that a turn makes, from where it goes on
abbrev pub Shows : {T : Type 0} → View T → Turns T → Sort → Address → Carrier → Address → Type 0
Shows {T} v R k r c a = (o : Option T) (t : T) → R o t → Under (walk v (Some t) a) (noting k (length r) (side r a) (told_at (walk v o) (c a)))

seen_both : (k : Sort) (n : ℕ) (x : Side) (s : Step) (b : Bool) (z : Told (Option Seen)) → told_above s b (noting k n x z) ≡ noting k (suc n) x (told_above s b z)
seen_both k n x s b None = refl
seen_both k n x s b (Some None) = refl
seen_both k n x s b (Some (Some o)) = ap (λ (w : Seen). Some (Some w)) (noted_above k n x s b o)

nowhere_then : {A B : Type 0} (y : Option A) → told_at {A = A} {B = B} (λ b. Some None) y ≡ Some None
nowhere_then None = refl
nowhere_then (Some a) = refl

-- behind one step
pub stepped : {T : Type 0} (v : View T) (R : Turns T) (k : Sort) (r : Address) (c : Carrier) (a : Address) → Shows v R k r c a → (b : Bool) (d e : Down T) → Goes R d e
    → Under (step_on v b a e) (noting k (suc (length r)) (side r a) (told_at (λ (f : Address). step_on v b f d) (c a)))
stepped v R k r c a h b None e g = under_none (noting k (suc (length r)) (side r a) (told_at (λ (f : Address). step_on v b f None) (c a))) (ap (step_on v b a) g)
stepped v R k r c a h b (Some None) e g = under_same (ap (step_on v b a) g ∙ sym (ap (noting k (suc (length r)) (side r a)) (nowhere_then (c a))))
stepped {T} v R k r c a h b (Some (Some w)) e g =
    under_between (told_above w.to b (noting k (length r) (side r a) (told_at (walk v w.tree) (c a)))) (noting k (suc (length r)) (side r a) (told_at (λ (f : Address). step_on v b f (Some (Some w))) (c a))) (ap (step_on v b a) g.1) (by (c a))
    (under_map (option_map (seen_above w.to b)) (walk v (Some g.0) a) (noting k (length r) (side r a) (told_at (walk v w.tree) (c a))) (h w.tree g.0 g.2))
  where
    by : (y : Option Address) → told_above w.to b (noting k (length r) (side r a) (told_at (walk v w.tree) y)) ≡ noting k (suc (length r)) (side r a) (told_at (λ (f : Address). step_on v b f (Some (Some w))) y)
    by None = refl
    by (Some f) = seen_both k (length r) (side r a) w.to b (walk v w.tree f)

further : {T : Type 0} (v : View T) (o : Option T) (u : Step) (y : Option Address)
    → told_at (walk v o) (option_map (λ f. u ∷ f) y) ≡ told_at (λ (f : Address). step_on v (marks_in v o).renamed f (down_in v o u)) y
further v o u None = refl
further v o u (Some f) = refl

-- along the steps to a place
module _ {T : Type 0} (v : View T) (R : Turns T) (k : Sort) (r : Address) (c : Carrier) (Ok : Address → Type 0) (base : (a : Address) → Ok a → Shows v R k r c a) where
  pub along : (q : Address) (a : Address) → ((b : Address) → a ≡ q ++ b → Ok b) → Shows v (Along v q R) k (q ++ r) (carry_below q c) a
  along [] a ok o t h = base a (ok a refl) o t h
  along (s ∷ q) [] ok o t h = under_same (ap (λ (m : Marks). Some (Some (seen_here m))) h.0)
  along (s ∷ q) (u ∷ a) ok o t h = by (same_step s u) refl (along q a)
    where
      by : (x : Bool) → same_step s u ≡ x → (((b : Address) → a ≡ q ++ b → Ok b) → Shows v (Along v q R) k (q ++ r) (carry_below q c) a)
          → Under (walk v (Some t) (u ∷ a)) (noting k (suc (length (q ++ r))) (cond x (side (q ++ r) a) sides.Apart) (told_at (walk v o) (cond x (option_map (λ f. u ∷ f) (carry_below q c a)) (Some (u ∷ a)))))
      by false e next =
          under_same (ap (λ (m : Marks). step_on v m.renamed a (v.down t u)) h.0 ∙ ap (step_on v (marks_in v o).renamed a) (h.1 u e) ∙ sym (apart k (suc (length (q ++ r))) (walk v o (u ∷ a))))
      by true e next =
          let su : s ≡ u = same_step-equal s u e in
          let g : Goes (Along v q R) (down_in v o u) (v.down t u) = subst (λ w. Goes (Along v q R) (down_in v o w) (v.down t w)) su h.2 in
          under_between (noting k (suc (length (q ++ r))) (side (q ++ r) a) (told_at (λ (f : Address). step_on v (marks_in v o).renamed f (down_in v o u)) (carry_below q c a)))
          (noting k (suc (length (q ++ r))) (side (q ++ r) a) (told_at (walk v o) (option_map (λ f. u ∷ f) (carry_below q c a)))) (ap (λ (m : Marks). step_on v m.renamed a (v.down t u)) h.0)
          (sym (ap (noting k (suc (length (q ++ r))) (side (q ++ r) a)) (further v o u (carry_below q c a))))
          (stepped v (Along v q R) k (q ++ r) (carry_below q c) a (next (λ b w. ok b (ap (λ x. x ∷ a) (sym su) ∙ ap (λ x. s ∷ x) w))) (marks_in v o).renamed (down_in v o u) (v.down t u) g)
