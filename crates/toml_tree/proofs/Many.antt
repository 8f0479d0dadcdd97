-- A loop that reads step by step, against `all_of`.
use Rattle.std.proofs.Common.{◌≡◌, ℕ, zero, suc, ◌+◌, ◌<◌, ◌≤◌, List, [], ◌∷◌, ◌++◌, length, Option, Some, None, map, sym, refl, ap, ◌∙◌, subst, arith, append_assoc}
use Rattle.std.specs.Prelude.{IfSome}
use Rattle.toml_tree.specs.Reading.{Cursor, many, all_of, ◌>>=◌}
use Rattle.toml_scalar.specs.Faults.{place_of}
use Rattle.toml_tree.specs.Reads.{end, Onward, Moves, Fails, step, behind, joined}
use Rattle.toml_scalar.specs.declared.fault.SyntaxFault.{SyntaxFault}
pub use Rattle.toml_tree.specs.Loops.{prefixed, Loop}
use Rattle.toml_tree.specs.declared.step.Step.{Step}
use Rattle.toml_tree.specs.declared.step.Step.TheVariants.{Next, Done}

prefixed-nil : {A B : Type 0} (o : Option (List A × B × Cursor)) → prefixed [] o ≡ o
prefixed-nil None = refl
prefixed-nil (Some s) = refl

prefixed-cons : {A B : Type 0} (front : List A) (a : A) (o : Option (List A × B × Cursor)) →
    prefixed front (o >>= λ s. Some (a ∷ s.0, s.1, s.2)) ≡ prefixed (front ++ a ∷ []) o
prefixed-cons front a None = refl
prefixed-cons front a (Some s) = ap (λ l. Some (l, s.1, s.2)) (sym (append_assoc front (a ∷ []) s.0))

pub append-nil : {A : Type 0} (xs : List A) → xs ++ [] ≡ xs
append-nil [] = refl
append-nil (x ∷ xs) = ap (λ l. x ∷ l) (append-nil xs)

module _ {A B : Type 0} (step : Cursor → Option (Step A B × Cursor)) where
  pub loop_start : (c : Cursor) → Loop step [] c c
  loop_start c = record { fuel = length c.rest + 1; enough = omega arith; same = sym (prefixed-nil (all_of step c)); onward = record { total = refl; onward = omega arith } }

  many_next : (f : ℕ) (front : List A) (now next : Cursor) (a : A) → step now ≡ Some (Next a, next) → prefixed front (many step (suc f) now) ≡ prefixed (front ++ a ∷ []) (many step f next)
  many_next f front now next a e = rw e (prefixed-cons front a (many step f next))

  next_at : (fuel : ℕ) (front : List A) (now first next : Cursor) (a : A) → length now.rest < fuel → all_of step first ≡ prefixed front (many step fuel now) → Onward first now → step now ≡ Some (Next a, next) → Onward now next → now.at < next.at → Loop step (front ++ a ∷ []) next first
  next_at zero front now first next a enough same before e on moves = absurd (omega arith)
  next_at (suc f) front now first next a enough same before e on moves = record {
    fuel = f;
    enough = omega arith;
    same = same ∙ many_next f front now next a e;
    onward = record { total = on.total ∙ before.total; onward = omega arith };
  }

  -- one more was read
  pub loop_next : (front : List A) (now first next : Cursor) (a : A) → Loop step front now first → step now ≡ Some (Next a, next) → Onward now next → now.at < next.at → Loop step (front ++ a ∷ []) next first
  loop_next front now first next a l e on moves = next_at l.fuel front now first next a l.enough l.same l.onward e on moves

  done_at : (fuel : ℕ) (front : List A) (now first next : Cursor) (b : B) → length now.rest < fuel → all_of step first ≡ prefixed front (many step fuel now) → step now ≡ Some (Done b, next) → all_of step first ≡ Some (front, b, next)
  done_at zero front now first next b enough same e = absurd (omega arith)
  done_at (suc f) front now first next b enough same e = same ∙ rw e (ap (λ l. Some (l, b, next)) (append-nil front))

  -- the last was read
  pub loop_done : (front : List A) (now first next : Cursor) (b : B) → Loop step front now first → step now ≡ Some (Done b, next) → all_of step first ≡ Some (front, b, next)
  loop_done front now first next b l e = done_at l.fuel front now first next b l.enough l.same e

  none_at : (fuel : ℕ) (front : List A) (now first : Cursor) → length now.rest < fuel → all_of step first ≡ prefixed front (many step fuel now) → step now ≡ None → all_of step first ≡ None
  none_at zero front now first enough same e = absurd (omega arith)
  none_at (suc f) front now first enough same e = same ∙ rw e refl

  -- nothing was read
  pub loop_none : (front : List A) (now first : Cursor) → Loop step front now first → step now ≡ None → all_of step first ≡ None
  loop_none front now first l e = none_at l.fuel front now first l.enough l.same e

pub map_push : {X A : Type 0} (f : X → A) (xs : List X) (x : X) → map f (xs ++ x ∷ []) ≡ map f xs ++ f x ∷ []
map_push f [] x = refl
map_push f (y ∷ xs) x = ap (λ l. f y ∷ l) (map_push f xs x)

-- A fault of a part is a fault of the whole.
pub Fails_over : {X Y : Type 0} (e : SyntaxFault) (last whole : ℕ) (r : Option X) (s : Option Y) → Fails last e r → last ≡ whole → (r ≡ None → s ≡ None) → Fails whole e s
Fails_over e last whole r s h same none = over (place_of e) h
  where
    over : (place : Option ℕ) → IfSome place (λ at. (at ≤ last) × (r ≡ None)) → IfSome place (λ at. (at ≤ whole) × (s ≡ None))
    over None h = tt
    over (Some at) h = (omega arith, none h.1)

-- The same for what the code has read, by the views `f` and `g`.
module _ {X Y A B : Type 0} (f : X → A) (g : Y → B) (spec : Cursor → Option (Step A B × Cursor)) where
  pub loop_pushed : (items pushed : List X) (x : X) (r : Step X Y) (now first next : Cursor) → Loop spec (map f items) now first → pushed ≡ items ++ x ∷ [] → (spec now ≡ Some (step f g r, next)) × Onward now next → Moves now next r → r ≡ Next x → Loop spec (map f pushed) next first
  loop_pushed items pushed x r now first next l is reads moves next_is =
      let moved : now.at < next.at = subst (Moves now next) next_is moves in
      subst (λ v. Loop spec v next first) (sym (ap (map f) is ∙ map_push f items x))
      (loop_next spec (map f items) now first next (f x) l (reads.0 ∙ ap (λ s. Some (step f g s, next)) next_is) reads.1 moved)

  pub loop_ended : (items : List X) (y : Y) (r : Step X Y) (now first next : Cursor) → Loop spec (map f items) now first → (spec now ≡ Some (step f g r, next)) × Onward now next → r ≡ Done y → (all_of spec first ≡ Some (map f items, g y, next)) × Onward first next
  loop_ended items y r now first next l reads done_is = (
    loop_done spec (map f items) now first next (g y) l (reads.0 ∙ ap (λ s. Some (step f g s, next)) done_is),
    record { total = reads.1.total ∙ l.onward.total; onward = omega (arith, reads.1, l.onward) },
  )

  pub loop_failed : {Z : Type 0} (items : List X) (e : SyntaxFault) (now first : Cursor) (s : Option Z) → Loop spec (map f items) now first → Fails (end now) e (spec now) → (all_of spec first ≡ None → s ≡ None) → Fails (end first) e s
  loop_failed items e now first s l fails none = Fails_over e (end now) (end first) (spec now) s fails l.onward.total (λ n. none (loop_none spec (map f items) now first l n))

-- The same where each step adds to the list of what was read, and the last has all of it.
module _ {A B : Type 0} (join : List A → B → B) (spec : Cursor → Option (Step A B × Cursor)) where
  behind_next : (o : Option (Step A B × Cursor)) (front more : List A) (now first next : Cursor) → spec now ≡ o → Loop spec front now first → behind join front o ≡ Some (Next more, next) → Onward now next → now.at < next.at → Loop spec more next first
  behind_next None front more now first next is l e on moves = grind arith
  behind_next (Some (Next a, c)) front more now first next is l e on moves = grind (arith, loop_next spec front now first next a l)
  behind_next (Some (Done b, c)) front more now first next is l e on moves = grind arith

  behind_done : (o : Option (Step A B × Cursor)) (front : List A) (all : B) (now first next : Cursor) → spec now ≡ o → Loop spec front now first → behind join front o ≡ Some (Done all, next) → (all_of spec first >>= λ r. Some (joined join r)) ≡ Some (all, next)
  behind_done None front all now first next is l e = grind arith
  behind_done (Some (Next a, c)) front all now first next is l e = grind arith
  behind_done (Some (Done b, c)) front all now first next is l e = grind (arith, loop_done spec front now first next b l)

  behind_none : (o : Option (Step A B × Cursor)) (front : List A) → behind join front o ≡ None → o ≡ None
  behind_none None front e = refl
  behind_none (Some s) front e = grind arith

  pub behind_pushed : {R : Type 0} (g : R → B) (front more : List A) (u : Unit {0}) (r : Step (Unit {0}) R) (now first next : Cursor) → Loop spec front now first → (behind join front (spec now) ≡ Some (step (λ v. more) g r, next)) × Onward now next → Moves now next r → r ≡ Next u → Loop spec more next first
  behind_pushed g front more u r now first next l reads moves is =
      let moved : now.at < next.at = subst (Moves now next) is moves in
      behind_next (spec now) front more now first next refl l (reads.0 ∙ ap (λ s. Some (step (λ v. more) g s, next)) is) reads.1 moved

  pub behind_ended : {R : Type 0} (g : R → B) (front more : List A) (y : R) (r : Step (Unit {0}) R) (now first next : Cursor) → Loop spec front now first → (behind join front (spec now) ≡ Some (step (λ v. more) g r, next)) × Onward now next → r ≡ Done y → ((all_of spec first >>= λ r. Some (joined join r)) ≡ Some (g y, next)) × Onward first next
  behind_ended g front more y r now first next l reads is = (
    behind_done (spec now) front (g y) now first next refl l (reads.0 ∙ ap (λ s. Some (step (λ v. more) g s, next)) is),
    record { total = reads.1.total ∙ l.onward.total; onward = omega (arith, reads.1, l.onward) },
  )

  pub behind_failed : {Z : Type 0} (front : List A) (e : SyntaxFault) (now first : Cursor) (s : Option Z) → Loop spec front now first → Fails (end now) e (behind join front (spec now)) → (all_of spec first ≡ None → s ≡ None) → Fails (end first) e s
  behind_failed front e now first s l fails none = Fails_over e (end now) (end first) (behind join front (spec now)) s fails l.onward.total (λ n. none (loop_none spec front now first l (behind_none (spec now) front n)))
