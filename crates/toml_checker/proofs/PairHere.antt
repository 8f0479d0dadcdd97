-- Whether the units before which two texts stand are those of a pair.
use Rattle.std.proofs.Common.{◌≡◌, ◌⊎◌, inl, inr, ℕ, ◌<◌, ◌≤◌, Bool, true, List, [], ◌∷◌, ◌++◌, length, length-append, Option, Some, None, refl, sym, ap, subst, ◌∙◌, arith, append_assoc}
use Rattle.std.specs.Prelude.{◌↔◌, IsTrue, slice_get}
use Rattle.std.proofs.lemmas.Option.{none-some, same_Some, slice_get_within}
use Rattle.toml_edits.specs.Edits.{Change}
use Rattle.toml_units.specs.declared.cursor.UnitCursor.{UnitCursor}
use Rattle.toml_units.specs.Cursors.{current}
use Rattle.toml_units.specs.Lined.{LinedUnit}
use Rattle.toml_checker.specs.declared.walk.FirstText.{FirstText}
use Rattle.toml_checker.specs.declared.walk.SecondText.{SecondText}
use Rattle.toml_checker.specs.Traces.{AreAlike, MayBe, Met, lined_of}
use Rattle.toml_checker.specs.Walking.{GoneTo, IsFew, IsPairedAt, TellsPair}
use Rattle.toml_checker.proofs.Counted.{as_long}
use Rattle.toml_checker.proofs.Traced.{back_one, last_mark, lined_append, lined_push, same_marks}

pub tells : (cs : List Change) (one : FirstText) (other : SecondText) (p : ℕ × ℕ) (x y : LinedUnit) → one.passed ≡ p.0 → other.passed ≡ p.1 → current one.cursor ≡ Some x → current other.cursor ≡ Some y
    → (b : Bool) → IsTrue b ↔ AreAlike cs one.text.now x other.text.now y → TellsPair cs one other p b
tells cs one other p x y at there first second b h = (
  (λ t. record { first_at = at; second_at = there; first = x; first_is = first; second = y; second_is = second; alike = h.0 t }),
  (λ is. h.1 (subst (λ u. AreAlike cs one.text.now u other.text.now y) (same_Some is.first x (sym is.first_is ∙ first))
      (subst (λ u. AreAlike cs one.text.now is.first other.text.now u) (same_Some is.second y (sym is.second_is ∙ second)) is.alike))),
)

unit_at : (past : List LinedUnit) (x : LinedUnit) (more : List LinedUnit) → slice_get (past ++ x ∷ more) (length past) ≡ Some x
unit_at [] x more = refl
unit_at (y ∷ past) x more = unit_at past x more

-- One text that went on to a number.
module _ {Holds : List Met → Type 0} {old : UnitCursor} {old_passed : ℕ} {ms : List Met} {n : ℕ} {now : UnitCursor} {passed : ℕ} (gone : GoneTo Holds old old_passed ms (Some n) now passed) where
  abbrev more : List Met
  more = gone.more

  abbrev cur : Option LinedUnit
  cur = current now

  module _ (counted : IsFew (lined_of (ms ++ more)) → passed ≡ length (ms ++ more)) (old_counted : IsFew (lined_of ms) → old_passed ≡ length ms)
      (all : List LinedUnit) (few : IsFew all) (may : MayBe cur (lined_of (ms ++ more)) all) where
    abbrev past : List LinedUnit
    past = lined_of (ms ++ more)

    within : (o : Option LinedUnit) → MayBe o past all → length past ≤ length all
    within None h = omega (arith, ap length h)
    within (Some x) (rest, h) = omega (arith, ap length h, length-append past (x ∷ rest))

    long : length past ≡ length (ms ++ more)
    long = as_long (ms ++ more)

    passed_is : passed ≡ length past
    passed_is = let w = within cur may in counted (omega (arith, w, few)) ∙ sym long

    old_is : old_passed ≡ length ms
    old_is =
        let w = within cur may in
        let a = ap length (lined_append ms more) in
        let b = length-append (lined_of ms) (lined_of more) in
        old_counted (omega (arith, w, few, a, b))

    -- what stands at the number is the unit before which the text stands
    pub reached : (x : LinedUnit) → slice_get all n ≡ Some x → length ms ≤ n → (passed ≡ n) × (cur ≡ Some x)
    reached x there low = by cur refl may gone.goes.stops
      where
        at_most : passed ≤ n
        at_most = gone.goes.low n refl (omega (arith, old_is, low))

        here : slice_get all n ≡ Some x → n < length all
        here = slice_get_within all n x

        by : (o : Option LinedUnit) → cur ≡ o → MayBe o past all → (cur ≡ None) ⊎ ((k : ℕ) × (Some n ≡ Some k) × (k ≤ passed)) → (passed ≡ n) × (cur ≡ Some x)
        by None is m s = let h = here there in absurd (omega (arith, h, ap length m, passed_is, at_most))
        by (Some y) is m (inl none) = absurd (none-some y (sym none ∙ is))
        by (Some y) is m (inr (k, e, le)) =
            let same : passed ≡ n = omega (arith, at_most, same_Some n k e, le) in
            let at : slice_get all n ≡ Some y = subst (λ (j : ℕ). slice_get all j ≡ Some y) (sym passed_is ∙ same) (subst (λ (xs : List LinedUnit). slice_get xs (length past) ≡ Some y) (sym m.1) (unit_at past y m.0)) in
            (same, is ∙ ap Some (same_Some y x (sym at ∙ there)))

    pub here_is : (x : LinedUnit) → cur ≡ Some x → passed ≡ n → (slice_get all n ≡ Some x) × (length (ms ++ more) ≡ n)
    here_is x is at =
        let m = subst (λ (o : Option LinedUnit). MayBe o past all) is may in
        let e : length past ≡ n = sym passed_is ∙ at in
        (subst (λ (j : ℕ). slice_get all j ≡ Some x) e (subst (λ (xs : List LinedUnit). slice_get xs (length past) ≡ Some x) (sym m.1) (unit_at past x m.0)), sym long ∙ e)

  pub paired_at : (x : LinedUnit) → length (ms ++ more) ≡ n → IsPairedAt n ms (ms ++ (more ++ record { lined = x; paired = true } ∷ []))
  paired_at x e = let m : Met = record { lined = x; paired = true } in subst (IsPairedAt n ms) (append_assoc ms more (m ∷ [])) (record {
    marks = λ i. let w = last_mark (ms ++ more) x i in let s = same_marks ms more gone.goes.unpaired i in (
      (λ t. elim (w.0 t) [ inl p ↦ inl (s.0 p) | inr q ↦ inr (sym e ∙ q) ]),
      (λ t. elim t [ inl p ↦ w.1 (inl (s.1 p)) | inr q ↦ w.1 (inr (e ∙ q)) ]),
    );
    long = omega (arith, length-append (ms ++ more) (m ∷ []), e);
  })

  -- what may be all units behind the one at the number may be so before it
  pub back_here : (new : UnitCursor) (x : LinedUnit) (all : List LinedUnit) → cur ≡ Some x → MayBe (current new) (lined_of (ms ++ (more ++ record { lined = x; paired = true } ∷ []))) all → MayBe cur (lined_of (ms ++ more)) all
  back_here new x all is h =
      let m : Met = record { lined = x; paired = true } in
      back_one (current new) cur (lined_of (ms ++ more)) x all is (subst (λ zs. MayBe (current new) zs all) (ap lined_of (sym (append_assoc ms more (m ∷ []))) ∙ lined_push (ms ++ more) m) h)
