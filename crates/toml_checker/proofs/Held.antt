-- In a document what ends no further than an earlier unit lies inside it.
use Rattle.std.proofs.Common.{◌≡◌, ℕ, zero, suc, ◌<◌, ◌≤◌, List, [], ◌∷◌, length, map, get_or, Some, refl, ap, subst, arith}
use Rattle.std.specs.Prelude.{slice_get}
use Rattle.std.proofs.lemmas.Option.{same_Some, none-some}
use Rattle.toml_tree.specs.Spells.{EachIs, Spells}
use Rattle.toml_tree.specs.Tree.{Doc}
use Rattle.toml_units.specs.Blocks.{end, AreInOrder}
use Rattle.toml_units.specs.Places.{LiesInside}
use Rattle.toml_units.specs.Plain.{spanned}
use Rattle.toml_units.specs.Units.{TextUnit, units}
use Rattle.toml_units.proofs.Proved.{units_nest}
use Rattle.toml_checker.specs.Marks.{stops}

pub each_at : (P : TextUnit → Type 0) (us : List TextUnit) (j : ℕ) (w : TextUnit) → EachIs P us → slice_get us j ≡ Some w → P w
each_at P [] j w h is = absurd (none-some w is)
each_at P (u ∷ us) zero w h is = subst P (same_Some u w is) h.0
each_at P (u ∷ us) (suc j) w h is = each_at P us j w h.1 is

pub stop_is : (us : List TextUnit) (i : ℕ) (u : TextUnit) → slice_get us i ≡ Some u → get_or (stops (map spanned us)) i 0 ≡ end u
stop_is [] i u is = absurd (none-some u is)
stop_is (v ∷ us) zero u is = ap end (same_Some v u is)
stop_is (v ∷ us) (suc i) u is = stop_is us i u is

pub there : (us : List TextUnit) (i : ℕ) → i < length us → (u : TextUnit) × (slice_get us i ≡ Some u)
there [] i h = absurd (omega arith)
there (u ∷ us) zero h = (u, refl)
there (u ∷ us) (suc i) h = there us i (omega arith)

in_order : (us : List TextUnit) (j i : ℕ) (w u : TextUnit) → AreInOrder us → j < i → slice_get us j ≡ Some w → slice_get us i ≡ Some u → w.piece.start ≤ u.piece.start
in_order [] j i w u h low first second = absurd (none-some w first)
in_order (v ∷ us) j zero w u h low first second = absurd (omega arith)
in_order (v ∷ us) zero (suc i) w u h low first second = subst (λ (x : TextUnit). x.piece.start ≤ u.piece.start) (same_Some v w first) (each_at (λ x. v.piece.start ≤ x.piece.start) us i u h.0 second)
in_order (v ∷ us) (suc j) (suc i) w u h low first second = in_order us j i w u h.1 (omega arith) first second

-- the same by places
module _ (us : List TextUnit) (order : AreInOrder us) where
  abbrev ends : List ℕ
  ends = stops (map spanned us)

  pub lies : (j i : ℕ) → j < i → i < length us → get_or ends i 0 ≤ get_or ends j 0 → LiesInside us j i
  lies j i low high le =
      let outer = there us j (omega arith) in
      let inner = there us i high in
      let a = stop_is us j outer.0 outer.1 in
      let b = stop_is us i inner.0 inner.1 in
      record { later = low; outer = outer.0; outer_is = outer.1; inner = inner.0; inner_is = inner.1; lies = (in_order us j i outer.0 inner.0 order low outer.1 inner.1, omega (arith, a, b)) }

  pub ends_within : (j i : ℕ) → LiesInside us j i → get_or ends i 0 ≤ get_or ends j 0
  ends_within j i h =
      let a = stop_is us j h.outer h.outer_is in
      let b = stop_is us i h.inner h.inner_is in
      let e = h.lies.1 in
      omega (arith, a, b, e)

pub order_of : (d : Doc) (text : List ℕ) → Spells d text → AreInOrder (units d.lines)
order_of d text h = (units_nest d text h).1
