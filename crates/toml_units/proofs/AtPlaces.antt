-- Units at one address, by their places.
use Rattle.std.proofs.Common.{◌≡◌, ◌⊎◌, inl, inr, ℕ, zero, suc, ◌<◌, ◌≤◌, List, [], ◌∷◌, Some, sym, ap, subst, ◌∙◌, arith}
use Rattle.std.specs.Prelude.{slice_get}
use Rattle.std.proofs.lemmas.Bool.{cases_lt, cases_eq}
use Rattle.std.proofs.lemmas.Option.{same_Some}
use Rattle.toml_tree.specs.Spells.{EachIs}
use Rattle.toml_units.specs.declared.unit.UnitKind.{UnitKind}
use Rattle.toml_units.specs.declared.unit.UnitKind.TheVariants as kinds
use Rattle.toml_units.specs.Apart.{AreComments, EachTwo, IsBefore, IsMember}
use Rattle.toml_units.specs.Blocks.{AreInOrder, LiesIn}
use Rattle.toml_units.specs.Holders.{HoldersHoldEach}
use Rattle.toml_units.specs.Laws.{OnePlace}
use Rattle.toml_units.specs.Order.{IsOuter}
use Rattle.toml_units.specs.Places.{LiesInside}
use Rattle.toml_units.specs.Units.{TextUnit, units}
use Rattle.toml_units.proofs.Apart.{units_are_apart}
use Rattle.toml_units.proofs.Holders.{holders_are_no_comments}
use Rattle.toml_units.proofs.InLines.{units_nest}
use Rattle.toml_units.proofs.Order.{outer_comes_first}

each_get : (P : TextUnit → Type 0) (us : List TextUnit) (j : ℕ) (w : TextUnit) → EachIs P us → slice_get us j ≡ Some w → P w
each_get P [] j w h is = cc
each_get P (u ∷ us) zero w h is = subst P (same_Some u w is) h.0
each_get P (u ∷ us) (suc j) w h is = each_get P us j w h.1 is

member_at : (us : List TextUnit) (j : ℕ) (w : TextUnit) → slice_get us j ≡ Some w → IsMember w us
member_at [] j w is = cc
member_at (u ∷ us) zero w is = inl (sym (same_Some u w is))
member_at (u ∷ us) (suc j) w is = inr (member_at us j w is)

before_at : (us : List TextUnit) (i j : ℕ) (u w : TextUnit) → i < j → slice_get us i ≡ Some u → slice_get us j ≡ Some w → IsBefore u w us
before_at [] i j u w lt is are = cc
before_at (x ∷ us) i zero u w lt is are = absurd (omega arith)
before_at (x ∷ us) zero (suc j) u w lt is are = inl (sym (same_Some x u is), member_at us j w are)
before_at (x ∷ us) (suc i) (suc j) u w lt is are = inr (before_at us i j u w (omega arith) is are)

two_at : (R : TextUnit → TextUnit → Type 0) (us : List TextUnit) (i j : ℕ) (u w : TextUnit) → EachTwo R us → i < j → slice_get us i ≡ Some u → slice_get us j ≡ Some w → R u w
two_at R [] i j u w h lt is are = cc
two_at R (x ∷ us) i zero u w h lt is are = absurd (omega arith)
two_at R (x ∷ us) zero (suc j) u w h lt is are = subst (λ (y : TextUnit). R y w) (same_Some x u is) (each_get (R x) us j w h.0 are)
two_at R (x ∷ us) (suc i) (suc j) u w h lt is are = two_at R us i j u w h.1 (omega arith) is are

pub one_place : OnePlace
one_place d text h keeps i j u w a is are kind at there = by (cases_lt i j) (cases_lt j i)
  where
    by : (i < j) ⊎ (j ≤ i) → (j < i) ⊎ (i ≤ j) → (u.kind ≡ kinds.InnerComment) ⊎ (i ≡ j)
    by (inl lt) o = inl (two_at AreComments (units d.lines) i j u w (units_are_apart d text h keeps).0 lt is are kind a at there)
    by (inr ge) (inl lt) = inl (kind ∙ two_at AreComments (units d.lines) j i w u (units_are_apart d text h keeps).0 lt are is (sym kind) a there at)
    by (inr ge) (inr le) = inr (omega arith)

starts : (us : List TextUnit) → AreInOrder us → EachTwo (λ x y. x.piece.start ≤ y.piece.start) us
starts [] h = tt
starts (u ∷ us) h = (h.0, starts us h.1)

-- comments and their holders are of two kinds
no_holder : (k : UnitKind) → k ≡ kinds.InnerComment → (k ≡ kinds.Line) ⊎ (k ≡ kinds.Element) ⊎ (k ≡ kinds.Pair) → ⊥
no_holder k e (inl f) = let g : kinds.InnerComment ≡ kinds.Line = sym e ∙ f in cc
no_holder k e (inr (inl f)) = let g : kinds.InnerComment ≡ kinds.Element = sym e ∙ f in cc
no_holder k e (inr (inr f)) = let g : kinds.InnerComment ≡ kinds.Pair = sym e ∙ f in cc

pub holders_hold_each : HoldersHoldEach
holders_hold_each d text h keeps v i j u w l is are of_one = by (cases_lt v j) (cases_eq v j)
  where
    same : l.inner ≡ u
    same = same_Some l.inner u (sym l.inner_is ∙ is)

    lies : LiesIn l.outer w
    lies =
        ((units_are_apart d text h keeps).1 l.outer u w (record { before = before_at (units d.lines) v i l.outer u l.later l.outer_is is; lies = subst (λ (y : TextUnit). LiesIn l.outer y) same l.lies }) (member_at (units d.lines) j w are)
        of_one).lies

    holder : (l.outer.kind ≡ kinds.Line) ⊎ (l.outer.kind ≡ kinds.Element) ⊎ (l.outer.kind ≡ kinds.Pair)
    holder = holders_are_no_comments d text h v i l

    by : (v < j) ⊎ (j ≤ v) → (v ≡ j) ⊎ (v ≡ j → ⊥) → LiesInside (units d.lines) v j
    by (inl lt) o = record { later = lt; outer = l.outer; outer_is = l.outer_is; inner = w; inner_is = are; lies = lies }
    by (inr ge) (inl e) =
        absurd (no_holder w.kind of_one.second (subst (λ (y : TextUnit). (y.kind ≡ kinds.Line) ⊎ (y.kind ≡ kinds.Element) ⊎ (y.kind ≡ kinds.Pair)) (same_Some l.outer w (sym l.outer_is ∙ ap (slice_get (units d.lines)) e ∙ are)) holder))
    by (inr ge) (inr apart) =
        let lt : j < v = omega (arith, ge, apart) in
        let order = two_at (λ x y. x.piece.start ≤ y.piece.start) (units d.lines) j v w l.outer (starts (units d.lines) (units_nest d text h).1) lt are l.outer_is in
        let begin : w.piece.start ≡ l.outer.piece.start = omega (arith, order, lies.0) in
        let under = two_at IsOuter (units d.lines) j v w l.outer (outer_comes_first d text h) lt are l.outer_is begin in
        absurd (no_holder w.kind of_one.second (holders_are_no_comments d text h j v (record { later = lt; outer = w; outer_is = are; inner = l.outer; inner_is = l.outer_is; lies = under })))
