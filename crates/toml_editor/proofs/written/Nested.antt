-- What lies in a paired unit is paired with what lies in its partner.
use Rattle.std.proofs.Common.{◌≡◌, ◌⊎◌, inl, inr, ◌<◌, ◌≤◌, ℕ, zero, suc, Bool, true, false, cond, Option, Some, List, [], ◌∷◌, ◌++◌, refl, sym, ap, ◌∙◌, subst, true≢false, arith}
use Rattle.std.specs.Prelude.{slice_get}
use Rattle.std.proofs.lemmas.Option.{same_Some}
use Rattle.toml_tree.specs.Spells.{EachIs, Spells}
use Rattle.toml_tree.specs.Tree.{Doc}
use Rattle.toml_edits.specs.Edits.{Change}
use Rattle.toml_units.specs.declared.unit.UnitKind.{UnitKind}
use Rattle.toml_units.specs.declared.unit.UnitKind.TheVariants as kinds
use Rattle.toml_units.specs.Apart.{EachTwo, IsMember, IsBefore}
use Rattle.toml_units.specs.Blocks.{LiesIn, StandsBehind, AreBlocks}
use Rattle.toml_units.specs.Places.{LiesInside, is_line, line_with, line_from}
use Rattle.toml_units.specs.Tails.{TailsEnd}
use Rattle.toml_units.specs.Units.{TextUnit, units}
use Rattle.toml_units.proofs.Proved.{units_nest}
use Rattle.toml_checker.specs.Pairs.{RiseFrom, Rise, AllFit, StandsAs, IsFirst, IsSecond}
use Rattle.toml_editor.proofs.Each.{each_get}

-- ---- pairs

abbrev pub IsIn : ℕ × ℕ → List (ℕ × ℕ) → Type 0
IsIn p [] = ⊥
IsIn p (q ∷ qs) = (q ≡ p) ⊎ IsIn p qs

pub of_first : (ps : List (ℕ × ℕ)) (i : ℕ) → IsFirst ps i → (k : ℕ) × IsIn (i, k) ps
of_first [] i h = absurd h
of_first (p ∷ ps) i (inl is) = (p.1, inl (ap (λ n. (n, p.1)) is))
of_first (p ∷ ps) i (inr more) = let r = of_first ps i more in (r.0, inr r.1)

pub of_second : (ps : List (ℕ × ℕ)) (k : ℕ) → IsSecond ps k → (i : ℕ) × IsIn (i, k) ps
of_second [] k h = absurd h
of_second (p ∷ ps) k (inl is) = (p.0, inl (ap (λ n. (p.0, n)) is))
of_second (p ∷ ps) k (inr more) = let r = of_second ps k more in (r.0, inr r.1)

pub in_first : (ps : List (ℕ × ℕ)) (p : ℕ × ℕ) → IsIn p ps → IsFirst ps p.0
in_first [] p h = absurd h
in_first (q ∷ ps) p (inl is) = inl (ap (λ (x : ℕ × ℕ). x.0) is)
in_first (q ∷ ps) p (inr more) = inr (in_first ps p more)

pub in_second : (ps : List (ℕ × ℕ)) (p : ℕ × ℕ) → IsIn p ps → IsSecond ps p.1
in_second [] p h = absurd h
in_second (q ∷ ps) p (inl is) = inl (ap (λ (x : ℕ × ℕ). x.1) is)
in_second (q ∷ ps) p (inr more) = inr (in_second ps p more)

pub fits : (cs : List Change) (d e : Doc) (ps : List (ℕ × ℕ)) (p : ℕ × ℕ) → AllFit cs d e ps → IsIn p ps → StandsAs cs d e p.0 p.1
fits cs d e [] p h is = absurd is
fits cs d e (q ∷ ps) p h (inl is) = subst (λ (x : ℕ × ℕ). StandsAs cs d e x.0 x.1) is h.0
fits cs d e (q ∷ ps) p h (inr more) = fits cs d e ps p h.1 more

past : (i k : ℕ) (ps : List (ℕ × ℕ)) (p : ℕ × ℕ) → RiseFrom i k ps → IsIn p ps → (i < p.0) × (k < p.1)
past i k [] p rise is = absurd is
past i k (q ∷ ps) p rise (inl is) = subst (λ (x : ℕ × ℕ). (i < x.0) × (k < x.1)) is (rise.0, rise.1)
past i k (q ∷ ps) p rise (inr more) = let r = past q.0 q.1 ps p rise.2 more in (omega (arith, rise.0, r.0), omega (arith, rise.1, r.1))

-- of two pairs one comes first, in both numbers
abbrev AreOrdered : ℕ × ℕ → ℕ × ℕ → Type 0
AreOrdered p q = ((p.0 < q.0) × (p.1 < q.1)) ⊎ (p ≡ q) ⊎ ((q.0 < p.0) × (q.1 < p.1))

ordered : (ps : List (ℕ × ℕ)) (p q : ℕ × ℕ) → Rise ps → IsIn p ps → IsIn q ps → AreOrdered p q
ordered [] p q rise a b = absurd a
ordered (x ∷ ps) p q rise (inl a) (inl b) = inr (inl (sym a ∙ b))
ordered (x ∷ ps) p q rise (inl a) (inr b) = inl (subst (λ (y : ℕ × ℕ). (y.0 < q.0) × (y.1 < q.1)) a (past x.0 x.1 ps q rise b))
ordered (x ∷ ps) p q rise (inr a) (inl b) = inr (inr (subst (λ (y : ℕ × ℕ). (y.0 < p.0) × (y.1 < p.1)) b (past x.0 x.1 ps p rise a)))
ordered (x ∷ ps) p q rise (inr a) (inr b) = ordered ps p q (by ps rise) a b
  where
    by : (ps : List (ℕ × ℕ)) → RiseFrom x.0 x.1 ps → Rise ps
    by [] h = tt
    by (y ∷ ys) h = h.2

pub seconds_rise : (ps : List (ℕ × ℕ)) (i k j l : ℕ) → Rise ps → IsIn (i, k) ps → IsIn (j, l) ps → i < j → k < l
seconds_rise ps i k j l rise a b low = elim (ordered ps (i, k) (j, l) rise a b) [
  | inl is ↦ is.1
  | inr (inl is) ↦ let e = ap (λ (x : ℕ × ℕ). x.0) is in let f : ⊥ = omega (arith, low, e) in absurd f
  | inr (inr is) ↦ let f : ⊥ = omega (arith, low, is.0) in absurd f
]

pub firsts_rise : (ps : List (ℕ × ℕ)) (i k j l : ℕ) → Rise ps → IsIn (i, k) ps → IsIn (j, l) ps → k < l → i < j
firsts_rise ps i k j l rise a b low = elim (ordered ps (i, k) (j, l) rise a b) [
  | inl is ↦ is.0
  | inr (inl is) ↦ let e = ap (λ (x : ℕ × ℕ). x.1) is in let f : ⊥ = omega (arith, low, e) in absurd f
  | inr (inr is) ↦ let f : ⊥ = omega (arith, low, is.1) in absurd f
]

-- ---- units by their places

pub member_at : (us : List TextUnit) (j : ℕ) (w : TextUnit) → slice_get us j ≡ Some w → IsMember w us
member_at [] j w is = cc
member_at (u ∷ us) zero w is = inl (sym (same_Some u w is))
member_at (u ∷ us) (suc j) w is = inr (member_at us j w is)

pub before_at : (us : List TextUnit) (i j : ℕ) (u w : TextUnit) → i < j → slice_get us i ≡ Some u → slice_get us j ≡ Some w
    → IsBefore u w us
before_at [] i j u w low is are = cc
before_at (x ∷ us) i zero u w low is are = absurd (omega arith)
before_at (x ∷ us) zero (suc j) u w low is are = inl (sym (same_Some x u is), member_at us j w are)
before_at (x ∷ us) (suc i) (suc j) u w low is are = inr (before_at us i j u w (omega arith) is are)

pub two_at : (R : TextUnit → TextUnit → Type 0) (us : List TextUnit) (i j : ℕ) (u w : TextUnit) → EachTwo R us → i < j
    → slice_get us i ≡ Some u → slice_get us j ≡ Some w → R u w
two_at R [] i j u w h low is are = cc
two_at R (x ∷ us) i zero u w h low is are = absurd (omega arith)
two_at R (x ∷ us) zero (suc j) u w h low is are = subst (λ (y : TextUnit). R y w) (same_Some x u is) (each_get (R x) us j w h.0 are)
two_at R (x ∷ us) (suc i) (suc j) u w h low is are = two_at R us i j u w h.1 (omega arith) is are

-- what lies in a unit is no line
in_inner : (u w : TextUnit) (inner outer : List TextUnit) (j : ℕ) → EachIs (StandsBehind u) outer → slice_get (inner ++ outer) j ≡ Some w
    → LiesIn u w → slice_get inner j ≡ Some w
in_inner u w [] outer j behind is lies =
    let h = each_get (StandsBehind u) outer j w behind is in let f : ⊥ = omega (arith, h.1, lies.1) in absurd f
in_inner u w (x ∷ inner) outer zero behind is lies = is
in_inner u w (x ∷ inner) outer (suc j) behind is lies = in_inner u w inner outer j behind is lies

no_line_in : (us : List TextUnit) → AreBlocks us → (i j : ℕ) (u w : TextUnit) → i < j → slice_get us i ≡ Some u → slice_get us j ≡ Some w
    → LiesIn u w → ¬ (w.kind ≡ kinds.Line)
no_line_in [] blocks i j u w low is are lies = cc
no_line_in (x ∷ us) blocks i zero u w low is are lies = absurd (omega arith)
no_line_in (x ∷ us) blocks zero (suc j) u w low is are lies =
    let same : x ≡ u = same_Some x u is in
    let b = blocks.0 in
    let there = in_inner x w b.inner b.outer j b.behind (subst (λ vs. slice_get vs j ≡ Some w) b.is are)
    (subst (λ (y : TextUnit). LiesIn y w) (sym same) lies) in
    each_get (λ (y : TextUnit). ¬ (y.kind ≡ kinds.Line)) b.inner j w b.no_lines there
no_line_in (x ∷ us) blocks (suc i) (suc j) u w low is are lies = no_line_in us blocks.1 i j u w (omega arith) is are lies

pub no_line_inside : (d : Doc) (text : List ℕ) → Spells d text → (i j : ℕ) (l : LiesInside (units d.lines) i j)
    → ¬ (l.inner.kind ≡ kinds.Line)
no_line_inside d text spells i j l =
    no_line_in (units d.lines) (units_nest d text spells).0 i j l.outer l.inner l.later l.outer_is l.inner_is l.lies

-- the next unit, where there is one further on
pub next_at : (us : List TextUnit) (t k : ℕ) (w : TextUnit) → slice_get us k ≡ Some w → t < k → (v : TextUnit)
    × (slice_get us (suc t) ≡ Some v)
next_at [] t k w is low = cc
next_at (u ∷ []) t zero w is low = absurd (omega arith)
next_at (u ∷ []) t (suc k) w is low = cc
next_at (u ∷ v ∷ us) t zero w is low = absurd (omega arith)
next_at (u ∷ v ∷ us) zero (suc k) w is low = (v, refl)
next_at (u ∷ v ∷ us) (suc t) (suc k) w is low = next_at (v ∷ us) t k w is (omega arith)

pub tail_next : (us : List TextUnit) (t : ℕ) (w v : TextUnit) → TailsEnd us → slice_get us t ≡ Some w → w.kind ≡ kinds.TailComment
    → slice_get us (suc t) ≡ Some v → v.kind ≡ kinds.Line
tail_next [] t w v ends is tail next = cc
tail_next (u ∷ []) zero w v ends is tail next = cc
tail_next (u ∷ x ∷ us) zero w v ends is tail next =
    subst (λ (y : TextUnit). y.kind ≡ kinds.Line) (same_Some x v next) (ends.0 (ap (λ (y : TextUnit). y.kind) (same_Some u w is) ∙ tail))
tail_next (u ∷ us) (suc t) w v ends is tail next = tail_next us t w v ends.1 is tail next

-- the line of a unit by its place, and no line behind it as far as the unit
pub record NearLine (us : List TextUnit) (line : Option TextUnit) (k : ℕ) : Type 0 where
  pub place : ℕ
  pub unit : TextUnit
  pub low : place < k
  pub there : slice_get us place ≡ Some unit
  pub kind_is : unit.kind ≡ kinds.Line
  pub of : line_from line us k ≡ Some unit
  pub none : (x : ℕ) (v : TextUnit) → place < x → x ≤ k → slice_get us x ≡ Some v → ¬ (v.kind ≡ kinds.Line)

abbrev pub NoLine : List TextUnit → ℕ → Type 0
NoLine us k = (x : ℕ) (v : TextUnit) → x ≤ k → slice_get us x ≡ Some v → ¬ (v.kind ≡ kinds.Line)

line_kind : (k : UnitKind) → is_line k ≡ true → k ≡ kinds.Line
line_kind kinds.Line e = refl
line_kind kinds.TailComment e = absurd (true≢false (sym e))
line_kind kinds.InnerComment e = absurd (true≢false (sym e))
line_kind kinds.Element e = absurd (true≢false (sym e))
line_kind kinds.Pair e = absurd (true≢false (sym e))

pub nearest : (us : List TextUnit) (line : Option TextUnit) (k : ℕ) (w : TextUnit) → slice_get us k ≡ Some w → ¬ (w.kind ≡ kinds.Line)
    → NearLine us line k ⊎ (NoLine us k × (line_from line us k ≡ line))
nearest [] line k w is plain = cc
nearest (u ∷ us) line zero w is plain = inr (none, here)
  where
    same : u ≡ w
    same = same_Some u w is

    none : NoLine (u ∷ us) zero
    none zero v low at = subst (λ (y : TextUnit). ¬ (y.kind ≡ kinds.Line)) (sym same ∙ same_Some u v at) plain
    none (suc x) v low at = let f : ⊥ = omega (arith, low) in absurd f

    here : line_with line u ≡ line
    here = by (is_line u.kind) refl
      where
        by : (b : Bool) → is_line u.kind ≡ b → cond b (Some u) line ≡ line
        by true e = absurd (plain (ap (λ (y : TextUnit). y.kind) (sym same) ∙ line_kind u.kind e))
        by false e = refl
nearest (u ∷ us) line (suc k) w is plain = by (is_line u.kind) refl (nearest us (line_with line u) k w is plain)
  where
    by : (b : Bool) → is_line u.kind ≡ b → NearLine us (line_with line u) k
        ⊎ (NoLine us k × (line_from (line_with line u) us k ≡ line_with line u))
        → NearLine (u ∷ us) line (suc k) ⊎ (NoLine (u ∷ us) (suc k) × (line_from (line_with line u) us k ≡ line))
    by b e (inl near) = inl
        (record {
          place = suc near.place;
          unit = near.unit;
          low = omega
              (arith, near.low);
          there = near.there;
          kind_is = near.kind_is;
          of = near.of;
          none = none;
        })
      where
        none : (x : ℕ) (v : TextUnit) → suc near.place < x → x ≤ suc k → slice_get (u ∷ us) x ≡ Some v → ¬ (v.kind ≡ kinds.Line)
        none zero v low high at = let f : ⊥ = omega (arith, low) in absurd f
        none (suc x) v low high at = near.none x v (omega (arith, low)) (omega (arith, high)) at
    by true e (inr (free, same)) =
        inl (record {
          place = 0;
          unit = u;
          low = omega arith;
          there = refl;
          kind_is = line_kind u.kind e;
          of = same
              ∙ ap (λ b. cond b (Some u) line) e;
          none = none;
        })
      where
        none : (x : ℕ) (v : TextUnit) → 0 < x → x ≤ suc k → slice_get (u ∷ us) x ≡ Some v → ¬ (v.kind ≡ kinds.Line)
        none zero v low high at = let f : ⊥ = omega (arith, low) in absurd f
        none (suc x) v low high at = free x v (omega (arith, high)) at
    by false e (inr (free, same)) = inr (none, same ∙ ap (λ b. cond b (Some u) line) e)
      where
        none : NoLine (u ∷ us) (suc k)
        none zero v low at = λ line. true≢false (sym (ap is_line line) ∙ ap (λ (y : TextUnit). is_line y.kind) (sym (same_Some u v at)) ∙ e)
        none (suc x) v low at = free x v (omega (arith, low)) at
