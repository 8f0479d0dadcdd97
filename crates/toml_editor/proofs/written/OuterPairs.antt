-- The pairs of units that lie in no other protected ones, of pairs of partners.
use Rattle.std.proofs.Common.{◌≡◌, ◌⊎◌, inl, inr, ◌<◌, ◌+◌, ℕ, zero, suc, Bool, true, false, Option, Some, None, List, [], ◌∷◌, map, refl, sym, ap, ◌∙◌, subst, true≢false, arith}
use Rattle.std.specs.Prelude.{slice_get}
use Rattle.std.proofs.lemmas.Option.{same_Some}
use Rattle.toml_tree.specs.Spells.{Spells}
use Rattle.toml_tree.specs.Tree.{Doc}
use Rattle.toml_names.specs.mentions.Mentions.{named}
use Rattle.toml_names.specs.mentions.Rules.{KeepsRules}
use Rattle.toml_edits.specs.Edits.{Change}
use Rattle.toml_units.specs.Blocks.{end}
use Rattle.toml_units.specs.Places.{LiesInside}
use Rattle.toml_units.specs.Units.{TextUnit, units}
use Rattle.toml_units.specs.declared.unit.UnitKind.TheVariants as kinds
use Rattle.toml_checker.specs.Comments.{IsCovered, AreNewFrom, NoCommentsAdded}
use Rattle.toml_checker.specs.Kept.{AllKept}
use Rattle.toml_checker.specs.Lines.{NoLinesAdded}
use Rattle.toml_checker.specs.Outer.{IsOuter}
use Rattle.toml_checker.specs.Pairs.{RiseFrom, Rise, AllFit, PairsFit, IsFirst, IsSecond}
use Rattle.toml_checker.specs.Plain.{site, flags}
use Rattle.toml_checker.specs.Protected.{IsProtected}
use Rattle.toml_checker.proofs.Proved.{flags_tell}
use Rattle.toml_editor.specs.CarriedUnits.{ArePartners}
use Rattle.toml_editor.specs.CertifiedLists.{AreOuterOf, OuterAreNamed}
use Rattle.toml_editor.proofs.written.Inside.{stays_inside}
use Rattle.toml_editor.proofs.written.Nested.{IsIn, of_first, of_second, in_first, in_second, fits, no_line_inside}
use Rattle.toml_editor.proofs.written.WayComments.{le_or, lies_or}

-- ---- what lies in no other protected unit

inside_inside : (us : List TextUnit) (a b c : ℕ) → LiesInside us a b → LiesInside us b c → LiesInside us a c
inside_inside us a b c first second =
    let same : first.inner ≡ second.outer = same_Some first.inner second.outer (sym first.inner_is ∙ second.outer_is) in
    let one = ap (λ (u : TextUnit). u.piece.start) same in
    let two = ap end same in
    record {
      later = omega (arith, first.later, second.later);
      outer = first.outer;
      outer_is = first.outer_is;
      inner = second.inner;
      inner_is = second.inner_is;
      lies = (omega (arith, first.lies.0, second.lies.0, one), omega (arith, first.lies.1, second.lies.1, two));
    }

least : (j n : ℕ) → j < suc n → (j < n) ⊎ (j ≡ n)
least j n low = elim (le_or n j) [ inl high ↦ inr (omega (arith, low, high)) | inr less ↦ inl less ]

module _ (cs : List Change) (us : List TextUnit) where
  protected_or : (j : ℕ) → IsProtected cs us j ⊎ ¬ IsProtected cs us j
  protected_or j = by (slice_get (flags cs (map site us)) j) refl
    where
      by : (o : Option Bool) → slice_get (flags cs (map site us)) j ≡ o → IsProtected cs us j ⊎ ¬ IsProtected cs us j
      by None is = inr (λ p. let e : ◌≡◌ {A = Option Bool} None (Some true) = sym is ∙ ((flags_tell cs us).1 j).1 p in cc)
      by (Some true) is = inl (((flags_tell cs us).1 j).0 is)
      by (Some false) is = inr (λ p. true≢false (sym (same_Some false true (sym is ∙ ((flags_tell cs us).1 j).1 p))))

  abbrev HasHolder : ℕ → Type 0
  HasHolder i = (j : ℕ) × LiesInside us j i × IsProtected cs us j

  holder_below : (i n : ℕ) → HasHolder i ⊎ ((j : ℕ) → j < n → LiesInside us j i → ¬ IsProtected cs us j)
  holder_below i zero = inr (λ j low. let e : ⊥ = omega (arith, low) in absurd e)
  holder_below i (suc n) = by (holder_below i n) (lies_or us n i) (protected_or n)
    where
      by : HasHolder i ⊎ ((j : ℕ) → j < n → LiesInside us j i → ¬ IsProtected cs us j) → LiesInside us n i ⊎ ¬ LiesInside us n i
          → IsProtected cs us n ⊎ ¬ IsProtected cs us n
          → HasHolder i ⊎ ((j : ℕ) → j < suc n → LiesInside us j i → ¬ IsProtected cs us j)
      by (inl has) lies here = inl has
      by (inr none) (inl lies) (inl here) = inl (n, lies, here)
      by (inr none) (inr not) here = inr (λ j low lies. at j low (λ is. absurd (not (subst (λ x. LiesInside us x i) is lies))) lies)
        where
          at : (j : ℕ) → j < suc n → (j ≡ n → ¬ IsProtected cs us j) → LiesInside us j i → ¬ IsProtected cs us j
          at j low last lies = elim (least j n low) [ inl less ↦ none j less lies | inr is ↦ last is ]
      by (inr none) lies (inr not) = inr
          (λ j low inside. elim
          (least j n low) [ inl less ↦ none j less inside | inr is ↦ subst (λ x. ¬ IsProtected cs us x) (sym is) not ])

  outer_or : (i : ℕ) → IsProtected cs us i → IsOuter cs us i ⊎ HasHolder i
  outer_or i here = elim (holder_below i i) [ inl has ↦ inr has | inr none ↦ inl (here, (λ j lies. none j lies.later lies)) ]

  is_outer_or : (i : ℕ) → IsOuter cs us i ⊎ ¬ IsOuter cs us i
  is_outer_or i = elim (protected_or i) [
    | inr not ↦ inr (λ o. not o.0)
    | inl here ↦ elim (outer_or i here) [ inl outer ↦ inl outer | inr has ↦ inr (λ o. o.1 has.0 has.1 has.2) ]
  ]

  -- all protected units are these and what lies in them
  abbrev pub IsHeld : ℕ → Type 0
  IsHeld i = (j : ℕ) × LiesInside us j i × IsOuter cs us j

  outer_above : (n i : ℕ) → i < n → IsProtected cs us i → IsOuter cs us i ⊎ IsHeld i
  outer_above zero i low here = let e : ⊥ = omega (arith, low) in absurd e
  outer_above (suc n) i low here = by (outer_or i here) (λ j less p. outer_above n j (omega (arith, low, less)) p)
    where
      by : IsOuter cs us i ⊎ HasHolder i → ((j : ℕ) → j < i → IsProtected cs us j → IsOuter cs us j ⊎ IsHeld j) → IsOuter cs us i ⊎ IsHeld i
      by (inl outer) more = inl outer
      by (inr (j, lies, p)) more = elim
          (more j lies.later p) [
            | inl outer ↦ inr (j, lies, outer)
            | inr held ↦ inr
                (held.0, inside_inside us held.0 j i held.1 lies, held.2)
          ]

  pub outer_or_held : (i : ℕ) → IsProtected cs us i → IsOuter cs us i ⊎ IsHeld i
  outer_or_held i here = outer_above (suc i) i (omega arith) here

  -- ---- of pairs those

  pub outer_of : (ps : List (ℕ × ℕ)) → (os : List (ℕ × ℕ)) × AreOuterOf cs us ps os
  outer_of [] = ([], refl)
  outer_of (p ∷ ps) = let more = outer_of ps in elim
      (is_outer_or p.0) [ inl outer ↦ (p ∷ more.0, inl (outer, more.0, refl, more.1)) | inr not ↦ (more.0, inr (not, more.1)) ]

  pub of_outer : (ps os : List (ℕ × ℕ)) → AreOuterOf cs us ps os → (p : ℕ × ℕ) → IsIn p os → IsIn p ps × IsOuter cs us p.0
  of_outer [] os is p there = absurd (subst (IsIn p) is there)
  of_outer (q ∷ ps) os (inl (outer, more, is, rest)) p there = by (subst (IsIn p) is there) (λ h. of_outer ps more rest p h)
    where
      by : IsIn p (q ∷ more) → (IsIn p more → IsIn p ps × IsOuter cs us p.0) → IsIn p (q ∷ ps) × IsOuter cs us p.0
      by (inl same) go = (inl same, subst (λ (x : ℕ × ℕ). IsOuter cs us x.0) same outer)
      by (inr later) go = let r = go later in (inr r.0, r.1)
  of_outer (q ∷ ps) os (inr (not, rest)) p there = let r = of_outer ps os rest p there in (inr r.0, r.1)

  pub outer_in : (ps os : List (ℕ × ℕ)) → AreOuterOf cs us ps os → (p : ℕ × ℕ) → IsIn p ps → IsOuter cs us p.0 → IsIn p os
  outer_in [] os is p there outer = absurd there
  outer_in (q ∷ ps) os (inl (is_outer, more, is, rest)) p (inl same) outer = subst (IsIn p) (sym is) (inl same)
  outer_in (q ∷ ps) os (inl (is_outer, more, is, rest)) p (inr later) outer =
      subst (IsIn p) (sym is) (inr (outer_in ps more rest p later outer))
  outer_in (q ∷ ps) os (inr (not, rest)) p (inl same) outer = absurd (not (subst (λ (x : ℕ × ℕ). IsOuter cs us x.0) (sym same) outer))
  outer_in (q ∷ ps) os (inr (not, rest)) p (inr later) outer = outer_in ps os rest p later outer

  lower : (i k j l : ℕ) (ps : List (ℕ × ℕ)) → i < j → k < l → RiseFrom j l ps → RiseFrom i k ps
  lower i k j l [] a b rise = tt
  lower i k j l (p ∷ ps) a b rise = (omega (arith, a, rise.0), omega (arith, b, rise.1), rise.2)

  outer_from : (i k : ℕ) (ps os : List (ℕ × ℕ)) → AreOuterOf cs us ps os → RiseFrom i k ps → RiseFrom i k os
  outer_from i k [] os is rise = subst (RiseFrom i k) (sym is) tt
  outer_from i k (p ∷ ps) os (inl (outer, more, is, rest)) rise =
      subst (RiseFrom i k) (sym is) (rise.0, rise.1, outer_from p.0 p.1 ps more rest rise.2)
  outer_from i k (p ∷ ps) os (inr (not, rest)) rise = outer_from i k ps os rest (lower i k p.0 p.1 ps rise.0 rise.1 rise.2)

  pub outer_rise : (ps os : List (ℕ × ℕ)) → AreOuterOf cs us ps os → Rise ps → Rise os
  outer_rise [] os is rise = subst Rise (sym is) tt
  outer_rise (p ∷ ps) os (inl (outer, more, is, rest)) rise = subst Rise (sym is) (outer_from p.0 p.1 ps more rest rise)
  outer_rise (p ∷ ps) os (inr (not, rest)) rise = outer_rise ps os rest (by ps rise)
    where
      by : (ps : List (ℕ × ℕ)) → RiseFrom p.0 p.1 ps → Rise ps
      by [] h = tt
      by (q ∷ qs) h = h.2

  pub outer_fit : (d e : Doc) (ps os : List (ℕ × ℕ)) → AreOuterOf cs us ps os → AllFit cs d e ps → AllFit cs d e os
  outer_fit d e [] os is fit = subst (AllFit cs d e) (sym is) tt
  outer_fit d e (p ∷ ps) os (inl (outer, more, is, rest)) fit = subst (AllFit cs d e) (sym is) (fit.0, outer_fit d e ps more rest fit.1)
  outer_fit d e (p ∷ ps) os (inr (not, rest)) fit = outer_fit d e ps os rest fit.1

pub outer_are_named : OuterAreNamed
outer_are_named cs d e os outer i = (
  (λ first. let k = of_first os i first in (of_outer cs (units d.lines) outer.all os outer.outer (i, k.0) k.1).1),
  (λ is. let k = of_first outer.all i ((outer.are.named i).1 is.0) in in_first os (i, k.0)
      (outer_in cs (units d.lines) outer.all os outer.outer (i, k.0) k.1 is)),
)

-- ---- they meet the demands

module _ (cs : List Change) (d e : Doc) (text other : List ℕ) (spells : Spells d text) (spelled : Spells e other)
    (keeps : KeepsRules (named e.lines)) (ps : List (ℕ × ℕ)) (are : ArePartners cs d e ps)
    (os : List (ℕ × ℕ)) (outer : AreOuterOf cs (units d.lines) ps os) where
  abbrev us : List TextUnit
  us = units d.lines

  abbrev ws : List TextUnit
  ws = units e.lines

  in_os : (i k : ℕ) → IsIn (i, k) ps → IsOuter cs us i → IsIn (i, k) os
  in_os i k there is = outer_in cs us ps os outer (i, k) there is

  pub outer_pairs_fit : PairsFit cs d e os
  outer_pairs_fit = (outer_rise cs us ps os outer are.fit.0, outer_fit cs us d e ps os outer are.fit.1)

  named_outer : (i : ℕ) → IsOuter cs us i → IsFirst os i
  named_outer i is = let k = of_first ps i ((are.named i).1 is.0) in in_first os (i, k.0) (in_os i k.0 k.1 is)

  pub outer_kept : AllKept cs d os
  outer_kept i here = elim (outer_or_held cs us i here) [
    | inl is ↦ inl (named_outer i is)
    | inr held ↦ inr (held.0, held.1, held.2.0, named_outer held.0 held.2)
  ]

  protected_first : (i k : ℕ) → IsIn (i, k) ps → IsProtected cs us i
  protected_first i k there = (are.named i).0 (in_first ps (i, k) there)

  pub outer_lines : NoLinesAdded cs e os
  outer_lines k w at line = elim (are.lines k w at line) [
    | inr asked ↦ inr asked
    | inl second ↦
        let i = of_second ps k second in
        let s = fits cs d e ps (i.0, k) are.fit.1 i.1 in
        let is_line : s.first.kind ≡ kinds.Line =
        s.kind ∙ ap (λ (y : TextUnit). y.kind) (same_Some s.second w (sym s.second_is ∙ at)) ∙ line in
        inl (in_second os (i.0, k) (in_os i.0 k i.1 (
          protected_first i.0 k i.1,
          (λ j lies p. no_line_inside d text spells j i.0 lies
              (ap (λ (y : TextUnit). y.kind) (same_Some lies.inner s.first (sym lies.inner_is ∙ s.first_is)) ∙ is_line)),
        )))
  ]

  -- ---- what they cover

  second_covered : (k : ℕ) → IsSecond ps k → IsCovered os ws k
  second_covered k second =
      let i = of_second ps k second in
      elim (outer_or_held cs us i.0 (protected_first i.0 k i.1)) [
        | inl is ↦ inl (in_second os (i.0, k) (in_os i.0 k i.1 is))
        | inr held ↦
            let l = of_first ps held.0 ((are.named held.0).1 held.2.0) in
            inr (
              l.0,
              stays_inside cs d e text other spells spelled keeps ps are i.0 k held.0 l.0 i.1 l.1 held.1 held.2.0,
              in_second os
                  (held.0, l.0) (in_os held.0 l.0 l.1 held.2),
            )
      ]

  covered_still : (k : ℕ) → IsCovered ps ws k → IsCovered os ws k
  covered_still k (inl second) = second_covered k second
  covered_still k (inr (j, lies, second)) = elim (second_covered j second) [
    | inl here ↦ inr (j, lies, here)
    | inr more ↦ inr (more.0, inside_inside ws more.0 j k more.1 lies, more.2)
  ]

  sub_second : (k : ℕ) → IsSecond os k → IsSecond ps k
  sub_second k second = let i = of_second os k second in in_second ps (i.0, k) (of_outer cs us ps os outer (i.0, k) i.1).0

  covered_before : (k : ℕ) → IsCovered os ws k → IsCovered ps ws k
  covered_before k (inl second) = inl (sub_second k second)
  covered_before k (inr (j, lies, second)) = inr (j, lies, sub_second j second)

  new_still : (k : ℕ) (xs new : List TextUnit) → AreNewFrom ps ws k xs new → AreNewFrom os ws k xs new
  new_still k [] new is = is
  new_still k (x ∷ xs) new (inl (here, more, is, rest)) =
      inl ((here.0, (λ covered. here.1 (covered_before k covered))), more, is, new_still (k + 1) xs more rest)
  new_still k (x ∷ xs) new (inr (not, rest)) =
      inr ((λ new. not (new.0, (λ covered. new.1 (covered_still k covered)))), new_still (k + 1) xs new rest)

  pub outer_comments : NoCommentsAdded cs e os
  outer_comments =
      let c = are.comments in
      record {
        written = c.written;
        written_are = c.written_are;
        new = c.new;
        new_are = new_still 0 ws c.new c.new_are;
        asked = c.asked;
        once = c.once;
      }
