-- The pairs that are left, and whether all fit.
use Rattle.std.proofs.Common.{◌≡◌, ◌⊎◌, inl, inr, ℕ, ◌+◌, ◌<◌, ◌≤◌, Bool, true, false, List, [], ◌∷◌, ◌++◌, length, drop, get_or, refl, sym, subst, ◌∙◌, true≢false, arith}
use Rattle.std.specs.Prelude.{◌↔◌, IsTrue}
use Rattle.toml_tree.specs.Spells.{EachIs}
use Rattle.toml_tree.specs.declared.profile.Profile.{Profile}
use Rattle.toml_edits.specs.Edits.{Change}
use Rattle.toml_units.specs.Lined.{LinedUnit}
use Rattle.toml_checker.specs.declared.walk.Walk.{Walk}
use Rattle.toml_checker.specs.Marks.{IsSet}
use Rattle.toml_checker.specs.Pairs.{IsFirst, IsSecond, Rise, RiseFrom}
use Rattle.toml_checker.specs.Traces.{Met, StandsIn, paired_of}
use Rattle.toml_checker.specs.Walking.{AllFitIn, AreMarked, IsOn, IsPairedAt, MayBeAll, NextFits, PairTold, PairsTold}
use Rattle.toml_checker.proofs.CarriedSoFar.{dropped, none_left}

-- pairs that rise from these numbers on
abbrev pub RiseAt : ℕ → ℕ → List (ℕ × ℕ) → Type 0
RiseAt i k [] = Unit {0}
RiseAt i k (p ∷ ps) = (i ≤ p.0) × (k ≤ p.1) × RiseFrom p.0 p.1 ps

from_none : (ps : List (ℕ × ℕ)) → Rise ps → RiseAt 0 0 ps
from_none [] h = tt
from_none (p ∷ ps) h = (omega arith, omega arith, h)

to_all : (ps : List (ℕ × ℕ)) → RiseAt 0 0 ps → Rise ps
to_all [] h = tt
to_all (p ∷ ps) h = h.2

behind : (i k : ℕ) (ps : List (ℕ × ℕ)) → RiseFrom i k ps → RiseAt (i + 1) (k + 1) ps
behind i k [] h = tt
behind i k (p ∷ ps) h = (omega (arith, h.0), omega (arith, h.1), h.2)

before : (i k : ℕ) (ps : List (ℕ × ℕ)) → RiseAt (i + 1) (k + 1) ps → RiseFrom i k ps
before i k [] h = tt
before i k (p ∷ ps) h = (omega (arith, h.0), omega (arith, h.1), h.2)

-- of units that may be all of two texts
module _ (cs : List Change) (text : List ℕ) (xs : List LinedUnit) (other : List ℕ) (ys : List LinedUnit) where
  abbrev pub RestFits : ℕ → ℕ → List (ℕ × ℕ) → Type 0
  RestFits i k ps = RiseAt i k ps × EachIs (λ p. StandsIn cs text xs other ys p.0 p.1) ps

  -- all fit exactly where those that are left do, which rise from the units walked past on
  pub record Remains (all : List (ℕ × ℕ)) (i k : ℕ) (rest : List (ℕ × ℕ)) : Type 0 where
    pub falls : AllFitIn cs text xs other ys all → RestFits i k rest
    pub rises : RestFits i k rest → AllFitIn cs text xs other ys all

  pub start : (ps : List (ℕ × ℕ)) → Remains ps 0 0 ps
  start ps = record {
    falls = (λ h. (from_none ps h.0, h.1));
    rises = (λ h. (to_all ps h.0, h.1));
  }

  next : (all : List (ℕ × ℕ)) (i k : ℕ) (p : ℕ × ℕ) (rest : List (ℕ × ℕ)) → NextFits cs text xs other ys i k p → Remains all i k (p ∷ rest) → Remains all (p.0 + 1) (p.1 + 1) rest
  next all i k p rest fits h = record {
    falls = (λ whole. let r = h.falls whole in (behind p.0 p.1 rest r.0.2, r.1.1));
    rises = (λ r. h.rises ((fits.first, fits.second, before p.0 p.1 rest r.0), (fits.stands, r.1)));
  }

  pub go_on : (ps : List (ℕ × ℕ)) (n i k i_next k_next : ℕ) (p : ℕ × ℕ) → n < length ps → p ≡ get_or ps n p → NextFits cs text xs other ys i k p → i_next ≡ p.0 + 1 → k_next ≡ p.1 + 1 → Remains ps i k (drop n ps) → Remains ps i_next k_next (drop (n + 1) ps)
  go_on ps n i k i_next k_next p low is fits first second h =
      subst (λ (x : ℕ). Remains ps x k_next (drop (n + 1) ps)) (sym first)
      (subst (λ (x : ℕ). Remains ps (p.0 + 1) x (drop (n + 1) ps)) (sym second)
      (next ps i k p (drop (n + 1) ps) fits (subst (Remains ps i k) (dropped ps n p low is) h)))

  pub give_up : (ps : List (ℕ × ℕ)) (n i k : ℕ) (p : ℕ × ℕ) → n < length ps → p ≡ get_or ps n p → ¬ NextFits cs text xs other ys i k p → Remains ps i k (drop n ps) → IsTrue false ↔ AllFitIn cs text xs other ys ps
  give_up ps n i k p low is misfit h = (
    (λ t. absurd (true≢false (sym t))),
    (λ whole. let r = subst (RestFits i k) (dropped ps n p low is) (h.falls whole) in absurd (misfit (record { first = r.0.0; second = r.0.1; stands = r.1.0 }))),
  )

  pub done : (ps : List (ℕ × ℕ)) (n i k : ℕ) → length ps ≤ n → Remains ps i k (drop n ps) → IsTrue true ↔ AllFitIn cs text xs other ys ps
  done ps n i k past h = (
    (λ t. h.rises (subst (RestFits i k) (sym (none_left ps n past)) (tt, tt))),
    (λ whole. refl),
  )

-- the units of the pairs are those that are marked already, and those of the pairs that are left: of one text,
abbrev pub MarkSo : (List (ℕ × ℕ) → ℕ → Type 0) → List (ℕ × ℕ) → List (ℕ × ℕ) → List Met → Type 0
MarkSo IsOne ps rest ms = (i : ℕ) → (IsSet (paired_of ms) i ⊎ IsOne rest i) ↔ IsOne ps i

-- and of both
pub record MarkedSo (ps : List (ℕ × ℕ)) (rest : List (ℕ × ℕ)) (ms ns : List Met) : Type 0 where
  pub first : MarkSo IsFirst ps rest ms
  pub second : MarkSo IsSecond ps rest ns

none_set : (i : ℕ) → IsSet [] i → ⊥
none_set i s = cc

-- one text: no pair was met, one pair more, all pairs
module _ (IsOne : List (ℕ × ℕ) → ℕ → Type 0) (ps : List (ℕ × ℕ)) where
  mark_none : MarkSo IsOne ps ps []
  mark_none i = ((λ w. elim w [ inl s ↦ absurd (none_set i s) | inr f ↦ f ]), (λ f. inr f))

  mark_one : (n : ℕ) (left rest : List (ℕ × ℕ)) (ms more : List Met) → ((i : ℕ) → IsOne left i ↔ ((n ≡ i) ⊎ IsOne rest i)) → IsPairedAt n ms more → MarkSo IsOne ps left ms → MarkSo IsOne ps rest more
  mark_one n left rest ms more next at h i = let s = at.marks i in (
    (λ w. (h i).0 (elim w [ inl t ↦ elim (s.0 t) [ inl u ↦ inl u | inr e ↦ inr ((next i).1 (inl e)) ] | inr f ↦ inr ((next i).1 (inr f)) ])),
    (λ f. elim ((h i).1 f) [ inl u ↦ inl (s.1 (inl u)) | inr g ↦ elim ((next i).0 g) [ inl e ↦ inl (s.1 (inr e)) | inr f ↦ inr f ] ]),
  )

  mark_all : (ms : List Met) → ((i : ℕ) → ¬ IsOne [] i) → MarkSo IsOne ps [] ms → (i : ℕ) → IsSet (paired_of ms) i ↔ IsOne ps i
  mark_all ms none h i = ((λ s. (h i).0 (inl s)), (λ f. elim ((h i).1 f) [ inl s ↦ s | inr g ↦ absurd (none i g) ]))

marked_none : (ps : List (ℕ × ℕ)) → MarkedSo ps ps [] []
marked_none ps = record { first = mark_none IsFirst ps; second = mark_none IsSecond ps }

marked_one : (ps rest : List (ℕ × ℕ)) (p : ℕ × ℕ) (ms ns more also : List Met) → IsPairedAt p.0 ms more → IsPairedAt p.1 ns also → MarkedSo ps (p ∷ rest) ms ns → MarkedSo ps rest more also
marked_one ps rest p ms ns more also a b h = record {
  first = mark_one IsFirst ps p.0 (p ∷ rest) rest ms more (λ i. ((λ f. f), (λ f. f))) a h.first;
  second = mark_one IsSecond ps p.1 (p ∷ rest) rest ns also (λ k. ((λ f. f), (λ f. f))) b h.second;
}

marked_all : (ps : List (ℕ × ℕ)) (ms ns : List Met) → MarkedSo ps [] ms ns → AreMarked ps ms ns
marked_all ps ms ns h = record { first = mark_all IsFirst ps ms (λ i f. f) h.first; second = mark_all IsSecond ps ns (λ k f. f) h.second }

-- ---- both texts, gone from pair to pair

pub record PairsSo (profile : Profile) (cs : List Change) (old : Walk) (ps rest : List (ℕ × ℕ)) (now : Walk) : Type 0 where
  pub ms : List Met
  pub ns : List Met
  pub on : IsOn profile cs now ms ns
  pub first_text : now.one.text ≡ old.one.text
  pub second_text : now.other.text ≡ old.other.text
  pub remains : (xs ys : List LinedUnit) → MayBeAll now ms ns xs ys → Remains cs old.one.text.now xs old.other.text.now ys ps (length ms) (length ns) rest
  pub marked : (xs ys : List LinedUnit) → MayBeAll now ms ns xs ys → MarkedSo ps rest ms ns

module _ (profile : Profile) (cs : List Change) (old : Walk) (ps : List (ℕ × ℕ)) where
  pub pairs_none : IsOn profile cs old [] [] → PairsSo profile cs old ps ps old
  pairs_none on = record {
    ms = [];
    ns = [];
    on = on;
    first_text = refl;
    second_text = refl;
    remains = λ xs ys m. start cs old.one.text.now xs old.other.text.now ys ps;
    marked = λ xs ys m. marked_none ps;
  }

  module _ (now : Walk) (n : ℕ) (p : ℕ × ℕ) (low : n < length ps) (is : p ≡ get_or ps n p) (h : PairsSo profile cs old ps (drop n ps) now) where
    told_as : (new : Walk) (b : Bool) (t : PairTold profile cs now h.ms h.ns p new b) (xs ys : List LinedUnit) → MayBeAll new (h.ms ++ t.one) (h.ns ++ t.other) xs ys → IsTrue b ↔ NextFits cs old.one.text.now xs old.other.text.now ys (length h.ms) (length h.ns) p
    told_as new b t xs ys m =
        subst (λ o. IsTrue b ↔ NextFits cs o.now xs old.other.text.now ys (length h.ms) (length h.ns) p) h.first_text
        (subst (λ o. IsTrue b ↔ NextFits cs now.one.text.now xs o.now ys (length h.ms) (length h.ns) p) h.second_text (t.told xs ys m))

    pub pairs_one : (new : Walk) → PairTold profile cs now h.ms h.ns p new true → PairsSo profile cs old ps (drop (n + 1) ps) new
    pairs_one new t = record {
      ms = h.ms ++ t.one;
      ns = h.ns ++ t.other;
      on = t.on;
      first_text = t.first_text ∙ h.first_text;
      second_text = t.second_text ∙ h.second_text;
      remains = λ xs ys m. let k = t.marked xs ys m refl in
          go_on cs old.one.text.now xs old.other.text.now ys ps n (length h.ms) (length h.ns) (length (h.ms ++ t.one)) (length (h.ns ++ t.other)) p low is ((told_as new true t xs ys m).0 refl) k.0.long k.1.long (h.remains xs ys (t.back xs ys m));
      marked = λ xs ys m. let k = t.marked xs ys m refl in
          marked_one ps (drop (n + 1) ps) p h.ms h.ns (h.ms ++ t.one) (h.ns ++ t.other) k.0 k.1 (subst (λ rest. MarkedSo ps rest h.ms h.ns) (dropped ps n p low is) (h.marked xs ys (t.back xs ys m)));
    }

    pub pairs_off : (new : Walk) → PairTold profile cs now h.ms h.ns p new false → PairsTold profile cs old ps new false
    pairs_off new t = record {
      ms = h.ms ++ t.one;
      ns = h.ns ++ t.other;
      on = t.on;
      first_text = t.first_text ∙ h.first_text;
      second_text = t.second_text ∙ h.second_text;
      told = λ xs ys m. give_up cs old.one.text.now xs old.other.text.now ys ps n (length h.ms) (length h.ns) p low is (λ f. true≢false (sym ((told_as new false t xs ys m).1 f))) (h.remains xs ys (t.back xs ys m));
      marked = λ xs ys m e. absurd (true≢false (sym e));
    }

  pub pairs_done : (now : Walk) (n : ℕ) → length ps ≤ n → PairsSo profile cs old ps (drop n ps) now → PairsTold profile cs old ps now true
  pairs_done now n past h = record {
    ms = h.ms;
    ns = h.ns;
    on = h.on;
    first_text = h.first_text;
    second_text = h.second_text;
    told = λ xs ys m. done cs old.one.text.now xs old.other.text.now ys ps n (length h.ms) (length h.ns) past (h.remains xs ys m);
    marked = λ xs ys m e. marked_all ps h.ms h.ns (subst (λ rest. MarkedSo ps rest h.ms h.ns) (none_left ps n past) (h.marked xs ys m));
  }
