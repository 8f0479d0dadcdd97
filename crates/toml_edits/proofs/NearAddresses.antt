-- Addresses that edits open are gathered edit by edit, and what is hidden beside the ways to them is hidden from no edit.
use Rattle.std.proofs.Common.{◌≡◌, ◌⊎◌, inl, inr, ℕ, zero, suc, ◌+◌, ◌<◌, ◌≤◌, List, [], ◌∷◌, ◌++◌, length, take, drop, take-append-drop, get_or, map, Bool, true, false, true≢false, ◌&&◌, cond, refl, sym, ap, subst, ◌∙◌, append-nil, arith}
use Rattle.std.specs.Prelude.{All}
use Rattle.std.proofs.lemmas.Bool.{false_from_ne_true}
use Rattle.std.proofs.lemmas.List.{take_more, take_all, take-append-le, length-append}
use Rattle.std.proofs.lemmas.List.Elements.{All-nil, All-cons, All-head, All-tail, All-push}
use Rattle.toml_names.specs.declared.model.address.Step.{Step}
use Rattle.toml_names.specs.declared.model.address.Step.TheVariants.{Name, Index}
use Rattle.toml_names.specs.model.Addresses.{Address, child, element, same_step}
use Rattle.toml_names.specs.model.Hidden.{Cover, is_off, is_off_all, is_off_way}
use Rattle.toml_names.specs.mentions.Rules.{max_steps}
use Rattle.toml_names.proofs.Proved.{elements_are_near, fronts_are_near, ways_are_near}
use Rattle.toml_edits.specs.declared.edit.Edit.{Edit}
use Rattle.toml_edits.specs.Edits.{Change, set, insert, rename, remove, new_section, new_element, change, place}
use Rattle.toml_edits.specs.Near.{AreNear, HidesBeside, IsBeside, IsElementIn, IsNear, IsRenamed, Opens, OpensMore, Shifts, way_to}
use Rattle.toml_edits.proofs.LastStep.{no_root, same_last, same_parent}
use Rattle.toml_edits.proofs.Lists.{map_push}

-- ---- beside a way

-- what is hidden beside a way is so beside a longer one
longer_off : (q r a : Address) → is_off_way q a ≡ true → is_off_way (q ++ r) a ≡ true
longer_off [] r a off = absurd (true≢false (sym off))
longer_off (s ∷ q) r [] off = off
longer_off (s ∷ q) r (t ∷ a) off = by (same_step s t) (longer_off q r a) off
  where
    by : (same : Bool) → (is_off_way q a ≡ true → is_off_way (q ++ r) a ≡ true) → cond same (is_off_way q a) (is_off t a) ≡ true → cond same (is_off_way (q ++ r) a) (is_off t a) ≡ true
    by true next is = next is
    by false next is = is

-- what is hidden beside the first steps of a way is so beside the whole
first_off : (n : ℕ) (p a : Address) → is_off_way (take n p) a ≡ true → is_off_way p a ≡ true
first_off n p a off = subst (λ w. is_off_way w a ≡ true) (take-append-drop n p) (longer_off (take n p) (drop n p) a off)

-- what is not hidden beside a way is not hidden beside its first steps
first_shown : (n : ℕ) (p a : Address) → is_off_way p a ≡ false → is_off_way (take n p) a ≡ false
first_shown n p a low = false_from_ne_true (is_off_way (take n p) a) (λ off. true≢false (sym (first_off n p a off) ∙ low))

-- what is hidden beside as many first steps of a way is so beside those of a longer one
longer_first_off : (n : ℕ) (q r a : Address) → is_off_way (take n q) a ≡ true → is_off_way (take n (q ++ r)) a ≡ true
longer_first_off zero q r a off = off
longer_first_off (suc n) [] r a off = absurd (true≢false (sym off))
longer_first_off (suc n) (s ∷ q) r [] off = off
longer_first_off (suc n) (s ∷ q) r (t ∷ a) off = by (same_step s t) (longer_first_off n q r a) off
  where
    by : (same : Bool) → (is_off_way (take n q) a ≡ true → is_off_way (take n (q ++ r)) a ≡ true) → cond same (is_off_way (take n q) a) (is_off t a) ≡ true
        → cond same (is_off_way (take n (q ++ r)) a) (is_off t a) ≡ true
    by true next is = next is
    by false next is = is

-- the way to a member of what is at the end of a long way is that way, and else the whole address
pub way_to_long : (q : Address) (s : Step) → max_steps < length q → way_to (q ++ s ∷ []) ≡ way_to q
way_to_long q s long = take-append-le (suc max_steps) q (s ∷ []) (omega arith)

pub way_to_short : (q : Address) (s : Step) → length q ≤ max_steps → way_to (q ++ s ∷ []) ≡ q ++ s ∷ []
way_to_short q s short = take_all (suc max_steps) (q ++ s ∷ []) (rw (length-append q (s ∷ [])) (omega arith))

-- ---- nothing is hidden from an edit that it opens, looks at or makes

opens_place : (c : Change) → Opens c (place c)
opens_place (set at value) = refl
opens_place (insert at value) = inl refl
opens_place (rename at to) = inl refl
opens_place (remove at) = inl refl
opens_place (new_section at) = refl
opens_place (new_element at) = refl

-- a cover that hides nothing but what is beside the ways to what the edit opens
module _ (h : Cover) (c : Change) (hides : (a : Address) → h a ≡ true → IsBeside (Opens c) a) where
  shown : (a p : Address) → Opens c p → is_off_way p a ≡ false → h a ≡ false
  shown a p opens low = false_from_ne_true (h a) (λ high. true≢false (sym (hides a high p opens) ∙ first_shown (suc max_steps) p a low))

  near_edit : IsNear h c
  near_edit = record {
    fronts = λ q r is. shown q (place c) (opens_place c) (ap (λ w. is_off_way w q) is ∙ fronts_are_near q r);
    elements = λ q r i is. shown (element q i) (place c) (opens_place c) (ap (λ w. is_off_way w (element q i)) is ∙ elements_are_near q r i);
    opened = λ p r opens. shown (p ++ r) p opens (ways_are_near p r);
  }

are_near : (h : Cover) (cs : List Change) → ((a : Address) → h a ≡ true → All (λ c. IsBeside (Opens c) a) cs) → AreNear h cs
are_near h [] hides = tt
are_near h (c ∷ cs) hides = (near_edit h c (λ a high. All-head (λ d. IsBeside (Opens d) a) c cs (hides a high)), are_near h cs (λ a high. All-tail (λ d. IsBeside (Opens d) a) c cs (hides a high)))

pub all_near : (h : Cover) (cs : List Change) → HidesBeside h cs → AreNear h cs
all_near h cs beside = are_near h cs (λ a high. ((beside a).0 high).1)

-- ---- one address more

-- with the address no more is hidden, and nothing on the way to it
abbrev pub Adds : Address → Cover → Cover → Type 0
Adds way old new = (a : Address) → new a ≡ (old a && is_off_way way a)

both : (b c : Bool) → (b && c) ≡ true → (b ≡ true) × (c ≡ true)
both true c is = (refl, is)
both false c is = absurd (true≢false (sym is))

-- one of the addresses that are told, beside whose way is hidden what is beside the ways to all
one_opened : (Told : Address → Type 0) (old new : Cover) (way : Address) → Told way → ((p : Address) → Told p → (r : Address) × (p ≡ way ++ r)) → Adds (way_to way) old new → OpensMore Told old new
one_opened Told old new way told only less a = (λ high. by (both (old a) (is_off_way (way_to way) a) (sym (less a) ∙ high)), back)
  where
    by : (old a ≡ true) × (is_off_way (way_to way) a ≡ true) → (old a ≡ true) × IsBeside Told a
    by (was, off) = (was, λ p is. let w = only p is in ap (λ q. is_off_way (way_to q) a) w.1 ∙ longer_first_off (suc max_steps) way w.0 a off)

    back : (old a ≡ true) × IsBeside Told a → new a ≡ true
    back (was, beside) = less a ∙ ap (λ b. b && is_off_way (way_to way) a) was ∙ beside way told

pub both_opened : (One Two : Address → Type 0) (old mid new : Cover) → OpensMore One old mid → OpensMore Two mid new → OpensMore (λ p. One p ⊎ Two p) old new
both_opened One Two old mid new first second a = (λ high. into ((second a).0 high), back)
  where
    into : (mid a ≡ true) × IsBeside Two a → (old a ≡ true) × IsBeside (λ p. One p ⊎ Two p) a
    into (was, two) = let w = (first a).0 was in (w.0, λ p told. which p w.1 told)
      where
        which : (p : Address) → IsBeside One a → One p ⊎ Two p → is_off_way (way_to p) a ≡ true
        which p one (inl is) = one p is
        which p one (inr is) = two p is

    back : (old a ≡ true) × IsBeside (λ p. One p ⊎ Two p) a → new a ≡ true
    back (was, beside) = (second a).1 ((first a).1 (was, λ p is. beside p (inl is)), λ p is. beside p (inr is))

-- ---- the addresses of an edit

pub place_opened : (at way : Address) (old new : Cover) → way ≡ way_to at → Adds way old new → OpensMore (λ p. p ≡ at) old new
place_opened at way old new is less = one_opened (λ p. p ≡ at) old new at refl (λ p same. ([], same ∙ sym (append-nil at))) (subst (λ w. Adds w old new) is less)

pub name_opened : (at q : Address) (m n : List ℕ) (old new : Cover) → at ≡ child q m → Adds (way_to (child q n)) old new → OpensMore (IsRenamed at n) old new
name_opened at q m n old new is = one_opened (IsRenamed at n) old new (child q n) (q, m, is, refl) only
  where
    only : (p : Address) → IsRenamed at n p → (r : Address) × (p ≡ child q n ++ r)
    only p (o, k, e, same) = ([], same ∙ ap (λ a. child a n) (same_parent o q (Name k) (Name m) (sym e ∙ is)) ∙ sym (append-nil (child q n)))

pub array_opened : (at q way : Address) (i : ℕ) (old new : Cover) → at ≡ element q i → way ≡ way_to q → Adds way old new → OpensMore (Shifts at) old new
array_opened at q way i old new is cut less = one_opened (Shifts at) old new q (inr (i, is)) only (subst (λ w. Adds w old new) cut less)
  where
    only : (p : Address) → Shifts at p → (r : Address) × (p ≡ q ++ r)
    only p (inl e) = (Index i ∷ [], e ∙ is)
    only p (inr (j, e)) = ([], same_parent p q (Index j) (Index i) (sym e ∙ is) ∙ sym (append-nil q))

-- no array of which the address is an element
module _ (at : Address) (old new : Cover) (none : (p : Address) → ¬ IsElementIn p at) where
  pub alone_opened : OpensMore (λ p. p ≡ at) old new → OpensMore (Shifts at) old new
  alone_opened more a = (λ high. let w = (more a).0 high in (w.0, by w.1), λ has. (more a).1 (has.0, λ p is. has.1 p (inl is)))
    where
      by : IsBeside (λ p. p ≡ at) a → IsBeside (Shifts at) a
      by beside p (inl is) = beside p is
      by beside p (inr is) = absurd (none p is)

pub member_opened : (at q : Address) (n : List ℕ) (old new : Cover) → at ≡ child q n → OpensMore (λ p. p ≡ at) old new → OpensMore (Shifts at) old new
member_opened at q n old new is = alone_opened at old new (λ p w. other p w.0 (same_last q p (Name n) (Index w.0) (sym is ∙ w.1)))
  where
    other : (p : Address) (i : ℕ) → ¬ (Name n ≡ Index i)
    other p i same = cc

pub root_opened : (at : Address) (old new : Cover) → length at ≡ 0 → OpensMore (λ p. p ≡ at) old new → OpensMore (Shifts at) old new
root_opened [] old new is = alone_opened [] old new (λ p w. no_root p (Index w.0) (sym w.1))
root_opened (s ∷ at) old new is = absurd (positive (length at) is)
  where
    positive : (n : ℕ) → ¬ (suc n ≡ 0)
    positive n is = cc

-- ---- edit by edit

-- edits whose addresses are gathered
abbrev pub AreGathered : List Edit → ℕ → Cover → Type 0
AreGathered es i h = HidesBeside h (map change (take i es))

pub none_gathered : (es : List Edit) (h : Cover) → ((a : Address) → h a ≡ is_off_all a) → AreGathered es 0 h
none_gathered es h is a = (λ high. (sym (is a) ∙ high, All-nil (λ c. IsBeside (Opens c) a)), λ has. is a ∙ has.0)

all_but_last : (P : Change → Type 0) (cs : List Change) (c : Change) → All P (cs ++ c ∷ []) → All P cs × P c
all_but_last P [] c all = (All-nil P, All-head P c [] all)
all_but_last P (d ∷ cs) c all = let w = all_but_last P cs c (All-tail P d (cs ++ c ∷ []) all) in (All-cons P d cs (All-head P d (cs ++ c ∷ []) all) w.0, w.1)

one_more : (s t : Cover) (cs : List Change) (c : Change) → OpensMore (Opens c) s t → HidesBeside s cs → HidesBeside t (cs ++ c ∷ [])
one_more s t cs c more before a = (λ high. into ((more a).0 high), back)
  where
    into : (s a ≡ true) × IsBeside (Opens c) a → (is_off_all a ≡ true) × All (λ d. IsBeside (Opens d) a) (cs ++ c ∷ [])
    into (was, beside) = let w = (before a).0 was in (w.0, All-push (λ d. IsBeside (Opens d) a) cs c w.1 beside)

    back : (is_off_all a ≡ true) × All (λ d. IsBeside (Opens d) a) (cs ++ c ∷ []) → t a ≡ true
    back (off, all) = let w = all_but_last (λ d. IsBeside (Opens d) a) cs c all in (more a).1 ((before a).1 (off, w.0), w.1)

pub gathered_more : (es : List Edit) (i : ℕ) (e : Edit) → i < length es → get_or es i e ≡ e → (s t : Cover) → OpensMore (Opens (change e)) s t → AreGathered es i s → AreGathered es (i + 1) t
gathered_more es i e low is s t more before =
    let next : take (i + 1) es ≡ take i es ++ e ∷ [] = take_more es i e low ∙ ap (λ (y : Edit). take i es ++ y ∷ []) is in
    subst (HidesBeside t) (sym (ap (map change) next ∙ map_push (take i es) e)) (one_more s t (map change (take i es)) (change e) more before)

pub gathered_all : (es : List Edit) (i : ℕ) (h : Cover) → length es ≤ i → AreGathered es i h → HidesBeside h (map change es)
gathered_all es i h past are = subst (λ l. HidesBeside h (map change l)) (take_all i es past) are
