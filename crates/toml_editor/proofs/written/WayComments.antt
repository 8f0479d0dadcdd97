-- That no comment is added unasked on a way.
use Rattle.std.proofs.Common.{◌≡◌, ◌⊎◌, inl, inr, ◌<◌, ◌≤◌, ◌+◌, ℕ, Bool, true, false, cond, Option, Some, None, List, [], ◌∷◌, map, refl, sym, ap, ◌∙◌, subst, true≢false, arith}
use Rattle.std.specs.Prelude.{slice_get, Contains}
use Rattle.std.specs.List.{filter, flat_map}
use Rattle.std.specs.Str.{bytes_eq}
use Rattle.std.proofs.Math.Dec.{leb}
use Rattle.std.proofs.lemmas.Bool.{leb-true, leb-false}
use Rattle.std.proofs.lemmas.List.Sums.{sum_by-cons}
use Rattle.toml_tree.specs.Spells.{EachIs}
use Rattle.toml_tree.specs.Tree.{Doc}
use Rattle.toml_edits.specs.Edits.{Change}
use Rattle.toml_units.specs.declared.unit.UnitKind.TheVariants as kinds
use Rattle.toml_units.specs.Blocks.{end}
use Rattle.toml_units.specs.Places.{LiesInside}
use Rattle.toml_units.specs.Units.{TextUnit, units}
use Rattle.toml_checker.specs.CarriedTo.{At, IsAtOrAbove}
use Rattle.toml_checker.specs.Comments.{is_comment, texts, AreWritten, IsWritten, IsCovered, IsNewComment, AreNewFrom, times, NoCommentsAdded}
use Rattle.toml_checker.specs.Pairs.{IsSecond}
use Rattle.toml_checker.specs.Plain.{Site, site, next_line}
use Rattle.toml_editor.proofs.written.Way.{Step, both, old, new, news, Seen, seen, one_line, is_here, pairs}
use Rattle.toml_editor.proofs.written.WayFits.{Fits}

-- ---- what is covered

pub le_or : (a b : ℕ) → (a ≤ b) ⊎ (b < a)
le_or a b = by (leb a b) refl
  where
    by : (t : Bool) → leb a b ≡ t → (a ≤ b) ⊎ (b < a)
    by true is = inl (leb-true a b is)
    by false is = inr (leb-false a b is)

equal_or : (a b : ℕ) → (a ≡ b) ⊎ ¬ (a ≡ b)
equal_or a b = elim (le_or a b) [
  | inl low ↦ elim (le_or b a) [ inl high ↦ inl (omega (arith, low, high)) | inr less ↦ inr (λ is. omega (arith, is, less)) ]
  | inr less ↦ inr (λ is. omega (arith, is, less))
]

second_or : (ps : List (ℕ × ℕ)) (k : ℕ) → IsSecond ps k ⊎ ¬ IsSecond ps k
second_or [] k = inr (λ h. h)
second_or (p ∷ ps) k = by (equal_or p.1 k) (second_or ps k)
  where
    by : (p.1 ≡ k) ⊎ ¬ (p.1 ≡ k) → IsSecond ps k ⊎ ¬ IsSecond ps k → IsSecond (p ∷ ps) k ⊎ ¬ IsSecond (p ∷ ps) k
    by (inl here) rest = inl (inl here)
    by (inr not) (inl later) = inl (inr later)
    by (inr not) (inr none) = inr (λ h. elim h [ inl here ↦ not here | inr later ↦ none later ])

pub lies_or : (us : List TextUnit) (j k : ℕ) → LiesInside us j k ⊎ ¬ LiesInside us j k
lies_or us j k = by (slice_get us j) refl (slice_get us k) refl
  where
    same : (o : Option TextUnit) (x y : TextUnit) → o ≡ Some x → o ≡ Some y → x ≡ y
    same o x y a b = let e : ◌≡◌ {A = Option TextUnit} (Some x) (Some y) = sym a ∙ b in cc

    no_unit : (o : Option TextUnit) (x : TextUnit) → o ≡ None → o ≡ Some x → ⊥
    no_unit o x a b = let e : ◌≡◌ {A = Option TextUnit} None (Some x) = sym a ∙ b in cc

    within : (u w : TextUnit) → slice_get us j ≡ Some u → slice_get us k ≡ Some w → (j < k) ⊎ (k ≤ j) → (u.piece.start ≤ w.piece.start) ⊎ (w.piece.start < u.piece.start) → (end w ≤ end u) ⊎ (end u < end w)
        → LiesInside us j k ⊎ ¬ LiesInside us j k
    within u w a b (inl later) (inl first) (inl last) = inl (record { later = later; outer = u; outer_is = a; inner = w; inner_is = b; lies = (first, last) })
    within u w a b (inr less) first last = inr (λ l. omega (arith, less, l.later))
    within u w a b (inl later) (inr less) last =
        inr (λ l. let outer = same (slice_get us j) l.outer u l.outer_is a in
        let inner = same (slice_get us k) l.inner w l.inner_is b in
        let low = subst (λ (x : TextUnit). x.piece.start ≤ w.piece.start) outer (subst (λ (y : TextUnit). l.outer.piece.start ≤ y.piece.start) inner l.lies.0) in omega (arith, less, low))
    within u w a b (inl later) (inl first) (inr less) =
        inr (λ l. let outer = same (slice_get us j) l.outer u l.outer_is a in
        let inner = same (slice_get us k) l.inner w l.inner_is b in
        let low = subst (λ (x : TextUnit). end w ≤ end x) outer (subst (λ (y : TextUnit). end y ≤ end l.outer) inner l.lies.1) in omega (arith, less, low))

    swap : (k ≤ j) ⊎ (j < k) → (j < k) ⊎ (k ≤ j)
    swap (inl x) = inr x
    swap (inr x) = inl x

    by : (o : Option TextUnit) → slice_get us j ≡ o → (p : Option TextUnit) → slice_get us k ≡ p → LiesInside us j k ⊎ ¬ LiesInside us j k
    by None a p b = inr (λ l. no_unit (slice_get us j) l.outer a l.outer_is)
    by (Some u) a None b = inr (λ l. no_unit (slice_get us k) l.inner b l.inner_is)
    by (Some u) a (Some w) b = within u w a b (swap (le_or k j)) (le_or u.piece.start w.piece.start) (le_or (end w) (end u))

inside_or : (ps : List (ℕ × ℕ)) (us : List TextUnit) (k : ℕ) → ((j : ℕ) × LiesInside us j k × IsSecond ps j) ⊎ ¬ ((j : ℕ) × LiesInside us j k × IsSecond ps j)
inside_or [] us k = inr (λ h. h.2)
inside_or (p ∷ ps) us k = by (lies_or us p.1 k) (inside_or ps us k)
  where
    by : LiesInside us p.1 k ⊎ ¬ LiesInside us p.1 k → ((j : ℕ) × LiesInside us j k × IsSecond ps j) ⊎ ¬ ((j : ℕ) × LiesInside us j k × IsSecond ps j)
        → ((j : ℕ) × LiesInside us j k × IsSecond (p ∷ ps) j) ⊎ ¬ ((j : ℕ) × LiesInside us j k × IsSecond (p ∷ ps) j)
    by (inl lies) rest = inl (p.1, lies, inl refl)
    by (inr not) (inl (j, lies, second)) = inl (j, lies, inr second)
    by (inr not) (inr none) = inr (λ h. elim h.2 [ inl is ↦ not (subst (λ j. LiesInside us j k) (sym is) h.1) | inr later ↦ none (h.0, h.1, later) ])

covered_or : (ps : List (ℕ × ℕ)) (us : List TextUnit) (k : ℕ) → IsCovered ps us k ⊎ ¬ IsCovered ps us k
covered_or ps us k = by (second_or ps k) (inside_or ps us k)
  where
    by : IsSecond ps k ⊎ ¬ IsSecond ps k → ((j : ℕ) × LiesInside us j k × IsSecond ps j) ⊎ ¬ ((j : ℕ) × LiesInside us j k × IsSecond ps j) → IsCovered ps us k ⊎ ¬ IsCovered ps us k
    by (inl second) inside = inl (inl second)
    by (inr not) (inl inside) = inl (inr inside)
    by (inr not) (inr none) = inr (λ h. elim h [ inl second ↦ not second | inr inside ↦ none inside ])

-- ---- the comments that come

-- what comes on the way
abbrev pub added : List Step → List TextUnit
added [] = []
added (both u w ∷ s) = added s
added (old u ∷ s) = added s
added (new w ∷ s) = w ∷ added s

abbrev pub comments : List TextUnit → List TextUnit
comments = filter (λ (u : TextUnit). is_comment u.kind)

pub times_cons : (t x : List ℕ) (ts : List (List ℕ)) → times t (x ∷ ts) ≡ cond (bytes_eq t x) 1 0 + times t ts
times_cons t x ts = sum_by-cons (λ y. cond (bytes_eq t y) 1 0) x ts

-- one comment more takes none away
pub comment_more : (z : Bool) (w : TextUnit) (s : List TextUnit) (t : List ℕ) → times t (texts s) ≤ times t (texts (cond z (w ∷ s) s))
comment_more true w s t = let e = times_cons t w.piece.text (texts s) in omega (arith, e)
comment_more false w s t = omega arith

-- and one more on both sides keeps the bound
pub comment_on : (z : Bool) (v : TextUnit) (r s : List TextUnit) (t : List ℕ) (x : ℕ) → times t (texts r) ≤ x + times t (texts s)
    → times t (texts (cond z (v ∷ r) r)) ≤ x + times t (texts (cond z (v ∷ s) s))
comment_on true v r s t x few = let e = times_cons t v.piece.text (texts r) in let f = times_cons t v.piece.text (texts s) in omega (arith, few, e, f)
comment_on false v r s t x few = few

written_seen : (cs : List Change) (written : List (List (List ℕ))) (x w : TextUnit) → seen x ≡ seen w → IsWritten cs written w → IsWritten cs written x
written_seen [] written x w same is = absurd is
written_seen (c ∷ cs) [] x w same is = absurd is
written_seen (c ∷ cs) (ts ∷ more) x w same (inl is) =
    inl (subst (λ t. Contains ts t) (sym (ap (λ (y : Seen). y.text) same)) is.0, is.1, is.2, subst (λ a. At a (IsAtOrAbove is.1)) (sym (ap (λ (y : Seen). y.address) same)) is.3)
written_seen (c ∷ cs) (ts ∷ more) x w same (inr later) = inr (written_seen cs more x w same later)

module _ (cs : List Change) (written : List (List (List ℕ))) (before after : List (List ℕ)) (ps : List (ℕ × ℕ)) (ws : List TextUnit) where
  abbrev Asked : TextUnit → Type 0
  Asked w = (w.kind ≡ kinds.InnerComment) × IsWritten cs written w

  record News (k : ℕ) (xs : List TextUnit) (s : List Step) : Type 0 where
    new : List TextUnit
    are : AreNewFrom ps ws k xs new
    asked : EachIs Asked new
    few : (t : List ℕ) → times t (texts new) ≤ times t (texts (comments (added s)))

  -- one more that is no new comment
  not_new : (k : ℕ) (x : TextUnit) (xs : List TextUnit) (s s' : List Step) → ¬ IsNewComment ps ws k x → ((t : List ℕ) → times t (texts (comments (added s))) ≤ times t (texts (comments (added s')))) → News (k + 1) xs s → News k (x ∷ xs) s'
  not_new k x xs s s' not more n = record { new = n.new; are = inr (not, n.are); asked = n.asked; few = λ t. let a = n.few t in let b = more t in omega (arith, a, b) }

  new_of : (s : List Step) (line : Option Site) (i k a b : ℕ) → Fits cs written before after line a b s → (xs : List TextUnit) → map seen xs ≡ map seen (news s)
      → ((j : ℕ) → IsSecond (pairs cs line i k s) j → IsSecond ps j) → News k xs s
  new_of [] line i k a b fit [] is go = record { new = []; are = refl; asked = tt; few = λ t. omega arith }
  new_of [] line i k a b fit (x ∷ xs) is go = cc
  new_of (both u w ∷ s) line i k a b fit [] is go = cc
  new_of (both u w ∷ s) line i k a b fit (x ∷ xs) is go =
      let same : seen x ≡ seen w = cc in
      not_new k x xs s (both u w ∷ s) (λ new. by (is_here cs line u) refl (λ second. new.1 (inl (go k second))) (ap (λ (y : Seen). is_comment y.kind) (sym same) ∙ new.0)) (λ t. omega arith)
      (new_of s (next_line line (site u)) (i + 1) (k + 1) (a + one_line u.kind) (b + one_line w.kind) fit.1 xs (let e : map seen xs ≡ map seen (news s) = cc in e) (λ j second. go j (later (is_here cs line u) j second)))
    where
      by : (t : Bool) → is_here cs line u ≡ t → ¬ IsSecond (cond t ((i, k) ∷ pairs cs (next_line line (site u)) (i + 1) (k + 1) s) (pairs cs (next_line line (site u)) (i + 1) (k + 1) s)) k → is_comment w.kind ≡ true → ⊥
      by true here not comment = not (inl refl)
      by false here not comment = true≢false (sym comment ∙ (fit.0.lost here).1)

      later : (t : Bool) (j : ℕ) → IsSecond (pairs cs (next_line line (site u)) (i + 1) (k + 1) s) j
          → IsSecond (cond t ((i, k) ∷ pairs cs (next_line line (site u)) (i + 1) (k + 1) s) (pairs cs (next_line line (site u)) (i + 1) (k + 1) s)) j
      later true j second = inr second
      later false j second = second
  new_of (old u ∷ s) line i k a b fit xs is go =
      let n = new_of s (next_line line (site u)) (i + 1) k (a + one_line u.kind) b fit.1 xs is go in record { new = n.new; are = n.are; asked = n.asked; few = n.few }
  new_of (new w ∷ s) line i k a b fit [] is go = cc
  new_of (new w ∷ s) line i k a b fit (x ∷ xs) is go =
      let same : seen x ≡ seen w = cc in
      by (is_comment w.kind) refl (covered_or ps ws k) same
      (new_of s line i (k + 1) a (b + one_line w.kind) fit.1 xs (let e : map seen xs ≡ map seen (news s) = cc in e) go)
    where
      kind_is : seen x ≡ seen w → is_comment x.kind ≡ is_comment w.kind
      kind_is same = ap (λ (y : Seen). is_comment y.kind) same

      by : (t : Bool) → is_comment w.kind ≡ t → IsCovered ps ws k ⊎ ¬ IsCovered ps ws k → seen x ≡ seen w → News (k + 1) xs s → News k (x ∷ xs) (new w ∷ s)
      by false comment covered same n = not_new k x xs s (new w ∷ s) (λ new. true≢false (sym new.0 ∙ kind_is same ∙ comment)) (comment_more (is_comment w.kind) w (comments (added s))) n
      by true comment (inl covered) same n = not_new k x xs s (new w ∷ s) (λ new. new.1 covered) (comment_more (is_comment w.kind) w (comments (added s))) n
      by true comment (inr not) same n =
          let asked = fit.0.comment comment in
          record {
            new = x ∷ n.new;
            are = inl ((kind_is same ∙ comment, not), n.new, refl, n.are);
            asked = ((ap (λ (y : Seen). y.kind) same ∙ asked.0, written_seen cs written x w same asked.1), n.asked);
            few = λ t.
                let e = times_cons t w.piece.text (texts (comments (added s))) in
                let f = times_cons t x.piece.text (texts n.new) in
                let g : ◌≡◌ {A = ℕ} (cond (bytes_eq t x.piece.text) 1 0) (cond (bytes_eq t w.piece.text) 1 0) = ap (λ (y : Seen). cond {A = ℕ} (bytes_eq t y.text) 1 0) same in
                let h = n.few t in
                let r : texts (comments (w ∷ added s)) ≡ w.piece.text ∷ texts (comments (added s)) = ap (λ b. texts (cond b (w ∷ comments (added s)) (comments (added s)))) comment in
                let q = ap (times t) r in
                omega (arith, e, f, g, h, q);
          }

pub no_comments_added : (cs : List Change) (written : List (List (List ℕ))) (before after : List (List ℕ)) (e : Doc) (s : List Step) → AreWritten cs written → Fits cs written before after None 0 0 s
    → map seen (units e.lines) ≡ map seen (news s) → ((t : List ℕ) → times t (texts (comments (added s))) ≤ times t (flat_map (λ ts. ts) written)) → NoCommentsAdded cs e (pairs cs None 0 0 s)
no_comments_added cs written before after e s are fit is all =
    let n = new_of cs written before after (pairs cs None 0 0 s) (units e.lines) s None 0 0 0 0 fit (units e.lines) is (λ j second. second) in
    record { written = written; written_are = are; new = n.new; new_are = n.are; asked = n.asked; once = λ t. let a = n.few t in let b = all t in omega (arith, a, b) }
