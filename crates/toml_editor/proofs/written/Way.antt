-- The way from the units before an edit to those after it, step by step, and the pairs that it gives.
use Rattle.std.proofs.Common.{◌≡◌, inl, inr, ◌<◌, ◌+◌, ℕ, zero, suc, Bool, true, false, cond, Option, Some, List, [], ◌∷◌, map, refl, sym, ap, ◌∙◌, subst, true≢false, arith}
use Rattle.std.specs.Prelude.{slice_get, count_by, take}
use Rattle.std.proofs.lemmas.List.Sums.{count_by_more_yes, count_by_more_no}
use Rattle.std.proofs.lemmas.Option.{slice_get_within, get_or_from_slice_get}
use Rattle.toml_names.specs.model.Addresses.{Address}
use Rattle.toml_edits.specs.Edits.{Change}
use Rattle.toml_units.specs.declared.unit.UnitKind.{UnitKind}
use Rattle.toml_units.specs.Places.{is_line}
use Rattle.toml_units.specs.Units.{TextUnit}
use Rattle.toml_checker.specs.Pairs.{RiseFrom, Rise, IsFirst}
use Rattle.toml_checker.specs.Plain.{Site, site, next_line, is_kept, flags_from}

-- a unit of before goes with one of after, or goes, or one of after comes
pub data Step : Type 0 where
  both : TextUnit → TextUnit → Step
  old : TextUnit → Step
  new : TextUnit → Step

abbrev pub olds : List Step → List TextUnit
olds [] = []
olds (both u w ∷ s) = u ∷ olds s
olds (old u ∷ s) = u ∷ olds s
olds (new w ∷ s) = olds s

abbrev pub news : List Step → List TextUnit
news [] = []
news (both u w ∷ s) = w ∷ news s
news (old u ∷ s) = news s
news (new w ∷ s) = w ∷ news s

-- what is seen of a unit after the edit
pub record Seen : Type 0 where
  pub kind : UnitKind
  pub text : List ℕ
  pub address : Option Address

abbrev pub seen : TextUnit → Seen
seen u = record { kind = u.kind; text = u.piece.text; address = u.address }

abbrev pub one_line : UnitKind → ℕ
one_line kind = cond (is_line kind) 1 0

module _ (cs : List Change) where
  abbrev pub is_here : Option Site → TextUnit → Bool
  is_here line u = is_kept u.kind cs (next_line line (site u)) (site u)

  -- the pairs of what goes together and is protected, from these places on
  abbrev pub pairs : Option Site → ℕ → ℕ → List Step → List (ℕ × ℕ)
  pairs line i k [] = []
  pairs line i k (both u w ∷ s) = cond (is_here line u) ((i, k) ∷ pairs (next_line line (site u)) (i + 1) (k + 1) s) (pairs (next_line line (site u)) (i + 1) (k + 1) s)
  pairs line i k (old u ∷ s) = pairs (next_line line (site u)) (i + 1) k s
  pairs line i k (new w ∷ s) = pairs line i (k + 1) s

  -- ---- in order

  rise_from : (s : List Step) (line : Option Site) (i k j l : ℕ) → j < i → l < k → RiseFrom j l (pairs line i k s)
  rise_from [] line i k j l x y = tt
  rise_from (both u w ∷ s) line i k j l x y =
      by (rise_from s (next_line line (site u)) (i + 1) (k + 1) i k (omega arith) (omega arith)) (rise_from s (next_line line (site u)) (i + 1) (k + 1) j l (omega (arith, x)) (omega (arith, y))) (is_here line u)
    where
      by : RiseFrom i k (pairs (next_line line (site u)) (i + 1) (k + 1) s) → RiseFrom j l (pairs (next_line line (site u)) (i + 1) (k + 1) s)
          → (b : Bool) → RiseFrom j l (cond b ((i, k) ∷ pairs (next_line line (site u)) (i + 1) (k + 1) s) (pairs (next_line line (site u)) (i + 1) (k + 1) s))
      by here more true = (x, y, here)
      by here more false = more
  rise_from (old u ∷ s) line i k j l x y = rise_from s (next_line line (site u)) (i + 1) k j l (omega (arith, x)) y
  rise_from (new w ∷ s) line i k j l x y = rise_from s line i (k + 1) j l x (omega (arith, y))

  pub rise : (s : List Step) (line : Option Site) (i k : ℕ) → Rise (pairs line i k s)
  rise [] line i k = tt
  rise (both u w ∷ s) line i k = by (is_here line u) (rise s (next_line line (site u)) (i + 1) (k + 1))
    where
      by : (b : Bool) → Rise (pairs (next_line line (site u)) (i + 1) (k + 1) s) → Rise (cond b ((i, k) ∷ pairs (next_line line (site u)) (i + 1) (k + 1) s) (pairs (next_line line (site u)) (i + 1) (k + 1) s))
      by true more = rise_from s (next_line line (site u)) (i + 1) (k + 1) i k (omega arith) (omega arith)
      by false more = more
  rise (old u ∷ s) line i k = rise s (next_line line (site u)) (i + 1) k
  rise (new w ∷ s) line i k = rise s line i (k + 1)

  -- ---- which units of before are paired

  -- no unit goes that is protected
  abbrev pub NoneLost : Option Site → List Step → Type 0
  NoneLost line [] = Unit {0}
  NoneLost line (both u w ∷ s) = NoneLost (next_line line (site u)) s
  NoneLost line (old u ∷ s) = (is_here line u ≡ false) × NoneLost (next_line line (site u)) s
  NoneLost line (new w ∷ s) = NoneLost line s

  pub first_of : (s : List Step) (line : Option Site) (i k m : ℕ) → NoneLost line s → slice_get (flags_from cs line (map site (olds s))) m ≡ Some true → IsFirst (pairs line i k s) (i + m)
  first_of [] line i k m none is = cc
  first_of (both u w ∷ s) line i k zero none is = by (is_here line u) (let e : is_here line u ≡ true = cc in e)
    where
      by : (b : Bool) → b ≡ true → IsFirst (cond b ((i, k) ∷ pairs (next_line line (site u)) (i + 1) (k + 1) s) (pairs (next_line line (site u)) (i + 1) (k + 1) s)) (i + zero)
      by true e = inl (omega arith)
      by false e = absurd (true≢false (sym e))
  first_of (both u w ∷ s) line i k (suc m) none is =
      by (subst (IsFirst (pairs (next_line line (site u)) (i + 1) (k + 1) s)) (let e : (i + 1) + m ≡ i + suc m = omega arith in e) (first_of s (next_line line (site u)) (i + 1) (k + 1) m none is)) (is_here line u)
    where
      by : IsFirst (pairs (next_line line (site u)) (i + 1) (k + 1) s) (i + suc m) → (b : Bool) → IsFirst (cond b ((i, k) ∷ pairs (next_line line (site u)) (i + 1) (k + 1) s) (pairs (next_line line (site u)) (i + 1) (k + 1) s)) (i + suc m)
      by more true = inr more
      by more false = more
  first_of (old u ∷ s) line i k zero none is = let e : is_here line u ≡ true = cc in absurd (true≢false (sym e ∙ none.0))
  first_of (old u ∷ s) line i k (suc m) none is =
      subst (IsFirst (pairs (next_line line (site u)) (i + 1) k s)) (let e : (i + 1) + m ≡ i + suc m = omega arith in e) (first_of s (next_line line (site u)) (i + 1) k m none.1 is)
  first_of (new w ∷ s) line i k m none is = first_of s line i (k + 1) m none is

  abbrev IsFlagged : Option Site → ℕ → List Step → ℕ → Type 0
  IsFlagged line i s j = (m : ℕ) × (j ≡ i + m) × (slice_get (flags_from cs line (map site (olds s))) m ≡ Some true)

  further : (line : Option Site) (i j : ℕ) (b : Bool) (s : List Step) → IsFlagged line (i + 1) s j → (m : ℕ) × (j ≡ i + m) × (slice_get (b ∷ flags_from cs line (map site (olds s))) m ≡ Some true)
  further line i j b s (m, at, is) = (suc m, omega (arith, at), is)

  pub of_first : (s : List Step) (line : Option Site) (i k j : ℕ) → IsFirst (pairs line i k s) j → IsFlagged line i s j
  of_first [] line i k j first = absurd first
  of_first (both u w ∷ s) line i k j first = by (is_here line u) refl first (λ h. of_first s (next_line line (site u)) (i + 1) (k + 1) j h)
    where
      by : (b : Bool) → is_here line u ≡ b → IsFirst (cond b ((i, k) ∷ pairs (next_line line (site u)) (i + 1) (k + 1) s) (pairs (next_line line (site u)) (i + 1) (k + 1) s)) j
          → (IsFirst (pairs (next_line line (site u)) (i + 1) (k + 1) s) j → IsFlagged (next_line line (site u)) (i + 1) s j) → IsFlagged line i (both u w ∷ s) j
      by true e (inl here) more = (zero, omega (arith, here), ap Some e)
      by true e (inr later) more = further (next_line line (site u)) i j (is_here line u) s (more later)
      by false e later more = further (next_line line (site u)) i j (is_here line u) s (more later)
  of_first (old u ∷ s) line i k j first = further (next_line line (site u)) i j (is_here line u) s (of_first s (next_line line (site u)) (i + 1) k j first)
  of_first (new w ∷ s) line i k j first = of_first s line i (k + 1) j first

-- ---- places

-- the rest of the units of a list from a place on, in which so many lines are before it
pub record Stands {A : Type 0} (kind : A → UnitKind) (us : List A) (i a : ℕ) (rest : List A) : Type 0 where
  pub at : (m : ℕ) → slice_get us (i + m) ≡ slice_get rest m
  pub lines : count_by (λ x. is_line (kind x)) (take i us) ≡ a

module _ {A : Type 0} (kind : A → UnitKind) (us : List A) where
  pub here : (i a : ℕ) (u : A) (rest : List A) → Stands kind us i a (u ∷ rest) → slice_get us i ≡ Some u
  here i a u rest is = ap (slice_get us) (let e : i ≡ i + 0 = omega arith in e) ∙ is.at 0

  pub beyond : (i a : ℕ) (u : A) (rest : List A) → Stands kind us i a (u ∷ rest) → Stands kind us (i + 1) (a + one_line (kind u)) rest
  beyond i a u rest is = record {
    at = λ m. ap (slice_get us) (let e : (i + 1) + m ≡ i + suc m = omega arith in e) ∙ is.at (suc m);
    lines = by (is_line (kind u)) refl;
  }
    where
      there : slice_get us i ≡ Some u
      there = here i a u rest is

      by : (b : Bool) → is_line (kind u) ≡ b → count_by (λ x. is_line (kind x)) (take (i + 1) us) ≡ a + cond b 1 0
      by true e = count_by_more_yes (λ x. is_line (kind x)) us i u (slice_get_within us i u there) (ap (λ x. is_line (kind x)) (get_or_from_slice_get us i u u there) ∙ e) ∙ ap (λ n. n + 1) is.lines
      by false e = count_by_more_no (λ x. is_line (kind x)) us i u (slice_get_within us i u there) (ap (λ x. is_line (kind x)) (get_or_from_slice_get us i u u there) ∙ e) ∙ is.lines ∙ (let e : a ≡ a + 0 = omega arith in e)

  pub whole : Stands kind us 0 0 us
  whole = record { at = λ m. ap (slice_get us) (let e : 0 + m ≡ m = omega arith in e); lines = refl }
