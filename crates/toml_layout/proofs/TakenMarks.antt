-- Items that are taken out by marks, as a loop goes over these.
use Rattle.std.proofs.Common.{◌≡◌, ◌∙◌, ◌+◌, ◌<◌, ◌≤◌, ℕ, zero, suc, Bool, true, false, List, [], ◌∷◌, drop, get_or, length, take, Some, refl, ap, add-one, subst, sym}
use Rattle.std.proofs.Math.ListN.{drop_of_length-le}
use Rattle.std.proofs.Math.Seq.{drop-cons}
use Rattle.std.specs.List.{list_any, remove}
use Rattle.std.specs.Prelude.{slice_get}
use Rattle.toml_layout.specs.declared.layout.Layout.{Layout}
use Rattle.toml_layout.specs.Items.{Items}
use Rattle.toml_layout.specs.Takings.{TakesAll, TakesFirst, TakesOne}

-- these marks behind so many items that stay
abbrev pub behind_stayed : ℕ → List Bool → List Bool
behind_stayed zero marks = marks
behind_stayed (suc n) marks = false ∷ behind_stayed n marks

pub stays_on : (i : ℕ) (marks : List Bool) → behind_stayed (i + 1) marks ≡ behind_stayed i (false ∷ marks)
stays_on i marks = ap (λ n. behind_stayed n marks) (add-one i) ∙ by i
  where
    by : (i : ℕ) → behind_stayed (suc i) marks ≡ behind_stayed i (false ∷ marks)
    by zero = refl
    by (suc i) = ap (λ m. false ∷ m) (by i)

first_marked : (i : ℕ) (marks : List Bool) → slice_get (behind_stayed i (true ∷ marks)) i ≡ Some true
first_marked zero marks = refl
first_marked (suc i) marks = first_marked i marks

none_before : (i : ℕ) (marks : List Bool) → list_any (λ m. m) (take i (behind_stayed i marks)) ≡ false
none_before zero marks = refl
none_before (suc i) marks = none_before i marks

marks_left : (i : ℕ) (marks : List Bool) → behind_stayed i marks ≡ remove (behind_stayed i (true ∷ marks)) i
marks_left zero marks = refl
marks_left (suc i) marks = ap (λ m. false ∷ m) (marks_left i marks)

none_marked : (i : ℕ) → list_any (λ m. m) (behind_stayed i []) ≡ false
none_marked zero = refl
none_marked (suc i) = none_marked i

pub takes_none : (layout : Layout) (i : ℕ) (m : Items) → TakesAll layout (behind_stayed i []) m m
takes_none layout i m = (zero, (none_marked i, refl))

pub takes_next : (layout : Layout) (i : ℕ) (marks : List Bool) (old mid new : Items) → TakesOne layout i old mid → TakesAll layout (behind_stayed i marks) mid new
    → TakesAll layout (behind_stayed i (true ∷ marks)) old new
takes_next layout i marks old mid new one (n, more) =
    let goes : TakesFirst layout (behind_stayed i (true ∷ marks)) (behind_stayed i marks) old mid = record {
      index = i;
      first = record { marked = first_marked i marks; first = none_before i (true ∷ marks) };
      takes = one;
      left_are = marks_left i marks;
    } in
    (suc n, (behind_stayed i marks, mid, goes, more))

-- ---- a mark is passed

module _ (layout : Layout) (marks : List Bool) (k i : ℕ) (low : k < length marks) where
  next_is : (b : Bool) → get_or marks k false ≡ b → drop k marks ≡ b ∷ drop (k + 1) marks
  next_is b is = rw add-one (drop-cons marks k false low ∙ ap (λ c. c ∷ drop (suc k) marks) is)

  pub marked_on : (old mid new : Items) → get_or marks k false ≡ true → TakesOne layout i old mid → TakesAll layout (behind_stayed i (drop (k + 1) marks)) mid new
      → TakesAll layout (behind_stayed i (drop k marks)) old new
  marked_on old mid new on one more =
      subst (λ l. TakesAll layout (behind_stayed i l) old new) (sym (next_is true on)) (takes_next layout i (drop (k + 1) marks) old mid new one more)

  pub stayed_on : (old new : Items) → get_or marks k false ≡ false → TakesAll layout (behind_stayed (i + 1) (drop (k + 1) marks)) old new
      → TakesAll layout (behind_stayed i (drop k marks)) old new
  stayed_on old new off more =
      subst (λ l. TakesAll layout (behind_stayed i l) old new) (sym (next_is false off))
      (subst (λ l. TakesAll layout l old new) (stays_on i (drop (k + 1) marks)) more)

pub none_left : (layout : Layout) (marks : List Bool) (k i : ℕ) (m : Items) → length marks ≤ k → TakesAll layout (behind_stayed i (drop k marks)) m m
none_left layout marks k i m past = subst (λ l. TakesAll layout (behind_stayed i l) m m) (sym (drop_of_length-le marks past)) (takes_none layout i m)
