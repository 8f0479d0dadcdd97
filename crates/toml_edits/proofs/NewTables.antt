-- What a new table makes of data.
use Rattle.std.proofs.Common.{◌≡◌, inl, inr, ℕ, ◌<◌, List, [], ◌∷◌, ◌++◌, append-nil, length, Option, Some, None, IsSome, is_some, Bool, true, false, Vec, Global, refl, sym, ap, subst, ◌∙◌, arith}
use mathlib.Core.Path.{fun_ext}
use Rattle.std.proofs.lemmas.Bool.Decides.{nat_tests}
use Rattle.std.specs.Bool.{nat_lt}
use Rattle.std.proofs.lemmas.Option.{slice_get_cases}
use Rattle.std.specs.Prelude.{cond, option_map}
use Rattle.toml_tree.specs.declared.profile.Profile.{Profile}
use Rattle.toml_names.specs.declared.model.address.Step.{Step}
use Rattle.toml_names.specs.declared.model.address.Step.TheVariants.{Name, Index}
use Rattle.toml_names.specs.declared.model.datum.Datum.{Datum, Array}
use Rattle.toml_names.specs.model.Addresses.{Address, child, element, same_step}
use Rattle.toml_names.specs.model.Data.{Kinds, kind_at, kind_in}
use Rattle.toml_names.specs.mentions.Mentions.{Kind, a_table, an_array}
use Rattle.toml_names.proofs.Proved.{has_part, datum_is, has_kind, step_there, array-within, array-item, scalar-below, table-index, same_step-equal}
use Rattle.toml_edits.specs.After.{Moves, AddsElement, IsAfter, an_empty_table, one_empty_table}
use Rattle.toml_edits.specs.Carry.{carry_below, up_from}
use Rattle.toml_edits.specs.Changed.{below, shifted_in}
use Rattle.toml_edits.specs.Edits.{new_section, new_element}
use Rattle.toml_edits.specs.Faults.{IsFault, IsElementOf}
use Rattle.toml_edits.specs.declared.fault.EditFault.TheVariants.{NotATable, IndexOutside, AlreadyThere}
use Rattle.toml_edits.proofs.Found.{none_of, some_of, some_none}
use Rattle.toml_edits.proofs.Made.{some_table, some_array, adds, moves_as, none_below, indices_fit_at}
use Rattle.toml_edits.proofs.NewRows.{IsNext}
use Rattle.toml_edits.proofs.Moved.{moves_alike, moves_below, moves_in}

-- a member more, its facts being these
adds_facts : (d : Datum) (q : Address) (n : List ℕ) (v w g : Kinds) → ((p : Address) → v p ≡ w p) → kind_at d (child q n) ≡ None
    → ((p : Address) → g p ≡ below q (below (Name n ∷ []) (λ part. v)) (kind_at d) p) → Moves Some (child q n) w (kind_at d) g
adds_facts d q n v w g same empty made =
    subst (λ (f : Kinds). Moves Some (child q n) f (kind_at d) g) (fun_ext same)
    (moves_as Some Some (child q n) (child q n) v (kind_at d) _ g refl refl made (adds (kind_at d) v q (Name n) (none_below d q (Name n) empty)))

pub makes_section : (profile : Profile) (d : Datum) (at q : Address) (n : List ℕ) (v g : Kinds) → at ≡ child q n → ((p : Address) → v p ≡ an_empty_table p) → kind_at d (child q n) ≡ None
    → ((p : Address) → g p ≡ below q (below (Name n ∷ []) (λ part. v)) (kind_at d) p) → IsAfter profile (new_section at) (kind_at d) g
makes_section profile d at q n v g is same empty made = subst (λ (p : Address). Moves Some p an_empty_table (kind_at d) g) (sym is) (adds_facts d q n v an_empty_table g same empty made)

-- ---- an array is made with its element

pub makes_array : (profile : Profile) (d : Datum) (at r : Address) (n : List ℕ) (i : ℕ) (v g : Kinds) → IsElementOf at r n i → ((p : Address) → v p ≡ one_empty_table p) → kind_at d (child r n) ≡ None
    → ((p : Address) → g p ≡ below r (below (Name n ∷ []) (λ part. v)) (kind_at d) p) → IsAfter profile (new_element at) (kind_at d) g
makes_array profile d at r n i v g is same empty made = (
  child r n,
  i,
  is,
  subst (λ (o : Option Kind). AddsElement (child r n) at o (kind_at d) g) (sym empty)
      (adds_facts d r n v one_empty_table g same empty made),
)

-- ---- an element behind the last

-- all that stands at an index stands at one below this
abbrev IsEndedAt : ℕ → Kinds → Type 0
IsEndedAt i f = (j : ℕ) (at : Address) (k : Kind) → f (Index j ∷ at) ≡ Some k → j < i

no_kind : {P : Type 0} (k : Kind) → ◌≡◌ {A = Option Kind} None (Some k) → P
no_kind k is = cc

array_ended : (v : Vec Datum Global) (i : ℕ) → kind_at (Array v) (Index i ∷ []) ≡ None → IsEndedAt i (kind_at (Array v))
array_ended v i empty j at k is =
    let low : j < length v.items = array-within v j (step_there (Array v) (Index j) at (ap is_some is)) in
    elim (slice_get_cases v.items i).1 [
      | inl (x, within, there, same) ↦ absurd (some_none _ (has_kind x) (sym (array-item v i [] ∙ ap (λ (o : Option Datum). kind_in o []) there) ∙ empty))
      | inr (past, none) ↦ omega (arith, low, past)
    ]

ended : (i : ℕ) (d : Datum) → kind_at d (Index i ∷ []) ≡ None → IsEndedAt i (kind_at d)
ended i d empty = elim (datum_is d) [
  | inl (s, is) ↦ λ j at k have. no_kind k (sym (ap (λ e. kind_at e (Index j ∷ at)) is ∙ scalar-below s (Index j) at) ∙ have)
  | inr (inl (v, is)) ↦ subst (λ e. kind_at e (Index i ∷ []) ≡ None → IsEndedAt i (kind_at e)) (sym is) (array_ended v i) empty
  | inr (inr (m, is)) ↦ λ j at k have. no_kind k (sym (ap (λ e. kind_at e (Index j ∷ at)) is ∙ table-index m j at) ∙ have)
]

ended_in : (f : Kinds) (s : Step) (p : Address) (i : ℕ) (o : Option Datum) → ((r : Address) → f (s ∷ r) ≡ kind_in o r)
    → ((e : Datum) → kind_at e (p ++ Index i ∷ []) ≡ None → IsEndedAt i (λ r. kind_at e (p ++ r))) → f (s ∷ (p ++ Index i ∷ [])) ≡ None → IsEndedAt i (λ r. f (s ∷ (p ++ r)))
ended_in f s p i None is next empty j at k have = no_kind k (sym (is (p ++ Index j ∷ at)) ∙ have)
ended_in f s p i (Some d) is next empty j at k have = next d (sym (is (p ++ Index i ∷ [])) ∙ empty) j at k (sym (is (p ++ Index j ∷ at)) ∙ have)

ended_at : (p : Address) (i : ℕ) (d : Datum) → kind_at d (p ++ Index i ∷ []) ≡ None → IsEndedAt i (λ r. kind_at d (p ++ r))
ended_at [] i d empty = ended i d empty
ended_at (s ∷ p) i d empty = let part = has_part s d in ended_in (kind_at d) s p i part.0 part.1 (λ e. ended_at p i e) empty

-- so nothing moves for an element at its end
keeps_low : (q : Address) (i : ℕ) (f : Kinds) → IsEndedAt i (λ r. f (q ++ r)) → (b : Address) (k : Kind) → f b ≡ Some k → carry_below q (up_from i) b ≡ Some b
keeps_low [] i f low [] k have = refl
keeps_low [] i f low (Name n ∷ b) k have = refl
keeps_low [] i f low (Index j ∷ b) k have = let lower : nat_lt j i ≡ true = grind (arith, nat_tests, low j b k have) in rw lower refl
keeps_low (s ∷ q) i f low [] k have = refl
keeps_low (s ∷ q) i f low (t ∷ b) k have = by (same_step s t) refl (λ same. keeps_low q i (λ r. f (s ∷ r)) low b k (ap (λ u. f (u ∷ b)) (same_step-equal s t same) ∙ have))
  where
    by : (e : Bool) → same_step s t ≡ e → (same_step s t ≡ true → carry_below q (up_from i) b ≡ Some b) → cond e (option_map (λ r. t ∷ r) (carry_below q (up_from i) b)) (Some (t ∷ b)) ≡ Some (t ∷ b)
    by false other below = refl
    by true same below = ap (option_map (λ r. t ∷ r)) (below same)

pub makes_element : (profile : Profile) (d : Datum) (at q : Address) (i : ℕ) (v g : Kinds) → at ≡ element q i → ((p : Address) → v p ≡ an_empty_table p) → (k : Kind) → kind_at d q ≡ Some k → kind_at d (element q i) ≡ None
    → ((p : Address) → g p ≡ below q (shifted_in i v) (kind_at d) p) → IsAfter profile (new_element at) (kind_at d) g
makes_element profile d at q i v g is same k there empty made = (
  q,
  i,
  is,
  subst (λ (o : Option Kind). AddsElement q at o (kind_at d) g) (sym there)
      (subst (λ (f : Kinds). Moves Some at f (kind_at d) g) (fun_ext same)
      (moves_as Some Some at (element q i) v (kind_at d) _ g refl is made
      (moves_alike (carry_below q (up_from i)) Some (element q i) v (kind_at d) _ (keeps_low q i (kind_at d) (ended_at q i d empty))
      (moves_below q (up_from i) (Index i ∷ []) v (kind_at d) (shifted_in i v) (moves_in i v (λ r. kind_at d (q ++ r)) (indices_fit_at q d)))))),
)

-- ---- where no fault holds

module _ (profile : Profile) (d : Datum) (at q : Address) (n : List ℕ) (is : at ≡ child q n) (free : IsFault profile (new_section at) (kind_at d) None) where
  pub section_there : kind_at d (q ++ []) ≡ Some a_table
  section_there = ap (kind_at d) (append-nil q) ∙ some_table _ (λ other. free NotATable (q, n, is, other))

  pub section_made : (v g : Kinds) → ((p : Address) → v p ≡ an_empty_table p) → ((p : Address) → g p ≡ below q (below (Name n ∷ []) (λ part. v)) (kind_at d) p) → IsAfter profile (new_section at) (kind_at d) g
  section_made v g same made =
      makes_section profile d at q n v g is same (none_of _ (λ some. free AlreadyThere (q, n, is, subst (λ p. IsSome (kind_at d p)) (sym is) some))) made

module _ (profile : Profile) (d : Datum) (at r : Address) (n : List ℕ) (i : ℕ) (is : IsElementOf at r n i) (free : IsFault profile (new_element at) (kind_at d) None) where
  pub table_there : kind_at d (r ++ []) ≡ Some a_table
  table_there = ap (kind_at d) (append-nil r) ∙ some_table _ (λ other. free NotATable (r, n, i, is, other))

  pub array_made : (v g : Kinds) → kind_at d (child r n) ≡ None → ((p : Address) → v p ≡ one_empty_table p) → ((p : Address) → g p ≡ below r (below (Name n ∷ []) (λ part. v)) (kind_at d) p) → IsAfter profile (new_element at) (kind_at d) g
  array_made v g empty same made = makes_array profile d at r n i v g is same empty made

  module _ (k : Kind) (there : kind_at d (child r n) ≡ Some k) where
    is_next : ¬ ¬ IsNext (kind_at d) (child r n) i (Some k)
    is_next = subst (λ (o : Option Kind). ¬ ¬ IsNext (kind_at d) (child r n) i o) there (λ other. free IndexOutside (child r n, i, is, other))

    pub array_there : (kind_at d (child r n ++ []) ≡ Some an_array) × ((j : ℕ) → j < i → IsSome (kind_at d (element (child r n) j)))
    array_there = (
      ap (kind_at d) (append-nil (child r n)) ∙ some_array _ (λ other. is_next (λ next. other (there ∙ ap Some next.0))),
      λ j low. some_of _ (λ empty. is_next (λ next. some_none _ (next.1 j low) empty)),
    )

    pub element_made : (v g : Kinds) → ((p : Address) → v p ≡ an_empty_table p) → ((p : Address) → g p ≡ below (child r n) (shifted_in i v) (kind_at d) p) → IsAfter profile (new_element at) (kind_at d) g
    element_made v g same made = makes_element profile d at (child r n) i v g is same k there (none_of _ (λ some. is_next (λ next. some_none _ some next.2))) made
