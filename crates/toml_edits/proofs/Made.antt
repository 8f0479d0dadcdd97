-- What each edit without a fault makes of data.
use Rattle.std.proofs.Common.{◌≡◌, inl, inr, ℕ, ◌^◌, ◌<◌, List, [], ◌∷◌, ◌++◌, append_assoc, append-nil, length, Option, Some, None, IsSome, is_some, Bool, true, false, cond, Vec, Global, refl, sym, ap, subst, ◌∙◌, true≢false, arith}
use mathlib.Core.Path.{fun_ext}
use Rattle.std.specs.Prelude.{option_map}
use Rattle.toml_tree.specs.declared.profile.Profile.{Profile}
use Rattle.toml_names.specs.declared.model.address.Step.{Step}
use Rattle.toml_names.specs.declared.model.address.Step.TheVariants.{Name, Index}
use Rattle.toml_names.specs.declared.model.datum.Datum.{Datum, Array}
use Rattle.toml_names.specs.model.Addresses.{Address, same_step, child, element}
use Rattle.toml_names.specs.model.Data.{Kinds, kind_at, kind_in}
use Rattle.toml_names.specs.mentions.Mentions.{Kind, a_table, an_array, a_scalar}
use Rattle.toml_names.proofs.Proved.{array-within, has_part, step_there, datum_is, scalar-below, array-name, table-here, table-index, has_kind}
use Rattle.toml_edits.specs.declared.fault.EditFault.TheVariants.{NotATable, IndexOutside, AlreadyThere}
use Rattle.toml_edits.specs.After.{Moves, Comes, IsAfter, nothing}
use Rattle.toml_edits.specs.Carry.{Carrier, carry_below, nowhere, inserting, renaming, removing, parted, up_from, down_above, to_name}
use Rattle.toml_edits.specs.Changed.{below, shifted_in, shifted_out, renamed}
use Rattle.toml_edits.specs.Edits.{set, insert}
use Rattle.toml_edits.specs.Faults.{IsFault}
use Rattle.toml_edits.specs.ValueTexts.{IsGoodValue}
use Rattle.toml_edits.proofs.Found.{none_of, some_of, some_none}
use Rattle.toml_edits.proofs.LastStep.{parted_at_last}
use Rattle.toml_edits.proofs.Moved.{IndicesFit, moves_below, moves_put, moves_drop, moves_alike, moves_add, moves_in, moves_out, moves_name}

-- ---- the same moves, said otherwise

pub moves_as : (c e : Carrier) (p r : Address) (v f h g : Kinds) → c ≡ e → p ≡ r → ((at : Address) → g at ≡ h at) → Moves e r v f h → Moves c p v f g
moves_as c e p r v f h g same at made m =
    subst (λ (x : Carrier). Moves x p v f g) (sym same) (subst (λ (y : Address). Moves e y v f g) (sym at) (subst (λ (z : Kinds). Moves e r v f z) (sym (fun_ext made)) m))

no_kind : {P : Type 0} (k : Kind) → ◌≡◌ {A = Option Kind} None (Some k) → P
no_kind k is = cc

comes_so : (c : Carrier) (p r : Address) (f : Kinds) (at : Address) (k : Kind) → Comes c p nothing f at k → Comes c r nothing f at k
comes_so c p r f at k (inl w) = inl w
comes_so c p r f at k (inr w) = no_kind k w.2

-- where nothing is placed, the place is of no account
moves_wherever : (c : Carrier) (p r : Address) (f g : Kinds) → Moves c p nothing f g → Moves c r nothing f g
moves_wherever c p r f g m = record { carried = m.carried; placed = λ at k is. no_kind k is; no_other = λ at k have. comes_so c p r f at k (m.no_other at k have) }

pub moves_nothing : (c e : Carrier) (p : Address) (f h g : Kinds) → c ≡ e → ((at : Address) → g at ≡ h at) → Moves e p nothing f h → Moves c [] nothing f g
moves_nothing c e p f h g same made m = moves_as c e [] [] nothing f h g same refl made (moves_wherever e p [] f h m)

-- ---- what stands below a part

-- a part that may not be there
part_above : (f : Kinds) (s : Step) (p at : Address) (o : Option Datum) → ((r : Address) → f (s ∷ r) ≡ kind_in o r) → ((e : Datum) → IsSome (kind_at e (p ++ at)) → IsSome (kind_at e p)) → IsSome (f (s ∷ (p ++ at))) → IsSome (f (s ∷ p))
part_above f s p at None is next some = absurd (true≢false (sym (subst IsSome (is (p ++ at)) some)))
part_above f s p at (Some d) is next some = subst IsSome (sym (is p)) (next d (subst IsSome (is (p ++ at)) some))

-- a beginning of an address at which something stands has something
pub front_there : (p : Address) (d : Datum) (at : Address) → IsSome (kind_at d (p ++ at)) → IsSome (kind_at d p)
front_there [] d at some = has_kind d
front_there (s ∷ p) d at some = let part = has_part s d in part_above (kind_at d) s p at part.0 part.1 (λ e. front_there p e at) some

pub none_below : (d : Datum) (q : Address) (s : Step) → kind_at d (q ++ s ∷ []) ≡ None → (at : Address) → kind_at d (q ++ s ∷ at) ≡ None
none_below d q s empty at = none_of _ (λ some. some_none _ (front_there (q ++ s ∷ []) d at (subst (λ p. IsSome (kind_at d p)) (sym (append_assoc q (s ∷ []) at)) some)) empty)

-- ---- what has a member is a table

is_table : (n : List ℕ) (d : Datum) → IsSome (kind_at d (Name n ∷ [])) → kind_at d [] ≡ Some a_table
is_table n d some = elim (datum_is d) [
  | inl (s, is) ↦ absurd (some_none _ some (ap (λ e. kind_at e (Name n ∷ [])) is ∙ scalar-below s (Name n) []))
  | inr (inl (v, is)) ↦ absurd (some_none _ some (ap (λ e. kind_at e (Name n ∷ [])) is ∙ array-name v n []))
  | inr (inr (m, is)) ↦ ap (λ e. kind_at e []) is ∙ table-here m
]

table_in : (f : Kinds) (s : Step) (p : Address) (o : Option Datum) → ((r : Address) → f (s ∷ r) ≡ kind_in o r) → (n : List ℕ) → ((e : Datum) → IsSome (kind_at e (p ++ Name n ∷ [])) → kind_at e p ≡ Some a_table) → IsSome (f (s ∷ (p ++ Name n ∷ []))) → f (s ∷ p) ≡ Some a_table
table_in f s p None is n next some = absurd (true≢false (sym (subst IsSome (is (p ++ Name n ∷ [])) some)))
table_in f s p (Some d) is n next some = is p ∙ next d (subst IsSome (is (p ++ Name n ∷ [])) some)

pub parent_table : (q : Address) (d : Datum) (n : List ℕ) → IsSome (kind_at d (child q n)) → kind_at d q ≡ Some a_table
parent_table [] d n some = is_table n d some
parent_table (s ∷ q) d n some = let part = has_part s d in table_in (kind_at d) s q part.0 part.1 n (λ e. parent_table q e n) some

-- ---- the indices of an array fit

array_small : (v : Vec Datum Global) → length v.items < 2 ^ 63
array_small v = let ok = v.ok.0 in let small = v.small in omega arith

array_fits : (v : Vec Datum Global) → IndicesFit (kind_at (Array v))
array_fits v j at k is =
    let low : j < length v.items = array-within v j (step_there (Array v) (Index j) at (ap is_some is)) in
    let bound = array_small v in
    omega arith

indices_fit : (d : Datum) → IndicesFit (kind_at d)
indices_fit d = elim (datum_is d) [
  | inl (s, is) ↦ subst (λ e. IndicesFit (kind_at e)) (sym is) (λ j at k have. no_kind k (sym (scalar-below s (Index j) at) ∙ have))
  | inr (inl (v, is)) ↦ subst (λ e. IndicesFit (kind_at e)) (sym is) (array_fits v)
  | inr (inr (m, is)) ↦ subst (λ e. IndicesFit (kind_at e)) (sym is) (λ j at k have. no_kind k (sym (table-index m j at) ∙ have))
]

fit_in : (f : Kinds) (s : Step) (p : Address) (o : Option Datum) → ((r : Address) → f (s ∷ r) ≡ kind_in o r) → ((e : Datum) → IndicesFit (λ r. kind_at e (p ++ r))) → IndicesFit (λ r. f (s ∷ (p ++ r)))
fit_in f s p None is next j at k have = no_kind k (sym (is (p ++ Index j ∷ at)) ∙ have)
fit_in f s p (Some d) is next j at k have = next d j at k (sym (is (p ++ Index j ∷ at)) ∙ have)

pub indices_fit_at : (p : Address) (d : Datum) → IndicesFit (λ r. kind_at d (p ++ r))
indices_fit_at [] d = indices_fit d
indices_fit_at (s ∷ p) d = let part = has_part s d in fit_in (kind_at d) s p part.0 part.1 (λ e. indices_fit_at p e)

-- ---- remove

pub removes_member : (d : Datum) (at q : Address) (n : List ℕ) (g : Kinds) → at ≡ child q n → ((p : Address) → g p ≡ below q (below (Name n ∷ []) (λ part. nothing)) (kind_at d) p) → Moves (removing (parted at)) [] nothing (kind_at d) g
removes_member d at q n g is made =
    moves_nothing (removing (parted at)) (carry_below q (carry_below (Name n ∷ []) nowhere)) (q ++ Name n ∷ []) (kind_at d) _ g (ap removing (ap parted is ∙ parted_at_last q (Name n))) made
    (moves_below q (carry_below (Name n ∷ []) nowhere) (Name n ∷ []) nothing (kind_at d) (below (Name n ∷ []) (λ part. nothing))
    (moves_below (Name n ∷ []) nowhere [] nothing (λ r. kind_at d (q ++ r)) (λ part. nothing) (moves_drop _)))

pub removes_element : (d : Datum) (at q : Address) (i : ℕ) (g : Kinds) → at ≡ element q i → ((p : Address) → g p ≡ below q (shifted_out i) (kind_at d) p) → Moves (removing (parted at)) [] nothing (kind_at d) g
removes_element d at q i g is made =
    moves_nothing (removing (parted at)) (carry_below q (down_above i)) (q ++ []) (kind_at d) _ g (ap removing (ap parted is ∙ parted_at_last q (Index i))) made
    (moves_below q (down_above i) [] nothing (kind_at d) (shifted_out i) (moves_out i (λ r. kind_at d (q ++ r))))

-- ---- rename

pub renames_member : (d : Datum) (at q : Address) (n to : List ℕ) (g : Kinds) → at ≡ child q n → ¬ IsSome (kind_at d (child q to)) → ((p : Address) → g p ≡ below q (renamed n to) (kind_at d) p) → Moves (renaming (parted at) to) [] nothing (kind_at d) g
renames_member d at q n to g is free made =
    moves_nothing (renaming (parted at) to) (carry_below q (to_name n to)) (q ++ []) (kind_at d) _ g (ap (λ x. renaming x to) (ap parted is ∙ parted_at_last q (Name n))) made
    (moves_below q (to_name n to) [] nothing (kind_at d) (renamed n to) (moves_name n to (λ r. kind_at d (q ++ r)) (none_below d q (Name to) (none_of _ free))))

pub may_rename : (d : Datum) (at q : Address) (n to : List ℕ) → at ≡ child q n → IsSome (kind_at d at) → ¬ IsSome (kind_at d (child q to))
    → (kind_at d (q ++ []) ≡ Some a_table) × IsSome (kind_at d (child q n)) × (kind_at d (child q to) ≡ None)
may_rename d at q n to is some free =
    let there : IsSome (kind_at d (child q n)) = subst (λ p. IsSome (kind_at d p)) is some in
    (ap (kind_at d) (append-nil q) ∙ parent_table q d n there, there, none_of _ free)

-- ---- set

pub sets : (profile : Profile) (d : Datum) (at : Address) (text : List ℕ) (v g : Kinds) → IsGoodValue profile text v → ((p : Address) → g p ≡ below at (λ part. v) (kind_at d) p) → IsAfter profile (set at text) (kind_at d) g
sets profile d at text v g good made =
    (v, good, moves_as (carry_below at nowhere) (carry_below at nowhere) at (at ++ []) v (kind_at d) _ g refl (sym (append-nil at)) made (moves_below at nowhere [] v (kind_at d) (λ part. v) (moves_put v _)))

-- ---- insert

pub some_table : (o : Option Kind) → ¬ ¬ (o ≡ Some a_table) → o ≡ Some a_table
some_table (Some a_table) not = refl
some_table (Some an_array) not = absurd (not (λ is. cc))
some_table (Some (a_scalar x)) not = absurd (not (λ is. cc))
some_table None not = absurd (not (λ is. cc))

pub some_array : (o : Option Kind) → ¬ ¬ (o ≡ Some an_array) → o ≡ Some an_array
some_array (Some an_array) not = refl
some_array (Some a_table) not = absurd (not (λ is. cc))
some_array (Some (a_scalar x)) not = absurd (not (λ is. cc))
some_array None not = absurd (not (λ is. cc))

-- a carrier that keeps all, below an address
both : (b : Bool) (o : Option Address) → cond b o o ≡ o
both true o = refl
both false o = refl

pub stays : (q at : Address) → carry_below q Some at ≡ Some at
stays [] at = refl
stays (s ∷ q) [] = refl
stays (s ∷ q) (t ∷ at) = ap (λ o. cond (same_step s t) (option_map (λ r. t ∷ r) o) (Some (t ∷ at))) (stays q at) ∙ both (same_step s t) (Some (t ∷ at))

pub adds : (f v : Kinds) (q : Address) (s : Step) → ((p : Address) → f (q ++ s ∷ p) ≡ None) → Moves Some (q ++ s ∷ []) v f (below q (below (s ∷ []) (λ part. v)) f)
adds f v q s none =
    moves_alike (carry_below q Some) Some (q ++ s ∷ []) v f _ (λ b k have. stays q b)
    (moves_below q Some (s ∷ []) v f (below (s ∷ []) (λ part. v)) (moves_add s v (λ r. f (q ++ r)) none))

module _ (profile : Profile) (d : Datum) (at q : Address) (text : List ℕ) (v g : Kinds) (free : IsFault profile (insert at text) (kind_at d) None) where
  pub table_there : (n : List ℕ) → at ≡ child q n → kind_at d (q ++ []) ≡ Some a_table
  table_there n is = ap (kind_at d) (append-nil q) ∙ some_table _ (λ other. free NotATable (q, n, is, other))

  pub array_there : (i : ℕ) → at ≡ element q i → (kind_at d (q ++ []) ≡ Some an_array) × ((j : ℕ) → j < i → IsSome (kind_at d (element q j)))
  array_there i is = (
    ap (kind_at d) (append-nil q) ∙ some_array _ (λ other. free IndexOutside (q, i, is, inl other)),
    λ j low. some_of _ (λ empty. free IndexOutside (q, i, is, inr (j, low, empty))),
  )

  pub inserts_member : (n : List ℕ) → at ≡ child q n → IsGoodValue profile text v → ((p : Address) → g p ≡ below q (below (Name n ∷ []) (λ part. v)) (kind_at d) p) → IsAfter profile (insert at text) (kind_at d) g
  inserts_member n is good made =
      let empty : kind_at d (q ++ Name n ∷ []) ≡ None = none_of _ (λ some. free AlreadyThere (q, n, is, subst (λ p. IsSome (kind_at d p)) (sym is) some)) in
      (v, good, moves_as (inserting (parted at)) Some at (q ++ Name n ∷ []) v (kind_at d) _ g (ap inserting (ap parted is ∙ parted_at_last q (Name n))) is made (adds (kind_at d) v q (Name n) (none_below d q (Name n) empty)))

  pub inserts_element : (i : ℕ) → at ≡ element q i → IsGoodValue profile text v → ((p : Address) → g p ≡ below q (shifted_in i v) (kind_at d) p) → IsAfter profile (insert at text) (kind_at d) g
  inserts_element i is good made = (
    v,
    good,
    moves_as (inserting (parted at)) (carry_below q (up_from i)) at (q ++ Index i ∷ []) v (kind_at d) _ g (ap inserting (ap parted is ∙ parted_at_last q (Index i))) is made
        (moves_below q (up_from i) (Index i ∷ []) v (kind_at d) (shifted_in i v) (moves_in i v (λ r. kind_at d (q ++ r)) (indices_fit_at q d))),
  )
