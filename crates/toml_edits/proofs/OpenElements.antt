-- The elements of an open array, and the data in which they stand.
use Rattle.std.proofs.Common.{◌≡◌, ◌∙◌, ◌+◌, ◌-◌, ◌<◌, ◌≤◌, ◌^◌, ℕ, zero, suc, Bool, true, false, cond, List, [], ◌∷◌, ◌++◌, length, reverse, insert, remove, Option, Some, None, IsSome, Vec, Global, refl, sym, ap, ap₂, arith}
use Rattle.std.proofs.lemmas.Bool.Decides.{nat_tests}
use Rattle.std.proofs.lemmas.List.{length-append, length-reverse}
use Rattle.std.proofs.lemmas.Option.{slice_get_past}
use Rattle.std.specs.Bool.{nat_eq, nat_lt}
use Rattle.std.specs.Prelude.{slice_get}
use mathlib.Core.Path.{fun_ext}
use Rattle.toml_lists.specs.Gaps.{items}
use Rattle.toml_lists.specs.declared.gap_list.GapList.{GapList}
use Rattle.toml_names.specs.declared.model.address.Step.{Step}
use Rattle.toml_names.specs.declared.model.address.Step.TheVariants.{Name, Index}
use Rattle.toml_names.specs.declared.model.datum.Datum.{Datum, Array}
use Rattle.toml_names.specs.model.Addresses.{Address, same_step}
use Rattle.toml_names.specs.model.Data.{Kinds, kind_at, kind_in}
use Rattle.toml_names.specs.mentions.Mentions.{Kind, an_array}
use Rattle.toml_names.proofs.Proved.{array-here, array-item, array-name, has_kind, same_step-equal, same_step-self}
use Rattle.toml_edits.specs.Changed.{below, shifted_in, shifted_out}
use Rattle.toml_edits.specs.Drafts.{elements_at, filled, is_array}
use Rattle.toml_edits.proofs.Elements.{get_above, get_at, get_below, get_down, get_kept}
use Rattle.toml_edits.proofs.Moved.{IndicesFit}

-- ---- what stands in an array of the elements

pub array_has : (v : Vec Datum Global) (at : Address) → kind_at (Array v) at ≡ elements_at v.items at
array_has v [] = array-here v
array_has v (Index i ∷ at) = array-item v i at
array_has v (Name n ∷ at) = array-name v n at

added : (ds : List Datum) (i j : ℕ) (d : Datum) → i ≤ length ds → (at : Address) (b c : Bool) → nat_lt j i ≡ b → nat_eq j i ≡ c
    → kind_in (slice_get (insert ds i d) j) at ≡ cond b (kind_in (slice_get ds j) at) (cond c (kind_at d at) (kind_in (slice_get ds (j - 1)) at))
added ds i j d h at true c is eq = let lt : j < i = grind (arith, nat_tests) in ap (λ (o : Option Datum). kind_in o at) (get_below ds i j d lt h)
added ds i j d h at false true is eq = let same : j ≡ i = grind (arith, nat_tests) in rw same (ap (λ (o : Option Datum). kind_in o at) (get_at ds i d h))
added ds i zero d h at false false is eq = absurd (grind (arith, nat_tests))
added ds i (suc j) d h at false false is eq =
    let le : i ≤ j = grind (arith, nat_tests) in
    ap (λ (o : Option Datum). kind_in o at) (get_above ds i j d le h) ∙ ap (λ k. kind_in (slice_get ds k) at) (omega arith)

-- with one more
pub elements_added : (ds : List Datum) (i : ℕ) (d : Datum) → i ≤ length ds → (at : Address) → elements_at (insert ds i d) at ≡ shifted_in i (kind_at d) (elements_at ds) at
elements_added ds i d h [] = refl
elements_added ds i d h (Name n ∷ at) = refl
elements_added ds i d h (Index j ∷ at) = added ds i j d h at (nat_lt j i) (nat_eq j i) refl refl

taken : (ds : List Datum) (i j : ℕ) (at : Address) (b : Bool) → nat_lt j i ≡ b
    → kind_in (slice_get (remove ds i) j) at ≡ cond b (kind_in (slice_get ds j) at) (kind_in (slice_get ds (j + 1)) at)
taken ds i j at true is = let lt : j < i = grind (arith, nat_tests) in ap (λ (o : Option Datum). kind_in o at) (get_kept ds i j lt)
taken ds i j at false is =
    let le : i ≤ j = grind (arith, nat_tests) in
    ap (λ (o : Option Datum). kind_in o at) (get_down ds i j le) ∙ ap (λ k. kind_in (slice_get ds k) at) (let e : suc j ≡ j + 1 = omega arith in e)

-- and with one less
pub elements_taken : (ds : List Datum) (i : ℕ) (at : Address) → elements_at (remove ds i) at ≡ shifted_out i (elements_at ds) at
elements_taken ds i [] = refl
elements_taken ds i (Name n ∷ at) = refl
elements_taken ds i (Index j ∷ at) = taken ds i j at (nat_lt j i) refl

-- an element is there just where the index is below the length
pub within : (ds : List Datum) (i : ℕ) → i < length ds → IsSome (kind_in (slice_get ds i) [])
within [] i low = absurd (omega arith)
within (d ∷ ds) zero low = has_kind d
within (d ∷ ds) (suc i) low = within ds i (omega arith)

pub past : (ds : List Datum) (i : ℕ) (at : Address) → length ds ≤ i → kind_in (slice_get ds i) at ≡ None
past ds i at low = ap (λ (o : Option Datum). kind_in o at) (slice_get_past ds i low)

low_index : (ds : List Datum) (j : ℕ) (a : Address) (k : Kind) → kind_in (slice_get ds j) a ≡ Some k → j < length ds
low_index [] j a k have = cc
low_index (d ∷ ds) zero a k have = omega arith
low_index (d ∷ ds) (suc j) a k have = let low = low_index ds j a k have in omega (arith, low)

-- ---- the indices of an open array fit

small : (v : Vec Datum Global) → length v.items < 2 ^ 63
small v = let ok = v.ok.0 in let size = v.small in omega arith

few : (g : GapList Datum) → length (items g) + 1 < 2 ^ 64
few g =
    let one = small g.before in
    let two = small g.behind in
    let all = length-append g.before.items (reverse g.behind.items) in
    let rest = length-reverse g.behind.items in
    omega (arith, one, two, all, rest)

pub open_fits : (g : GapList Datum) (q : Address) (f : Kinds) → ((r : Address) → f (q ++ r) ≡ elements_at (items g) r) → IndicesFit (λ r. f (q ++ r))
open_fits g q f stand j a k have =
    let low = low_index (items g) j a k (sym (stand (Index j ∷ a)) ∙ have) in
    let bound = few g in
    omega (arith, low, bound)

-- ---- data with a part changed

-- what stands at and below the place
pub at_part : (q r : Address) (g : Kinds → Kinds) (f : Kinds) → below q g f (q ++ r) ≡ g (λ a. f (q ++ a)) r
at_part [] r g f = refl
at_part (s ∷ q) r g f =
    ap (λ b. cond b (below q g (λ a. f (s ∷ a)) (q ++ r)) (f (s ∷ (q ++ r)))) (same_step-self s) ∙ at_part q r g (λ a. f (s ∷ a))

-- a part put in the place of another that was put there
pub again : (q at : Address) (e d f : Kinds) → below q (λ part. e) (below q (λ part. d) f) at ≡ below q (λ part. e) f at
again [] at e d f = refl
again (s ∷ q) [] e d f = refl
again (s ∷ q) (t ∷ at) e d f = by (again q at e d (λ r. f (s ∷ r))) (same_step s t)
  where
    by : below q (λ part. e) (below q (λ part. d) (λ r. f (s ∷ r))) at ≡ below q (λ part. e) (λ r. f (s ∷ r)) at → (b : Bool)
        → cond b (below q (λ part. e) (λ r. below (s ∷ q) (λ part. d) f (s ∷ r)) at) (cond b (below q (λ part. d) (λ r. f (s ∷ r)) at) (f (t ∷ at))) ≡ cond b (below q (λ part. e) (λ r. f (s ∷ r)) at) (f (t ∷ at))
    by next true =
        ap (λ (k : Kinds). below q (λ part. e) k at)
        (fun_ext (λ r. ap (λ b. cond b (below q (λ part. d) (λ x. f (s ∷ x)) r) (f (s ∷ r))) (same_step-self s)))
        ∙ next
    by next false = refl

-- a part that is what a change makes of the one before
pub as_change : (q at : Address) (e : Kinds) (h : Kinds → Kinds) (f : Kinds) → ((r : Address) → e r ≡ h (λ a. f (q ++ a)) r) → below q (λ part. e) f at ≡ below q h f at
as_change [] at e h f is = is at
as_change (s ∷ q) [] e h f is = refl
as_change (s ∷ q) (t ∷ at) e h f is = ap (λ x. cond (same_step s t) x (f (t ∷ at))) (as_change q at e h (λ r. f (s ∷ r)) is)

-- a part that is the one before
pub as_it_was : (q at : Address) (e f : Kinds) → ((r : Address) → e r ≡ f (q ++ r)) → below q (λ part. e) f at ≡ f at
as_it_was [] at e f is = is at
as_it_was (s ∷ q) [] e f is = refl
as_it_was (s ∷ q) (t ∷ at) e f is = by (as_it_was q at e (λ r. f (s ∷ r)) is) (same_step s t) refl
  where
    by : below q (λ part. e) (λ r. f (s ∷ r)) at ≡ f (s ∷ at) → (b : Bool) → same_step s t ≡ b → cond b (below q (λ part. e) (λ r. f (s ∷ r)) at) (f (t ∷ at)) ≡ f (t ∷ at)
    by next true same = next ∙ ap (λ x. f (x ∷ at)) (same_step-equal s t same)
    by next false same = refl

-- the part itself
pub part_root : (q : Address) (e f : Kinds) → below q (λ part. e) f q ≡ e []
part_root [] e f = refl
part_root (s ∷ q) e f = ap (λ b. cond b (below q (λ part. e) (λ r. f (s ∷ r)) q) (f (s ∷ q))) (same_step-self s) ∙ part_root q e (λ r. f (s ∷ r))

-- what is not below the place
pub out_of_way : (q p : Address) (e f : Kinds) → e [] ≡ f q → ((s : Step) (r : Address) → ¬ (p ≡ q ++ s ∷ r)) → below q (λ part. e) f p ≡ f p
out_of_way [] [] e f root not = root
out_of_way [] (t ∷ p) e f root not = absurd (not t p refl)
out_of_way (s ∷ q) [] e f root not = refl
out_of_way (s ∷ q) (t ∷ p) e f root not = by (out_of_way q p e (λ r. f (s ∷ r)) root) (same_step s t) refl
  where
    by : (((u : Step) (r : Address) → ¬ (p ≡ q ++ u ∷ r)) → below q (λ part. e) (λ r. f (s ∷ r)) p ≡ f (s ∷ p)) → (b : Bool) → same_step s t ≡ b → cond b (below q (λ part. e) (λ r. f (s ∷ r)) p) (f (t ∷ p)) ≡ f (t ∷ p)
    by next true same =
        let equal = same_step-equal s t same in
        next (λ u r is. not u r (ap₂ (λ x (xs : Address). x ∷ xs) (sym equal) is)) ∙ ap (λ x. f (x ∷ p)) equal
    by next false same = refl

-- ---- arrays filled with elements

pub is_one : (o : Option Kind) → is_array o ≡ true → o ≡ Some an_array
is_one (Some an_array) there = refl
is_one (Some _) there = cc
is_one None there = cc

pub filled_is : (q : Address) (ds : List Datum) (f : Kinds) → is_array (f q) ≡ true → filled q ds f ≡ below q (λ part. elements_at ds) f
filled_is q ds f there = ap (λ b. cond b (below q (λ part. elements_at ds) f) f) there

pub not_filled : (q : Address) (ds : List Datum) (f : Kinds) → is_array (f q) ≡ false → filled q ds f ≡ f
not_filled q ds f none = ap (λ b. cond b (below q (λ part. elements_at ds) f) f) none

-- the elements stand there
pub stand_there : (q : Address) (ds : List Datum) (f : Kinds) → is_array (f q) ≡ true → (r : Address) → filled q ds f (q ++ r) ≡ elements_at ds r
stand_there q ds f there r = ap (λ (k : Kinds). k (q ++ r)) (filled_is q ds f there) ∙ at_part q r (λ part. elements_at ds) f

-- and others in their place
pub refilled : (q : Address) (ds es : List Datum) (f : Kinds) → is_array (f q) ≡ true → (at : Address) → filled q es f at ≡ below q (λ part. elements_at es) (filled q ds f) at
refilled q ds es f there at =
    ap (λ (k : Kinds). k at) (filled_is q es f there)
    ∙ sym (ap (λ (k : Kinds). below q (λ part. elements_at es) k at) (filled_is q ds f there) ∙ again q at (elements_at es) (elements_at ds) f)

-- what is not below the array is what was there
pub beside_array : (q p : Address) (ds : List Datum) (f : Kinds) → is_array (f q) ≡ true → ((s : Step) (r : Address) → ¬ (p ≡ q ++ s ∷ r)) → filled q ds f p ≡ f p
beside_array q p ds f there not = ap (λ (k : Kinds). k p) (filled_is q ds f there) ∙ out_of_way q p (elements_at ds) f (sym (is_one (f q) there)) not

-- elements that were taken out of an array are put back
pub put_back_there : (q at : Address) (ds : List Datum) (d f new : Kinds) → ((p : Address) → new p ≡ below q (λ part. d) f p) → is_array (new q) ≡ true → ((r : Address) → elements_at ds r ≡ f (q ++ r)) → filled q ds new at ≡ f at
put_back_there q at ds d f new whole there is =
    ap (λ (k : Kinds). k at) (filled_is q ds new there)
    ∙ ap (λ (k : Kinds). below q (λ part. elements_at ds) k at) (fun_ext whole)
    ∙ again q at (elements_at ds) d f
    ∙ as_it_was q at (elements_at ds) f is

-- an array is put in
pub filled_by : (q at : Address) (v : Vec Datum Global) (f : Kinds) → is_array (f q) ≡ true → below q (λ part. kind_at (Array v)) f at ≡ filled q v.items f at
filled_by q at v f there =
    ap (λ (k : Kinds). below q (λ part. k) f at) (fun_ext (array_has v)) ∙ sym (ap (λ (k : Kinds). k at) (filled_is q v.items f there))
