-- What an edit without a fault carries to one address stood at one.
use Rattle.std.proofs.Common.{◌≡◌, ◌⊎◌, inl, inr, ℕ, ◌+◌, ◌-◌, ◌^◌, ◌<◌, ◌≤◌, List, [], ◌∷◌, ◌++◌, Option, Some, None, IsSome, is_some, Bool, true, false, true≢false, cond, bytes_eq, refl, sym, ap, subst, ◌∙◌, append_assoc, append-nil, arith}
use Rattle.std.specs.Prelude.{option_map}
use Rattle.std.specs.Bool.{nat_lt, nat_eq}
use Rattle.std.proofs.lemmas.Bool.Decides.{nat_tests}
use Rattle.std.specs.Cmp.Lexicographic.{bytes_decides}
use Rattle.toml_names.specs.declared.model.address.Step.{Step}
use Rattle.toml_names.specs.declared.model.address.Step.TheVariants.{Name, Index}
use Rattle.toml_names.specs.declared.model.datum.Datum.{Datum}
use Rattle.toml_names.specs.model.Addresses.{Address, same_step, child}
use Rattle.toml_names.specs.model.Data.{Kinds, kind_at, kind_in, IsClosed}
use Rattle.toml_names.specs.mentions.Mentions.{Kind}
use Rattle.toml_names.specs.model.Parts.{HasPart}
use Rattle.toml_names.proofs.Proved.{has_part, has_kind, same_step-equal}
use Rattle.toml_edits.specs.declared.fault.EditFault.TheVariants.{AlreadyThere}
use Rattle.toml_edits.specs.Carry.{Carrier, carry_below, emptied, nowhere, up_from, down_above, to_name, setting, inserting, renaming, removing}
use Rattle.toml_edits.specs.Edits.{set, insert, rename, remove, new_section, new_element}
use Rattle.toml_edits.specs.Laws.{DataAreClosed, CarriedApart}
use Rattle.toml_edits.proofs.Along.{by_parts}
use Rattle.toml_edits.proofs.Fronts.{onto}

-- of the addresses with a property, no two are carried to one
abbrev pub IsApart : (Address → Type 0) → Carrier → Type 0
IsApart P c = (a b to : Address) → P a → P b → c a ≡ Some to → c b ≡ Some to → a ≡ b

-- where both steps are the place's, one is, or neither
next_apart : (p : Address) (c : Carrier) (P : Address → Type 0) (s t u : Step) (a b to : Address) → ((x y z : Address) → P (s ∷ x) → P (s ∷ y) → carry_below p c x ≡ Some z → carry_below p c y ≡ Some z → x ≡ y) → P (t ∷ a) → P (u ∷ b)
    → (one : Bool) → same_step s t ≡ one → (other : Bool) → same_step s u ≡ other
    → cond one (option_map (λ r. t ∷ r) (carry_below p c a)) (Some (t ∷ a)) ≡ Some to → cond other (option_map (λ r. u ∷ r) (carry_below p c b)) (Some (u ∷ b)) ≡ Some to → t ∷ a ≡ u ∷ b
next_apart p c P s t u a b to next pa pb false one false other e f = cc
next_apart p c P s t u a b to next pa pb true one false other e f =
    let w = onto t (carry_below p c a) to e in
    let tu : t ≡ u = cc in
    absurd (true≢false (sym one ∙ ap (same_step s) tu ∙ other))
next_apart p c P s t u a b to next pa pb false one true other e f =
    let w = onto u (carry_below p c b) to f in
    let tu : u ≡ t = cc in
    absurd (true≢false (sym other ∙ ap (same_step s) tu ∙ one))
next_apart p c P s t u a b to next pa pb true one true other e f =
    let st = same_step-equal s t one in
    let su = same_step-equal s u other in
    let v = onto t (carry_below p c a) to e in
    let w = onto u (carry_below p c b) to f in
    let same : v.0 ≡ w.0 = cc in
    let ab = next a b v.0 (subst (λ x. P (x ∷ a)) (sym st) pa) (subst (λ x. P (x ∷ b)) (sym su) pb) v.1 (w.1 ∙ ap Some (sym same)) in
    ap (λ x. x ∷ a) (sym st ∙ su) ∙ ap (λ x. u ∷ x) ab

pub below_apart : (p : Address) (c : Carrier) (P : Address → Type 0) → IsApart (λ a. P (p ++ a)) c → IsApart P (carry_below p c)
below_apart [] c P h a b to pa pb e f = h a b to pa pb e f
below_apart (s ∷ p) c P h [] [] to pa pb e f = refl
below_apart (s ∷ p) c P h [] (u ∷ b) to pa pb e f = by (same_step s u) f
  where
    by : (same : Bool) → cond same (option_map (λ r. u ∷ r) (carry_below p c b)) (Some (u ∷ b)) ≡ Some to → [] ≡ u ∷ b
    by true f = let w = onto u (carry_below p c b) to f in cc
    by false f = cc
below_apart (s ∷ p) c P h (t ∷ a) [] to pa pb e f = by (same_step s t) e
  where
    by : (same : Bool) → cond same (option_map (λ r. t ∷ r) (carry_below p c a)) (Some (t ∷ a)) ≡ Some to → t ∷ a ≡ []
    by true e = let w = onto t (carry_below p c a) to e in cc
    by false e = cc
below_apart (s ∷ p) c P h (t ∷ a) (u ∷ b) to pa pb e f = next_apart p c P s t u a b to (below_apart p c (λ x. P (s ∷ x)) h) pa pb (same_step s t) refl (same_step s u) refl e f

-- ---- the carriers

same_apart : (P : Address → Type 0) → IsApart P Some
same_apart P a b to pa pb e f = cc

nowhere_apart : (P : Address → Type 0) → IsApart P nowhere
nowhere_apart P a b to pa pb e f = cc

emptied_apart : (P : Address → Type 0) → IsApart P emptied
emptied_apart P [] [] to pa pb e f = refl
emptied_apart P [] (u ∷ b) to pa pb e f = cc
emptied_apart P (t ∷ a) b to pa pb e f = cc

-- an index is carried to an index
abbrev pub IndexGoes : (ℕ → ℕ → Type 0) → ℕ → Address → Address → Type 0
IndexGoes R j a to = (k : ℕ) × (to ≡ Index k ∷ a) × R j k

abbrev pub Up : ℕ → ℕ → ℕ → Type 0
Up i j k = ((j < i) × (k ≡ j)) ⊎ ((i ≤ j) × (k ≡ j + 1))

abbrev pub Down : ℕ → ℕ → ℕ → Type 0
Down i j k = ((j < i) × (k ≡ j)) ⊎ ((i < j) × (k ≡ j - 1))

up_goes : (i j : ℕ) (a to : Address) → up_from i (Index j ∷ a) ≡ Some to → IndexGoes (Up i) j a to
up_goes i j a to e = by (nat_lt j i) refl (nat_lt (j + 1) (2 ^ 64)) e
  where
    by : (low : Bool) → nat_lt j i ≡ low → (fits : Bool) → cond low (Some (Index j ∷ a)) (cond fits (Some (Index (j + 1) ∷ a)) None) ≡ Some to → IndexGoes (Up i) j a to
    by true low fits e = let lt : j < i = grind (arith, nat_tests) in (j, cc, inl (lt, refl))
    by false low true e = let ge : i ≤ j = grind (arith, nat_tests) in (j + 1, cc, inr (ge, refl))
    by false low false e = cc

down_goes : (i j : ℕ) (a to : Address) → down_above i (Index j ∷ a) ≡ Some to → IndexGoes (Down i) j a to
down_goes i j a to e = by (nat_lt j i) refl (nat_eq j i) refl e
  where
    by : (low : Bool) → nat_lt j i ≡ low → (here : Bool) → nat_eq j i ≡ here → cond low (Some (Index j ∷ a)) (cond here None (Some (Index (j - 1) ∷ a))) ≡ Some to → IndexGoes (Down i) j a to
    by true low here is e = let lt : j < i = grind (arith, nat_tests) in (j, cc, inl (lt, refl))
    by false low true is e = cc
    by false low false is e = let gt : i < j = grind (arith, nat_tests) in (j - 1, cc, inr (gt, refl))

up_one : (i j k n : ℕ) → Up i j n → Up i k n → j ≡ k
up_one i j k n (inl p) (inl q) = omega (arith, p.1, q.1)
up_one i j k n (inl p) (inr q) = omega (arith, p.0, p.1, q.0, q.1)
up_one i j k n (inr p) (inl q) = omega (arith, p.0, p.1, q.0, q.1)
up_one i j k n (inr p) (inr q) = omega (arith, p.1, q.1)

down_one : (i j k n : ℕ) → Down i j n → Down i k n → j ≡ k
down_one i j k n (inl p) (inl q) = omega (arith, p.1, q.1)
down_one i j k n (inl p) (inr q) = omega (arith, p.0, p.1, q.0, q.1)
down_one i j k n (inr p) (inl q) = omega (arith, p.0, p.1, q.0, q.1)
down_one i j k n (inr p) (inr q) = omega (arith, p.0, p.1, q.0, q.1)

index_one : (R : ℕ → ℕ → Type 0) → ((j k n : ℕ) → R j n → R k n → j ≡ k) → (j k : ℕ) (a b to : Address) → IndexGoes R j a to → IndexGoes R k b to → Index j ∷ a ≡ Index k ∷ b
index_one R one j k a b to v w =
    let same : v.0 ≡ w.0 = index_is v.0 w.0 a b (sym v.1 ∙ w.1) in
    let rest : a ≡ b = rest_is v.0 w.0 a b (sym v.1 ∙ w.1) in
    ap (λ n. Index n ∷ a) (one j k v.0 v.2 (subst (R k) (sym same) w.2)) ∙ ap (λ x. Index k ∷ x) rest
  where
    index_is : (m n : ℕ) (a b : Address) → Index m ∷ a ≡ Index n ∷ b → m ≡ n
    index_is m n a b e = cc

    rest_is : (m n : ℕ) (a b : Address) → Index m ∷ a ≡ Index n ∷ b → a ≡ b
    rest_is m n a b e = cc

up_apart : (i : ℕ) (P : Address → Type 0) → IsApart P (up_from i)
up_apart i P [] [] to pa pb e f = refl
up_apart i P [] (Name n ∷ b) to pa pb e f = cc
up_apart i P [] (Index k ∷ b) to pa pb e f = let w = up_goes i k b to f in let is : Index w.0 ∷ b ≡ to = sym w.1 in cc
up_apart i P (Name m ∷ a) [] to pa pb e f = cc
up_apart i P (Name m ∷ a) (Name n ∷ b) to pa pb e f = cc
up_apart i P (Name m ∷ a) (Index k ∷ b) to pa pb e f = let w = up_goes i k b to f in let is : Index w.0 ∷ b ≡ to = sym w.1 in cc
up_apart i P (Index j ∷ a) [] to pa pb e f = let w = up_goes i j a to e in let is : Index w.0 ∷ a ≡ to = sym w.1 in cc
up_apart i P (Index j ∷ a) (Name n ∷ b) to pa pb e f = let w = up_goes i j a to e in let is : Index w.0 ∷ a ≡ to = sym w.1 in cc
up_apart i P (Index j ∷ a) (Index k ∷ b) to pa pb e f = index_one (Up i) (up_one i) j k a b to (up_goes i j a to e) (up_goes i k b to f)

down_apart : (i : ℕ) (P : Address → Type 0) → IsApart P (down_above i)
down_apart i P [] [] to pa pb e f = refl
down_apart i P [] (Name n ∷ b) to pa pb e f = cc
down_apart i P [] (Index k ∷ b) to pa pb e f = let w = down_goes i k b to f in let is : Index w.0 ∷ b ≡ to = sym w.1 in cc
down_apart i P (Name m ∷ a) [] to pa pb e f = cc
down_apart i P (Name m ∷ a) (Name n ∷ b) to pa pb e f = cc
down_apart i P (Name m ∷ a) (Index k ∷ b) to pa pb e f = let w = down_goes i k b to f in let is : Index w.0 ∷ b ≡ to = sym w.1 in cc
down_apart i P (Index j ∷ a) [] to pa pb e f = let w = down_goes i j a to e in let is : Index w.0 ∷ a ≡ to = sym w.1 in cc
down_apart i P (Index j ∷ a) (Name n ∷ b) to pa pb e f = let w = down_goes i j a to e in let is : Index w.0 ∷ a ≡ to = sym w.1 in cc
down_apart i P (Index j ∷ a) (Index k ∷ b) to pa pb e f = index_one (Down i) (down_one i) j k a b to (down_goes i j a to e) (down_goes i k b to f)

-- a name is carried to a name; with the new name there was nothing
names_apart : (from to : List ℕ) (P : Address → Type 0) → ((a : Address) → ¬ P (Name to ∷ a)) → (m n : List ℕ) (a b goal : Address) → P (Name m ∷ a) → P (Name n ∷ b)
    → (one : Bool) → bytes_eq from m ≡ one → (other : Bool) → bytes_eq from n ≡ other
    → cond one (Some (Name to ∷ a)) (Some (Name m ∷ a)) ≡ Some goal → cond other (Some (Name to ∷ b)) (Some (Name n ∷ b)) ≡ Some goal → Name m ∷ a ≡ Name n ∷ b
names_apart from to P none m n a b goal pa pb true one true other e f =
    let fm : from ≡ m = (bytes_decides from m).0 one in
    let fn : from ≡ n = (bytes_decides from n).0 other in
    let ab : a ≡ b = cc in
    ap (λ x. Name x ∷ a) (sym fm ∙ fn) ∙ ap (λ x. Name n ∷ x) ab
names_apart from to P none m n a b goal pa pb true one false other e f =
    let tn : n ≡ to = cc in
    absurd (none b (subst (λ x. P (Name x ∷ b)) tn pb))
names_apart from to P none m n a b goal pa pb false one true other e f =
    let tm : m ≡ to = cc in
    absurd (none a (subst (λ x. P (Name x ∷ a)) tm pa))
names_apart from to P none m n a b goal pa pb false one false other e f = cc

name_past : (from to n : List ℕ) (a goal : Address) → (same : Bool) → cond same (Some (Name to ∷ a)) (Some (Name n ∷ a)) ≡ Some goal → (m : List ℕ) × (goal ≡ Name m ∷ a)
name_past from to n a goal true e = (to, cc)
name_past from to n a goal false e = (n, cc)

name_apart : (from to : List ℕ) (P : Address → Type 0) → ((a : Address) → ¬ P (Name to ∷ a)) → IsApart P (to_name from to)
name_apart from to P none [] [] goal pa pb e f = refl
name_apart from to P none [] (Index k ∷ b) goal pa pb e f = cc
name_apart from to P none [] (Name n ∷ b) goal pa pb e f = let w = name_past from to n b goal (bytes_eq from n) f in let is : Name w.0 ∷ b ≡ goal = sym w.1 in cc
name_apart from to P none (Index j ∷ a) [] goal pa pb e f = cc
name_apart from to P none (Index j ∷ a) (Index k ∷ b) goal pa pb e f = cc
name_apart from to P none (Index j ∷ a) (Name n ∷ b) goal pa pb e f = let w = name_past from to n b goal (bytes_eq from n) f in let is : Name w.0 ∷ b ≡ goal = sym w.1 in cc
name_apart from to P none (Name m ∷ a) [] goal pa pb e f = let w = name_past from to m a goal (bytes_eq from m) e in let is : Name w.0 ∷ a ≡ goal = sym w.1 in cc
name_apart from to P none (Name m ∷ a) (Index k ∷ b) goal pa pb e f = let w = name_past from to m a goal (bytes_eq from m) e in let is : Name w.0 ∷ a ≡ goal = sym w.1 in cc
name_apart from to P none (Name m ∷ a) (Name n ∷ b) goal pa pb e f = names_apart from to P none m n a b goal pa pb (bytes_eq from m) refl (bytes_eq from n) refl e f

-- ---- maps where nothing stands below nothing

no_some : {X : Type 0} (o : Option Kind) → o ≡ None → IsSome o → X
no_some o none some = absurd (true≢false (sym some ∙ ap is_some none))

not_some : (o : Option Kind) → ¬ IsSome o → o ≡ None
not_some None h = refl
not_some (Some k) h = absurd (h refl)

pub nothing_below : (kinds : Kinds) → IsClosed kinds → (r a : Address) → kinds a ≡ None → kinds (a ++ r) ≡ None
nothing_below kinds closed [] a none = ap kinds (append-nil a) ∙ none
nothing_below kinds closed (s ∷ r) a none = ap kinds (sym (append_assoc a (s ∷ []) r)) ∙ nothing_below kinds closed r (a ++ s ∷ []) (closed a s none)

data_closed : (a : Address) (d : Datum) (s : Step) → kind_at d a ≡ None → kind_at d (a ++ s ∷ []) ≡ None
data_closed [] d s none = no_some _ none (has_kind d)
data_closed (t ∷ a) d s none = by (has_part t d) (λ e. data_closed a e s)
  where
    part : (o : Option Datum) → ((e : Datum) → kind_at e a ≡ None → kind_at e (a ++ s ∷ []) ≡ None) → kind_in o a ≡ None → kind_in o (a ++ s ∷ []) ≡ None
    part None next is = refl
    part (Some e) next is = next e is

    by : HasPart t d → ((e : Datum) → kind_at e a ≡ None → kind_at e (a ++ s ∷ []) ≡ None) → kind_at d (t ∷ a ++ s ∷ []) ≡ None
    by p next = p.1 (a ++ s ∷ []) ∙ part p.0 next (sym (p.1 a) ∙ none)

pub data_are_closed : DataAreClosed
data_are_closed d a s none = data_closed a d s none

-- ---- the edits

set_apart : (at : Address) (P : Address → Type 0) → IsApart P (setting at)
set_apart [] P = same_apart P
set_apart (s ∷ p) P = below_apart (s ∷ p) emptied P (emptied_apart _)

insert_apart : (P : Address → Type 0) (q : Address) (s : Step) → IsApart P (inserting (Some (q, s)))
insert_apart P q (Name n) = same_apart P
insert_apart P q (Index i) = below_apart q (up_from i) P (up_apart i _)

remove_apart : (P : Address → Type 0) (q : Address) (s : Step) → IsApart P (removing (Some (q, s)))
remove_apart P q (Name n) = below_apart q (carry_below (Name n ∷ []) nowhere) P (below_apart (Name n ∷ []) nowhere _ (nowhere_apart _))
remove_apart P q (Index i) = below_apart q (down_above i) P (down_apart i _)

-- nothing at the new name
abbrev pub IsFreeOf : Kinds → List ℕ → Address → Type 0
IsFreeOf kinds to at = (q : Address) (n : List ℕ) → at ≡ child q n → kinds (child q to) ≡ None

rename_apart : (kinds : Kinds) → IsClosed kinds → (to : List ℕ) (q : Address) (s : Step) → IsFreeOf kinds to (q ++ s ∷ []) → IsApart (λ a. IsSome (kinds a)) (renaming (Some (q, s)) to)
rename_apart kinds closed to q (Index i) free = same_apart _
rename_apart kinds closed to q (Name n) free = below_apart q (to_name n to) (λ a. IsSome (kinds a)) (name_apart n to (λ a. IsSome (kinds (q ++ a))) none)
  where
    none : (a : Address) → ¬ IsSome (kinds (q ++ Name to ∷ a))
    none a some = no_some _ (ap kinds (sym (append_assoc q (Name to ∷ []) a)) ∙ nothing_below kinds closed a (child q to) (free q n refl)) some

pub carried_apart : CarriedApart
carried_apart profile (set at value) kinds closed sound = set_apart at (λ a. IsSome (kinds a))
carried_apart profile (insert at value) kinds closed sound = by_parts (λ o p. IsApart (λ a. IsSome (kinds a)) (inserting o)) (same_apart _) (insert_apart _) at
carried_apart profile (rename at to) kinds closed sound = by_parts (λ o p. IsFreeOf kinds to p → IsApart (λ a. IsSome (kinds a)) (renaming o to)) (λ h. same_apart _) (rename_apart kinds closed to) at free
  where
    free : IsFreeOf kinds to at
    free q n is = not_some _ (λ some. sound AlreadyThere (q, n, is, some))
carried_apart profile (remove at) kinds closed sound = by_parts (λ o p. IsApart (λ a. IsSome (kinds a)) (removing o)) (same_apart _) (remove_apart _) at
carried_apart profile (new_section at) kinds closed sound = same_apart _
carried_apart profile (new_element at) kinds closed sound = same_apart _
