-- Steps along an address, and what a carrier below a place makes of it.
use Rattle.std.proofs.Common.{◌≡◌, ℕ, ◌+◌, ◌-◌, ◌^◌, ◌<◌, ◌≤◌, ◌==◌, List, [], ◌∷◌, ◌++◌, length, take, drop, get_or, Option, Some, None, Bool, true, false, cond, not, refl, sym, ap, ◌∙◌, append_assoc, arith}
use Rattle.std.specs.Prelude.{option_map, set}
use Rattle.std.specs.Bool.{nat_lt, nat_eq}
use Rattle.std.specs.Str.{bytes_eq}
use Rattle.std.proofs.lemmas.Bool.Decides.{nat_tests}
use Rattle.std.proofs.lemmas.List.{set_at, take_more, take-append-drop}
use Rattle.toml_names.specs.declared.model.address.Step.{Step}
use Rattle.toml_names.specs.declared.model.address.Step.TheVariants.{Name, Index}
use Rattle.toml_names.specs.model.Addresses.{Address, same_step}
use Rattle.toml_names.proofs.Proved.{same_step-equal, same_step-self}
use Rattle.toml_edits.specs.Carry.{Carrier, carry_below, setting, emptied, up_from, down_above, to_name, parted}
use Rattle.toml_edits.specs.Courses.{LeadOn, LeadToNoIndex}
use Rattle.toml_edits.proofs.LastStep.{parted_at_last}

pub same_next : (p : Address) (s t : Step) (a b : Address) → p ++ s ∷ a ≡ p ++ t ∷ b → s ≡ t
same_next [] s t a b e = cc
same_next (u ∷ p) s t a b e = same_next p s t a b cc

pub no_more : (p : Address) (s : Step) (a : Address) → p ≡ p ++ s ∷ a → ⊥
no_more [] s a e = cc
no_more (u ∷ p) s a e = no_more p s a cc

pub step_differs : (s t : Step) → same_step s t ≡ false → s ≡ t → ⊥
step_differs s t h e = let g : same_step s t ≡ true = ap (same_step s) (sym e) ∙ same_step-self s in cc

-- the way so far, and the next step of each
pub next_step : (place steps left rest : Address) (i : ℕ) (step first : Step) → i < length place → step ≡ get_or place i step → steps ≡ take i place ++ left → left ≡ first ∷ rest → (r : Address) → steps ≡ place ++ r → step ≡ first
next_step place steps left rest i step first low at way is r e =
    let more : take (i + 1) place ≡ take i place ++ step ∷ [] = take_more place i step low ∙ ap (λ s. take i place ++ s ∷ []) (sym at) in
    let one : steps ≡ take i place ++ first ∷ rest = way ∙ ap (λ b. take i place ++ b) is in
    let whole : place ≡ take i place ++ step ∷ drop (i + 1) place = sym (take-append-drop (i + 1) place) ∙ ap (λ b. b ++ drop (i + 1) place) more ∙ append_assoc (take i place) (step ∷ []) (drop (i + 1) place) in
    let two : steps ≡ take i place ++ step ∷ (drop (i + 1) place ++ r) = e ∙ ap (λ b. b ++ r) whole ∙ append_assoc (take i place) (step ∷ drop (i + 1) place) r in
    same_next (take i place) step first _ _ (sym two ∙ one)

pub one_more : (place steps left rest : Address) (i : ℕ) (step first : Step) → i < length place → step ≡ get_or place i step → steps ≡ take i place ++ left → left ≡ first ∷ rest → same_step step first ≡ true → steps ≡ take (i + 1) place ++ rest
one_more place steps left rest i step first low at way is same =
    let more : take (i + 1) place ≡ take i place ++ step ∷ [] = take_more place i step low ∙ ap (λ s. take i place ++ s ∷ []) (sym at) in
    let one : steps ≡ take i place ++ step ∷ rest = way ∙ ap (λ b. take i place ++ b) is ∙ ap (λ s. take i place ++ s ∷ rest) (sym (same_step-equal step first same)) in
    one ∙ sym (ap (λ b. b ++ rest) more ∙ append_assoc (take i place) (step ∷ []) rest)

-- ---- at or below the place, and elsewhere

all_same : (o : Option Address) → o ≡ option_map (λ r. [] ++ r) o
all_same None = refl
all_same (Some a) = refl

longer : (s : Step) (p : Address) (o : Option Address) → option_map (λ r. s ∷ r) (option_map (λ r. p ++ r) o) ≡ option_map (λ r. s ∷ p ++ r) o
longer s p None = refl
longer s p (Some a) = refl

pub carry_down : (p : Address) (c : Carrier) (a : Address) → carry_below p c (p ++ a) ≡ option_map (λ r. p ++ r) (c a)
carry_down [] c a = all_same (c a)
carry_down (s ∷ p) c a = ap (λ b. cond b (option_map (λ r. s ∷ r) (carry_below p c (p ++ a))) (Some (s ∷ p ++ a))) (same_step-self s) ∙ ap (option_map (λ r. s ∷ r)) (carry_down p c a) ∙ longer s p (c a)

past_step : (s t : Step) (p : Address) (c : Carrier) (a : Address) → ((r : Address) → t ∷ a ≡ s ∷ p ++ r → ⊥) → (((r : Address) → a ≡ p ++ r → ⊥) → carry_below p c a ≡ Some a) → (b : Bool) → same_step s t ≡ b → cond b (option_map (λ r. t ∷ r) (carry_below p c a)) (Some (t ∷ a)) ≡ Some (t ∷ a)
past_step s t p c a h next false e = refl
past_step s t p c a h next true e = ap (option_map (λ r. t ∷ r)) (next (λ r w. h r (ap (λ u. u ∷ a) (sym (same_step-equal s t e)) ∙ ap (λ x. s ∷ x) w)))

pub carry_past : (p : Address) (c : Carrier) (a : Address) → ((r : Address) → a ≡ p ++ r → ⊥) → carry_below p c a ≡ Some a
carry_past [] c a h = absurd (h a refl)
carry_past (s ∷ p) c [] h = refl
carry_past (s ∷ p) c (t ∷ a) h = past_step s t p c a h (carry_past p c a) (same_step s t) refl

-- below a place below a place
pub carry_joined : (p q : Address) (c : Carrier) (a : Address) → carry_below (p ++ q) c a ≡ carry_below p (carry_below q c) a
carry_joined [] q c a = refl
carry_joined (s ∷ p) q c [] = refl
carry_joined (s ∷ p) q c (t ∷ a) = ap (λ o. cond (same_step s t) (option_map (λ r. t ∷ r) o) (Some (t ∷ a))) (carry_joined p q c a)

-- at or below the place, what is left is carried as the carrier says
pub carried : (p : Address) (c : Carrier) (a rest : Address) (to : Option Address) → a ≡ p ++ rest → c rest ≡ to → carry_below p c a ≡ option_map (λ r. p ++ r) to
carried p c a rest to is move = ap (carry_below p c) is ∙ carry_down p c rest ∙ ap (option_map (λ r. p ++ r)) move

pub carried_not : (p : Address) (c : Carrier) (a rest : Address) → a ≡ p ++ rest → c rest ≡ Some rest → carry_below p c a ≡ Some a
carried_not p c a rest is keep = carried p c a rest (Some rest) is keep ∙ ap Some (sym is)

-- the same where the next step is known
pub carried_step : (p : Address) (c : Carrier) (a rest : Address) (s t : Step) (to : Option Address) → a ≡ p ++ s ∷ rest → s ≡ t → c (t ∷ rest) ≡ to → carry_below p c a ≡ option_map (λ r. p ++ r) to
carried_step p c a rest s t to is same move = carried p c a (t ∷ rest) to (is ∙ ap (λ u. p ++ u ∷ rest) same) move

-- and it alone is set
pub turned_step : (p : Address) (c : Carrier) (a rest : Address) (s t u : Step) (n : ℕ) → n ≡ length p → a ≡ p ++ s ∷ rest → s ≡ t → c (t ∷ rest) ≡ Some (u ∷ rest) → Some (set a n u) ≡ carry_below p c a
turned_step p c a rest s t u n count is same move = ap (λ b. Some (set b n u)) is ∙ ap Some (set_at p s rest u n (sym count)) ∙ sym (carried_step p c a rest s t (Some (u ∷ rest)) is same move)

pub kept_step : (p : Address) (c : Carrier) (a rest : Address) (s t : Step) → a ≡ p ++ s ∷ rest → s ≡ t → c (t ∷ rest) ≡ Some (t ∷ rest) → carry_below p c a ≡ Some a
kept_step p c a rest s t is same keep = carried_not p c a (t ∷ rest) (is ∙ ap (λ u. p ++ u ∷ rest) same) keep

-- a carrier that keeps the place itself
pub carry_elsewhere : (p : Address) (c : Carrier) (a : Address) → c [] ≡ Some [] → ((s : Step) (r : Address) → a ≡ p ++ s ∷ r → ⊥) → carry_below p c a ≡ Some a
carry_elsewhere [] c [] here h = here
carry_elsewhere [] c (t ∷ a) here h = absurd (h t a refl)
carry_elsewhere (s ∷ p) c [] here h = refl
carry_elsewhere (s ∷ p) c (t ∷ a) here h = by (same_step s t) refl (λ m. carry_elsewhere p c a here m)
  where
    by : (b : Bool) → same_step s t ≡ b → (((u : Step) (r : Address) → a ≡ p ++ u ∷ r → ⊥) → carry_below p c a ≡ Some a) → cond b (option_map (λ r. t ∷ r) (carry_below p c a)) (Some (t ∷ a)) ≡ Some (t ∷ a)
    by false e next = refl
    by true e next = ap (option_map (λ r. t ∷ r)) (next (λ u r w. h u r (ap (λ v. v ∷ a) (sym (same_step-equal s t e)) ∙ ap (λ x. s ∷ x) w)))

-- where steps lead on by a name they do by no index
pub by_name : (p : Address) (s : Step) (n : List ℕ) (r a : Address) → LeadOn p s r a → s ≡ Name n → LeadToNoIndex p a
by_name p s n r a is name i rest way =
    let same : Name n ≡ Index i = sym name ∙ same_next p s (Index i) r rest (sym is ∙ way) in
    cc

-- one that keeps the place itself and what is at and below a name
pub carry_no_index : (p : Address) (c : Carrier) (a : Address) → c [] ≡ Some [] → ((n : List ℕ) (r : Address) → c (Name n ∷ r) ≡ Some (Name n ∷ r)) → LeadToNoIndex p a → carry_below p c a ≡ Some a
carry_no_index [] c [] here names h = here
carry_no_index [] c (Name n ∷ a) here names h = names n a
carry_no_index [] c (Index i ∷ a) here names h = absurd (h i a refl)
carry_no_index (s ∷ p) c [] here names h = refl
carry_no_index (s ∷ p) c (t ∷ a) here names h = by (same_step s t) refl (carry_no_index p c a here names)
  where
    by : (b : Bool) → same_step s t ≡ b → (LeadToNoIndex p a → carry_below p c a ≡ Some a) → cond b (option_map (λ r. t ∷ r) (carry_below p c a)) (Some (t ∷ a)) ≡ Some (t ∷ a)
    by false e next = refl
    by true e next = ap (option_map (λ r. t ∷ r)) (next (λ i r w. h i r (ap (λ v. v ∷ a) (sym (same_step-equal s t e)) ∙ ap (λ x. s ∷ x) w)))

pub parted_of : (place q : Address) (s t : Step) → place ≡ q ++ s ∷ [] → s ≡ t → parted place ≡ Some (q, t)
parted_of place q s t is same = ap parted is ∙ parted_at_last q s ∙ ap (λ (u : Step). Some (q, u)) same

-- ---- the carriers

pub up_low : (i j : ℕ) (a : Address) → j < i → up_from i (Index j ∷ a) ≡ Some (Index j ∷ a)
up_low i j a low = let e : nat_lt j i ≡ true = grind (arith, nat_tests) in rw e refl

pub up_high : (i j : ℕ) (a : Address) → i ≤ j → j + 1 < 2 ^ 64 → up_from i (Index j ∷ a) ≡ Some (Index (j + 1) ∷ a)
up_high i j a high fits =
    let e : nat_lt j i ≡ false = grind (arith, nat_tests) in
    let f : nat_lt (j + 1) (2 ^ 64) ≡ true = grind (arith, nat_tests) in
    rw (e, f) refl

pub up_end : (i j : ℕ) (a : Address) → i ≤ j → 2 ^ 64 ≤ j + 1 → up_from i (Index j ∷ a) ≡ None
up_end i j a high full =
    let e : nat_lt j i ≡ false = grind (arith, nat_tests) in
    let f : nat_lt (j + 1) (2 ^ 64) ≡ false = grind (arith, nat_tests) in
    rw (e, f) refl

pub down_low : (i j : ℕ) (a : Address) → j < i → down_above i (Index j ∷ a) ≡ Some (Index j ∷ a)
down_low i j a low = let e : nat_lt j i ≡ true = grind (arith, nat_tests) in rw e refl

pub down_here : (i j : ℕ) (a : Address) → j ≡ i → down_above i (Index j ∷ a) ≡ None
down_here i j a is =
    let e : nat_lt j i ≡ false = grind (arith, nat_tests) in
    let f : nat_eq j i ≡ true = grind (arith, nat_tests) in
    rw (e, f) refl

pub down_high : (i j : ℕ) (a : Address) → i < j → down_above i (Index j ∷ a) ≡ Some (Index (j - 1) ∷ a)
down_high i j a high =
    let e : nat_lt j i ≡ false = grind (arith, nat_tests) in
    let f : nat_eq j i ≡ false = grind (arith, nat_tests) in
    rw (e, f) refl

pub name_new : (from to n one other : List ℕ) (differ : Bool) (a : Address) → one ≡ from → other ≡ n → differ ≡ not (bytes_eq one other) → differ ≡ false → to_name from to (Name n ∷ a) ≡ Some (Name to ∷ a)
name_new from to n one other differ a is also test e = by (bytes_eq one other) (ap (λ (m : List ℕ). bytes_eq m n) (sym is) ∙ ap (bytes_eq one) (sym also)) (sym test ∙ e)
  where
    by : (b : Bool) → bytes_eq from n ≡ b → not b ≡ false → to_name from to (Name n ∷ a) ≡ Some (Name to ∷ a)
    by true same h = rw same refl
    by false same h = cc

pub name_other : (from to n one other : List ℕ) (differ : Bool) (a : Address) → one ≡ from → other ≡ n → differ ≡ not (bytes_eq one other) → differ ≡ true → to_name from to (Name n ∷ a) ≡ Some (Name n ∷ a)
name_other from to n one other differ a is also test e = by (bytes_eq one other) (ap (λ (m : List ℕ). bytes_eq m n) (sym is) ∙ ap (bytes_eq one) (sym also)) (sym test ∙ e)
  where
    by : (b : Bool) → bytes_eq from n ≡ b → not b ≡ true → to_name from to (Name n ∷ a) ≡ Some (Name n ∷ a)
    by true same h = cc
    by false same h = rw same refl

pub setting_below : (p a : Address) → (length p == 0) ≡ false → setting p a ≡ carry_below p emptied a
setting_below [] a h = cc
setting_below (s ∷ p) a h = refl

-- the place itself stays, what is below it goes
pub set_here : (p a rest : Address) → (length p == 0) ≡ false → a ≡ p ++ rest → (length rest == 0) ≡ true → setting p a ≡ Some a
set_here p a [] h is empty = setting_below p a h ∙ carried_not p emptied a [] is refl
set_here p a (s ∷ rest) h is empty = absurd (no_length s rest empty)
  where
    no_length : (s : Step) (rest : Address) → (length (s ∷ rest) == 0) ≡ true → ⊥
    no_length s rest e = grind (arith, nat_tests)

pub set_below : (p a rest : Address) → (length p == 0) ≡ false → a ≡ p ++ rest → (length rest == 0) ≡ false → setting p a ≡ None
set_below p a [] h is empty = cc
set_below p a (s ∷ rest) h is empty = setting_below p a h ∙ carried p emptied a (s ∷ rest) None is refl
