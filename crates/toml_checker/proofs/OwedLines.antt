-- A line that edits carry somewhere is protected under them, or owed by them where it then stands.
use Rattle.std.proofs.Common.{◌≡◌, ◌⊎◌, inl, inr, ℕ, List, [], ◌∷◌, ◌++◌, length, Option, Some, None, Bool, true, false, refl, sym, ap, subst, ◌∙◌, arith, append_assoc, length-append}
use Rattle.std.proofs.lemmas.Bool.Decides.{nat_tests}
use Rattle.std.proofs.lemmas.List.{append-nil}
use Rattle.std.proofs.lemmas.Option.{same_Some, none-some}
use Rattle.std.specs.Bool.{nat_lt, nat_eq}
use Rattle.std.specs.Prelude.{option_map, option_and_then}
use Rattle.toml_tree.specs.declared.profile.Profile.{Profile}
use Rattle.toml_names.specs.declared.model.address.Step.{Step}
use Rattle.toml_names.specs.declared.model.address.Step.TheVariants.{Name, Index}
use Rattle.toml_names.specs.model.Addresses.{Address, IsAbove, child, same_step}
use Rattle.toml_names.specs.model.Data.{Kinds}
use Rattle.toml_names.proofs.Proved.{same_step-self}
use Rattle.toml_edits.specs.Carry.{Carrier, carry, carry_below, emptied, nowhere, down_above, to_name, setting, renaming, removing, parted}
use Rattle.toml_edits.specs.Edits.{Change, set, insert, rename, remove, new_section, new_element, place}
use Rattle.toml_edits.specs.Faults.{IsFault}
use Rattle.toml_edits.specs.Lists.{carried, Lead}
use Rattle.toml_edits.specs.declared.fault.EditFault.TheVariants.{RootNamed, NotAName}
use Rattle.toml_edits.proofs.Proved.{carried_along, carried_front, parted_at_last}
use Rattle.toml_units.specs.declared.unit.UnitKind.TheVariants as kinds
use Rattle.toml_checker.specs.CarriedTo.{IsAtOrAbove}
use Rattle.toml_checker.specs.GoneAndChanged.{Removes, Sets, SetsAbove, SetsIt, Renames, LineIsGone, LineIsChanged, Standing}
use Rattle.toml_checker.specs.Owed.{result, Owes, IsOwed}
use Rattle.toml_checker.specs.Protected.{Stays}
use Rattle.toml_checker.proofs.Flags.{D, line_gone, line_changed}
use Rattle.toml_checker.proofs.LeftAbove.{within_stays}
use Rattle.toml_checker.proofs.Parted.{ends}
use Rattle.toml_checker.proofs.Within.{pair_safe, not_set, at_or_above}

-- ---- edits without a fault

-- the edit is not at the root, and a renaming is at a name
abbrev pub IsApt : Change → Type 0
IsApt (set at value) = ¬ (at ≡ [])
IsApt (insert at value) = ¬ (at ≡ [])
IsApt (rename at to) = (q : Address) × (n : List ℕ) × (at ≡ child q n)
IsApt (remove at) = ¬ (at ≡ [])
IsApt (new_section at) = ¬ (at ≡ [])
IsApt (new_element at) = ¬ (at ≡ [])

abbrev pub AreApt : List Change → Type 0
AreApt [] = Unit {0}
AreApt (c ∷ cs) = IsApt c × AreApt cs

apt : (profile : Profile) (c : Change) (kinds : Kinds) → IsFault profile c kinds None → IsApt c
apt profile (set at value) kinds h = λ e. h RootNamed e
apt profile (insert at value) kinds h = λ e. h RootNamed e
apt profile (remove at) kinds h = λ e. h RootNamed e
apt profile (new_section at) kinds h = λ e. h RootNamed e
apt profile (new_element at) kinds h = λ e. h RootNamed e
apt profile (rename at to) kinds h = by (ends at)
  where
    by : (at ≡ []) ⊎ ((q : Address) × (s : Step) × (at ≡ q ++ s ∷ [])) → IsApt (rename at to)
    by (inl e) = absurd (h RootNamed e)
    by (inr (q, Name n, e)) = (q, n, e)
    by (inr (q, Index i, e)) = absurd (h NotAName (q, i, e))

pub all_apt : (profile : Profile) (cs : List Change) (old new : Kinds) → Lead profile cs old new → AreApt cs
all_apt profile [] old new h = tt
all_apt profile (c ∷ cs) old new h = (apt profile c old h.0, all_apt profile cs h.1 new h.3)

-- ---- where an edit carries what is at its place, below it, and above it

down : (p : Address) (g : Carrier) (a : Address) → carry_below p g (p ++ a) ≡ option_map (λ r. p ++ r) (g a)
down [] g a = by (g a)
  where
    by : (o : Option Address) → o ≡ option_map (λ r. r) o
    by None = refl
    by (Some b) = refl
down (s ∷ p) g a = rw (same_step-self s) (ap (option_map (λ r. s ∷ r)) (down p g a) ∙ by (g a))
  where
    by : (o : Option Address) → option_map (λ r. s ∷ r) (option_map (λ r. p ++ r) o) ≡ option_map (λ r. s ∷ p ++ r) o
    by None = refl
    by (Some b) = refl

down_at : (p : Address) (g : Carrier) (a r : Address) (to : Option Address) → a ≡ p ++ r → g r ≡ to → carry_below p g a ≡ option_map (λ x. p ++ x) to
down_at p g a r to is e = ap (carry_below p g) is ∙ down p g r ∙ ap (option_map (λ x. p ++ x)) e

behind : (q : Address) (s : Step) (rest : Address) → (q ++ s ∷ []) ++ rest ≡ q ++ s ∷ rest
behind q s rest = append_assoc q (s ∷ []) rest

set_here : (at : Address) → setting at at ≡ Some at
set_here [] = refl
set_here (s ∷ p) = down_at (s ∷ p) emptied (s ∷ p) [] (Some []) (sym (append-nil (s ∷ p))) refl ∙ ap Some (append-nil (s ∷ p))

set_nowhere : (at a : Address) → ¬ (at ≡ []) → IsAbove at a → setting at a ≡ None
set_nowhere [] a n w = absurd (n refl)
set_nowhere (s ∷ p) a n w = down_at (s ∷ p) emptied a (w.0 ∷ w.1) None w.2 refl

away : (n : List ℕ) (rest : Address) → carry_below (Name n ∷ []) nowhere (Name n ∷ rest) ≡ None
away n rest = rw (same_step-self (Name n)) refl

dropped : (i : ℕ) (rest : Address) → down_above i (Index i ∷ rest) ≡ None
dropped i rest = rw low (rw same refl)
  where
    low : nat_lt i i ≡ false
    low = grind (arith, nat_tests)

    same : nat_eq i i ≡ true
    same = grind (arith, nat_tests)

remove_nowhere : (at a : Address) → ¬ (at ≡ []) → IsAtOrAbove at a → removing (parted at) a ≡ None
remove_nowhere at a n (rest, is) = by (ends at)
  where
    by : (at ≡ []) ⊎ ((q : Address) × (s : Step) × (at ≡ q ++ s ∷ [])) → removing (parted at) a ≡ None
    by (inl e) = absurd (n e)
    by (inr (q, Name m, e)) =
        ap (λ o. removing o a) (ap parted e ∙ parted_at_last q (Name m))
        ∙ down_at q (carry_below (Name m ∷ []) nowhere) a (Name m ∷ rest) None (is ∙ ap (λ p. p ++ rest) e ∙ behind q (Name m) rest) (away m rest)
    by (inr (q, Index i, e)) =
        ap (λ o. removing o a) (ap parted e ∙ parted_at_last q (Index i))
        ∙ down_at q (down_above i) a (Index i ∷ rest) None (is ∙ ap (λ p. p ++ rest) e ∙ behind q (Index i) rest) (dropped i rest)

named : (n to : List ℕ) (rest : Address) → to_name n to (Name n ∷ rest) ≡ Some (Name to ∷ rest)
named n to rest = let e : same_step (Name n) (Name n) ≡ true = same_step-self (Name n) in rw e refl

rename_there : (at a q : Address) (n to : List ℕ) (rest : Address) → at ≡ child q n → a ≡ at ++ rest → renaming (parted at) to a ≡ Some (child q to ++ rest)
rename_there at a q n to rest is e =
    ap (λ o. renaming o to a) (ap parted is ∙ parted_at_last q (Name n))
    ∙ down_at q (to_name n to) a (Name n ∷ rest) (Some (Name to ∷ rest)) (e ∙ ap (λ p. p ++ rest) is ∙ behind q (Name n) rest) (named n to rest)
    ∙ ap Some (sym (behind q (Name to) rest))

-- ---- lists

-- a beginning of what edits carry is carried to a beginning
fronts : (cs : List Change) (r x b : Address) → carried cs (r ++ x) ≡ Some b → (to : Address) × (carried cs r ≡ Some to) × IsAtOrAbove to b
fronts [] r x b e = (r, refl, (x, sym (same_Some (r ++ x) b e)))
fronts (c ∷ cs) r x b e = by (λ q z. fronts cs q z b) (carry c (r ++ x)) refl
  where
    by : ((q z : Address) → carried cs (q ++ z) ≡ Some b → (to : Address) × (carried cs q ≡ Some to) × IsAtOrAbove to b) → (o : Option Address) → carry c (r ++ x) ≡ o → (to : Address) × (carried (c ∷ cs) r ≡ Some to) × IsAtOrAbove to b
    by more None is = absurd (none-some b (sym (ap (option_and_then (carried cs)) is) ∙ e))
    by more (Some y) is =
        let f = carried_front c r x y is in
        let next = more f.to f.rest (ap (carried cs) (sym f.whole) ∙ sym (ap (option_and_then (carried cs)) is) ∙ e) in
        (next.0, ap (option_and_then (carried cs)) f.carried ∙ next.1, next.2)

-- a line as edits find it
abbrev pub ln : Option Address → Option ℕ → Option Address → Option ℕ → Standing
ln o b p lb = record { kind = kinds.Line; address = o; base = b; line = p; line_base = lb }

-- what is below a line with a key and a value that no edit names is carried along with it
along : (cs : List Change) (n : ℕ) (o : Option Address) (a b r : Address) (p : Option Address) (lb : Option ℕ) → o ≡ Some a → Stays cs (ln o (Some n) p lb) → carried cs a ≡ Some b → carried cs (a ++ r) ≡ Some (b ++ r)
along [] n o a b r p lb is s e = ap (λ x. Some (x ++ r)) (same_Some a b e)
along (c ∷ cs) n o a b r p lb is s e = by (λ y q h. along cs n (carry c a) y b r (option_and_then (carry c) p) lb q h) (carry c a) refl
  where
    t : Stays (c ∷ cs) (ln (Some a) (Some n) p lb)
    t = subst (λ x. Stays (c ∷ cs) (ln x (Some n) p lb)) is s

    by : ((y : Address) → carry c a ≡ Some y → Stays cs (ln (carry c a) (Some n) (option_and_then (carry c) p) lb) → carried cs y ≡ Some b → carried cs (y ++ r) ≡ Some (b ++ r)) → (q : Option Address) → carry c a ≡ q → carried (c ∷ cs) (a ++ r) ≡ Some (b ++ r)
    by more None q = absurd (none-some b (sym (ap (option_and_then (carried cs)) q) ∙ e))
    by more (Some y) q =
        let goes = carried_along c a r (λ w. t.1 (inr (inl w))) (not_set c a (pair_safe c a n t.0 t.1)) in
        ap (option_and_then (carried cs)) (goes ∙ ap (option_map (λ x. x ++ r)) q)
        ∙ more y q t.2 (sym (ap (option_and_then (carried cs)) q) ∙ e)

-- ---- what an edit owes

-- the parent of what is strictly below an address is at it or below it
parent_below : (a q : Address) (s t : Step) (r : Address) → q ++ t ∷ [] ≡ a ++ s ∷ r → (x : Address) × (q ≡ a ++ x)
parent_below [] q s t r e = (q, refl)
parent_below (u ∷ a) [] s t r e = absurd (omega (arith, ap length e, length-append a (s ∷ r)))
parent_below (u ∷ a) (v ∷ q) s t r e =
    let same : v ≡ u = cc in
    let rest : q ++ t ∷ [] ≡ a ++ s ∷ r = cc in
    let w = parent_below a q s t r rest in
    (w.0, ap (λ z. z ∷ q) same ∙ ap (λ z. u ∷ z) w.1)

-- the place of the edit is carried to the address
owes_here : (c : Change) (cs : List Change) (at b : Address) → result c ≡ Some at → carried cs at ≡ Some b → Owes c b b → IsOwed (c ∷ cs) b
owes_here c cs at b is e h = inl (at, b, is, e, h)

itself : (b : Address) → IsAtOrAbove b b
itself b = ([], sym (append-nil b))

-- a `set` at the line
set_owes : (c : Change) (cs : List Change) (a b : Address) → SetsIt c a → carried (c ∷ cs) a ≡ Some b → IsOwed (c ∷ cs) b
set_owes (set at value) cs a b is e = owes_here (set at value) cs at b refl (sym (ap (option_and_then (carried cs)) (ap (setting at) (sym is) ∙ set_here at)) ∙ e) (inl (itself b))
set_owes (insert at value) cs a b is e = absurd is
set_owes (rename at to) cs a b is e = absurd is
set_owes (remove at) cs a b is e = absurd is
set_owes (new_section at) cs a b is e = absurd is
set_owes (new_element at) cs a b is e = absurd is

-- a renaming at it or above it
rename_owes : (c : Change) (cs : List Change) (a b : Address) → IsApt c → Renames c a → carried (c ∷ cs) a ≡ Some b → IsOwed (c ∷ cs) b
rename_owes (rename at to) cs a b (q, n, is) (rest, e) h =
    let f = fronts cs (child q to) rest b (sym (ap (option_and_then (carried cs)) (rename_there at a q n to rest is e)) ∙ h) in
    inl (child q to, f.0, ap (option_map (λ (w : Address × Step). child w.0 to)) (ap parted is ∙ parted_at_last q (Name n)), f.1, inr f.2)
rename_owes (set at value) cs a b h w e = absurd w
rename_owes (insert at value) cs a b h w e = absurd w
rename_owes (remove at) cs a b h w e = absurd w
rename_owes (new_section at) cs a b h w e = absurd w
rename_owes (new_element at) cs a b h w e = absurd w

-- an edit strictly below it, whose result is at its place,
place_owes : (c : Change) (cs : List Change) (n : ℕ) (a b : Address) (p : Option Address) (lb : Option ℕ) → result c ≡ Some (place c) → ((x : Address) → IsAtOrAbove b x → Owes c x b)
    → IsAbove a (place c) → Stays cs (ln (Some a) (Some n) p lb) → carried cs a ≡ Some b → IsOwed (c ∷ cs) b
place_owes c cs n a b p lb made owes (s, r, is) stays e =
    inl (place c, b ++ s ∷ r, made, ap (carried cs) is ∙ along cs n (Some a) a b (s ∷ r) p lb refl stays e, owes (b ++ s ∷ r) (s ∷ r, refl))

-- and any
within_owes : (c : Change) (cs : List Change) (n : ℕ) (a b : Address) (p : Option Address) (lb : Option ℕ) → IsApt c → IsAbove a (place c) → Stays cs (ln (Some a) (Some n) p lb) → carried cs a ≡ Some b → IsOwed (c ∷ cs) b
within_owes (set at value) cs n a b p lb h w stays e = place_owes (set at value) cs n a b p lb refl (λ x v. inl v) w stays e
within_owes (insert at value) cs n a b p lb h w stays e = place_owes (insert at value) cs n a b p lb refl (λ x v. inl v) w stays e
within_owes (rename at to) cs n a b p lb (q, m, at_is) (s, r, is) stays e =
    let w = parent_below a q s (Name m) r (sym at_is ∙ is) in
    inl (
      child q to,
      b ++ (w.0 ++ Name to ∷ []),
      ap (option_map (λ (x : Address × Step). child x.0 to)) (ap parted at_is ∙ parted_at_last q (Name m)),
      ap (λ x. carried cs (child x to)) w.1 ∙ ap (carried cs) (append_assoc a w.0 (Name to ∷ [])) ∙ along cs n (Some a) a b (w.0 ++ Name to ∷ []) p lb refl stays e,
      inl (w.0 ++ Name to ∷ [], refl),
    )
within_owes (remove at) cs n a b p lb h (s, r, is) stays e = by (ends at)
  where
    by : (at ≡ []) ⊎ ((q : Address) × (t : Step) × (at ≡ q ++ t ∷ [])) → IsOwed (remove at ∷ cs) b
    by (inl none) = absurd (h none)
    by (inr (q, t, at_is)) =
        let w = parent_below a q s t r (sym at_is ∙ is) in
        inl (q, b ++ w.0, ap (option_map (λ (x : Address × Step). x.0)) (ap parted at_is ∙ parted_at_last q t), ap (carried cs) w.1 ∙ along cs n (Some a) a b w.0 p lb refl stays e, (w.0, refl))
within_owes (new_section at) cs n a b p lb h w stays e = place_owes (new_section at) cs n a b p lb refl (λ x v. inl v) w stays e
within_owes (new_element at) cs n a b p lb h w stays e = place_owes (new_element at) cs n a b p lb refl (λ x v. inl v) w stays e

-- what takes a line away carries it nowhere, but for a `set` at a header line
lost : (c : Change) (cs : List Change) (a b : Address) → carry c a ≡ None → carried (c ∷ cs) a ≡ Some b → ⊥
lost c cs a b is e = none-some b (sym (ap (option_and_then (carried cs)) is) ∙ e)

removed : (c : Change) (cs : List Change) (a b : Address) → IsApt c → Removes c a → carried (c ∷ cs) a ≡ Some b → ⊥
removed (remove at) cs a b h w e = lost (remove at) cs a b (remove_nowhere at a h w) e
removed (set at value) cs a b h w e = w
removed (insert at value) cs a b h w e = w
removed (rename at to) cs a b h w e = w
removed (new_section at) cs a b h w e = w
removed (new_element at) cs a b h w e = w

set_above_it : (c : Change) (cs : List Change) (a b : Address) → IsApt c → SetsAbove c a → carried (c ∷ cs) a ≡ Some b → ⊥
set_above_it (set at value) cs a b h w e = lost (set at value) cs a b (set_nowhere at a h w) e
set_above_it (insert at value) cs a b h w e = w
set_above_it (rename at to) cs a b h w e = w
set_above_it (remove at) cs a b h w e = w
set_above_it (new_section at) cs a b h w e = w
set_above_it (new_element at) cs a b h w e = w

sets_owes : (c : Change) (cs : List Change) (a b : Address) → IsApt c → Sets c a → carried (c ∷ cs) a ≡ Some b → IsOwed (c ∷ cs) b
sets_owes (set at value) cs a b h w e = by (at_or_above at a w)
  where
    by : (at ≡ a) ⊎ IsAbove at a → IsOwed (set at value ∷ cs) b
    by (inl is) = set_owes (set at value) cs a b is e
    by (inr above) = absurd (set_above_it (set at value) cs a b h above e)
sets_owes (insert at value) cs a b h w e = absurd w
sets_owes (rename at to) cs a b h w e = absurd w
sets_owes (remove at) cs a b h w e = absurd w
sets_owes (new_section at) cs a b h w e = absurd w
sets_owes (new_element at) cs a b h w e = absurd w

gone_owes : (c : Change) (cs : List Change) (base : Option ℕ) (a b : Address) → IsApt c → LineIsGone c (Some a) base → carried (c ∷ cs) a ≡ Some b → IsOwed (c ∷ cs) b
gone_owes c cs None a b h (inl w) e = absurd (removed c cs a b h w e)
gone_owes c cs None a b h (inr w) e = sets_owes c cs a b h w e
gone_owes c cs (Some n) a b h (inl w) e = absurd (removed c cs a b h w e)
gone_owes c cs (Some n) a b h (inr w) e = absurd (set_above_it c cs a b h w e)

changed_owes : (c : Change) (cs : List Change) (base : Option ℕ) (a y b : Address) (p : Option Address) (lb : Option ℕ) → IsApt c → carry c a ≡ Some y → Stays cs (ln (Some y) base p lb) → LineIsChanged c (Some a) base → carried (c ∷ cs) a ≡ Some b → IsOwed (c ∷ cs) b
changed_owes c cs None a y b p lb h is stays w e = rename_owes c cs a b h w e
changed_owes c cs (Some n) a y b p lb h is stays (inl w) e = set_owes c cs a b w e
changed_owes c cs (Some n) a y b p lb h is stays (inr (inr w)) e = rename_owes c cs a b h w.0 e
changed_owes c cs (Some n) a y b p lb h is stays (inr (inl w)) e =
    let here = within_stays c a w in
    let same : y ≡ a = same_Some y a (sym is ∙ here) in
    within_owes c cs n a b p lb h w (subst (λ x. Stays cs (ln (Some x) (Some n) p lb)) same stays) (sym (ap (option_and_then (carried cs)) here) ∙ e)

-- ---- a line is protected, or owed

decide : (b : Bool) (P : Type 0) → D b P → P ⊎ (P → ⊥)
decide true P d = inl (d.0 refl)
decide false P d = inr (λ p. let e = d.1 p in cc)

pub stays_or_owed : (cs : List Change) → AreApt cs → (base : Option ℕ) (o : Option Address) (a b : Address) (p : Option Address) (lb : Option ℕ) → o ≡ Some a → carried cs a ≡ Some b → Stays cs (ln o base p lb) ⊎ IsOwed cs b
stays_or_owed [] h base o a b p lb is e = inl tt
stays_or_owed (c ∷ cs) h base o a b p lb is e = by (λ y q. stays_or_owed cs h.1 base (carry c a) y b (option_and_then (carry c) p) lb q) (carry c a) refl
  where
    with_tests : (y : Address) → carry c a ≡ Some y → Stays cs (ln (carry c a) base (option_and_then (carry c) p) lb)
        → LineIsGone c (Some a) base ⊎ (LineIsGone c (Some a) base → ⊥) → LineIsChanged c (Some a) base ⊎ (LineIsChanged c (Some a) base → ⊥) → Stays (c ∷ cs) (ln (Some a) base p lb) ⊎ IsOwed (c ∷ cs) b
    with_tests y q stays (inl w) m = inr (gone_owes c cs base a b h.0 w e)
    with_tests y q stays (inr n) (inl w) = inr (changed_owes c cs base a y b (option_and_then (carry c) p) lb h.0 q (subst (λ x. Stays cs (ln x base (option_and_then (carry c) p) lb)) q stays) w e)
    with_tests y q stays (inr n) (inr m) = inl (n, m, stays)

    back : Stays (c ∷ cs) (ln (Some a) base p lb) ⊎ IsOwed (c ∷ cs) b → Stays (c ∷ cs) (ln o base p lb) ⊎ IsOwed (c ∷ cs) b
    back (inl s) = inl (subst (λ x. Stays (c ∷ cs) (ln x base p lb)) (sym is) s)
    back (inr w) = inr w

    after : (y : Address) → carry c a ≡ Some y → Stays cs (ln (carry c a) base (option_and_then (carry c) p) lb) ⊎ IsOwed cs b → Stays (c ∷ cs) (ln o base p lb) ⊎ IsOwed (c ∷ cs) b
    after y q (inl stays) = back (with_tests y q stays (decide _ _ (line_gone c a base)) (decide _ _ (line_changed c a base)))
    after y q (inr w) = inr (inr w)

    by : ((y : Address) → carry c a ≡ Some y → carried cs y ≡ Some b → Stays cs (ln (carry c a) base (option_and_then (carry c) p) lb) ⊎ IsOwed cs b) → (q : Option Address) → carry c a ≡ q → Stays (c ∷ cs) (ln o base p lb) ⊎ IsOwed (c ∷ cs) b
    by more None q = absurd (lost c cs a b q e)
    by more (Some y) q = after y q (more y q (sym (ap (option_and_then (carried cs)) q) ∙ e))
