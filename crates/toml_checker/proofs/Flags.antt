-- The flags tell of each unit whether it is protected.
use Rattle.std.proofs.Common.{◌≡◌, ◌⊎◌, inl, inr, ◌↔◌, ℕ, zero, suc, ◌<◌, List, [], ◌∷◌, length, map, Option, Some, None, Bool, true, false, not, ◌&&◌, ◌||◌, cond, refl, sym, ap, subst, ◌∙◌, arith}
use Rattle.std.proofs.lemmas.Bool.Decides.{nat_tests}
use Rattle.std.proofs.lemmas.List.{append-nil}
use Rattle.std.proofs.lemmas.Option.{same_Some}
use Rattle.std.specs.Bool.{nat_lt}
use Rattle.std.specs.Prelude.{slice_get, option_map, option_and_then}
use Rattle.toml_names.specs.model.Addresses.{Address, IsAbove}
use Rattle.toml_edits.specs.Carry.{carry}
use Rattle.toml_edits.specs.Edits.{Change, set, insert, rename, remove, new_section, new_element, place}
use Rattle.toml_units.specs.declared.unit.UnitKind.{UnitKind}
use Rattle.toml_units.specs.declared.unit.UnitKind.TheVariants as kinds
use Rattle.toml_units.specs.Places.{is_line, line_with, line_from}
use Rattle.toml_units.specs.Units.{TextUnit}
use Rattle.toml_edits.specs.declared.side.Side.{Side}
use Rattle.toml_edits.specs.declared.side.Side.TheVariants.{Apart, Above, At, Below}
use Rattle.toml_checker.specs.declared.tables.Part.{Part}
use Rattle.toml_checker.specs.declared.tables.Part.TheVariants as parts
use Rattle.toml_checker.specs.CarriedTo.{IsAtOrAbove, At as InAt}
use Rattle.toml_checker.specs.GoneAndChanged.{Removes, Sets, SetsAbove, SetsIt, Renames, IsWithin, PartIsGone, LineIsGone, LineIsChanged, Standing, IsGone, IsChanged}
use Rattle.toml_checker.specs.Plain as plain
use Rattle.toml_checker.specs.Plain.{stands, is_named, Site, site, next_line, home_stands, is_kept, flags_from, flags, FlagsTell}
use Rattle.toml_checker.specs.Protected.{Stays, standing}
use Rattle.toml_edits.specs.Sides as places
use Rattle.toml_edits.specs.Sides.{side}
use Rattle.toml_edits.proofs.Proved.{sides_are_right}

-- the test says whether it is so
abbrev pub D : Bool → Type 0 → Type 0
D b P = (b ≡ true) ↔ P

not_so : {P : Type 0} → ◌≡◌ {A = Bool} false true → P
not_so e = absurd (let f : false ≡ true = e in cc)

yes : {P : Type 0} → P → D true P
yes p = ((λ e. p), (λ q. refl))

no : {P : Type 0} → ¬ P → D false P
no n = ((λ e. not_so e), (λ p. absurd (n p)))

d_or : (b c : Bool) (P Q : Type 0) → D b P → D c Q → D (b || c) (P ⊎ Q)
d_or true c P Q d e = yes (inl (d.0 refl))
d_or false c P Q d e = ((λ h. inr (e.0 h)), (λ w. elim w [ inl p ↦ not_so (d.1 p) | inr q ↦ e.1 q ]))

d_and : (b c : Bool) (P Q : Type 0) → D b P → D c Q → D (b && c) (P × Q)
d_and true c P Q d e = ((λ h. (d.0 refl, e.0 h)), (λ w. e.1 w.1))
d_and false c P Q d e = no (λ w. not_so (d.1 w.0))

d_not : (b : Bool) (P : Type 0) → D b P → D (not b) (¬ P)
d_not true P d = no (λ n. n (d.0 refl))
d_not false P d = yes (λ p. not_so (d.1 p))

d_as : (b : Bool) (P Q : Type 0) → D b P → (P → Q) → (Q → P) → D b Q
d_as b P Q d f g = ((λ e. f (d.0 e)), (λ q. d.1 (g q)))

d_less : (m n : ℕ) → D (nat_lt m n) (m < n)
d_less m n = ((λ e. grind (arith, nat_tests)), (λ h. let l : m < n = h in grind (arith, nat_tests)))

-- ---- the sides

abbrev Seen : Side → Address → Address → Type 0
Seen Apart p a = Unit {0}
Seen Above p a = IsAbove p a
Seen At p a = p ≡ a
Seen Below p a = IsAbove a p

seen : (p a : Address) → Seen (side p a) p a
seen p a = by (side p a) refl
  where
    by : (x : Side) → side p a ≡ x → Seen x p a
    by Apart e = tt
    by Above e = (sides_are_right p a).above.0 e
    by At e = (sides_are_right p a).at.0 e
    by Below e = (sides_are_right p a).below.0 e

seen_front : (x : Side) (p a : Address) → Seen x p a → places.is_at_or_above x ≡ true → IsAtOrAbove p a
seen_front Above p a w e = (w.0 ∷ w.1, w.2)
seen_front At p a w e = ([], sym w ∙ sym (append-nil p))
seen_front Apart p a w e = cc
seen_front Below p a w e = cc

pub front : (p a : Address) → D (places.is_at_or_above (side p a)) (IsAtOrAbove p a)
front p a = (seen_front (side p a) p a (seen p a), back)
  where
    back : IsAtOrAbove p a → places.is_at_or_above (side p a) ≡ true
    back ([], is) = ap places.is_at_or_above ((sides_are_right p a).at.1 (sym (is ∙ append-nil p)))
    back (s ∷ r, is) = ap places.is_at_or_above ((sides_are_right p a).above.1 (s, r, is))

seen_above : (x : Side) (p a : Address) → Seen x p a → places.is_above x ≡ true → IsAbove p a
seen_above Above p a w e = w
seen_above At p a w e = cc
seen_above Apart p a w e = cc
seen_above Below p a w e = cc

above : (p a : Address) → D (places.is_above (side p a)) (IsAbove p a)
above p a = (seen_above (side p a) p a (seen p a), (λ w. ap places.is_above ((sides_are_right p a).above.1 w)))

seen_at : (x : Side) (p a : Address) → Seen x p a → places.is_at x ≡ true → p ≡ a
seen_at At p a w e = w
seen_at Above p a w e = cc
seen_at Apart p a w e = cc
seen_at Below p a w e = cc

at_it : (p a : Address) → D (places.is_at (side p a)) (p ≡ a)
at_it p a = (seen_at (side p a) p a (seen p a), (λ e. ap places.is_at ((sides_are_right p a).at.1 e)))

seen_below : (x : Side) (p a : Address) → Seen x p a → places.is_below x ≡ true → IsAbove a p
seen_below Below p a w e = w
seen_below Above p a w e = cc
seen_below Apart p a w e = cc
seen_below At p a w e = cc

below : (p a : Address) → D (places.is_below (side p a)) (IsAbove a p)
below p a = (seen_below (side p a) p a (seen p a), (λ w. ap places.is_below ((sides_are_right p a).below.1 w)))

-- ---- the tables

removes : (c : Change) (a : Address) → D (plain.removes c (side (place c) a)) (Removes c a)
removes (set at value) a = no (λ w. w)
removes (insert at value) a = no (λ w. w)
removes (rename at to) a = no (λ w. w)
removes (remove at) a = front at a
removes (new_section at) a = no (λ w. w)
removes (new_element at) a = no (λ w. w)

sets : (c : Change) (a : Address) → D (plain.sets c (side (place c) a)) (Sets c a)
sets (set at value) a = front at a
sets (insert at value) a = no (λ w. w)
sets (rename at to) a = no (λ w. w)
sets (remove at) a = no (λ w. w)
sets (new_section at) a = no (λ w. w)
sets (new_element at) a = no (λ w. w)

sets_above : (c : Change) (a : Address) → D (plain.sets_above c (side (place c) a)) (SetsAbove c a)
sets_above (set at value) a = above at a
sets_above (insert at value) a = no (λ w. w)
sets_above (rename at to) a = no (λ w. w)
sets_above (remove at) a = no (λ w. w)
sets_above (new_section at) a = no (λ w. w)
sets_above (new_element at) a = no (λ w. w)

sets_it : (c : Change) (a : Address) → D (plain.sets_it c (side (place c) a)) (SetsIt c a)
sets_it (set at value) a = at_it at a
sets_it (insert at value) a = no (λ w. w)
sets_it (rename at to) a = no (λ w. w)
sets_it (remove at) a = no (λ w. w)
sets_it (new_section at) a = no (λ w. w)
sets_it (new_element at) a = no (λ w. w)

renames : (c : Change) (a : Address) → D (plain.renames c (side (place c) a)) (Renames c a)
renames (set at value) a = no (λ w. w)
renames (insert at value) a = no (λ w. w)
renames (rename at to) a = front at a
renames (remove at) a = no (λ w. w)
renames (new_section at) a = no (λ w. w)
renames (new_element at) a = no (λ w. w)

renames_in : (c : Change) (n : ℕ) (a : Address) → D (plain.renames_in c n (side (place c) a)) (Renames c a × (n < length (place c)))
renames_in (set at value) n a = no (λ w. w.0)
renames_in (insert at value) n a = no (λ w. w.0)
renames_in (rename at to) n a = d_and (places.is_at_or_above (side at a)) (nat_lt n (length at)) (IsAtOrAbove at a) (n < length at) (front at a) (d_less n (length at))
renames_in (remove at) n a = no (λ w. w.0)
renames_in (new_section at) n a = no (λ w. w.0)
renames_in (new_element at) n a = no (λ w. w.0)

part_gone : (c : Change) (a : Address) → D (plain.part_is_gone c (side (place c) a)) (PartIsGone c a)
part_gone c a = d_or (plain.removes c (side (place c) a)) (plain.sets c (side (place c) a)) (Removes c a) (Sets c a) (removes c a) (sets c a)

pub line_gone : (c : Change) (a : Address) (b : Option ℕ) → D (plain.line_is_gone c b (side (place c) a)) (LineIsGone c (Some a) b)
line_gone c a None = part_gone c a
line_gone c a (Some n) = d_or (plain.removes c (side (place c) a)) (plain.sets_above c (side (place c) a)) (Removes c a) (SetsAbove c a) (removes c a) (sets_above c a)

pub line_changed : (c : Change) (a : Address) (b : Option ℕ) → D (plain.line_is_changed c b (side (place c) a)) (LineIsChanged c (Some a) b)
line_changed c a None = renames c a
line_changed c a (Some n) =
    d_or (plain.sets_it c (side (place c) a)) (places.is_below (side (place c) a) || plain.renames_in c n (side (place c) a)) (SetsIt c a) (IsWithin c a ⊎ (Renames c a × (n < length (place c)))) (sets_it c a)
    (d_or (places.is_below (side (place c) a)) (plain.renames_in c n (side (place c) a)) (IsWithin c a) (Renames c a × (n < length (place c))) (below (place c) a) (renames_in c n a))

-- ---- lists

-- no edit does so to the thing, each where those before it have carried it
abbrev pub Never : (Change → Option Address → Type 0) → List Change → Option Address → Type 0
Never N [] o = Unit {0}
Never N (c ∷ cs) o = ¬ (N c o) × Never N cs (option_and_then (carry c) o)

never_none : (N : Change → Option Address → Type 0) → ((c : Change) → ¬ (N c None)) → (cs : List Change) → Never N cs None
never_none N none [] = tt
never_none N none (c ∷ cs) = (none c, never_none N none cs)

abbrev pub Nothing : Change → Option Address → Type 0
Nothing c o = ⊥

never_nothing : (cs : List Change) (o : Option Address) → Never Nothing cs o
never_nothing [] o = tt
never_nothing (c ∷ cs) o = ((λ w. w), never_nothing cs (option_and_then (carry c) o))

pub stands_nowhere : (part : Part) (cs : List Change) (b : Option ℕ) → stands part cs None b ≡ true
stands_nowhere part [] b = refl
stands_nowhere part (c ∷ cs) b = refl

never_is : (part : Part) (b : Option ℕ) (N : Change → Option Address → Type 0) → ((c : Change) (a : Address) → D (is_named part c b (side (place c) a)) (N c (Some a))) → ((c : Change) → ¬ (N c None)) → (cs : List Change) (o : Option Address)
    → D (stands part cs o b) (Never N cs o)
never_is part b N named none [] o = yes tt
never_is part b N named none (c ∷ cs) None = yes (none c, never_none N none cs)
never_is part b N named none (c ∷ cs) (Some a) =
    d_and (not (is_named part c b (side (place c) a))) (stands part cs (carry c a) b) (¬ (N c (Some a))) (Never N cs (carry c a)) (d_not (is_named part c b (side (place c) a)) (N c (Some a)) (named c a)) (never_is part b N named none cs (carry c a))

abbrev st : UnitKind → Option Address → Option ℕ → Option Address → Option ℕ → Standing
st k o b l lb = record { kind = k; address = o; base = b; line = l; line_base = lb }

-- what an edit does to a unit, it does to its line or to itself
abbrev Splits : UnitKind → Option ℕ → Option ℕ → (Change → Option Address → Type 0) → (Change → Option Address → Type 0) → Type 0
Splits k b lb M N = (c : Change) (o l : Option Address) → (IsGone k c (st k o b l lb) ⊎ IsChanged k c (st k o b l lb)) ↔ (M c l ⊎ N c o)

splits_to : (k : UnitKind) (b lb : Option ℕ) (M N : Change → Option Address → Type 0) → Splits k b lb M N → (cs : List Change) (o l : Option Address) → Stays cs (st k o b l lb) → Never M cs l × Never N cs o
splits_to k b lb M N h [] o l s = (tt, tt)
splits_to k b lb M N h (c ∷ cs) o l s = by (splits_to k b lb M N h cs (option_and_then (carry c) o) (option_and_then (carry c) l) s.2)
  where
    neither : M c l ⊎ N c o → ⊥
    neither w = elim ((h c o l).1 w) [ inl g ↦ s.0 g | inr g ↦ s.1 g ]

    by : Never M cs (option_and_then (carry c) l) × Never N cs (option_and_then (carry c) o) → Never M (c ∷ cs) l × Never N (c ∷ cs) o
    by t = (((λ m. neither (inl m)), t.0), ((λ n. neither (inr n)), t.1))

splits_from : (k : UnitKind) (b lb : Option ℕ) (M N : Change → Option Address → Type 0) → Splits k b lb M N → (cs : List Change) (o l : Option Address) → Never M cs l → Never N cs o → Stays cs (st k o b l lb)
splits_from k b lb M N h [] o l m n = tt
splits_from k b lb M N h (c ∷ cs) o l m n = ((λ g. named ((h c o l).0 (inl g))), (λ g. named ((h c o l).0 (inr g))), splits_from k b lb M N h cs (option_and_then (carry c) o) (option_and_then (carry c) l) m.1 n.1)
  where
    named : M c l ⊎ N c o → ⊥
    named (inl g) = m.0 g
    named (inr g) = n.0 g

abbrev Same : Type 0 → Type 0 → Type 0
Same P Q = P ↔ Q

right_only : (P : Type 0) → Same P (⊥ ⊎ P)
right_only P = ((λ p. inr p), (λ w. elim w [ inl x ↦ absurd x | inr p ↦ p ]))

same : (P : Type 0) → Same P P
same P = ((λ p. p), (λ p. p))

left_only : (P : Type 0) → Same (P ⊎ ⊥) P
left_only P = ((λ w. elim w [ inl p ↦ p | inr x ↦ absurd x ]), (λ p. inl p))

nowhere_named : ⊥ ⊎ ⊥ → ⊥
nowhere_named (inl w) = w
nowhere_named (inr w) = w

abbrev address_of : Option TextUnit → Option Address
address_of = option_and_then (λ (l : TextUnit). l.address)

abbrev base_of : Option TextUnit → Option ℕ
base_of = option_and_then (λ (l : TextUnit). l.base)

-- the line of a comment
abbrev HomeGoes : Option ℕ → Change → Option Address → Type 0
HomeGoes lb c l = LineIsGone c l lb

home : (cs : List Change) (line : Option TextUnit) → D (home_stands cs (option_map site line)) (Never (HomeGoes (base_of line)) cs (address_of line))
home cs None = yes (never_none (HomeGoes None) (λ c w. w) cs)
home cs (Some u) = never_is parts.Home u.base (HomeGoes u.base) (λ c a. line_gone c a u.base) (λ c w. w) cs u.address

abbrev LineNamed : Option ℕ → Change → Option Address → Type 0
LineNamed b c o = LineIsGone c o b ⊎ LineIsChanged c o b

line_kept : (k : UnitKind) → (b lb : Option ℕ) → Splits k b lb Nothing (LineNamed b) → (cs : List Change) (o l : Option Address) → D (stands parts.Line cs o b) (Stays cs (st k o b l lb))
line_kept k b lb h cs o l =
    d_as (stands parts.Line cs o b) (Never (LineNamed b) cs o) (Stays cs (st k o b l lb))
    (never_is parts.Line b (LineNamed b) (λ c a. d_or (plain.line_is_gone c b (side (place c) a)) (plain.line_is_changed c b (side (place c) a)) (LineIsGone c (Some a) b) (LineIsChanged c (Some a) b) (line_gone c a b) (line_changed c a b)) (λ c. nowhere_named) cs o)
    (λ n. splits_from k b lb Nothing (LineNamed b) h cs o l (never_nothing cs l) n) (λ s. (splits_to k b lb Nothing (LineNamed b) h cs o l s).1)

abbrev ElementNamed : Change → Option Address → Type 0
ElementNamed c o = InAt o (PartIsGone c) ⊎ InAt o (IsWithin c)

abbrev CommentGoes : Change → Option Address → Type 0
CommentGoes c o = InAt o (PartIsGone c)

by_kind : (k : UnitKind) (cs : List Change) (o : Option Address) (b : Option ℕ) (line : Option TextUnit)
    → D (is_kept k cs (option_map site line) (record { kind = k; address = o; base = b })) (Stays cs (st k o b (address_of line) (base_of line)))
by_kind kinds.Line cs o b line = line_kept kinds.Line b (base_of line) (λ c o l. right_only (LineNamed b c o)) cs o (address_of line)
by_kind kinds.Pair cs o b line = line_kept kinds.Pair b (base_of line) (λ c o l. right_only (LineNamed b c o)) cs o (address_of line)
by_kind kinds.TailComment cs o b line =
    d_as (home_stands cs (option_map site line)) (Never (HomeGoes (base_of line)) cs (address_of line)) (Stays cs (st kinds.TailComment o b (address_of line) (base_of line))) (home cs line)
    (λ n. splits_from kinds.TailComment b (base_of line) (HomeGoes (base_of line)) Nothing (λ c o l. same (HomeGoes (base_of line) c l ⊎ ⊥)) cs o (address_of line) n (never_nothing cs o))
    (λ s. (splits_to kinds.TailComment b (base_of line) (HomeGoes (base_of line)) Nothing (λ c o l. same (HomeGoes (base_of line) c l ⊎ ⊥)) cs o (address_of line) s).0)
by_kind kinds.InnerComment cs o b line =
    d_as (home_stands cs (option_map site line) && stands parts.Comment cs o b) (Never (HomeGoes (base_of line)) cs (address_of line) × Never CommentGoes cs o) (Stays cs (st kinds.InnerComment o b (address_of line) (base_of line)))
    (d_and (home_stands cs (option_map site line)) (stands parts.Comment cs o b) (Never (HomeGoes (base_of line)) cs (address_of line)) (Never CommentGoes cs o) (home cs line) (never_is parts.Comment b CommentGoes (λ c a. part_gone c a) (λ c w. w) cs o))
    (λ n. splits_from kinds.InnerComment b (base_of line) (HomeGoes (base_of line)) CommentGoes (λ c o l. left_only (HomeGoes (base_of line) c l ⊎ CommentGoes c o)) cs o (address_of line) n.0 n.1)
    (λ s. splits_to kinds.InnerComment b (base_of line) (HomeGoes (base_of line)) CommentGoes (λ c o l. left_only (HomeGoes (base_of line) c l ⊎ CommentGoes c o)) cs o (address_of line) s)
by_kind kinds.Element cs o b line =
    d_as (stands parts.Element cs o b) (Never ElementNamed cs o) (Stays cs (st kinds.Element o b (address_of line) (base_of line)))
    (never_is parts.Element b ElementNamed (λ c a. d_or (plain.part_is_gone c (side (place c) a)) (places.is_below (side (place c) a)) (PartIsGone c a) (IsWithin c a) (part_gone c a) (below (place c) a)) (λ c. nowhere_named) cs o)
    (λ n. splits_from kinds.Element b (base_of line) Nothing ElementNamed (λ c o l. right_only (ElementNamed c o)) cs o (address_of line) (never_nothing cs (address_of line)) n)
    (λ s. (splits_to kinds.Element b (base_of line) Nothing ElementNamed (λ c o l. right_only (ElementNamed c o)) cs o (address_of line) s).1)

kept_is : (cs : List Change) (u : TextUnit) (line : Option TextUnit) → D (is_kept u.kind cs (option_map site line) (site u)) (Stays cs (standing u line))
kept_is cs u line = by_kind u.kind cs u.address u.base line

-- ---- units by their places

next_is : (line : Option TextUnit) (u : TextUnit) → next_line (option_map site line) (site u) ≡ option_map site (line_with line u)
next_is line u = by (is_line u.kind)
  where
    by : (b : Bool) → cond b (Some (site u)) (option_map site line) ≡ option_map site (cond b (Some u) line)
    by true = refl
    by false = refl

abbrev Told : List Change → Option TextUnit → List TextUnit → ℕ → List Bool → Type 0
Told cs line us i fs = (slice_get fs i ≡ Some true) ↔ ((u : TextUnit) × (slice_get us i ≡ Some u) × Stays cs (standing u (line_from line us i)))

inner_flag : (b : Bool) → Some b ≡ Some true → b ≡ true
inner_flag b e = same_Some b true e

told : (cs : List Change) (us : List TextUnit) (line : Option TextUnit) (i : ℕ) → Told cs line us i (flags_from cs (option_map site line) (map site us))
told cs [] line i = ((λ e. cc), (λ w. let e = w.1 in cc))
told cs (u ∷ us) line zero = subst (λ o. Told cs line (u ∷ us) zero (is_kept u.kind cs o (site u) ∷ flags_from cs o (map site us))) (sym (next_is line u)) ((λ e. (u, refl, kept.0 (inner_flag _ e))), (λ w. ap Some (kept.1 (back w))))
  where
    kept : D (is_kept u.kind cs (option_map site (line_with line u)) (site u)) (Stays cs (standing u (line_with line u)))
    kept = kept_is cs u (line_with line u)

    back : (v : TextUnit) × (Some u ≡ Some v) × Stays cs (standing v (line_with line u)) → Stays cs (standing u (line_with line u))
    back w = subst (λ (x : TextUnit). Stays cs (standing x (line_with line u))) (sym (same_Some u w.0 w.1)) w.2
told cs (u ∷ us) line (suc i) =
    subst (λ o. Told cs line (u ∷ us) (suc i) (is_kept u.kind cs o (site u) ∷ flags_from cs o (map site us))) (sym (next_is line u)) (told cs us (line_with line u) i)

as_many : (cs : List Change) (us : List TextUnit) (line : Option Site) → length (flags_from cs line (map site us)) ≡ length us
as_many cs [] line = refl
as_many cs (u ∷ us) line = ap suc (as_many cs us (next_line line (site u)))

pub flags_tell : FlagsTell
flags_tell cs us = (as_many cs us None, told cs us None)
