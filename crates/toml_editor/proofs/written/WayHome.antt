-- The header line that an `insert` writes of a table that only longer headers imply: its address lies right above what the edit puts
-- there, and the edits that follow carry both along, unless a removal takes what was put there out of its table.
use Rattle.std.proofs.Common.{◌≡◌, ◌⊎◌, inl, inr, ◌-◌, ◌+◌, ◌^◌, ◌==◌, ℕ, Bool, true, false, cond, ◌||◌, Option, Some, None, option_map, option_and_then, List, [], ◌∷◌, ◌++◌, refl, sym, ap, ◌∙◌, true≢false, append-nil}
use Rattle.std.specs.Prelude.{not}
use Rattle.std.specs.Bool.{nat_lt}
use Rattle.std.specs.Str.{bytes_eq}
use Rattle.std.proofs.lemmas.Bool.{and_parts}
use Rattle.std.proofs.lemmas.Option.{same_Some}
use Rattle.toml_names.specs.declared.model.address.Step.{Step}
use Rattle.toml_names.specs.declared.model.address.Step.TheVariants.{Name, Index}
use Rattle.toml_names.specs.model.Addresses.{Address, child, same_step}
use Rattle.toml_names.proofs.Proved.{same_step-equal}
use Rattle.toml_edits.specs.Carry.{Carrier, carry, carry_below, nowhere, emptied, up_from, down_above, to_name, parted, setting, inserting, renaming, removing}
use Rattle.toml_edits.specs.Edits.{Change, set, insert, rename, remove, new_section, new_element, place}
use Rattle.toml_edits.specs.Lists.{carried}
use Rattle.toml_edits.specs.Sides.{side, is_at_or_above}
use Rattle.toml_edits.specs.declared.side.Side.TheVariants as sides
use Rattle.toml_checker.specs.declared.tables.Part.TheVariants as parts
use Rattle.toml_checker.specs.CarriedTo.{IsCarriedTo, At}
use Rattle.toml_checker.specs.Owed.{result, IsOwed}
use Rattle.toml_checker.specs.Plain.{stands, is_named}
use Rattle.toml_editor.proofs.written.WayOwed.{IsOwedBelow, at_itself, owed_below, below_on, at_map, line_owed}

-- right above the result of an `insert`, or at that of a removal: there an edit owes the line of a header that was written with what it put
abbrev pub IsHome : Change → Address → Address → Type 0
IsHome (insert p text) r a = (n : List ℕ) × (r ≡ child a n)
IsHome (remove p) r a = r ≡ a
IsHome _ r a = ⊥

abbrev pub IsOwedHome : List Change → Address → Type 0
IsOwedHome [] a = ⊥
IsOwedHome (c ∷ cs) a = ((r to : Address) × (result c ≡ Some r) × (carried cs r ≡ Some to) × IsHome c to a) ⊎ IsOwedHome cs a

pub owed_home : (cs : List Change) (a : Address) → IsOwedHome cs a → IsOwed cs a
owed_home [] a is = is
owed_home (c ∷ cs) a (inr more) = inr (owed_home cs a more)
owed_home (c ∷ cs) a (inl (r, to, is, goes, home)) = by c is home
  where
    by : (c : Change) → result c ≡ Some r → IsHome c to a → IsOwed (c ∷ cs) a
    by (set p text) is home = absurd home
    by (insert p text) is home = inl (r, to, is, goes, inl (Name home.0 ∷ [], home.1))
    by (rename p n) is home = absurd home
    by (remove p) is home = inl (r, to, is, goes, ([], home ∙ sym (append-nil a)))
    by (new_section p) is home = absurd home
    by (new_element p) is home = absurd home

-- ---- one edit carries an address and a name in it

abbrev Goes : (Address → Type 0) → Option Address → Address → Type 0
Goes Lost o y = ((m : List ℕ) × (o ≡ Some (child y m))) ⊎ Lost y

-- the name goes along, perhaps as another one, unless it is lost, which the place tells to which its table goes
abbrev TakesNames : (Address → Type 0) → Carrier → Type 0
TakesNames Lost g = (a y : Address) (n : List ℕ) → g a ≡ Some y → Goes Lost (g (child a n)) y

abbrev Never : Address → Type 0
Never y = ⊥

weaker : (Lost Other : Address → Type 0) → ((y : Address) → Lost y → Other y) → (g : Carrier) → TakesNames Lost g → TakesNames Other g
weaker Lost Other so g takes a y n is = elim (takes a y n is) [ inl goes ↦ inl goes | inr lost ↦ inr (so y lost) ]

always : (Other : Address → Type 0) (g : Carrier) → TakesNames Never g → TakesNames Other g
always Other g = weaker Never Other (λ y none. absurd none) g

one_name : (a y : Address) (n : List ℕ) → Some a ≡ Some y → Some (child a n) ≡ Some (child y n)
one_name a y n is = ap (λ x. Some (child x n)) (same_Some a y is)

all_stay : TakesNames Never Some
all_stay a y n is = inl (n, one_name a y n is)

module _ (g : Carrier) (root : g [] ≡ Some []) where
  still : (q : Address) → carry_below q g [] ≡ Some []
  still [] = root
  still (t ∷ q) = refl

  at_root : (s : Step) (q : Address) (n : List ℕ) → carry_below (s ∷ q) g (Name n ∷ []) ≡ Some (Name n ∷ [])
  at_root s q n = by (same_step s (Name n))
    where
      by : (same : Bool) → cond same (option_map (λ r. Name n ∷ r) (carry_below q g [])) (Some (Name n ∷ [])) ≡ Some (Name n ∷ [])
      by true = ap (option_map (λ r. Name n ∷ r)) (still q)
      by false = refl

-- where the place lies to which its table goes
abbrev LostAt : (Address → Type 0) → Address → Address → Type 0
LostAt Lost q y = (x : Address) × (y ≡ q ++ x) × Lost x

module _ (Lost : Address → Type 0) (g : Carrier) (root : g [] ≡ Some []) (takes : TakesNames Lost g) where
  abbrev LostIn : Address → Address → Type 0
  LostIn = LostAt Lost

  further : (s t : Step) (q z y : Address) (o : Option Address) → s ≡ t → t ∷ z ≡ y → Goes (LostIn q) o z
      → Goes (LostIn (s ∷ q)) (option_map (λ r. t ∷ r) o) y
  further s t q z y o same whole (inl (m, goes)) = inl (m, ap (option_map (λ r. t ∷ r)) goes ∙ ap (λ x. Some (child x m)) whole)
  further s t q z y o same whole (inr (x, is, lost)) =
      inr (x, sym whole ∙ ap (λ a. t ∷ a) is ∙ ap (λ u. u ∷ q ++ x) (sym same), lost)

  -- under steps that lead to its place
  under : (q : Address) → TakesNames (LostIn q) (carry_below q g)
  under [] a y n is = elim (takes a y n is) [ inl goes ↦ inl goes | inr lost ↦ inr (y, refl, lost) ]
  under (s ∷ q) [] y n is = inl (n, at_root g root s q n ∙ one_name [] y n is)
  under (s ∷ q) (t ∷ a) y n is = by (same_step s t) refl (carry_below q g a) (λ z at. under q a z n at) is
    where
      by : (same : Bool) → same_step s t ≡ same → (o : Option Address) → ((z : Address) → o ≡ Some z → Goes (LostIn q) (carry_below q g (child a n)) z)
          → cond same (option_map (λ r. t ∷ r) o) (Some (t ∷ a)) ≡ Some y
          → Goes (LostIn (s ∷ q)) (cond same (option_map (λ r. t ∷ r) (carry_below q g (child a n))) (Some (t ∷ child a n))) y
      by false apart o next goes = inl (n, one_name (t ∷ a) y n goes)
      by true same None next goes = cc
      by true same (Some z) next goes =
          further s t q z y (carry_below q g (child a n)) (same_step-equal s t same) (same_Some (t ∷ z) y goes) (next z refl)

-- where none is lost
under_always : (Other : Address → Type 0) (g : Carrier) → g [] ≡ Some [] → TakesNames Never g → (q : Address) → TakesNames Other (carry_below q g)
under_always Other g root takes q = weaker (LostAt Never q) Other (λ y none. absurd none.2) (carry_below q g) (under Never g root takes q)

up_takes : (i : ℕ) → TakesNames Never (up_from i)
up_takes i [] y n is = inl (n, one_name [] y n is)
up_takes i (Name k ∷ a) y n is = inl (n, one_name (Name k ∷ a) y n is)
up_takes i (Index j ∷ a) y n is = by (nat_lt j i) (nat_lt (j + 1) (2 ^ 64)) is
  where
    by : (low fits : Bool) → cond low (Some (Index j ∷ a)) (cond fits (Some (Index (j + 1) ∷ a)) None) ≡ Some y
        → Goes Never (cond low (Some (Index j ∷ child a n)) (cond fits (Some (Index (j + 1) ∷ child a n)) None)) y
    by true fits goes = inl (n, one_name (Index j ∷ a) y n goes)
    by false true goes = inl (n, one_name (Index (j + 1) ∷ a) y n goes)
    by false false goes = cc

down_takes : (i : ℕ) → TakesNames Never (down_above i)
down_takes i [] y n is = inl (n, one_name [] y n is)
down_takes i (Name k ∷ a) y n is = inl (n, one_name (Name k ∷ a) y n is)
down_takes i (Index j ∷ a) y n is = by (nat_lt j i) (j == i) is
  where
    by : (low same : Bool) → cond low (Some (Index j ∷ a)) (cond same None (Some (Index (j - 1) ∷ a))) ≡ Some y
        → Goes Never (cond low (Some (Index j ∷ child a n)) (cond same None (Some (Index (j - 1) ∷ child a n)))) y
    by true same goes = inl (n, one_name (Index j ∷ a) y n goes)
    by false true goes = cc
    by false false goes = inl (n, one_name (Index (j - 1) ∷ a) y n goes)

name_takes : (from to : List ℕ) → TakesNames Never (to_name from to)
name_takes from to [] y n is = by (bytes_eq from n)
  where
    by : (same : Bool) → Goes Never (cond same (Some (Name to ∷ [])) (Some (Name n ∷ []))) y
    by true = inl (to, one_name [] y to is)
    by false = inl (n, one_name [] y n is)
name_takes from to (Index i ∷ a) y n is = inl (n, one_name (Index i ∷ a) y n is)
name_takes from to (Name k ∷ a) y n is = by (bytes_eq from k) is
  where
    by : (same : Bool) → cond same (Some (Name to ∷ a)) (Some (Name k ∷ a)) ≡ Some y
        → Goes Never (cond same (Some (Name to ∷ child a n)) (Some (Name k ∷ child a n))) y
    by true goes = inl (n, one_name (Name to ∷ a) y n goes)
    by false goes = inl (n, one_name (Name k ∷ a) y n goes)

away_takes : (k : List ℕ) → TakesNames (λ y. y ≡ []) (carry_below (Name k ∷ []) nowhere)
away_takes k [] y n is = inr (sym (same_Some [] y is))
away_takes k (t ∷ a) y n is = by (same_step (Name k) t) is
  where
    by : (same : Bool) → cond same (option_map (λ r. t ∷ r) (nowhere a)) (Some (t ∷ a)) ≡ Some y
        → Goes (λ x. x ≡ []) (cond same (option_map (λ r. t ∷ r) (nowhere (child a n))) (Some (t ∷ child a n))) y
    by true goes = cc
    by false goes = inl (n, one_name (t ∷ a) y n goes)

abbrev Parts : Type 0
Parts = Address × Step

insert_takes : (Lost : Address → Type 0) (o : Option Parts) → TakesNames Lost (inserting o)
insert_takes Lost None = always Lost Some all_stay
insert_takes Lost (Some (q, Name k)) = always Lost Some all_stay
insert_takes Lost (Some (q, Index i)) = under_always Lost (up_from i) refl (up_takes i) q

rename_takes : (Lost : Address → Type 0) (o : Option Parts) (to : List ℕ) → TakesNames Lost (renaming o to)
rename_takes Lost None to = always Lost Some all_stay
rename_takes Lost (Some (q, Name k)) to = under_always Lost (to_name k to) refl (name_takes k to) q
rename_takes Lost (Some (q, Index i)) to = always Lost Some all_stay

abbrev IsParent : Option Parts → Address → Type 0
IsParent o y = option_map (λ (w : Parts). w.0) o ≡ Some y

remove_takes : (o : Option Parts) → TakesNames (IsParent o) (removing o)
remove_takes None = always (IsParent None) Some all_stay
remove_takes (Some (q, Index i)) = under_always (IsParent (Some (q, Index i))) (down_above i) refl (down_takes i) q
remove_takes (Some (q, Name k)) =
    let away = carry_below (Name k ∷ []) nowhere in
    weaker (LostAt (λ y. y ≡ []) q) (IsParent (Some (q, Name k)))
    (λ y lost. ap Some (sym (lost.1 ∙ ap (λ x. q ++ x) lost.2 ∙ append-nil q))) (carry_below q away) (under (λ y. y ≡ []) away refl (away_takes k) q)

-- what a `set` elsewhere leaves
emptied_stays : (p a : Address) (n : List ℕ) → is_at_or_above (side p a) ≡ false
    → (carry_below p emptied a ≡ Some a) × (carry_below p emptied (child a n) ≡ Some (child a n))
emptied_stays [] [] n apart = absurd (true≢false apart)
emptied_stays [] (t ∷ a) n apart = absurd (true≢false apart)
emptied_stays (s ∷ p) [] n apart = (refl, at_root emptied refl s p n)
emptied_stays (s ∷ p) (t ∷ a) n apart = by (same_step s t) (emptied_stays p a n) apart
  where
    by : (same : Bool) → (is_at_or_above (side p a) ≡ false → (carry_below p emptied a ≡ Some a) × (carry_below p emptied (child a n) ≡ Some (child a n)))
        → is_at_or_above (cond same (side p a) sides.Apart) ≡ false
        → (cond same (option_map (λ r. t ∷ r) (carry_below p emptied a)) (Some (t ∷ a)) ≡ Some (t ∷ a))
        × (cond same (option_map (λ r. t ∷ r) (carry_below p emptied (child a n))) (Some (t ∷ child a n)) ≡ Some (t ∷ child a n))
    by true next is = let both = next is in (ap (option_map (λ r. t ∷ r)) both.0, ap (option_map (λ r. t ∷ r)) both.1)
    by false next is = (refl, refl)

set_takes : (Lost : Address → Type 0) (p a y : Address) (n : List ℕ) → is_at_or_above (side p a) ≡ false → setting p a ≡ Some y
    → Goes Lost (setting p (child a n)) y
set_takes Lost [] a y n apart is = always Lost Some all_stay a y n is
set_takes Lost (s ∷ p) a y n apart is =
    let both = emptied_stays (s ∷ p) a n apart in
    inl (n, both.1 ∙ one_name a y n (sym both.0 ∙ is))

-- a removal of the name itself
abbrev IsTakenFrom : Change → Address → Type 0
IsTakenFrom c y = (result c ≡ Some y) × ((x : Address) → IsHome c x x)

takes_name : (c : Change) (a y : Address) (n : List ℕ) → not (is_named parts.Line c None (side (place c) a)) ≡ true → carry c a ≡ Some y
    → Goes (IsTakenFrom c) (carry c (child a n)) y
takes_name (set p text) a y n unnamed is = set_takes (IsTakenFrom (set p text)) p a y n (by (is_at_or_above (side p a)) unnamed) is
  where
    by : (b : Bool) → not (b || false) ≡ true → b ≡ false
    by true e = absurd (true≢false (sym e))
    by false e = refl
takes_name (insert p text) a y n unnamed is = insert_takes (IsTakenFrom (insert p text)) (parted p) a y n is
takes_name (rename p to) a y n unnamed is = rename_takes (IsTakenFrom (rename p to)) (parted p) to a y n is
takes_name (remove p) a y n unnamed is =
    weaker (IsParent (parted p)) (IsTakenFrom (remove p)) (λ x lost. (lost, (λ z. refl))) (removing (parted p)) (remove_takes (parted p)) a y n is
takes_name (new_section p) a y n unnamed is = always (IsTakenFrom (new_section p)) Some all_stay a y n is
takes_name (new_element p) a y n unnamed is = always (IsTakenFrom (new_element p)) Some all_stay a y n is

-- ---- along a list of edits

-- they carry the name along to one in its table, or one of them removes it there
name_on : (cs : List Change) (a b : Address) (n : List ℕ) → stands parts.Line cs (Some a) None ≡ true → carried cs a ≡ Some b
    → Goes (IsOwedHome cs) (carried cs (child a n)) b
name_on [] a b n kept is = inl (n, one_name a b n is)
name_on (c ∷ cs) a b n kept is =
    let (first, others) = and_parts (not (is_named parts.Line c None (side (place c) a))) (stands parts.Line cs (carry c a) None) kept in
    by (carry c a) (λ y at. takes_name c a y n first at) (λ y m k goes. name_on cs y b m k goes) others is
  where
    by : (o : Option Address) → ((y : Address) → o ≡ Some y → Goes (IsTakenFrom c) (carry c (child a n)) y)
        → ((y : Address) (m : List ℕ) → stands parts.Line cs (Some y) None ≡ true → carried cs y ≡ Some b → Goes (IsOwedHome cs) (carried cs (child y m)) b)
        → stands parts.Line cs o None ≡ true → option_and_then (carried cs) o ≡ Some b
        → Goes (IsOwedHome (c ∷ cs)) (option_and_then (carried cs) (carry c (child a n))) b
    by None one more k goes = cc
    by (Some y) one more k goes = elim (one y refl) [
      | inr lost ↦ inr (inl (y, b, lost.0, goes, lost.1 b))
      | inl next ↦ elim (more y next.0 k goes) [
        | inl at ↦ inl (at.0, ap (option_and_then (carried cs)) next.1 ∙ at.1)
        | inr owed ↦ inr (inr owed)
      ]
    ]

pub home_on : (c : Change) (cs : List Change) (a b : Address) → stands parts.Line cs (Some a) None ≡ true → carried cs a ≡ Some b
    → IsOwedHome (c ∷ []) a → IsOwedHome (c ∷ cs) b
home_on c cs a b kept goes (inr none) = absurd none
home_on c cs a b kept goes (inl (r, q, is, same, home)) = by c is (at_itself (λ x. IsHome c x a) r q same home)
  where
    by : (e : Change) → result e ≡ Some r → IsHome e r a → IsOwedHome (e ∷ cs) b
    by (set p text) is home = absurd home
    by (insert p text) is (n, at) = elim (name_on cs a b n kept goes) [
      | inl (m, to) ↦ inl (r, child b m, is, ap (carried cs) at ∙ to, (m, refl))
      | inr owed ↦ inr owed
    ]
    by (rename p to) is home = absurd home
    by (remove p) is home = inl (r, b, is, ap (carried cs) home ∙ goes, refl)
    by (new_section p) is home = absurd home
    by (new_element p) is home = absurd home

-- ---- what is owed of the line of a header that comes

abbrev pub IsOwedHeader : List Change → Address → Type 0
IsOwedHeader cs a = IsOwedBelow cs a ⊎ IsOwedHome cs a

owed_header : (cs : List Change) (a : Address) → IsOwedHeader cs a → IsOwed cs a
owed_header cs a (inl below) = owed_below cs a below
owed_header cs a (inr home) = owed_home cs a home

pub header_later : (c : Change) (cs : List Change) (o : Option Address) → At o (IsOwedHeader cs) → At o (IsOwedHeader (c ∷ cs))
header_later c cs = at_map (λ a owed. elim owed [ inl below ↦ inl (inr below) | inr home ↦ inr (inr home) ])

pub header_on : (c : Change) (cs : List Change) (o x : Option Address) → stands parts.Line cs o None ≡ true → IsCarriedTo cs o x
    → At o (IsOwedHeader (c ∷ [])) → At x (IsOwedHeader (c ∷ cs))
header_on c cs None x kept goes owed = absurd owed
header_on c cs (Some a) None kept goes owed = absurd goes
header_on c cs (Some a) (Some b) kept goes (inl below) = inl (below_on c cs a b goes below)
header_on c cs (Some a) (Some b) kept goes (inr home) = inr (home_on c cs a b kept goes home)

-- a line that comes by the first edit, and that the others do not name
pub came_owed : (c : Change) (cs : List Change) (base : Option ℕ) (o x : Option Address) → stands parts.Line cs o base ≡ true
    → IsCarriedTo cs o x → At o (IsOwed (c ∷ [])) → (base ≡ None → At o (IsOwedHeader (c ∷ []))) → At x (IsOwed (c ∷ cs))
came_owed c cs None o x kept goes owed header = at_map (owed_header (c ∷ cs)) x (header_on c cs o x kept goes (header refl))
came_owed c cs (Some n) o x kept goes owed header = (line_owed c cs (Some n) o x kept goes owed (λ is. cc)).owed
