-- Of lines that stand alone at most one holds what stands at an address.
use Rattle.std.proofs.Common.{◌≡◌, ◌∙◌, ℕ, zero, suc, ◌+◌, ◌<◌, ◌≤◌, Bool, true, false, ◌&&◌, ◌||◌, List, [], ◌∷◌, ◌++◌, length, take, Option, Some, None, refl, ap, sym, subst, arith, append_assoc, append-nil, true≢false}
use Rattle.std.specs.Prelude.{option_map, slice_get, is_some, IfSome, MatchOption}
use Rattle.std.specs.Option.{option_or}
use Rattle.std.specs.List.{list_any}
use Rattle.std.proofs.Math.ListN.{set}
pub use Rattle.std.proofs.lemmas.Bool.{and_parts}
use Rattle.std.proofs.lemmas.List.{take_all, take_more}
use Rattle.std.proofs.lemmas.List.Folds.{list_any-append}
use Rattle.std.proofs.lemmas.Option.{get_or_from_slice_get}
use Rattle.toml_names.proofs.Proved.{same_step-equal, same_step-self, same_address-decides}
use Rattle.toml_names.specs.model.Addresses.{Address, same_step, is_above}
use Rattle.toml_tree.specs.Spells.{EachIs}
use Rattle.toml_tree.specs.Tree as tree
use Rattle.toml_units.specs.declared.unit.Unit.{Unit as ReadUnit}
use Rattle.toml_working.specs.declared.lines.Slot.{Slot}
use Rattle.toml_working.specs.declared.lines.Sought.{Sought}
use Rattle.toml_working.specs.declared.lines.Sought.TheVariants as sought
use Rattle.toml_working.specs.declared.working.Position.{Position}
use Rattle.toml_working.specs.declared.working.TablePlace.{TablePlace}
use Rattle.toml_working.specs.declared.working.TablePlace.TheVariants as places
use Rattle.toml_working.specs.Seeing.{Found, found, is_sought, is_sought_line, heads, is_dotted, heads_below, read_by, line_at, FindsLine, FindsTable, FindsHolder, FindsAny, FindsValue, AreHeaded, IsSoughtAt, IsTableLine, HoldsNone, LacksSought}
use Rattle.toml_working.specs.Standing.{Standing, Read, StandAlone, lies_below, leads_to, covers_at, covers, is_below, holds, slot_standing, slots_standing}
use Rattle.toml_layout.specs.Beginnings.{begins}
use Rattle.toml_working.proofs.AtPlace.{slot_of}
pub use Rattle.toml_working.proofs.Beginning.{begins_self}
use Rattle.toml_working.proofs.Each.{each_back}
use Rattle.toml_working.proofs.Pairwise.{PairsAre, pairs_of_all}

pub begins_through : (a p b : Address) → begins a p ≡ true → begins p b ≡ true → begins a b ≡ true
begins_through [] p b h k = refl
begins_through (s ∷ a) [] b h k = cc
begins_through (s ∷ a) (t ∷ p) [] h k = cc
begins_through (s ∷ a) (t ∷ p) (u ∷ b) h k =
    let one = and_parts (same_step s t) (begins a p) h in
    let two = and_parts (same_step t u) (begins p b) k in
    ap (λ x. same_step x u && begins a b) (same_step-equal s t one.0) ∙ ap (λ r. r && begins a b) two.0 ∙ begins_through a p b one.1 two.1

-- what is strictly above is a beginning, and not the other way round
pub above_begins : (a b : Address) → is_above a b ≡ true → (begins a b ≡ true) × (begins b a ≡ false)
above_begins [] [] h = cc
above_begins [] (t ∷ b) h = (refl, refl)
above_begins (s ∷ a) [] h = cc
above_begins (s ∷ a) (t ∷ b) h =
    let parts = and_parts (same_step s t) (is_above a b) h in
    let same = same_step-equal s t parts.0 in
    let later = above_begins a b parts.1 in
    (ap (λ r. r && begins a b) parts.0 ∙ later.0, subst (λ x. (same_step x s && begins b a) ≡ false) same (ap (λ r. r && begins b a) (same_step-self s) ∙ later.1))

-- a line that another does not cover is not held where that one lies
apart_from : (a p : Address) (own : Option Address) (b : Bool) → begins a p ≡ b → lies_below a own ≡ false → lies_below p own ≡ true → b ≡ false
apart_from a p own false e h k = refl
apart_from a p None true e h k = cc
apart_from a p (Some o) true e h k = let through = begins_through a p o e k in cc

leads_elsewhere : (p : Address) (base : Option ℕ) (own : Option Address) (s : Standing) → covers_at base own s ≡ false → is_below p s ≡ true → leads_to p base own ≡ false
leads_elsewhere p None own s h k = refl
leads_elsewhere p (Some n) None s h k = refl
leads_elsewhere p (Some n) (Some a) s h k = apart_from a p s.address (begins a p) refl h k

-- none of the lines behind
none_behind : (p : Address) (s : Standing) (ts : List Standing) → is_below p s ≡ true → EachIs (λ t. (covers s t ≡ false) × (covers t s ≡ false)) ts → list_any (holds p) ts ≡ false
none_behind p s [] k h = refl
none_behind p s (t ∷ ts) k h = ap (λ b. b || list_any (holds p) ts) (leads_elsewhere p t.base t.address s h.0.1 k) ∙ none_behind p s ts k h.1

-- where a line stands at the address or below it, and does not hold what stands there, none does
pub below_pairs : (p : Address) (front : List Standing) (s : Standing) (back : List Standing) → PairsAre (λ x t. (covers x t ≡ false) × (covers t x ≡ false)) (front ++ s ∷ back)
    → is_below p s ≡ true → holds p s ≡ false → list_any (holds p) (front ++ s ∷ back) ≡ false
below_pairs p [] s back h k none = ap (λ b. b || list_any (holds p) back) none ∙ none_behind p s back k h.0
below_pairs p (x ∷ front) s back h k none =
    let here = each_back (λ t. (covers x t ≡ false) × (covers t x ≡ false)) front (s ∷ back) h.0 in
    ap (λ b. b || list_any (holds p) (front ++ s ∷ back)) (leads_elsewhere p x.base x.address s here.0.0 k) ∙ below_pairs p front s back h.1 k none

pub standing_append : (read : Read) (xs ys : List Slot) → slots_standing read (xs ++ ys) ≡ slots_standing read xs ++ slots_standing read ys
standing_append read [] ys = refl
standing_append read (x ∷ xs) ys = ap (λ r. slot_standing read x ++ r) (standing_append read xs ys) ∙ sym (append_assoc (slot_standing read x) (slots_standing read xs) (slots_standing read ys))

-- an element, what stands before and behind it, and another one in its place
pub item_split : {X : Type 0} (xs : List X) (i : ℕ) (x : X) → slice_get xs i ≡ Some x
    → (front : List X) × (back : List X) × (xs ≡ front ++ x ∷ back) × ((y : X) → set xs i y ≡ front ++ y ∷ back)
item_split [] i x h = cc
item_split (y ∷ xs) zero x h = let e : y ≡ x = cc in ([], xs, ap (λ z. z ∷ xs) e, λ z. refl)
item_split (y ∷ xs) (suc i) x h =
    let (front, back, is, new) = item_split xs i x h in
    (y ∷ front, back, ap (λ r. y ∷ r) is, λ z. ap (λ r. y ∷ r) (new z))

-- the lines of a slot, and those before and behind them
pub slot_split : (read : Read) (slots : List Slot) (k : ℕ) (slot : Slot) → slice_get slots k ≡ Some slot
    → (front : List Standing) × (back : List Standing) × (slots_standing read slots ≡ front ++ (slot_standing read slot ++ back))
    × ((new : Slot) → slots_standing read (set slots k new) ≡ front ++ (slot_standing read new ++ back))
slot_split read [] k slot h = cc
slot_split read (x ∷ xs) zero slot h = let e : x ≡ slot = cc in ([], slots_standing read xs, ap (λ y. slot_standing read y ++ slots_standing read xs) e, λ new. refl)
slot_split read (x ∷ xs) (suc k) slot h =
    let (front, back, is, set_to) = slot_split read xs k slot h in
    let own = slot_standing read x in (
      own ++ front,
      back,
      ap (λ r. own ++ r) is ∙ sym (append_assoc own front (slot_standing read slot ++ back)),
      λ new. ap (λ r. own ++ r) (set_to new) ∙ sym (append_assoc own front (slot_standing read new ++ back)),
    )

-- a line among those of its slot, and that slot's among all
pub split_within : (before front : List Standing) (s : Standing) (back behind own all : List Standing) → all ≡ before ++ (own ++ behind) → own ≡ front ++ s ∷ back
    → all ≡ (before ++ front) ++ s ∷ (back ++ behind)
split_within before front s back behind own all outer inner =
    outer ∙ ap (λ r. before ++ (r ++ behind)) inner ∙ ap (λ r. before ++ r) (append_assoc front (s ∷ back) behind) ∙ sym (append_assoc before front (s ∷ (back ++ behind)))

-- a line at a place, and the lines before and behind it
pub at_split : (read : Read) (slots : List Slot) (at : Position) (s : Standing) → line_at read slots at ≡ Some s
    → (front : List Standing) × (back : List Standing) × (slots_standing read slots ≡ front ++ s ∷ back)
at_split read slots at s h =
    let (slot, there, is) = slot_of read slots at s h in
    let (before, behind, all, other) = slot_split read slots at.slot slot there in
    let (front, back, own, new) = item_split (slot_standing read slot) at.index s is in
    (before ++ front, back ++ behind, split_within before front s back behind (slot_standing read slot) (slots_standing read slots) all own)

-- so it is of a line that is sought for a table
abbrev pub IsOfTable : Sought → Address → Type 0
IsOfTable what p = (f : Found) → is_sought what p f ≡ true → (lies_below p f.address ≡ true) × (leads_to p f.base f.address ≡ false)

sought_alone : (what : Sought) (p : Address) (read : Read) (slots : List Slot) (at : Position) → IsOfTable what p → option_map (is_sought_line what p) (line_at read slots at) ≡ Some true
    → StandAlone (slots_standing read slots) → list_any (holds p) (slots_standing read slots) ≡ false
sought_alone what p read slots at is h alone = by (line_at read slots at) refl h
  where
    by : (o : Option Standing) → line_at read slots at ≡ o → option_map (is_sought_line what p) o ≡ Some true → list_any (holds p) (slots_standing read slots) ≡ false
    by None there e = cc
    by (Some s) there e =
        let here : is_sought what p (found s) ≡ true = cc in
        let (front, back, all) = at_split read slots at s there in
        let facts = is (found s) here in
        ap (list_any (holds p)) all ∙ below_pairs p front s back (pairs_of_all _ _ (subst StandAlone all alone)) facts.0 facts.1

pub heads_is : (p : Address) (base : Option ℕ) (own : Option Address) → heads p base own ≡ true → (lies_below p own ≡ true) × (leads_to p base own ≡ false)
heads_is p (Some n) own h = cc
heads_is p None None h = cc
heads_is p None (Some a) h = (subst (λ x. begins p x ≡ true) (sym ((same_address-decides a p).0 h)) (begins_self p), refl)

pub dotted_is : (p : Address) (base : Option ℕ) (own : Option Address) → is_dotted p base own ≡ true → (lies_below p own ≡ true) × (leads_to p base own ≡ false)
dotted_is p None own h = cc
dotted_is p (Some n) None h = cc
dotted_is p (Some n) (Some a) h = above_begins p a (and_parts _ (is_above p a) h).1

pub below_is : (p : Address) (base : Option ℕ) (own : Option Address) → heads_below p base own ≡ true → (lies_below p own ≡ true) × (leads_to p base own ≡ false)
below_is p (Some n) own h = cc
below_is p None own h = (h, refl)

pub table_holds_none : (p : Address) (read : Read) (slots : List Slot) (place : TablePlace) → IsTableLine p read slots place
    → StandAlone (slots_standing read slots) → list_any (holds p) (slots_standing read slots) ≡ false
table_holds_none p read slots (places.Header at) h alone = sought_alone sought.Header p read slots at (λ f. heads_is p f.base f.address) h alone
table_holds_none p read slots (places.Dotted at) h alone = sought_alone sought.Dotted p read slots at (λ f. dotted_is p f.base f.address) h alone
table_holds_none p read slots (places.Implicit at) h alone = sought_alone sought.HeaderBelow p read slots at (λ f. below_is p f.base f.address) h alone

pub line_holds_none : (p : Address) (units : List ReadUnit) (slots : List Slot) (slot : ℕ) (r : Option Position) → FindsLine sought.HeaderBelow p units slots slot r → is_some r ≡ true → HoldsNone p units slots
line_holds_none p units slots slot None h is not_root lines = cc
line_holds_none p units slots slot (Some at) h is not_root lines = table_holds_none p (read_by units lines) slots (places.Implicit at) (h lines)

pub near_holds_none : (p : Address) (units : List ReadUnit) (slots : List Slot) (r : Option TablePlace) → FindsTable p units slots r → is_some r ≡ true → HoldsNone p units slots
near_holds_none p units slots None h is not_root lines = cc
near_holds_none p units slots (Some place) h is not_root lines = table_holds_none p (read_by units lines) slots place (h lines)

pub slice_get_none : {X : Type 0} (xs : List X) (i : ℕ) → slice_get xs i ≡ None → length xs ≤ i
slice_get_none [] i h = omega arith
slice_get_none (x ∷ xs) zero h = cc
slice_get_none (x ∷ xs) (suc i) h = omega (arith, slice_get_none xs i h)

-- none of the lines so far, nor of the next slot's
pub none_in_next : (what : Sought) (p : Address) (units : List ReadUnit) (slots : List Slot) (i : ℕ) (lines : List tree.Line) → i < length slots
    → IfSome (slice_get slots i) (λ (s : Slot). LacksSought what p (slot_standing (read_by units lines) s))
    → list_any (is_sought_line what p) (slots_standing (read_by units lines) (take i slots)) ≡ false
    → list_any (is_sought_line what p) (slots_standing (read_by units lines) (take (i + 1) slots)) ≡ false
none_in_next what p units slots i lines low lacks so_far = by (slice_get slots i) refl lacks
  where
    by : (o : Option Slot) → slice_get slots i ≡ o
        → IfSome o (λ (s : Slot). LacksSought what p (slot_standing (read_by units lines) s))
        → list_any (is_sought_line what p) (slots_standing (read_by units lines) (take (i + 1) slots)) ≡ false
    by None there e = absurd (omega (arith, low, slice_get_none slots i there))
    by (Some s) there e =
        let read = read_by units lines in
        let test = is_sought_line what p in
        let here : list_any test (slot_standing read s) ≡ false = e in
        let front = slots_standing read (take i slots) in
        ap (list_any test) (ap (slots_standing read) (take_more slots i s low ∙ ap (λ x. take i slots ++ x ∷ []) (get_or_from_slice_get slots i s s there))
        ∙ standing_append read (take i slots) (s ∷ []) ∙ ap (λ r. front ++ r) (append-nil (slot_standing read s)))
        ∙ list_any-append test front (slot_standing read s) ∙ ap (λ b. b || list_any test (slot_standing read s)) so_far ∙ here

pub none_so_far : (what : Sought) (p : Address) (units : List ReadUnit) (slots : List Slot) (i : ℕ) (r : Option Position) (lines : List tree.Line) → i < length slots
    → FindsLine what p units slots i r → r ≡ None → list_any (is_sought_line what p) (slots_standing (read_by units lines) (take i slots)) ≡ false
    → list_any (is_sought_line what p) (slots_standing (read_by units lines) (take (i + 1) slots)) ≡ false
none_so_far what p units slots i r lines low finds is so_far =
    none_in_next what p units slots i lines low (subst (FindsLine what p units slots i) is finds lines) so_far

-- ---- headers

pub any_or : (b : Bool) → (b || true) ≡ true
any_or true = refl
any_or false = refl

pub any_there : {A : Type 0} (f : A → Bool) (front : List A) (x : A) (back : List A) → f x ≡ true → list_any f (front ++ x ∷ back) ≡ true
any_there f [] x back so = ap (λ b. b || list_any f back) so
any_there f (y ∷ front) x back so = ap (λ b. f y || b) (any_there f front x back so) ∙ any_or (f y)

-- what is sought stands among the lines
pub sought_there : (what : Sought) (p : Address) (read : Read) (slots : List Slot) (at : Position) → IsSoughtAt what p read slots at
    → list_any (is_sought_line what p) (slots_standing read slots) ≡ true
sought_there what p read slots at h = by (line_at read slots at) refl h
  where
    by : (o : Option Standing) → line_at read slots at ≡ o → option_map (is_sought_line what p) o ≡ Some true
        → list_any (is_sought_line what p) (slots_standing read slots) ≡ true
    by None there e = cc
    by (Some s) there e =
        let here : is_sought_line what p s ≡ true = cc in
        let (front, back, all) = at_split read slots at s there in
        ap (list_any (is_sought_line what p)) all ∙ any_there (is_sought_line what p) front s back here

-- a line whose dotted key makes the table is none of headed lines
pub never_dotted : (p : Address) (units : List ReadUnit) (slots : List Slot) (slot : ℕ) (r : Option Position) (at : Position)
    → FindsLine sought.Dotted p units slots slot r → r ≡ Some at → (lines : List tree.Line) → AreHeaded p (slots_standing (read_by units lines) slots) → ⊥
never_dotted p units slots slot r at finds is lines headed =
    let found = subst (FindsLine sought.Dotted p units slots slot) is finds lines in
    true≢false (sym (sought_there sought.Dotted p (read_by units lines) slots at found) ∙ headed.no_dotted)

-- what is found is as it is to be
pub met_in : {A : Type 0} (P : A → Type 0) (o : Option A) (X : Type 0) → MatchOption o X P → IfSome o P
met_in P None X h = tt
met_in P (Some x) X h = h

-- a header stands in some slot
pub header_somewhere : (p : Address) (read : Read) (slots : List Slot) (n : ℕ) → length slots ≤ n → AreHeaded p (slots_standing read slots)
    → list_any (is_sought_line sought.Header p) (slots_standing read (take n slots)) ≡ false → ⊥
header_somewhere p read slots n past headed none =
    true≢false (sym headed.header ∙ ap (λ xs. list_any (is_sought_line sought.Header p) (slots_standing read xs)) (sym (take_all n slots past)) ∙ none)

pub holder_of_line : (p : Address) (units : List ReadUnit) (slots : List Slot) (slot : ℕ) (r : Option Position) → FindsLine sought.Holder p units slots slot r → FindsHolder p units slots r
holder_of_line p units slots slot None h lines = tt
holder_of_line p units slots slot (Some at) h lines = h lines

pub value_of_any : (p : Address) (units : List ReadUnit) (slots : List Slot) (r : Option Position) → FindsAny p units slots r → FindsValue p units slots r
value_of_any p units slots None h = (λ lines. tt, λ is not_root lines alone. h lines)
value_of_any p units slots (Some at) h = (h, λ is. cc)

pub table_or : (p : Address) (units : List ReadUnit) (slots : List Slot) (r s o : Option TablePlace) → o ≡ option_or r s → FindsTable p units slots r → FindsTable p units slots s → FindsTable p units slots o
table_or p units slots None s o is h k = subst (FindsTable p units slots) (sym is) k
table_or p units slots (Some place) s o is h k = subst (FindsTable p units slots) (sym is) h
