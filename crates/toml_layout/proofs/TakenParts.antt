-- What becomes of the items where one goes.
use Rattle.std.proofs.Common.{◌≡◌, ◌≢◌, ◌∙◌, ◌<◌, ◌≤◌, ◌-◌, ◌++◌, ℕ, zero, suc, Bool, true, false, not, List, [], ◌∷◌, length, map, set, take, drop, get_or, Option, Some, None, refl, ap, ap₂, sym, subst, arith, min, IsTrue, ◌↔◌, inl, inr}
use Rattle.std.proofs.lemmas.List.Edits.{insert_end}
use Rattle.std.proofs.lemmas.Bool.{cases_lt, false≢true}
use Rattle.std.proofs.lemmas.List.{length-map, map-append, set-set, take-map}
use Rattle.std.proofs.lemmas.Option.{none-some, same_Some, slice_get-map}
use Rattle.std.specs.List.{insert, remove}
use Rattle.std.specs.Prelude.{option_map, slice_get}
use Rattle.toml_layout.specs.declared.tree.Entries.{Entries}
use Rattle.toml_layout.specs.declared.tree.Entry.{Entry}
use Rattle.toml_layout.specs.declared.tree.Value.TheViews.{out-Entries, out-Entry, roll-Entries}
use Rattle.toml_layout.specs.declared.tree.GapPart.{GapPart}
use Rattle.toml_lists.specs.Gaps.{items}
use Rattle.toml_lists.specs.declared.gap_list.GapList.{GapList}
use Rattle.toml_layout.proofs.ItemGaps.{item_there, items_made, not_there, there}
use Rattle.toml_layout.specs.Gaps.{Beside, is_none}
use Rattle.std.specs.Borrow.{Bor}
use Rattle.toml_layout.specs.declared.leaving.Left.{Left}
use Rattle.toml_layout.specs.declared.tree.Gap.{Gap}
use Rattle.toml_layout.specs.Leaving.{remains, what_is_left}
use Rattle.toml_layout.specs.Items.{ChangesAfter, ChangesBefore, Item, Items, gap_parts, item, items_of, last_item, with_after, with_before, with_end, with_item}
use Rattle.toml_layout.specs.PartOutlines.{IsParted}
use Rattle.toml_layout.specs.Takings.{ClosedIf, ClosesOne, ClosesUp, IsPartedIf, around_item, closed, followed, gap_behind, item_above, leaves_plain, put_left, taken, taken_by, taken_if, without}

-- ---- lists

pub drop_mapped : {X Y : Type 0} (f : X → Y) (n : ℕ) (xs : List X) → map f (drop n xs) ≡ drop n (map f xs)
drop_mapped f zero xs = refl
drop_mapped f (suc n) [] = refl
drop_mapped f (suc n) (x ∷ xs) = drop_mapped f n xs

pub removed_mapped : {X Y : Type 0} (f : X → Y) (xs : List X) (i : ℕ) → map f (remove xs i) ≡ remove (map f xs) i
removed_mapped f xs i = map-append f (take i xs) (drop (suc i) xs) ∙ ap₂ ◌++◌ (sym (take-map f i xs)) (drop_mapped f (suc i) xs)

pub got_read : {X : Type 0} (xs : List X) (i : ℕ) (x : X) → i < length xs → x ≡ get_or xs i x → slice_get xs i ≡ Some x
got_read [] i x low is = absurd (omega arith)
got_read (y ∷ ys) zero x low is = ap Some (sym is)
got_read (y ∷ ys) (suc i) x low is = got_read ys i x (omega arith) is

got_set : {X : Type 0} (xs : List X) (i : ℕ) (x y : X) → slice_get xs i ≡ Some y → slice_get (set xs i x) i ≡ Some x
got_set [] i x y is = absurd (none-some y is)
got_set (z ∷ zs) zero x y is = refl
got_set (z ∷ zs) (suc i) x y is = got_set zs i x y is

-- ---- a gap is changed, and changed again

pub before_twice : (m mid new : Items) (i : ℕ) (one gap was none : List GapPart) → ChangesBefore i one m mid was → ChangesBefore i gap mid new none
    → (it : Item) × (slice_get m.list i ≡ Some it) × (was ≡ it.before) × (new ≡ with_before m i it gap)
before_twice m mid new i one gap was none first second =
    let it = first.item in
    let here : slice_get mid.list i ≡ Some (record it { before = one }) = ap (λ (k : Items). slice_get k.list i) first.now ∙ got_set m.list i (record it { before = one }) it first.here in
    let same : record it { before = one } ≡ second.item = same_Some (record it { before = one }) second.item (sym here ∙ second.here) in
    let moved : new ≡ with_before (with_before m i it one) i (record it { before = one }) gap =
    second.now ∙ ap (λ (k : Items). with_before k i second.item gap) first.now ∙ ap (λ x. with_before (with_before m i it one) i x gap) (sym same) in
    (it, first.here, first.stood, moved ∙ ap (λ l. record m { list = l }) (set-set m.list i (record it { before = one }) (record it { before = gap })))

pub after_twice : (m mid new : Items) (i : ℕ) (one gap was none : List GapPart) → ChangesAfter i one m mid was → ChangesAfter i gap mid new none
    → (it : Item) × (slice_get m.list i ≡ Some it) × (was ≡ it.after) × (new ≡ with_after m i it gap)
after_twice m mid new i one gap was none first second =
    let it = first.item in
    let here : slice_get mid.list i ≡ Some (record it { after = one }) = ap (λ (k : Items). slice_get k.list i) first.now ∙ got_set m.list i (record it { after = one }) it first.here in
    let same : record it { after = one } ≡ second.item = same_Some (record it { after = one }) second.item (sym here ∙ second.here) in
    let moved : new ≡ with_after (with_after m i it one) i (record it { after = one }) gap =
    second.now ∙ ap (λ (k : Items). with_after k i second.item gap) first.now ∙ ap (λ x. with_after (with_after m i it one) i x gap) (sym same) in
    (it, first.here, first.stood, moved ∙ ap (λ l. record m { list = l }) (set-set m.list i (record it { after = one }) (record it { after = gap })))

-- ---- what stands beside one that goes

pub above_at : (m : Items) (i : ℕ) → i ≢ 0 → item_above m i ≡ slice_get m.list (i - 1)
above_at m zero some = absurd (some refl)
above_at m (suc i) some = ap (slice_get m.list) (omega arith)

pub none_above : (m : Items) (i : ℕ) → i ≡ 0 → IsPartedIf (option_map (λ a. a.after) (item_above m i)) None
none_above m zero is = refl
none_above m (suc i) is = absurd (omega (arith, is))

pub past_above : (e : Entries) (i : ℕ) → i ≢ 0 → slice_get (items (out-Entries e).list) (i - 1) ≡ None
    → IsPartedIf (option_map (λ a. a.after) (item_above (items_of e) i)) None
past_above e i some none =
    subst (λ o. IsPartedIf (option_map (λ a. a.after) o) None)
    (sym (above_at (items_of e) i some ∙ slice_get-map item (items (out-Entries e).list) (i - 1) ∙ ap (option_map item) none)) refl

pub parted_above : (e : Entries) (i : ℕ) (x : Entry) (parts : List GapPart) → i ≢ 0 → slice_get (items (out-Entries e).list) (i - 1) ≡ Some x
    → IsParted (gap_parts (out-Entry x).after) parts → IsPartedIf (option_map (λ a. a.after) (item_above (items_of e) i)) (Some parts)
parted_above e i x parts some here parted =
    subst (λ o. IsPartedIf (option_map (λ a. a.after) o) (Some parts))
    (sym (above_at (items_of e) i some ∙ slice_get-map item (items (out-Entries e).list) (i - 1) ∙ ap (option_map item) here)) (parts, parted, refl)

-- ---- one is taken out of the list

pub without_is : (old : Entries) (list : GapList Entry) (i : ℕ) → items list ≡ remove (items (out-Entries old).list) i
    → items_of (roll-Entries (record { opening = (out-Entries old).opening; list = list; end = (out-Entries old).end })) ≡ without (items_of old) i
without_is old list i left =
    items_made (record { opening = (out-Entries old).opening; list = list; end = (out-Entries old).end })
    ∙ ap (λ (l : List Item). record (items_of old) { list = l }) (ap (map item) left ∙ removed_mapped item (items (out-Entries old).list) i)

pub closes_one : (old : Entries) (list : GapList Entry) (new : Items) (i : ℕ) (x : Entry) → i < length (items (out-Entries old).list)
    → x ≡ get_or (items (out-Entries old).list) i x → items list ≡ remove (items (out-Entries old).list) i
    → ClosesUp (items_of (roll-Entries (record { opening = (out-Entries old).opening; list = list; end = (out-Entries old).end }))) i
    (gap_parts (out-Entry x).before) (gap_parts (out-Entry x).after) new
    → ClosesOne i (items_of old) new
closes_one old list new i x low is left closes =
    subst (ClosedIf (items_of old) i new) (sym (item_there old i x (got_read (items (out-Entries old).list) i x low is)))
    (subst (λ (m : Items). ClosesUp m i (gap_parts (out-Entry x).before) (gap_parts (out-Entry x).after) new) (without_is old list i left) closes)

pub takes_one : (old : Entries) (list : GapList Entry) (new : Items) (i : ℕ) (x : Entry) → i < length (items (out-Entries old).list)
    → x ≡ get_or (items (out-Entries old).list) i x → items list ≡ remove (items (out-Entries old).list) i
    → new ≡ leaves_plain (items_of (roll-Entries (record { opening = (out-Entries old).opening; list = list; end = (out-Entries old).end }))) i (item x)
    → new ≡ taken (items_of old) i
takes_one old list new i x low is left leaves =
    leaves ∙ ap (λ (m : Items). leaves_plain m i (item x)) (without_is old list i left)
    ∙ sym (ap (taken_if (items_of old) i) (item_there old i x (got_read (items (out-Entries old).list) i x low is)))

pub is_last_one : (e : Entries) (i : ℕ) (b : Bool) → IsTrue b ↔ (i < length (items (out-Entries e).list)) → not b ≡ is_none (slice_get (items_of e).list i)
is_last_one e i true has = let (it, here) = there e i true has refl in sym (ap is_none here)
is_last_one e i false has = sym (ap is_none (not_there e i false has refl))

-- ---- what one leaves by layout `Plain`

pub plain_before : (m new : Items) (i : ℕ) (own it : Item) (left was gap : List GapPart) → slice_get m.list i ≡ Some it → was ≡ it.before → new ≡ with_before m i it gap
    → left ≡ around_item own → gap ≡ followed left was → new ≡ leaves_plain m i own
plain_before m new i own it left was gap here stood now left_is gap_is =
    now ∙ ap (with_before m i it) (gap_is ∙ ap (λ l. followed l was) left_is ∙ ap (followed (around_item own)) stood)
    ∙ sym (ap (λ o. taken_by m i own o m.end (last_item m)) here)

pub plain_end : (m mid new : Items) (i : ℕ) (own : Item) (left end gap : List GapPart) → slice_get m.list i ≡ None → Some end ≡ m.end → mid ≡ with_end m None
    → new ≡ with_end mid (Some gap) → left ≡ around_item own → gap ≡ followed left end → new ≡ leaves_plain m i own
plain_end m mid new i own left end gap past is took now left_is gap_is =
    now ∙ ap (λ (k : Items). with_end k (Some gap)) took ∙ ap (λ g. with_end m (Some g)) (gap_is ∙ ap (λ l. followed l end) left_is)
    ∙ ap (λ o. taken_by m i own None o (last_item m)) is ∙ sym (ap (λ o. taken_by m i own o m.end (last_item m)) past)

pub plain_last : (m mid new : Items) (i last : ℕ) (own it : Item) (was gap : List GapPart) → slice_get m.list i ≡ None → None ≡ m.end → mid ≡ with_end m None
    → last ≡ length mid.list - 1 → slice_get mid.list last ≡ Some it → was ≡ it.after → new ≡ with_after mid last it gap → gap ≡ closed was own.before own.after
    → new ≡ leaves_plain m i own
plain_last m mid new i last own it was gap past is took at here stood now gap_is =
    let same : mid ≡ m = took ∙ ap (with_end m) is in
    let there : last ≡ length m.list - 1 = at ∙ ap (λ (k : Items). length k.list - 1) same in
    let found : last_item m ≡ Some it = ap (slice_get m.list) (sym there) ∙ ap (λ (k : Items). slice_get k.list last) (sym same) ∙ here in
    now ∙ ap (λ (k : Items). with_after k last it gap) same ∙ ap (λ k. with_after m k it gap) there
    ∙ ap (with_after m (length m.list - 1) it) (gap_is ∙ ap (λ w. closed w own.before own.after) stood)
    ∙ sym (ap (taken_by m i own None None) found)
    ∙ ap (λ o. taken_by m i own None o (last_item m)) is ∙ sym (ap (λ o. taken_by m i own o m.end (last_item m)) past)

-- ---- one is put in

pub inserted_mapped : {X Y : Type 0} (f : X → Y) (xs : List X) (i : ℕ) (x : X) → map f (insert xs i x) ≡ insert (map f xs) i (f x)
inserted_mapped f xs i x = map-append f (take i xs) (x ∷ drop i xs) ∙ ap₂ (λ a b. a ++ f x ∷ b) (sym (take-map f i xs)) (drop_mapped f i xs)

pub with_one_in : (old : Entries) (list : GapList Entry) (i : ℕ) (x : Entry) → i ≤ length (items (out-Entries old).list)
    → items list ≡ insert (items (out-Entries old).list) i x
    → items_of (roll-Entries (record { opening = (out-Entries old).opening; list = list; end = (out-Entries old).end })) ≡ with_item (items_of old) i (item x)
with_one_in old list i x low is =
    let all = items (out-Entries old).list in
    let count = length-map all item in
    let here : i ≡ min i (length (map item all)) = omega (arith, low, count) in
    items_made (record { opening = (out-Entries old).opening; list = list; end = (out-Entries old).end })
    ∙ ap (λ (l : List Item). record (items_of old) { list = l })
    (ap (map item) is ∙ inserted_mapped item all i x ∙ ap (λ k. insert (map item all) k (item x)) here)

pub with_one_behind : (old : Entries) (list : GapList Entry) (i : ℕ) (x : Entry) → length (items (out-Entries old).list) ≤ i
    → items list ≡ items (out-Entries old).list ++ x ∷ []
    → items_of (roll-Entries (record { opening = (out-Entries old).opening; list = list; end = (out-Entries old).end })) ≡ with_item (items_of old) i (item x)
with_one_behind old list i x past is =
    let all = items (out-Entries old).list in
    let count = length-map all item in
    let here : length (map item all) ≡ min i (length (map item all)) = omega (arith, past, count) in
    items_made (record { opening = (out-Entries old).opening; list = list; end = (out-Entries old).end })
    ∙ ap (λ (l : List Item). record (items_of old) { list = l })
    (ap (map item) is ∙ map-append item all (x ∷ []) ∙ sym (insert_end (map item all) (item x)) ∙ ap (λ k. insert (map item all) k (item x)) here)

pub not_taken : (n i : ℕ) (b : Bool) → IsTrue b ↔ (i ≤ n) → b ≡ false → n ≤ i
not_taken n i b takes off = elim (cases_lt i n) [
  | inl low ↦ absurd (false≢true (sym off ∙ takes.1 (omega (arith, low))))
  | inr past ↦ past
]

-- ---- what one leaves by layout `Follow`

abbrev pub beside_of : Option (Bor (List GapPart)) → List GapPart → List GapPart → Option (Bor (List GapPart)) → Bool → Beside
beside_of above before after behind is_last = record {
  above = option_map (λ p. p.now) above;
  before = before;
  after = after;
  behind = option_map (λ p. p.now) behind;
  is_last = is_last;
}

pub closes_up : (e : Entries) (new : Items) (i : ℕ) (before after own own_end own_parts own_end_parts : List GapPart) (above behind : Option Gap)
    (above_parts behind_parts : Option (Bor (List GapPart))) (has : Bool) (left : Left)
    → IsPartedIf (option_map (λ a. a.after) (item_above (items_of e) i)) (option_map gap_parts above) → IsParted before own → IsParted after own_end
    → IsPartedIf (gap_behind (slice_get (items_of e).list i) (items_of e).end) (option_map gap_parts behind)
    → option_map (λ p. p.now) above_parts ≡ option_map gap_parts above → own_parts ≡ own → own_end_parts ≡ own_end
    → option_map (λ p. p.now) behind_parts ≡ option_map gap_parts behind → IsTrue has ↔ (i < length (items (out-Entries e).list))
    → remains left ≡ what_is_left (beside_of above_parts own_parts own_end_parts behind_parts (not has)) → new ≡ put_left (items_of e) i (remains left)
    → ClosesUp (items_of e) i before after new
closes_up e new i before after own own_end own_parts own_end_parts above behind above_parts behind_parts has left above_is own_is end_is behind_is above_same own_same end_same
    behind_same there left_is now = record {
      beside = beside_of above_parts own_parts own_end_parts behind_parts (not has);
      stands = record {
        above = subst (IsPartedIf (option_map (λ a. a.after) (item_above (items_of e) i))) (sym above_same) above_is;
        own = subst (IsParted before) (sym own_same) own_is;
        own_end = subst (IsParted after) (sym end_same) end_is;
        behind = subst (IsPartedIf (gap_behind (slice_get (items_of e).list i) (items_of e).end)) (sym behind_same) behind_is;
        is_last = is_last_one e i has there;
      };
      now = now ∙ ap (put_left (items_of e) i) left_is;
    }
