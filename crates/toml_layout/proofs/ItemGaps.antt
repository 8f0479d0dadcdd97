-- The gaps beside the entries of the working tree, as they are changed one by one.
use Rattle.std.proofs.Common.{◌≡◌, ◌∙◌, ◌<◌, ◌≤◌, ◌++◌, ℕ, Vec, List, length, map, reverse, set, Some, None, refl, ap, sym, subst, arith, inl, inr, Bool, true, false, IsTrue, ◌↔◌}
use Rattle.std.proofs.lemmas.Bool.{cases_lt, false≢true}
use Rattle.std.proofs.lemmas.List.{length-map, map-set}
use Rattle.std.proofs.lemmas.Option.{slice_get-map, slice_get_past}
use Rattle.std.specs.Prelude.{option_map, slice_get}
use Rattle.std.specs.Global.{Global}
use Rattle.toml_lists.specs.Gaps.{LiesAt, items}
use Rattle.toml_lists.specs.declared.gap_list.Side.TheVariants.{Before, Behind}
use Rattle.toml_lists.proofs.Proved.{before_get, before_set, behind_get, behind_set, some_at}
use Rattle.toml_layout.specs.declared.tree.Entries.{Entries}
use Rattle.toml_layout.specs.declared.tree.Entry.{Entry}
use Rattle.toml_layout.specs.declared.tree.Gap.{Gap}
use Rattle.toml_layout.specs.declared.tree.GapPart.{GapPart}
use Rattle.toml_layout.specs.declared.tree.Value.TheViews.{out-Entries, out-Entry, out-roll-Entries, roll-Entries, roll-Entry}
use Rattle.toml_layout.specs.declared.tree.Value.{Value}
use Rattle.toml_layout.specs.declared.tree.Value.TheOpen.{Entries-F}
use Rattle.toml_layout.specs.Items.{ChangesAfter, ChangesAfterAt, ChangesBefore, ChangesBeforeAt, Item, Items, gap_parts, item, items_of}

-- ---- items by index

pub item_at : (e : Entries) (i : ℕ) → slice_get (items_of e).list i ≡ option_map item (slice_get (items (out-Entries e).list) i)
item_at e i = slice_get-map item (items (out-Entries e).list) i

pub item_there : (e : Entries) (i : ℕ) (x : Entry) → slice_get (items (out-Entries e).list) i ≡ Some x → slice_get (items_of e).list i ≡ Some (item x)
item_there e i x is = item_at e i ∙ ap (option_map item) is

pub item_count : (e : Entries) → length (items_of e).list ≡ length (items (out-Entries e).list)
item_count e = length-map (items (out-Entries e).list) item

-- entries that are made of these
of_layer : Entries-F Value Entries Entry → Items
of_layer e = record { opening = e.opening; list = map item (items e.list); end = option_map gap_parts e.end }

pub items_made : (e : Entries-F Value Entries Entry) → items_of (roll-Entries e) ≡ record { opening = e.opening; list = map item (items e.list); end = option_map gap_parts e.end }
unfolding of_layer
items_made e = ap of_layer (out-roll-Entries e)

-- ---- another gap

pub other_before : (e : Entry) (gap : Gap)
    → item (roll-Entry (record { before = gap; assign = (out-Entry e).assign; value = (out-Entry e).value; after = (out-Entry e).after })) ≡ record (item e) { before = gap_parts gap }
other_before e gap = refl

pub other_after : (e : Entry) (gap : Gap)
    → item (roll-Entry (record { before = (out-Entry e).before; assign = (out-Entry e).assign; value = (out-Entry e).value; after = gap })) ≡ record (item e) { after = gap_parts gap }
other_after e gap = refl

-- before an entry that lies before the gap of the list,
pub before_changed : (old : Entries) (now : Vec Entry Global) (last i place : ℕ) (gap was : List GapPart)
    → LiesAt (out-Entries old).list i (Before place) → ChangesBeforeAt place gap (out-Entries old).list.before.items now.items was
    → ChangesBefore i gap (items_of old)
    (items_of (roll-Entries (record { opening = (out-Entries old).opening; list = record { before = now; behind = (out-Entries old).list.behind; last = last }; end = (out-Entries old).end }))) was
before_changed old now last i place gap was lies changes =
    let list = (out-Entries old).list in
    let all = items list in
    record {
      item = item changes.one;
      here = item_there old i changes.one (before_get list i place lies ∙ changes.here);
      stood = changes.stood;
      now = items_made (record { opening = (out-Entries old).opening; list = record { before = now; behind = list.behind; last = last }; end = (out-Entries old).end })
          ∙ ap (λ (es : List Entry). record (items_of old) { list = map item es })
          (ap (λ es. es ++ reverse list.behind.items) changes.now ∙ before_set list i place lies changes.other)
          ∙ ap (λ (m : List Item). record (items_of old) { list = m }) (map-set item all i changes.other ∙ ap (set (map item all) i) changes.other_is);
    }

-- or behind it
pub before_changed_far : (old : Entries) (now : Vec Entry Global) (last i place : ℕ) (gap was : List GapPart)
    → LiesAt (out-Entries old).list i (Behind place) → ChangesBeforeAt place gap (out-Entries old).list.behind.items now.items was
    → ChangesBefore i gap (items_of old)
    (items_of (roll-Entries (record { opening = (out-Entries old).opening; list = record { before = (out-Entries old).list.before; behind = now; last = last }; end = (out-Entries old).end }))) was
before_changed_far old now last i place gap was lies changes =
    let list = (out-Entries old).list in
    let all = items list in
    record {
      item = item changes.one;
      here = item_there old i changes.one (behind_get list i place lies ∙ changes.here);
      stood = changes.stood;
      now = items_made (record { opening = (out-Entries old).opening; list = record { before = list.before; behind = now; last = last }; end = (out-Entries old).end })
          ∙ ap (λ (es : List Entry). record (items_of old) { list = map item es })
          (ap (λ es. list.before.items ++ reverse es) changes.now ∙ behind_set list i place lies changes.other)
          ∙ ap (λ (m : List Item). record (items_of old) { list = m }) (map-set item all i changes.other ∙ ap (set (map item all) i) changes.other_is);
    }

-- behind an entry, in the same way
pub after_changed : (old : Entries) (now : Vec Entry Global) (last i place : ℕ) (gap was : List GapPart)
    → LiesAt (out-Entries old).list i (Before place) → ChangesAfterAt place gap (out-Entries old).list.before.items now.items was
    → ChangesAfter i gap (items_of old)
    (items_of (roll-Entries (record { opening = (out-Entries old).opening; list = record { before = now; behind = (out-Entries old).list.behind; last = last }; end = (out-Entries old).end }))) was
after_changed old now last i place gap was lies changes =
    let list = (out-Entries old).list in
    let all = items list in
    record {
      item = item changes.one;
      here = item_there old i changes.one (before_get list i place lies ∙ changes.here);
      stood = changes.stood;
      now = items_made (record { opening = (out-Entries old).opening; list = record { before = now; behind = list.behind; last = last }; end = (out-Entries old).end })
          ∙ ap (λ (es : List Entry). record (items_of old) { list = map item es })
          (ap (λ es. es ++ reverse list.behind.items) changes.now ∙ before_set list i place lies changes.other)
          ∙ ap (λ (m : List Item). record (items_of old) { list = m }) (map-set item all i changes.other ∙ ap (set (map item all) i) changes.other_is);
    }

pub after_changed_far : (old : Entries) (now : Vec Entry Global) (last i place : ℕ) (gap was : List GapPart)
    → LiesAt (out-Entries old).list i (Behind place) → ChangesAfterAt place gap (out-Entries old).list.behind.items now.items was
    → ChangesAfter i gap (items_of old)
    (items_of (roll-Entries (record { opening = (out-Entries old).opening; list = record { before = (out-Entries old).list.before; behind = now; last = last }; end = (out-Entries old).end }))) was
after_changed_far old now last i place gap was lies changes =
    let list = (out-Entries old).list in
    let all = items list in
    record {
      item = item changes.one;
      here = item_there old i changes.one (behind_get list i place lies ∙ changes.here);
      stood = changes.stood;
      now = items_made (record { opening = (out-Entries old).opening; list = record { before = list.before; behind = now; last = last }; end = (out-Entries old).end })
          ∙ ap (λ (es : List Entry). record (items_of old) { list = map item es })
          (ap (λ es. list.before.items ++ reverse es) changes.now ∙ behind_set list i place lies changes.other)
          ∙ ap (λ (m : List Item). record (items_of old) { list = m }) (map-set item all i changes.other ∙ ap (set (map item all) i) changes.other_is);
    }

-- ---- another gap is written into an entry

pub before_put : (list : List Entry) (place : ℕ) (x : Entry) (gap new was : Gap) → slice_get list place ≡ Some x → was ≡ (out-Entry x).before → new ≡ gap
    → ChangesBeforeAt place (gap_parts gap) list
    (set list place (roll-Entry (record { before = new; assign = (out-Entry x).assign; value = (out-Entry x).value; after = (out-Entry x).after }))) (gap_parts was)
before_put list place x gap new was here stood is = record {
  one = x;
  other = roll-Entry (record { before = new; assign = (out-Entry x).assign; value = (out-Entry x).value; after = (out-Entry x).after });
  here = here;
  stood = ap gap_parts stood;
  other_is = other_before x new ∙ ap (λ (g : List GapPart). record (item x) { before = g }) (ap gap_parts is);
  now = refl;
}

pub after_put : (list : List Entry) (place : ℕ) (x : Entry) (gap new was : Gap) → slice_get list place ≡ Some x → was ≡ (out-Entry x).after → new ≡ gap
    → ChangesAfterAt place (gap_parts gap) list
    (set list place (roll-Entry (record { before = (out-Entry x).before; assign = (out-Entry x).assign; value = (out-Entry x).value; after = new }))) (gap_parts was)
after_put list place x gap new was here stood is = record {
  one = x;
  other = roll-Entry (record { before = (out-Entry x).before; assign = (out-Entry x).assign; value = (out-Entry x).value; after = new });
  here = here;
  stood = ap gap_parts stood;
  other_is = other_after x new ∙ ap (λ (g : List GapPart). record (item x) { after = g }) (ap gap_parts is);
  now = refl;
}

-- there is one with the index
pub entry_within : (e : Entries) (i : ℕ) → i < length (items_of e).list → length (items (out-Entries e).list) ≤ i → ⊥
entry_within e i low past = let count = item_count e in omega (arith, low, past, count)

-- ---- which there are

pub not_there : (e : Entries) (i : ℕ) (b : Bool) → IsTrue b ↔ (i < length (items (out-Entries e).list)) → b ≡ false → slice_get (items_of e).list i ≡ None
not_there e i b has off = elim (cases_lt i (length (items (out-Entries e).list))) [
  | inl low ↦ absurd (false≢true (sym off ∙ has.1 low))
  | inr past ↦ slice_get_past (items_of e).list i (subst (λ n. n ≤ i) (sym (item_count e)) past)
]

pub there : (e : Entries) (i : ℕ) (b : Bool) → IsTrue b ↔ (i < length (items (out-Entries e).list)) → b ≡ true → (it : Item) × (slice_get (items_of e).list i ≡ Some it)
there e i b has on =
    let (x, is) = some_at (items (out-Entries e).list) i (has.0 on) in
    (item x, item_there e i x is)
