-- The entries of the working tree by index, and those of their outline.
use Rattle.std.proofs.Common.{◌≡◌, ◌∙◌, ◌&&◌, ◌<◌, ◌≤◌, ◌^◌, ◌++◌, ℕ, Box, Vec, nat_eq, zero, suc, Bool, true, false, cond, List, [], ◌∷◌, length, map, reverse, set, Option, Some, None, refl, ap, ap₂, sym, subst, arith}
use Rattle.std.proofs.Math.Dec.{eqb-suc-suc, eqb-zero-suc}
use Rattle.std.proofs.lemmas.List.{length-append, length-reverse}
use Rattle.std.proofs.lemmas.Option.{none-some, same_Some, slice_get_past}
use Rattle.std.specs.Prelude.{option_and_then, option_map, slice_get}
use Rattle.std.specs.Global.{Global}
use Rattle.toml_lists.specs.Gaps.{LiesAt, items}
use Rattle.toml_lists.specs.declared.gap_list.GapList.{GapList}
use Rattle.toml_lists.specs.declared.gap_list.Side.TheVariants.{Before, Behind}
use Rattle.toml_lists.proofs.Proved.{before_get, before_set, behind_get, behind_set, some_at}
use Rattle.toml_names.specs.declared.model.address.Step.TheVariants.{Name}
use Rattle.toml_names.specs.mentions.Keys as names
use Rattle.toml_names.specs.model.Addresses.{Address, same_step}
use Rattle.toml_layout.specs.declared.tree.Assign.{Assign}
use Rattle.toml_layout.specs.declared.tree.Entries.{Entries}
use Rattle.toml_layout.specs.declared.tree.Entry.{Entry}
use Rattle.toml_layout.specs.declared.tree.Value.{Value}
use Rattle.toml_layout.specs.declared.tree.Value.TheViews.{out-Entries, out-Entry, roll-Entries, roll-Entry}
use Rattle.toml_layout.specs.Leading.{in_common, key_in, leads, led_by, open_names, pair_key, ChangesAt, ChangesEntry, value_in, with_value}
use Rattle.toml_layout.specs.Parts.{PartOutline}
use Rattle.toml_layout.specs.OpenOutlines.{Enclosed, EntryOutline, assign, entries, entries_of, entry, gap_read, leaf_text, value}
use Rattle.toml_layout.specs.SetOutlines.{outlined_names}
use Rattle.toml_layout.specs.Outlines as outline
use Rattle.toml_layout.specs.RenamingIn.{reaches}
use Rattle.toml_layout.proofs.Outlined.{entries_is, entries_made, entry_is, entry_made}

-- ---- keys

-- one name more is in common, or none
one_in_common : (b whole : Bool) (count all : ℕ) → nat_eq count all ≡ whole → nat_eq (cond b (suc count) zero) (suc all) ≡ (b && whole)
one_in_common true whole count all is = eqb-suc-suc count all ∙ is
one_in_common false whole count all is = eqb-zero-suc all

-- all names of a key are the first steps where so many are
all_lead : (k : names.Key) (steps : Address) → nat_eq (in_common k steps) (length k) ≡ leads k steps
all_lead [] steps = refl
all_lead (n ∷ k) [] = eqb-zero-suc (length k)
all_lead (n ∷ k) (s ∷ steps) = one_in_common (same_step (Name n) s) (leads k steps) (in_common k steps) (length k) (all_lead k steps)

pub leads_by : (k : names.Key) (steps : Address) (count parts : ℕ) → count ≡ in_common k steps → parts ≡ length k → nat_eq count parts ≡ leads k steps
leads_by k steps count parts is all = ap₂ nat_eq is all ∙ all_lead k steps

-- all steps are reached where so many are
all_reached : (k : names.Key) (steps : Address) → nat_eq (in_common k steps) (length steps) ≡ reaches k steps
all_reached [] [] = refl
all_reached [] (s ∷ steps) = eqb-zero-suc (length steps)
all_reached (n ∷ k) [] = refl
all_reached (n ∷ k) (s ∷ steps) = one_in_common (same_step (Name n) s) (reaches k steps) (in_common k steps) (length steps)
    (all_reached k steps)

pub reached_by : (k : names.Key) (steps : Address) (count : ℕ) → count ≡ in_common k steps → nat_eq count (length steps) ≡ reaches k steps
reached_by k steps count is = ap (λ n. nat_eq n (length steps)) is ∙ all_reached k steps

-- not so where there are fewer steps
pub too_long : (k : names.Key) (steps : Address) → length steps < length k → leads k steps ≡ false
too_long [] steps low = absurd (omega (arith, low))
too_long (n ∷ k) [] low = refl
too_long (n ∷ k) (s ∷ steps) low = by (same_step (Name n) s) (too_long k steps (omega (arith, low)))
  where
    by : (b : Bool) → leads k steps ≡ false → (b && leads k steps) ≡ false
    by true is = is
    by false is = refl

key_is : (e : Entry) → option_map outlined_names (entry e).assign ≡ pair_key e
key_is e = ap (λ (o : EntryOutline). option_map outlined_names o.assign) (entry_is e) ∙ by (out-Entry e).assign
  where
    by : (o : Option (Box Assign Global)) → option_map outlined_names (option_map (λ (a : Box Assign Global). assign a.value) o) ≡ option_map (λ (a : Box Assign Global). open_names a.value.key) o
    by None = refl
    by (Some a) = refl

keys_are : (es : List Entry) (end : Option (List PartOutline)) (i : ℕ) → key_in (entries_of (map entry es) end) i ≡ option_and_then pair_key (slice_get es i)
keys_are [] end i = refl
keys_are (e ∷ es) end zero = key_is e
keys_are (e ∷ es) end (suc i) = keys_are es end i

pub key_at : (e : Entries) (i : ℕ) → key_in (entries e).entries i ≡ option_and_then pair_key (slice_get (items (out-Entries e).list) i)
key_at e i = ap (λ o. key_in o.entries i) (entries_is e) ∙ keys_are (items (out-Entries e).list) (option_map gap_read (out-Entries e).end) i

pub no_key_past : (e : Entries) (steps : Address) (i : ℕ) → length (items (out-Entries e).list) ≤ i → led_by (key_in (entries e).entries i) steps ≡ None
no_key_past e steps i past = ap (λ o. led_by o steps) (key_at e i ∙ ap (option_and_then pair_key) (slice_get_past (items (out-Entries e).list) i past))

-- ---- values

values_are : (es : List Entry) (end : Option (List PartOutline)) (i : ℕ) → value_in (entries_of (map entry es) end) i ≡ option_map (λ e. value (out-Entry e).value) (slice_get es i)
values_are [] end i = refl
values_are (e ∷ es) end zero = ap (λ (o : EntryOutline). Some o.value) (entry_is e)
values_are (e ∷ es) end (suc i) = values_are es end i

pub value_at : (e : Entries) (i : ℕ) → value_in (entries e).entries i ≡ option_map (λ o. value (out-Entry o).value) (slice_get (items (out-Entries e).list) i)
value_at e i = ap (λ o. value_in o.entries i) (entries_is e) ∙ values_are (items (out-Entries e).list) (option_map gap_read (out-Entries e).end) i

-- an entry with another value
with_one : (es : List Entry) (end : Option (List PartOutline)) (i : ℕ) (old new : Entry) (w : outline.ValueOutline) → slice_get es i ≡ Some old
    → entry new ≡ record { before = (entry old).before; assign = (entry old).assign; value = w; after = (entry old).after }
    → entries_of (map entry (set es i new)) end ≡ with_value (entries_of (map entry es) end) i w
with_one [] end i old new w is made = absurd (none-some old is)
with_one (e ∷ es) end zero old new w is made =
    ap (λ (o : EntryOutline). outline.Entry o.before o.assign o.value o.after (entries_of (map entry es) end))
    (made ∙ ap (λ o. record { before = (entry o).before; assign = (entry o).assign; value = w; after = (entry o).after }) (sym (same_Some e old is)))
with_one (e ∷ es) end (suc i) old new w is made =
    ap (outline.Entry (entry e).before (entry e).assign (entry e).value (entry e).after) (with_one es end i old new w is made)

-- another value is written into the entry with the index
pub entry_changed : (P : outline.ValueOutline → outline.ValueOutline → Type 0) (Q : Type 0) (old : Entries) (list : GapList Entry) (i : ℕ) (e n : Entry) (w : outline.ValueOutline)
    → slice_get (items (out-Entries old).list) i ≡ Some e → items list ≡ set (items (out-Entries old).list) i n
    → entry n ≡ record { before = (entry e).before; assign = (entry e).assign; value = w; after = (entry e).after }
    → P (value (out-Entry e).value) w
    → ChangesEntry P Q i (entries old) (entries (roll-Entries (record { opening = (out-Entries old).opening; list = list; end = (out-Entries old).end })))
entry_changed P Q old list i e n w is written made holds =
    let all = items (out-Entries old).list in
    let end = option_map gap_read (out-Entries old).end in
    let opening = leaf_text (out-Entries old).opening in
    let there : value_in (entries old).entries i ≡ Some (value (out-Entry e).value) = value_at old i ∙ ap (option_map (λ o. value (out-Entry o).value)) is in
    record {
      found = λ v has. (
        w,
        subst (λ x. P x w) (same_Some (value (out-Entry e).value) v (sym there ∙ has)) holds,
        entries_made (record { opening = (out-Entries old).opening; list = list; end = (out-Entries old).end })
            ∙ ap (enclosed opening) (ap (λ es. entries_of (map entry es) end) written ∙ with_one all end i e n w is made)
            ∙ ap (λ (o : Enclosed). enclosed o.opening (with_value o.entries i w)) (sym (entries_is old)),
      );
      missing = λ none. absurd (none-some (value (out-Entry e).value) (sym none ∙ there));
    }
  where
    enclosed : List ℕ → outline.EntriesOutline → Enclosed
    enclosed opening es = record { opening = opening; entries = es }

-- the entry lies before the gap,
pub changed_before : (P : outline.ValueOutline → outline.ValueOutline → Type 0) (Q : Type 0) (old : Entries) (now : Vec Entry Global) (last i place : ℕ)
    → LiesAt (out-Entries old).list i (Before place) → ChangesAt P place (out-Entries old).list.before.items now.items
    → ChangesEntry P Q i (entries old)
    (entries (roll-Entries (record { opening = (out-Entries old).opening; list = record { before = now; behind = (out-Entries old).list.behind; last = last }; end = (out-Entries old).end })))
changed_before P Q old now last i place lies changes =
    let list = (out-Entries old).list in
    let (e, here) = some_at list.before.items place (omega (arith, lies.0, lies.1)) in
    let (n, w, written, made, holds) = changes e here in
    entry_changed P Q old (record { before = now; behind = list.behind; last = last }) i e n w (before_get list i place lies ∙ here)
    (ap (λ es. es ++ reverse list.behind.items) written ∙ before_set list i place lies n) made holds

-- or behind it
pub changed_behind : (P : outline.ValueOutline → outline.ValueOutline → Type 0) (Q : Type 0) (old : Entries) (now : Vec Entry Global) (last i place : ℕ)
    → LiesAt (out-Entries old).list i (Behind place) → ChangesAt P place (out-Entries old).list.behind.items now.items
    → ChangesEntry P Q i (entries old)
    (entries (roll-Entries (record { opening = (out-Entries old).opening; list = record { before = (out-Entries old).list.before; behind = now; last = last }; end = (out-Entries old).end })))
changed_behind P Q old now last i place lies changes =
    let list = (out-Entries old).list in
    let (e, here) = some_at list.behind.items place lies.0 in
    let (n, w, written, made, holds) = changes e here in
    entry_changed P Q old (record { before = list.before; behind = now; last = last }) i e n w (behind_get list i place lies ∙ here)
    (ap (λ es. list.before.items ++ reverse es) written ∙ behind_set list i place lies n) made holds

-- nothing is written where there is none
pub entry_missing : (P : outline.ValueOutline → outline.ValueOutline → Type 0) (Q : Type 0) (old : Entries) (i : ℕ) → length (items (out-Entries old).list) ≤ i → Q
    → ChangesEntry P Q i (entries old) (entries old)
entry_missing P Q old i past holds =
    let none : value_in (entries old).entries i ≡ None = value_at old i ∙ ap (option_map (λ o. value (out-Entry o).value)) (slice_get_past (items (out-Entries old).list) i past) in
    record {
      found = λ v here. absurd (none-some v (sym none ∙ here));
      missing = λ none. (refl, holds);
    }

-- ---- how many there are

short : (v : Vec Entry Global) → length v.items < 2 ^ 63
short v = let ok = v.ok.0 in let small = v.small in omega arith

pub few : (e : Entries) → length (items (out-Entries e).list) < 2 ^ 64
few e =
    let list = (out-Entries e).list in
    let all = length-append list.before.items (reverse list.behind.items) in
    let far = length-reverse list.behind.items in
    let one = short list.before in
    let two = short list.behind in
    omega (arith, all, far, one, two)

-- an entry with another value
pub entry_with : (e : Entry) (v : Value) → entry (roll-Entry (record { before = (out-Entry e).before; assign = (out-Entry e).assign; value = v; after = (out-Entry e).after }))
    ≡ record { before = (entry e).before; assign = (entry e).assign; value = value v; after = (entry e).after }
entry_with e v =
    entry_made (record { before = (out-Entry e).before; assign = (out-Entry e).assign; value = v; after = (out-Entry e).after })
    ∙ ap (λ (o : EntryOutline). record { before = o.before; assign = o.assign; value = value v; after = o.after }) (sym (entry_is e))

-- another value is written into the entry at the place
pub changed_at : (P : outline.ValueOutline → outline.ValueOutline → Type 0) (list : List Entry) (place : ℕ) (x : Entry) (v : Value) → slice_get list place ≡ Some x
    → P (value (out-Entry x).value) (value v)
    → ChangesAt P place list (set list place (roll-Entry (record { before = (out-Entry x).before; assign = (out-Entry x).assign; value = v; after = (out-Entry x).after })))
changed_at P list place x v is holds e here =
    let new = roll-Entry (record { before = (out-Entry x).before; assign = (out-Entry x).assign; value = v; after = (out-Entry x).after }) in
    subst (λ (y : Entry). (n : Entry) × (w : outline.ValueOutline) × (set list place new ≡ set list place n)
    × (entry n ≡ record { before = (entry y).before; assign = (entry y).assign; value = w; after = (entry y).after })
    × P (value (out-Entry y).value) w)
    (same_Some x e (sym is ∙ here)) (new, value v, refl, entry_with x v, holds)
