-- Which pairs a `remove` takes out, as loops go over them.
use Rattle.std.proofs.Common.{◌≡◌, ◌∙◌, ◌+◌, ◌<◌, ◌≤◌, ◌||◌, ℕ, zero, suc, Bool, true, false, List, [], ◌∷◌, ◌++◌, map, reverse, take, length, Vec, inl, inr, refl, ap, ap₂, sym, arith, add-one}
use Rattle.std.proofs.lemmas.Bool.{false≢true}
use Rattle.std.proofs.lemmas.List.{map-set}
use Rattle.std.proofs.lemmas.Option.{slice_get_past}
use Rattle.std.specs.Global.{Global}
use Rattle.std.specs.List.{list_any}
use Rattle.toml_lists.proofs.Proved.{before_get, before_set, behind_get, behind_set}
use Rattle.toml_lists.specs.Gaps.{LiesAt, items}
use Rattle.toml_lists.specs.declared.gap_list.Side.TheVariants.{Before, Behind}
use Rattle.toml_names.specs.model.Addresses.{Address}
use Rattle.toml_layout.specs.declared.tree.Entries.{Entries}
use Rattle.toml_layout.specs.declared.tree.Entry.{Entry}
use Rattle.toml_layout.specs.declared.tree.Value.TheViews.{out-Entries, roll-Entries}
use Rattle.toml_layout.specs.Items.{Item, item, items_of}
use Rattle.toml_layout.specs.PairPlaces.{item_key}
use Rattle.toml_layout.specs.PairRemovals.{EmptiesEntry, EmptiesIf, is_kept, is_left, keeps_at, key_reaches, marks_at, reaches_at}
use Rattle.toml_layout.proofs.ItemGaps.{item_count, item_there, items_made}

-- ---- marks

marks_suc : (steps : Address) (list : List Item) (i : ℕ) (b : Bool) → i < length list → b ≡ reaches_at steps list i
    → marks_at steps (take i list) ++ b ∷ [] ≡ marks_at steps (take (suc i) list)
marks_suc steps [] i b low is = absurd (omega (arith, low))
marks_suc steps (x ∷ list) zero b low is = ap (λ c. c ∷ []) is
marks_suc steps (x ∷ list) (suc i) b low is =
    let less : i < length list = omega (arith, low) in
    ap (λ t. key_reaches steps (item_key x) ∷ t) (marks_suc steps list i b less is)

pub marks_on : (steps : Address) (list : List Item) (i : ℕ) (b : Bool) (old new : List Bool) → i < length list → b ≡ reaches_at steps list i → new ≡ old ++ b ∷ []
    → old ≡ marks_at steps (take i list) → new ≡ marks_at steps (take (i + 1) list)
marks_on steps list i b old new low is pushed so_far =
    pushed ∙ ap (λ t. t ++ b ∷ []) so_far ∙ marks_suc steps list i b low is ∙ ap (λ n. marks_at steps (take n list)) (sym (add-one i))

-- ---- whether one stays that mentions the parent

pub kept_at : (parent steps : Address) (list : List Item) (i : ℕ) → keeps_at parent steps list i ≡ true → list_any (is_kept parent steps) list ≡ true
kept_at parent steps [] i keeps = absurd (false≢true keeps)
kept_at parent steps (x ∷ list) zero keeps = ap (λ b. b || list_any (is_kept parent steps) list) keeps
kept_at parent steps (x ∷ list) (suc i) keeps = ap (λ b. is_kept parent steps x || b) (kept_at parent steps list i keeps) ∙ by (is_kept parent steps x)
  where
    by : (b : Bool) → (b || true) ≡ true
    by true = refl
    by false = refl

pub none_kept : (parent steps : Address) (list : List Item) → ((i : ℕ) → i < length list → keeps_at parent steps list i ≡ false)
    → list_any (is_kept parent steps) list ≡ false
none_kept parent steps [] none = refl
none_kept parent steps (x ∷ list) none =
    ap₂ ◌||◌ (none zero (omega arith)) (none_kept parent steps list (λ i low. none (suc i) (omega (arith, low))))

pub left_so : (parent steps : Address) (list : List Item) (b : Bool) → ¬ (parent ≡ []) → list_any (is_kept parent steps) list ≡ b → is_left parent steps list ≡ b
left_so [] steps list b some is = absurd (some refl)
left_so (s ∷ parent) steps list b some is = is

-- ---- a pair that is emptied

pub emptied_near : (old : Entries) (now : Vec Entry Global) (last parts i place : ℕ) → LiesAt (out-Entries old).list i (Before place)
    → EmptiesEntry parts place (out-Entries old).list.before.items now.items
    → EmptiesIf parts i (items_of old)
    (items_of (roll-Entries (record { opening = (out-Entries old).opening; list = record { before = now; behind = (out-Entries old).list.behind; last = last }; end = (out-Entries old).end })))
emptied_near old now last parts i place lies empties =
    let list = (out-Entries old).list in
    let all = items list in
    inr (record {
      one = item empties.one;
      other = item empties.other;
      here = item_there old i empties.one (before_get list i place lies ∙ empties.here);
      emptied = empties.emptied;
      now_is = items_made (record { opening = (out-Entries old).opening; list = record { before = now; behind = list.behind; last = last }; end = (out-Entries old).end })
          ∙ ap (λ (es : List Entry). record (items_of old) { list = map item es })
          (ap (λ es. es ++ reverse list.behind.items) empties.now_is ∙ before_set list i place lies empties.other)
          ∙ ap (λ (m : List Item). record (items_of old) { list = m }) (map-set item all i empties.other);
    })

pub emptied_far : (old : Entries) (now : Vec Entry Global) (last parts i place : ℕ) → LiesAt (out-Entries old).list i (Behind place)
    → EmptiesEntry parts place (out-Entries old).list.behind.items now.items
    → EmptiesIf parts i (items_of old)
    (items_of (roll-Entries (record { opening = (out-Entries old).opening; list = record { before = (out-Entries old).list.before; behind = now; last = last }; end = (out-Entries old).end })))
emptied_far old now last parts i place lies empties =
    let list = (out-Entries old).list in
    let all = items list in
    inr (record {
      one = item empties.one;
      other = item empties.other;
      here = item_there old i empties.one (behind_get list i place lies ∙ empties.here);
      emptied = empties.emptied;
      now_is = items_made (record { opening = (out-Entries old).opening; list = record { before = list.before; behind = now; last = last }; end = (out-Entries old).end })
          ∙ ap (λ (es : List Entry). record (items_of old) { list = map item es })
          (ap (λ es. list.before.items ++ reverse es) empties.now_is ∙ behind_set list i place lies empties.other)
          ∙ ap (λ (m : List Item). record (items_of old) { list = m }) (map-set item all i empties.other);
    })

pub none_emptied : (old : Entries) (parts i : ℕ) → length (items (out-Entries old).list) ≤ i → EmptiesIf parts i (items_of old) (items_of old)
none_emptied old parts i past =
    let count = item_count old in
    let far : length (items_of old).list ≤ i = omega (arith, past, count) in
    inl (slice_get_past (items_of old).list i far, refl)
