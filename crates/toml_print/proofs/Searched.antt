-- The code's values, items and pairs, in which a value is looked for.
use Rattle.std.proofs.Common.{◌≡◌, ◌+◌, ◌<◌, ℕ, zero, suc, inr, Box, Global, List, [], ◌∷◌, map, drop, drop-cons, length, get_or, Option, Some, None, option_map, slice_get, Result, Bor, refl, sym, ap, ◌∙◌, subst, arith, rules}
use Rattle.std.specs.Prelude.{IfOk, MatchOption}
use Rattle.std.specs.List.{IsFirstAndRest}
use Rattle.std.specs.Option.{option_copied}
use Rattle.std.specs.Slice.{IsGetResult}
use Rattle.std.specs.declared.alloc.AllocError.{AllocError}
use Rattle.std.proofs.lemmas.Option.{none-some, slice_get-get_or, slice_get-map, slice_get_past}
use Rattle.std.proofs.lemmas.Result.{IfOk-weaker}
use Rattle.toml_tree.specs.ReadingValues.{Element, Member}
use Rattle.toml_tree.specs.Tree as tree
use Rattle.toml_tree.specs.View.{array_step, element, gap, inline_step, item_step, keyval, keyval_step, member, pair_step, piece, value, value_step}
use Rattle.toml_tree.specs.declared.tree.Array.{Array}
use Rattle.toml_tree.specs.declared.tree.InlineTable.{InlineTable}
use Rattle.toml_tree.specs.declared.tree.Item.{Item}
use Rattle.toml_tree.specs.declared.tree.Pair.{Pair}
use Rattle.toml_tree.specs.declared.tree.Value.{Value}
use Rattle.toml_tree.specs.declared.tree.Value.TheVariants as made
use Rattle.toml_tree.specs.declared.tree.Value.TheFolds.{fold_out-Item, fold_out-Pair}
use Rattle.toml_tree.specs.declared.tree.Value.TheViews.{out-Array, out-InlineTable, out-Item, out-Pair}
use Rattle.toml_tree.proofs.Proved.{value_array, value_inline}
use Rattle.toml_names.specs.declared.model.address.Step.{Step}
use Rattle.toml_names.specs.declared.model.address.Step.TheVariants.{Name, Index}
use Rattle.toml_names.specs.model.Addresses.{Address}
use Rattle.toml_print.specs.Searching.{Finds, FindsInItems, FindsInPair, FindsInPairs, item_at}
use Rattle.toml_print.proofs.Found.{finds_in_array, finds_in_inline, ArePart, finds_in_item, finds_no_item, finds_no_index}

abbrev Found : Type 0
Found = Result (Option (Bor (List ℕ))) AllocError

-- an item and a pair by what they hold
item_is : (x : Item) → element x ≡ record { before = gap (out-Item x).before; value = value (out-Item x).value; after = gap (out-Item x).after }
item_is = fold_out-Item tree.Value tree.Value tree.Value Element tree.KeyVal Member value_step array_step inline_step item_step keyval_step pair_step

pair_is : (x : Pair) → member x ≡ record { before = gap (out-Pair x).before; pair = keyval (out-Pair x).keyval; after = gap (out-Pair x).after }
pair_is = fold_out-Pair tree.Value tree.Value tree.Value Element tree.KeyVal Member value_step array_step inline_step item_step keyval_step pair_step

pub pair_seen : (x : Pair) (at : Address) (found : Option (Bor (List ℕ))) → FindsInPair (keyval (out-Pair x).keyval) at found → FindsInPair (member x).pair at found
pair_seen x at found = subst (λ (m : Member). FindsInPair m.pair at found) (sym (pair_is x))

-- an array by its items,
pub array_searched : (b : Box Array Global) (v : Value) (items : List Item) (at : Address) (result : Found) → v ≡ made.Array b → items ≡ (out-Array b.value).items.items → (at ≡ [] → ⊥)
    → IfOk result (FindsInItems (map element items) at) → IfOk result (Finds (value v) at)
array_searched b v items at result is items_are some =
    let a = out-Array b.value in
    IfOk-weaker result _ _ (λ found h.
    subst (λ w. Finds w at found) (sym (ap value is ∙ value_array b))
    (finds_in_array (piece a.whole) (map element a.items.items) a.end at found some (subst (λ l. FindsInItems (map element l) at found) items_are h)))

-- an inline table by its pairs
pub inline_searched : (b : Box InlineTable Global) (v : Value) (pairs : List Pair) (at : Address) (result : Found) → v ≡ made.Inline b → pairs ≡ (out-InlineTable b.value).pairs.items → (at ≡ [] → ⊥)
    → IfOk result (FindsInPairs (map member pairs) at) → IfOk result (Finds (value v) at)
inline_searched b v pairs at result is pairs_are some =
    let t = out-InlineTable b.value in
    IfOk-weaker result _ _ (λ found h.
    subst (λ w. Finds w at found) (sym (ap value is ∙ value_inline b))
    (finds_in_inline (piece t.whole) (map member t.pairs.items) t.end at found some (subst (λ l. FindsInPairs (map member l) at found) pairs_are h)))

-- what `get` gives
pub got : (items : List Item) (i : ℕ) (r : Option (Bor Item)) → IsGetResult items i i r → option_copied r ≡ slice_get items i
got items i r h = search (rules, slice_get_past, slice_get-get_or)

module _ (items : List Item) (first : Step) (r : Option (Bor Item)) (rest : Address) (given : option_copied r ≡ item_at items first) where
  -- items by the one at the step
  pub item_searched : (item : Bor Item) (result : Found) → r ≡ Some item → IfOk result (Finds (value (out-Item item.now).value) rest) → IfOk result (FindsInItems (map element items) (first ∷ rest))
  item_searched item result is finds = by first (sym given ∙ ap option_copied is) (subst (λ (e : Element). IfOk result (Finds e.value rest)) (sym (item_is item.now)) finds)
    where
      by : (s : Step) → item_at items s ≡ Some item.now → IfOk result (Finds (element item.now).value rest) → IfOk result (FindsInItems (map element items) (s ∷ rest))
      by (Index i) there =
          let seen : slice_get (map element items) i ≡ Some (element item.now) = slice_get-map element items i ∙ ap (option_map element) there in
          IfOk-weaker result _ _ (λ found f. finds_in_item (map element items) i (element item.now) rest (Index i ∷ rest) found seen refl f)
      by (Name n) there = let none : ◌≡◌ {A = Option Item} None (Some item.now) = there in absurd (none-some item.now none)

  pub no_item_searched : r ≡ None → FindsInItems (map element items) (first ∷ rest) None
  no_item_searched is = by first (sym given ∙ ap option_copied is)
    where
      by : (s : Step) → item_at items s ≡ None → FindsInItems (map element items) (s ∷ rest) None
      by (Index i) none = finds_no_item (map element items) i rest (Index i ∷ rest) (slice_get-map element items i ∙ ap (option_map element) none) refl
      by (Name n) none = finds_no_index (map element items) (Name n ∷ rest) (λ i more is. let e : ◌≡◌ {A = Address} (Name n ∷ rest) (Index i ∷ more) = is in cc)

-- the pairs from a place on
pub next_pair : (pairs : List Pair) (i : ℕ) (p d : Pair) → i < length pairs → p ≡ get_or pairs i d → map member (drop i pairs) ≡ member p ∷ map member (drop (i + 1) pairs)
next_pair pairs i p d low is =
    let one : suc i ≡ i + 1 = omega arith in
    let next : drop i pairs ≡ p ∷ drop (i + 1) pairs = drop-cons pairs i d low ∙ (λ k. sym is k ∷ drop (one k) pairs) in
    ap (map member) next

-- those from a place on are among all
pub part_of_all : (at : Address) (pairs : List Pair) (i : ℕ) → ArePart at (map member pairs) (map member (drop i pairs))
part_of_all at pairs zero w h = h
part_of_all at [] (suc i) w h = h
part_of_all at (p ∷ pairs) (suc i) w h = inr (part_of_all at pairs i w h)

-- steps of which there is a first
pub some_steps : (at : Address) (r : Option (Bor Step × Bor Address)) (p : Bor Step × Bor Address) → MatchOption r (length at ≡ 0) (λ p. IsFirstAndRest at p.0.now p.1.now) → r ≡ Some p → at ≡ p.0.now ∷ p.1.now
some_steps at r p h is = let first = subst (λ o. MatchOption o (length at ≡ 0) (λ (q : Bor Step × Bor Address). IsFirstAndRest at q.0.now q.1.now)) is h in first.0

pub not_root : (at : Address) (s : Step) (rest : Address) → at ≡ s ∷ rest → at ≡ [] → ⊥
not_root at s rest is none = let e : ◌≡◌ {A = Address} [] (s ∷ rest) = sym none ∙ is in cc
