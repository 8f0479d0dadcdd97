-- What lies in a value, by the lists of its items and of its pairs, and the names of a key by its parts.
use Rattle.std.proofs.Common.{◌≡◌, ℕ, ◌+◌, ◌≤◌, List, [], ◌∷◌, ◌++◌, length, map, drop, Option, Some, None, Box, Global, refl, sym, ap, ◌∙◌}
use Rattle.std.proofs.lemmas.List.{append-nil, append_assoc, drop_all}
use Rattle.std.specs.Prelude.{option_map}
use Rattle.toml_tree.specs.declared.piece.Gap.{Gap}
use Rattle.toml_tree.specs.declared.tree.Array.{Array}
use Rattle.toml_tree.specs.declared.tree.InlineTable.{InlineTable}
use Rattle.toml_tree.specs.declared.tree.Item.{Item}
use Rattle.toml_tree.specs.declared.tree.Pair.{Pair}
use Rattle.toml_tree.specs.declared.tree.Value.{Value}
use Rattle.toml_tree.specs.declared.tree.Value.TheVariants as made
use Rattle.toml_tree.specs.declared.tree.Value.TheViews.{out-Array, out-InlineTable}
use Rattle.toml_tree.specs.Tree as tree
use Rattle.toml_tree.specs.ReadingValues.{Element, Member, before_end, pairs_before_end}
use Rattle.toml_tree.specs.View.{gap, value, element as tree_element, member, array_items, last_ends, table_pairs, last_pairs}
use Rattle.toml_tree.proofs.Proved.{value_array, value_inline}
use Rattle.toml_names.specs.model.Addresses.{Address, element}
use Rattle.toml_units.specs.Plain.{Spanned, spanned, pair_span, plain_inside, plain_elements, plain_members, element_units, items_of, pair_units, end_units}
use Rattle.toml_units.specs.Units.{gap_units, element_unit, pair_address}

abbrev pub members_of : Address → List Member → List Spanned
members_of at [] = []
members_of at (m ∷ ms) = pair_units at m ++ members_of at ms

module _ (at : Address) where
  three : (a b c d : List Spanned) → a ++ (b ++ (c ++ d)) ≡ (a ++ (b ++ c)) ++ d
  three a b c d = ap (λ l. a ++ l) (sym (append_assoc b c d)) ∙ sym (append_assoc a (b ++ c) d)

  items-before_end : (es : List Element) (i : ℕ) (g : tree.Gap) → plain_elements at i (before_end es (tree.Close g)) ≡ items_of at i es ++ map spanned (gap_units at g)
  items-before_end [] i g = refl
  items-before_end (e ∷ es) i g =
      let block = spanned (element_unit (element at i) e.value) ∷ plain_inside (element at i) e.value in
      let last = map spanned (gap_units at g) in
      three (map spanned (gap_units at e.before)) block (map spanned (gap_units at e.after)) _
      ∙ ap (λ l. element_units at i e ++ l) (items-before_end es (i + 1) g)
      ∙ sym (append_assoc (element_units at i e) (items_of at (i + 1) es) last)

  items-last_ends : (es : List Element) (i : ℕ) → plain_elements at i (last_ends es) ≡ items_of at i es
  items-last_ends [] i = refl
  items-last_ends (e ∷ []) i = sym (append-nil (element_units at i e))
  items-last_ends (e ∷ f ∷ es) i =
      let block = spanned (element_unit (element at i) e.value) ∷ plain_inside (element at i) e.value in
      three (map spanned (gap_units at e.before)) block (map spanned (gap_units at e.after)) _
      ∙ ap (λ l. element_units at i e ++ l) (items-last_ends (f ∷ es) (i + 1))

  pub items-array_items : (es : List Element) (i : ℕ) (end : Option Gap) → plain_elements at i (array_items es end) ≡ items_of at i es ++ end_units at (option_map gap end)
  items-array_items es i (Some g) = items-before_end es i (gap g)
  items-array_items es i None = items-last_ends es i ∙ sym (append-nil (items_of at i es))

  inside-array : (b : Box Array Global) → plain_inside at (value (made.Array b)) ≡ items_of at 0 (map tree_element (out-Array b.value).items.items) ++ end_units at (option_map gap (out-Array b.value).end)
  inside-array b = ap (plain_inside at) (value_array b) ∙ items-array_items (map tree_element (out-Array b.value).items.items) 0 (out-Array b.value).end

  members-before_end : (ms : List Member) (g : tree.Gap) → plain_members at (pairs_before_end ms (tree.ClosePairs g)) ≡ members_of at ms ++ map spanned (gap_units at g)
  members-before_end [] g = refl
  members-before_end (m ∷ ms) g =
      let block = pair_span at m.pair ∷ plain_inside (pair_address at m.pair.assign) m.pair.value in
      three (map spanned (gap_units at m.before)) block (map spanned (gap_units at m.after)) _
      ∙ ap (λ l. pair_units at m ++ l) (members-before_end ms g)
      ∙ sym (append_assoc (pair_units at m) (members_of at ms) (map spanned (gap_units at g)))

  members-last_pairs : (ms : List Member) → plain_members at (last_pairs ms) ≡ members_of at ms
  members-last_pairs [] = refl
  members-last_pairs (m ∷ []) = sym (append-nil (pair_units at m))
  members-last_pairs (m ∷ n ∷ ms) =
      let block = pair_span at m.pair ∷ plain_inside (pair_address at m.pair.assign) m.pair.value in
      three (map spanned (gap_units at m.before)) block (map spanned (gap_units at m.after)) _
      ∙ ap (λ l. pair_units at m ++ l) (members-last_pairs (n ∷ ms))

  members-table_pairs : (ms : List Member) (end : Option Gap) → plain_members at (table_pairs ms end) ≡ members_of at ms ++ end_units at (option_map gap end)
  members-table_pairs ms (Some g) = members-before_end ms (gap g)
  members-table_pairs ms None = members-last_pairs ms ∙ sym (append-nil (members_of at ms))

  inside-inline : (b : Box InlineTable Global) → plain_inside at (value (made.Inline b)) ≡ members_of at (map member (out-InlineTable b.value).pairs.items) ++ end_units at (option_map gap (out-InlineTable b.value).end)
  inside-inline b = ap (plain_inside at) (value_inline b) ∙ members-table_pairs (map member (out-InlineTable b.value).pairs.items) (out-InlineTable b.value).end

  -- all was walked but the gap behind a last comma
  all-walked : (now left start all last whole : List Spanned) → left ≡ [] → now ++ left ≡ start ++ all → whole ≡ all ++ last → now ++ last ≡ start ++ whole
  all-walked now left start all last whole none before is =
      ap (λ l. l ++ last) (sym (append-nil now) ∙ ap (λ l. now ++ l) (sym none) ∙ before) ∙ append_assoc start all last ∙ ap (λ l. start ++ l) (sym is)

  -- all items
  pub array-end : (b : Box Array Global) (v : Value) (items : List Item) (end : Option tree.Gap) (i : ℕ) (now start : List Spanned) →
      v ≡ made.Array b → items ≡ (out-Array b.value).items.items → end ≡ option_map gap (out-Array b.value).end → length items ≤ i
      → now ++ items_of at i (map tree_element (drop i items)) ≡ start ++ items_of at 0 (map tree_element items) → now ++ end_units at end ≡ start ++ plain_inside at (value v)
  array-end b v items end i now start is are ends past before =
      all-walked now (items_of at i (map tree_element (drop i items))) start (items_of at 0 (map tree_element items)) (end_units at end) (plain_inside at (value v))
      (ap (λ l. items_of at i (map tree_element l)) (drop_all i items past)) before
      (ap (λ x. plain_inside at (value x)) is ∙ inside-array b ∙ (λ j. items_of at 0 (map tree_element (sym are j)) ++ end_units at (sym ends j)))

  -- all pairs
  pub table-end : (b : Box InlineTable Global) (v : Value) (pairs : List Pair) (end : Option tree.Gap) (i : ℕ) (now start : List Spanned) →
      v ≡ made.Inline b → pairs ≡ (out-InlineTable b.value).pairs.items → end ≡ option_map gap (out-InlineTable b.value).end → length pairs ≤ i
      → now ++ members_of at (map member (drop i pairs)) ≡ start ++ members_of at (map member pairs) → now ++ end_units at end ≡ start ++ plain_inside at (value v)
  table-end b v pairs end i now start is are ends past before =
      all-walked now (members_of at (map member (drop i pairs))) start (members_of at (map member pairs)) (end_units at end) (plain_inside at (value v))
      (ap (λ l. members_of at (map member l)) (drop_all i pairs past)) before
      (ap (λ x. plain_inside at (value x)) is ∙ inside-inline b ∙ (λ j. members_of at (map member (sym are j)) ++ end_units at (sym ends j)))
