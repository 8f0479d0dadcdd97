-- What a value names inside it, and the key parts in it, by the lists of its items and of its pairs.
use Rattle.toml_names.proofs.Common.{◌≡◌, ℕ, ◌+◌, List, [], ◌∷◌, ◌++◌, map, Option, Box, Global, refl, sym, ap, ◌∙◌, rules, append-nil, Gap, InlineTable, out-Array, out-InlineTable, Member, before_end, pairs_before_end, value, member, array_items, last_ends, table_pairs, last_pairs, value_array, value_inline, Bare, Address, element, Named, value_named, inside, elements, members, pair_named, arith, value_key_parts, item_key_parts, pair_key_parts, keyval_key_parts}
use Rattle.toml_tree.specs.declared.tree.Array.{Array}
use Rattle.toml_tree.specs.ReadingValues.{Element}
use Rattle.toml_tree.specs.View.{element as tree_element}
use Rattle.toml_tree.specs.declared.tree.Value.TheVariants as made
use Rattle.toml_tree.specs.Tree as tree

-- an element at its index, and what is in it
abbrev pub element_named : ℕ → Address → ℕ → tree.Value → List Named
element_named line at i v = value_named line Bare (element at i) v ∷ inside line (element at i) v

-- elements from the index on, whatever ends them
abbrev pub elements_of : ℕ → Address → ℕ → List Element → List Named
elements_of line at i [] = []
elements_of line at i (e ∷ es) = element_named line at i e.value ++ elements_of line at (i + 1) es

abbrev pub members_of : ℕ → Address → List Member → List Named
members_of line at [] = []
members_of line at (m ∷ ms) = pair_named line at m.pair.assign m.pair.value ++ members_of line at ms

module _ (line : ℕ) (at : Address) where
  elements-before_end : (es : List Element) (i : ℕ) (g : tree.Gap) → elements line at i (before_end es (tree.Close g)) ≡ elements_of line at i es
  elements-before_end [] i g = refl
  elements-before_end (e ∷ es) i g = ap (λ l. element_named line at i e.value ++ l) (elements-before_end es (i + 1) g)

  elements-last_ends : (es : List Element) (i : ℕ) → elements line at i (last_ends es) ≡ elements_of line at i es
  elements-last_ends [] i = refl
  elements-last_ends (e ∷ []) i = sym (append-nil (element_named line at i e.value))
  elements-last_ends (e ∷ f ∷ es) i = ap (λ l. element_named line at i e.value ++ l) (elements-last_ends (f ∷ es) (i + 1))

  elements-array_items : (es : List Element) (end : Option Gap) → elements line at 0 (array_items es end) ≡ elements_of line at 0 es
  elements-array_items es end = search (rules, elements-before_end, elements-last_ends)

  pub inside-array : (b : Box Array Global) → inside line at (value (made.Array b)) ≡ elements_of line at 0 (map tree_element (out-Array b.value).items.items)
  inside-array b = ap (inside line at) (value_array b) ∙ elements-array_items (map tree_element (out-Array b.value).items.items) (out-Array b.value).end

  members-before_end : (ms : List Member) (g : tree.Gap) → members line at (pairs_before_end ms (tree.ClosePairs g)) ≡ members_of line at ms
  members-before_end [] g = refl
  members-before_end (m ∷ ms) g = ap (λ l. pair_named line at m.pair.assign m.pair.value ++ l) (members-before_end ms g)

  members-last_pairs : (ms : List Member) → members line at (last_pairs ms) ≡ members_of line at ms
  members-last_pairs [] = refl
  members-last_pairs (m ∷ []) = sym (append-nil (pair_named line at m.pair.assign m.pair.value))
  members-last_pairs (m ∷ n ∷ ms) = ap (λ l. pair_named line at m.pair.assign m.pair.value ++ l) (members-last_pairs (n ∷ ms))

  members-table_pairs : (ms : List Member) (end : Option Gap) → members line at (table_pairs ms end) ≡ members_of line at ms
  members-table_pairs ms end = search (rules, members-before_end, members-last_pairs)

  pub inside-inline : (b : Box InlineTable Global) → inside line at (value (made.Inline b)) ≡ members_of line at (map member (out-InlineTable b.value).pairs.items)
  inside-inline b = ap (inside line at) (value_inline b) ∙ members-table_pairs (map member (out-InlineTable b.value).pairs.items) (out-InlineTable b.value).end

abbrev pub parts_of_elements : List Element → ℕ
parts_of_elements [] = 0
parts_of_elements (e ∷ es) = value_key_parts e.value + parts_of_elements es

abbrev pub parts_of_members : List Member → ℕ
parts_of_members [] = 0
parts_of_members (m ∷ ms) = keyval_key_parts m.pair.assign m.pair.value + parts_of_members ms

parts-before_end : (es : List Element) (g : tree.Gap) → item_key_parts (before_end es (tree.Close g)) ≡ parts_of_elements es
parts-before_end [] g = refl
parts-before_end (e ∷ es) g = ap (λ n. value_key_parts e.value + n) (parts-before_end es g)

parts-last_ends : (es : List Element) → item_key_parts (last_ends es) ≡ parts_of_elements es
parts-last_ends [] = refl
parts-last_ends (e ∷ []) = omega arith
parts-last_ends (e ∷ f ∷ es) = ap (λ n. value_key_parts e.value + n) (parts-last_ends (f ∷ es))

parts-array_items : (es : List Element) (end : Option Gap) → item_key_parts (array_items es end) ≡ parts_of_elements es
parts-array_items es end = search (rules, parts-before_end, parts-last_ends)

pub parts-array : (b : Box Array Global) → value_key_parts (value (made.Array b)) ≡ parts_of_elements (map tree_element (out-Array b.value).items.items)
parts-array b = ap value_key_parts (value_array b) ∙ parts-array_items (map tree_element (out-Array b.value).items.items) (out-Array b.value).end

parts-pairs_before_end : (ms : List Member) (g : tree.Gap) → pair_key_parts (pairs_before_end ms (tree.ClosePairs g)) ≡ parts_of_members ms
parts-pairs_before_end [] g = refl
parts-pairs_before_end (m ∷ ms) g = ap (λ n. keyval_key_parts m.pair.assign m.pair.value + n) (parts-pairs_before_end ms g)

parts-last_pairs : (ms : List Member) → pair_key_parts (last_pairs ms) ≡ parts_of_members ms
parts-last_pairs [] = refl
parts-last_pairs (m ∷ []) = omega arith
parts-last_pairs (m ∷ n ∷ ms) = ap (λ k. keyval_key_parts m.pair.assign m.pair.value + k) (parts-last_pairs (n ∷ ms))

parts-table_pairs : (ms : List Member) (end : Option Gap) → pair_key_parts (table_pairs ms end) ≡ parts_of_members ms
parts-table_pairs ms end = search (rules, parts-pairs_before_end, parts-last_pairs)

pub parts-inline_table : (b : Box InlineTable Global) → value_key_parts (value (made.Inline b)) ≡ parts_of_members (map member (out-InlineTable b.value).pairs.items)
parts-inline_table b = ap value_key_parts (value_inline b) ∙ parts-table_pairs (map member (out-InlineTable b.value).pairs.items) (out-InlineTable b.value).end
