-- The elements of an array, and the pairs of an inline table, entered as the code reads them.
use Rattle.toml_names.proofs.Common.{common_steps, ◌≡◌, ℕ, ◌+◌, ◌<◌, List, [], ◌++◌, length, map, drop, Box, Global, sym, ap, subst, ◌∙◌, slice_index_or, rules, arith, at_drop_more, InlineTable, out-Array, out-InlineTable, out-Item, out-Pair, Member, gap, value, keyval, member, value_step, array_step, inline_step, item_step, keyval_step, pair_step, Index, Bare, Address, element, value_key_parts, keyval_key_parts, Kind, Named, kind_of, inside, pair_named, IsTree, Enters, EntersInside, Clashes, KeepsOthers, Spot, address_at, grown, nowhere, Grows}
use Rattle.toml_tree.specs.declared.tree.Array.{Array}
use Rattle.toml_tree.specs.declared.tree.Item.{Item}
use Rattle.toml_tree.specs.declared.tree.Pair.{Pair}
use Rattle.toml_tree.specs.declared.tree.Value.{Value}
use Rattle.toml_tree.specs.declared.tree.Value.TheVariants as made
use Rattle.toml_tree.specs.declared.tree.Value.TheFolds.{fold_out-Item, fold_out-Pair}
use Rattle.toml_tree.specs.ReadingValues.{Element}
use Rattle.toml_tree.specs.Tree as tree
use Rattle.toml_tree.specs.View.{element as tree_element}
use Rattle.toml_names.proofs.lemmas.mentions.Inside.{element_named, elements_of, members_of, inside-array, inside-inline, parts_of_elements, parts_of_members, parts-array, parts-inline_table}
use Rattle.toml_names.proofs.lemmas.tree.ItemsEntered.{IsEntered, HasElements, entered-none, entered-more, entered-clash, entered-element, element-address, has-element}
use Rattle.toml_names.proofs.lemmas.mentions.Within.{no_tables-inside}

-- an item's element, and a pair's member
item_is : (x : Item) → tree_element x ≡ record { before = gap (out-Item x).before; value = value (out-Item x).value; after = gap (out-Item x).after }
item_is = fold_out-Item tree.Value tree.Value tree.Value Element tree.KeyVal Member value_step array_step inline_step item_step keyval_step pair_step

pair_is : (x : Pair) → member x ≡ record { before = gap (out-Pair x).before; pair = keyval (out-Pair x).keyval; after = gap (out-Pair x).after }
pair_is = fold_out-Pair tree.Value tree.Value tree.Value Element tree.KeyVal Member value_step array_step inline_step item_step keyval_step pair_step

-- the key parts from an index on
pub parts-next_element : (items : List Item) (i : ℕ) (item : Item) → i < length items → item ≡ slice_index_or items i item
    → parts_of_elements (map tree_element (drop i items)) ≡ value_key_parts (value item.value) + parts_of_elements (map tree_element (drop (i + 1) items))
parts-next_element items i item low is = grind (arith, common_steps, at_drop_more, parts_of_elements, item_is)

pub parts-next_pair : (pairs : List Pair) (i : ℕ) (pair : Pair) → i < length pairs → pair ≡ slice_index_or pairs i pair
    → parts_of_members (map member (drop i pairs)) ≡ keyval_key_parts (keyval pair.keyval).assign (keyval pair.keyval).value + parts_of_members (map member (drop (i + 1) pairs))
parts-next_pair pairs i pair low is = grind (arith, common_steps, at_drop_more, parts_of_members, pair_is)

module _ (line : ℕ) (at : Address) where
  elements-all : (b : Box Array Global) (v : Value) (items : List Item) → v ≡ made.Array b → items ≡ (out-Array b.value).items.items
      → elements_of line at 0 (map tree_element items) ≡ inside line at (value v)
  elements-all b v items is are = search (rules, elements_of, inside-array)

  elements-next : (items : List Item) (i : ℕ) (item : Item) → i < length items → item ≡ slice_index_or items i item
      → elements_of line at i (map tree_element (drop i items)) ≡ element_named line at i (value item.value) ++ elements_of line at (i + 1) (map tree_element (drop (i + 1) items))
  elements-next items i item low is = grind (arith, common_steps, at_drop_more, elements_of, element_named, item_is)

  members-all : (b : Box InlineTable Global) (v : Value) (pairs : List Pair) → v ≡ made.Inline b → pairs ≡ (out-InlineTable b.value).pairs.items
      → members_of line at (map member pairs) ≡ inside line at (value v)
  members-all b v pairs is are = search (rules, members_of, inside-inline)

  members-next : (pairs : List Pair) (i : ℕ) (pair : Pair) → i < length pairs → pair ≡ slice_index_or pairs i pair
      → members_of line at (map member (drop i pairs)) ≡ pair_named line at (keyval pair.keyval).assign (keyval pair.keyval).value ++ members_of line at (map member (drop (i + 1) pairs))
  members-next pairs i pair low is = grind (arith, common_steps, at_drop_more, members_of, pair_is)

-- before the first element
module _ (start : List Spot) (id line : ℕ) (tree : IsTree start) (b : Box Array Global) (v : Value) (items : List Item) (is : v ≡ made.Array b) (are : items ≡ (out-Array b.value).items.items) where
  pub array-begin : IsEntered start start (inside line (address_at start id) (value v)) (elements_of line (address_at start id) 0 (map tree_element items))
  array-begin = entered-none start (inside line (address_at start id) (value v)) (elements_of line (address_at start id) 0 (map tree_element items)) tree (elements-all line (address_at start id) b v items is are)

  pub array-parts : parts_of_elements (map tree_element items) ≡ value_key_parts (value v)
  array-parts = ap (λ l. parts_of_elements (map tree_element l)) are ∙ sym (ap (λ x. value_key_parts (value x)) is ∙ parts-array b)

-- before the first pair
module _ (start : List Spot) (id line : ℕ) (tree : IsTree start) (b : Box InlineTable Global) (v : Value) (pairs : List Pair) (is : v ≡ made.Inline b) (are : pairs ≡ (out-InlineTable b.value).pairs.items) where
  pub table-begin : IsEntered start start (inside line (address_at start id) (value v)) (members_of line (address_at start id) (map member pairs))
  table-begin = entered-none start (inside line (address_at start id) (value v)) (members_of line (address_at start id) (map member pairs)) tree (members-all line (address_at start id) b v pairs is are)

  pub table-parts : parts_of_members (map member pairs) ≡ value_key_parts (value v)
  table-parts = ap (λ l. parts_of_members (map member l)) are ∙ sym (ap (λ x. value_key_parts (value x)) is ∙ parts-inline_table b)

module _ (start now mid : List Spot) (id i k line : ℕ) (v : Value) (items : List Item) (item : Item) (kind : Kind) (low : id < length start)
    (lone : (d : Spot) → (slice_index_or start id d).elements ≡ []) (before : i < length items) (is : item ≡ slice_index_or items i item) (kind_is : kind ≡ kind_of (value item.value))
    (grows : Grows now mid id Bare kind line k)
    (entered : IsEntered start now (inside line (address_at start id) (value v)) (elements_of line (address_at start id) i (map tree_element (drop i items))))
    (has : HasElements start now id i) where
  abbrev whole : List Named
  whole = inside line (address_at start id) (value v)

  abbrev here : Address
  here = element (address_at start id) i

  abbrev left : List Named
  left = elements_of line (address_at start id) (i + 1) (map tree_element (drop (i + 1) items))

  abbrev item_kind : Kind
  item_kind = kind_of (value item.value)

  abbrev behind : List Named
  behind = inside line here (value item.value) ++ left

  mid_is : mid ≡ grown now id (slice_index_or now id nowhere) (Index (length (slice_index_or now id nowhere).elements)) Bare item_kind line
  mid_is = grows.grown_is nowhere ∙ ap (λ q. grown now id (slice_index_or now id nowhere) (Index (length (slice_index_or now id nowhere).elements)) Bare q line) kind_is

  with_first : IsEntered start now whole (element_named line (address_at start id) i (value item.value) ++ left)
  with_first = subst (IsEntered start now whole) (elements-next line (address_at start id) items i item before is) entered

  entered_mid : IsEntered start mid whole behind
  entered_mid = search (rules, mid_is, entered-element, no_tables-inside, with_first)

  mid_address : address_at mid k ≡ here
  mid_address = search (rules, mid_is, element-address, no_tables-inside, with_first)

  -- an element that clashes
  pub element-clash : (a : Address) → Clashes mid (inside line (address_at mid k) (value item.value)) a → Clashes start whole a
  element-clash a clash = entered-clash start mid whole (inside line here (value item.value)) left a entered_mid
      (subst (λ (q : Address). Clashes mid (inside line q (value item.value)) a) mid_address clash)

  -- an element that was entered
  pub element-more : (next : List Spot) → EntersInside mid next (inside line (address_at mid k) (value item.value)) k
      → IsEntered start next whole left × HasElements start next id (i + 1)
  element-more next within = (
    entered-more start mid next whole (inside line here (value item.value)) left entered_mid
        (subst (λ (q : Address). Enters mid next (inside line q (value item.value))) mid_address within.enters),
    has-element start now id i whole low (no_tables-inside line (value v) (address_at start id)) lone has nowhere item_kind line behind with_first next k grows.last
        (subst (λ l. KeepsOthers k l next) mid_is within.elements),
  )

module _ (start now : List Spot) (id i line : ℕ) (v : Value) (pairs : List Pair) (pair : Pair) (low : id < length start) (before : i < length pairs) (is : pair ≡ slice_index_or pairs i pair)
    (entered : IsEntered start now (inside line (address_at start id) (value v)) (members_of line (address_at start id) (map member (drop i pairs)))) where
  abbrev table : List Named
  table = inside line (address_at start id) (value v)

  abbrev pairs_left : List Named
  pairs_left = members_of line (address_at start id) (map member (drop (i + 1) pairs))

  abbrev named_at : Address → List Named
  named_at at = pair_named line at (keyval pair.keyval).assign (keyval pair.keyval).value

  with_pair : IsEntered start now table (named_at (address_at start id) ++ pairs_left)
  with_pair = subst (IsEntered start now table) (members-next line (address_at start id) pairs i pair before is) entered

  -- a pair that clashes
  pub pair-clash : (a : Address) → Clashes now (named_at (address_at now id)) a → Clashes start table a
  pair-clash a clash = entered-clash start now table (named_at (address_at start id)) pairs_left a with_pair
      (subst (λ (q : Address). Clashes now (named_at q) a) (entered.enters.kept.same id low) clash)

  -- a pair that was entered
  pub pair-more : (next : List Spot) → Enters now next (named_at (address_at now id)) → IsEntered start next table pairs_left
  pair-more next enters = search (rules, entered-more, with_pair)
