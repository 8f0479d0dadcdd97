-- What entering the next element of an array in a value leaves: its index is free, and its node leads nowhere.
use Rattle.toml_names.proofs.Common.{◌≡◌, ℕ, ◌<◌, List, [], length, slice_index_or, Name, Index, Bare, Kind, IsTree, Spot, grown, nowhere, Grows, IsNode, common_steps, ◌+◌, false, ◌∷◌, Some, None, refl, sym, ap, ◌∙◌, arith, rules, cond-false, none-some, slice_get_past, Role, Tables, Address, element, Named, is_tables, count_tables, IsTreeOf, LeadsTo, addresses, address_at, place_of, first_line}
use Rattle.toml_names.proofs.lemmas.tree.TreeGrown.{IsTree-grown, length-grown, address-new, node-last}
use Rattle.toml_names.proofs.lemmas.mentions.Counting.{count_cons}

one_is_some : (a b : ℕ) → a ≡ 1 + b → 0 < a
one_is_some a b is = omega arith

more_is_some : (a b c : ℕ) → a ≡ b + c → 0 < c → 0 < a
more_is_some a b c is some = omega arith

-- where an array of tables has a first header it is counted
line_counted : (ms : List Named) (at : Address) (l : ℕ) → first_line ms at Tables ≡ Some l → 0 < count_tables ms at
line_counted [] at l some = absurd (none-some l some)
line_counted (m ∷ ms) at l some = grind (arith, common_steps, one_is_some, count_cons, more_is_some, cond-false, line_counted ms at l)

-- what has no header of an array of tables is none
pub plain_from_count : (nodes : List Spot) (ms : List Named) (k : ℕ) (d : Spot) → IsTreeOf nodes ms → k < length nodes → count_tables ms (address_at nodes k) ≡ 0 → is_tables (slice_index_or nodes k d).role ≡ false
plain_from_count nodes ms k d stands low none = search (rules, line_counted)

-- an array without elements is no array of tables
pub count_from_lone : (nodes : List Spot) (ms : List Named) (k : ℕ) (d : Spot) → IsTreeOf nodes ms → k < length nodes → (slice_index_or nodes k d).elements ≡ [] → count_tables ms (address_at nodes k) ≡ 0
count_from_lone nodes ms k d stands low lone = search rules

-- no element stands behind the last
pub fresh_element : (nodes : List Spot) (id : ℕ) (d : Spot) → IsTree nodes → id < length nodes
    → place_of (element (address_at nodes id) (length (slice_index_or nodes id d).elements)) (addresses nodes) ≡ None
fresh_element nodes id d tree low =
    sym (tree.indices id d (length (slice_index_or nodes id d).elements) low)
    ∙ slice_get_past (slice_index_or nodes id d).elements (length (slice_index_or nodes id d).elements) (omega arith)

module _ (nodes : List Spot) (tree : IsTree nodes) (id : ℕ) (low : id < length nodes) (d : Spot) (r : Role) (kind : Kind) (line : ℕ) where
  abbrev i : ℕ
  i = length (slice_index_or nodes id d).elements

  abbrev after : List Spot
  after = grown nodes id (slice_index_or nodes id d) (Index i) r kind line

  pub LeadsTo-element : LeadsTo after (length nodes) (element (address_at nodes id) i)
  LeadsTo-element = record { within = let long = length-grown nodes id d (Index i) r kind line low in omega arith; address = address-new nodes id d (Index i) r kind line low (length nodes) refl }

  pub lone-element : (e : Spot) → (slice_index_or after (length nodes) e).elements ≡ []
  lone-element e = ap (λ (s : Spot). s.elements) (node-last nodes id d (Index i) r kind line low (length nodes) e refl)

module _ (nodes : List Spot) (id : ℕ) (d : Spot) (kind : Kind) (line : ℕ) (low : id < length nodes) (tree : IsTree nodes) where
  abbrev last : ℕ
  last = length (slice_index_or nodes id d).elements

  pub index-next : (j : ℕ) → Index last ≡ Index j → j ≡ last
  index-next j same = cc

  pub index-no_name : (n : List ℕ) → Index last ≡ Name n → Bare ≡ Bare → ⊥
  index-no_name n same = cc

  pub tree-element : IsTree (grown nodes id (slice_index_or nodes id d) (Index last) Bare kind line)
  tree-element = IsTree-grown nodes id d (Index last) Bare kind line low tree (fresh_element nodes id d tree low) index-next index-no_name

-- as the code makes it
module _ (nodes new : List Spot) (id line : ℕ) (kind : Kind) (there : IsNode nodes id) (k : ℕ) (grows : Grows nodes new id Bare kind line k) where
  pub IsNode-element : IsNode new k
  IsNode-element = rw (grows.grown_is nowhere, grows.last) (record {
    tree = tree-element nodes id nowhere kind line there.within there.tree;
    within = (LeadsTo-element nodes there.tree id there.within nowhere Bare kind line).within;
  })

  pub lone-grown : (d : Spot) → (slice_index_or new k d).elements ≡ []
  lone-grown = rw (grows.grown_is nowhere, grows.last) (lone-element nodes there.tree id there.within nowhere Bare kind line)
