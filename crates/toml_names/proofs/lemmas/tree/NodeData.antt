-- The data at a node, from the data at the nodes below it.
use Rattle.toml_names.proofs.Common.{◌≡◌, ℕ, zero, suc, ◌+◌, ◌<◌, ◌≤◌, cond, List, [], ◌∷◌, ◌++◌, length, drop, take, get_or, Result, Ok, Err, IfOk, Option, Some, None, String, Vec, BTreeMap, Global, bytes_eq, refl, sym, ap, subst, ◌∙◌, slice_index_or, rules, append_assoc, append-nil, drop_more, take_more, take_all, get_or_default, get_or_from_slice_get, slice_get-get_or, slice_get_within, get_by_text, lookup, slice_get, ScalarValue, Step, Name, Index, Datum, Table, Address, IsOnly, kind_in, fact_at, Joined, Kind, a_table, an_array, a_scalar, Named, IsTree, IsTreeOf, Spot, addresses, address_at, place_of, nowhere, vec_len, arith}
use Rattle.toml_names.specs.declared.model.datum.Datum.{Array}
use Rattle.toml_names.specs.tree.Finished.{IsDatumAt, IsOfKind}
use Rattle.toml_names.proofs.lemmas.mentions.ValuesAbove.{holder, held, begins_at_root}
use Rattle.toml_names.proofs.lemmas.model.Levels.{array-here, array-item, array-name, table-here, table-member, table-index}
use Rattle.toml_names.proofs.lemmas.tree.NodePlaces.{leads_to, later, no_place, nothing_named}

-- a part that may not be there is the data at the node, if there is one
abbrev pub PartIs : List Spot → Option ℕ → Option Datum → Type 0
PartIs nodes None None = Unit {0}
PartIs nodes (Some k) (Some d) = IsDatumAt nodes k d
PartIs nodes _ _ = ⊥

module _ (nodes : List Spot) (id : ℕ) (low : id < length nodes) (ms : List Named) (stands : IsTreeOf nodes ms) (joined : Joined ms) where
  stepped : (s : Step) (rest : Address) → fact_at ms (address_at nodes id ++ s ∷ rest) ≡ fact_at ms ((address_at nodes id ++ s ∷ []) ++ rest)
  stepped s rest = ap (fact_at ms) (sym (append_assoc (address_at nodes id) (s ∷ []) rest))

  fact_is : (k : Kind) → IsOfKind nodes id k → fact_at ms (address_at nodes id) ≡ Some k
  fact_is k is = stands.kinds id nowhere low ∙ ap Some (is nowhere)

  pub here : (k : Kind) → IsOfKind nodes id k → fact_at ms (address_at nodes id ++ []) ≡ Some k
  here k is = ap (fact_at ms) (append-nil (address_at nodes id)) ∙ fact_is k is

  -- nothing stands below by a step of another kind
  pub no_step : (k : Kind) (s : Step) (rest : Address) → IsOfKind nodes id k → (k ≡ holder s → ⊥) → fact_at ms (address_at nodes id ++ s ∷ rest) ≡ None
  no_step k s rest is other = search (rules, held, begins_at_root, fact_is, stepped, nothing_named, no_place)

  -- what stands below by a step is the part there
  pub part_is : (s : Step) (rest : Address) (o : Option ℕ) (part : Option Datum) → o ≡ place_of (address_at nodes id ++ s ∷ []) (addresses nodes) → PartIs nodes o part
      → kind_in part rest ≡ fact_at ms (address_at nodes id ++ s ∷ rest)
  part_is s rest o part place is = search (rules, stepped, nothing_named, leads_to)

module _ (nodes : List Spot) (id : ℕ) (low : id < length nodes) where
  -- a scalar
  pub only_is_datum : (v : ScalarValue) (d : Datum) → IsOfKind nodes id (a_scalar v) → IsOnly (a_scalar v) d → IsDatumAt nodes id d
  only_is_datum v d is only ms stands joined [] = only [] ∙ sym (here nodes id low ms stands joined (a_scalar v) is)
  only_is_datum v d is only ms stands joined (Name n ∷ at) = only (Name n ∷ at) ∙ sym (no_step nodes id low ms stands joined (a_scalar v) (Name n) at is (λ same. cc))
  only_is_datum v d is only ms stands joined (Index i ∷ at) = only (Index i ∷ at) ∙ sym (no_step nodes id low ms stands joined (a_scalar v) (Index i) at is (λ same. cc))

  -- a table of the data at the nodes of its names
  pub table_is_datum : (m : BTreeMap (String Global) Datum) → IsTree nodes → IsOfKind nodes id a_table
      → ((n : List ℕ) → PartIs nodes (lookup (bytes_eq n) (slice_index_or nodes id nowhere).children) (get_by_text m n)) → IsDatumAt nodes id (Table m)
  table_is_datum m tree is parts ms stands joined [] = table-here m ∙ sym (here nodes id low ms stands joined a_table is)
  table_is_datum m tree is parts ms stands joined (Name n ∷ at) = search (rules, table-member, part_is)
  table_is_datum m tree is parts ms stands joined (Index i ∷ at) = table-index m i at ∙ sym (no_step nodes id low ms stands joined a_table (Index i) at is (λ same. cc))

  -- an array of the data at the nodes of its elements
  pub array_is_datum : (v : Vec Datum Global) → IsTree nodes → IsOfKind nodes id an_array
      → ((i : ℕ) → PartIs nodes (slice_get (slice_index_or nodes id nowhere).elements i) (slice_get v.items i)) → IsDatumAt nodes id (Array v)
  array_is_datum v tree is parts ms stands joined [] = array-here v ∙ sym (here nodes id low ms stands joined an_array is)
  array_is_datum v tree is parts ms stands joined (Index i ∷ at) = search (rules, array-item, part_is)
  array_is_datum v tree is parts ms stands joined (Name n ∷ at) = array-name v n at ∙ sym (no_step nodes id low ms stands joined an_array (Name n) at is (λ same. cc))

-- the elements so far
abbrev pub ItemsAre : List Spot → List ℕ → List Datum → Type 0
ItemsAre nodes [] [] = Unit {0}
ItemsAre nodes (k ∷ ks) (d ∷ ds) = IsDatumAt nodes k d × ItemsAre nodes ks ds
ItemsAre nodes _ _ = ⊥

items_push : (nodes : List Spot) (ks : List ℕ) (ds : List Datum) (k : ℕ) (d : Datum) → ItemsAre nodes ks ds → IsDatumAt nodes k d → ItemsAre nodes (ks ++ k ∷ []) (ds ++ d ∷ [])
items_push nodes [] [] k d are is = (is, tt)
items_push nodes [] (e ∷ ds) k d are is = absurd are
items_push nodes (j ∷ ks) [] k d are is = absurd are
items_push nodes (j ∷ ks) (e ∷ ds) k d are is = (are.0, items_push nodes ks ds k d are.1 is)

pub items_more : (nodes : List Spot) (ks : List ℕ) (ds : List Datum) (i e : ℕ) (d : Datum) → i < length ks → ItemsAre nodes (take i ks) ds → IsDatumAt nodes (get_or ks i e) d
    → ItemsAre nodes (take (i + 1) ks) (ds ++ d ∷ [])
items_more nodes ks ds i e d low are is = subst (λ l. ItemsAre nodes l (ds ++ d ∷ [])) (sym (take_more ks i e low)) (items_push nodes (take i ks) ds (get_or ks i e) d are is)

items_all : (nodes : List Spot) (ks : List ℕ) (ds : List Datum) → ItemsAre nodes ks ds → (i : ℕ) → PartIs nodes (slice_get ks i) (slice_get ds i)
items_all nodes [] [] are i = tt
items_all nodes [] (d ∷ ds) are i = absurd are
items_all nodes (k ∷ ks) [] are i = absurd are
items_all nodes (k ∷ ks) (d ∷ ds) are zero = are.0
items_all nodes (k ∷ ks) (d ∷ ds) are (suc i) = items_all nodes ks ds are.1 i

pub items_whole : (nodes : List Spot) (ks : List ℕ) (ds : List Datum) (i : ℕ) → length ks ≤ i → ItemsAre nodes (take i ks) ds → (j : ℕ) → PartIs nodes (slice_get ks j) (slice_get ds j)
items_whole nodes ks ds i past are = items_all nodes ks ds (subst (λ l. ItemsAre nodes l ds) (take_all i ks past) are)

-- each name that is none of those left has its part
abbrev pub Fills : List Spot → List (List ℕ × ℕ) → List (List ℕ × ℕ) → BTreeMap (String Global) Datum → Type 0
Fills nodes all left members = (n : List ℕ) → lookup (bytes_eq n) left ≡ None → PartIs nodes (lookup (bytes_eq n) all) (get_by_text members n)

pub fills_more : (nodes : List Spot) (all left rest : List (List ℕ × ℕ)) (e : List ℕ × ℕ) (d : Datum) (members more : BTreeMap (String Global) Datum) → left ≡ e ∷ rest
    → lookup (bytes_eq e.0) all ≡ Some e.1 → IsDatumAt nodes e.1 d → Fills nodes all left members
    → ((n : List ℕ) → get_by_text more n ≡ cond (bytes_eq e.0 n) (Some d) (get_by_text members n)) → Fills nodes all rest more
fills_more nodes all left rest e d members more is there one fills inserted = search rules

-- the pair at a place comes next
pub pair_next : (all : List (List ℕ × ℕ)) (i : ℕ) (e : List ℕ × ℕ) → Some e ≡ slice_get all i → drop i all ≡ e ∷ drop (i + 1) all
pair_next all i e is = drop_more all i e (slice_get_within all i e (sym is)) ∙ ap (λ p. p ∷ drop (i + 1) all) (get_or_from_slice_get all i e e (sym is))

pub fills_all : (nodes : List Spot) (all children : List (List ℕ × ℕ)) (members : BTreeMap (String Global) Datum) → all ≡ children → Fills nodes all [] members
    → (n : List ℕ) → PartIs nodes (lookup (bytes_eq n) children) (get_by_text members n)
fills_all nodes all children members are fills n = subst (λ l. PartIs nodes (lookup (bytes_eq n) l) (get_by_text members n)) are (fills n refl)

pub fills_none : (nodes : List Spot) (all : List (List ℕ × ℕ)) (members : BTreeMap (String Global) Datum) → members.entries ≡ [] → Fills nodes all all members
fills_none nodes all members none = search rules

-- the nodes below a node are nodes, and later ones
module _ (nodes : List Spot) (tree : IsTree nodes) (id : ℕ) (low : id < length nodes) where
  pub below_place : (s : Step) (c : ℕ) → place_of (address_at nodes id ++ s ∷ []) (addresses nodes) ≡ Some c → (c < length nodes) × (id < c)
  below_place s c place = ((leads_to nodes tree (address_at nodes id ++ s ∷ []) c place).within, later nodes tree id c s low place)

  pub below_name : (all : List (List ℕ × ℕ)) (n : List ℕ) (c : ℕ) → all ≡ (slice_index_or nodes id nowhere).children → lookup (bytes_eq n) all ≡ Some c → (c < length nodes) × (id < c)
  below_name all n c are there = below_place (Name n) c (sym (tree.names id nowhere n low) ∙ ap (lookup (bytes_eq n)) (sym are) ∙ there)

  pub below_element : (elements : List ℕ) (i e : ℕ) → elements ≡ (slice_index_or nodes id nowhere).elements → i < length elements → (get_or elements i e < length nodes) × (id < get_or elements i e)
  below_element elements i e are there = search (rules, below_place, slice_get-get_or)

-- a node that was read
pub low_in : (nodes : Vec Spot Global) {id : ℕ} → id < vec_len nodes → id < length nodes.items
low_in nodes low = omega (arith, nodes.ok)

pub node_read : (nodes : List Spot) (id : ℕ) (s : Spot) → id < length nodes → s ≡ slice_index_or nodes id s → s ≡ slice_index_or nodes id nowhere
node_read nodes id s low is = is ∙ get_or_default nodes id s nowhere low

pub kind_read : (nodes : List Spot) (id : ℕ) (s : Spot) (k : Kind) → id < length nodes → s ≡ slice_index_or nodes id s → k ≡ s.kind → IsOfKind nodes id k
kind_read nodes id s k low is kind d = ap (λ (t : Spot). t.kind) (get_or_default nodes id d s low ∙ sym is) ∙ sym kind

pub scalars_datum : {E : Type 0} (nodes : List Spot) (id : ℕ) (v : ScalarValue) (r : Result Datum E) → id < length nodes → IsOfKind nodes id (a_scalar v) → IfOk r (IsOnly (a_scalar v)) → IfOk r (IsDatumAt nodes id)
scalars_datum nodes id v (Ok d) low is only = only_is_datum nodes id low v d is only
scalars_datum nodes id v (Err e) low is only = only
