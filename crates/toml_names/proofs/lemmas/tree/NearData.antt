-- The data at a node and below it, of all that a set of addresses does not hide.
use Rattle.toml_names.proofs.Common.{◌≡◌, ℕ, ◌<◌, zero, suc, Bool, true, false, cond, List, [], ◌∷◌, ◌++◌, length, Option, Some, None, String, Vec, BTreeMap, Global, refl, sym, ap, subst, ⊎_elim, ◌∙◌, cases_lt, arith, bytes_eq, bytes_eq-Decides, get_by_text, string_bytes, slice_get, slice_get_past, slice_index_or, length_push, lookup, is_at, slice_cmp, nat_cmp, is_eq-slice_cmp, none-some, Step, Name, Index, Datum, Table, Address, IsOnly, kind_in, below_node, below_in, node_kind, fact_at, same_Some, Kind, a_table, an_array, a_scalar, ScalarValue, Named, IsTree, IsTreeOf, Spot, addresses, address_at, nowhere, place_of, Line, named, root, IsReader}
use Rattle.toml_names.specs.declared.model.address_set.AddressSet.{AddressSet}
use Rattle.toml_names.specs.declared.model.datum.Datum.{Array}
use Rattle.toml_names.specs.model.AddressSets.{below, hides, is_hidden, is_whole}
use Rattle.toml_names.specs.model.Hidden.{near}
use Rattle.toml_names.specs.tree.Finished.{IsDatumAt, IsOfKind}
use Rattle.toml_names.specs.tree.Near.{IsNearDatum, IsNearIn, IsSound}
use Rattle.toml_names.specs.tree.SameBelow.{child_of, element_of}
use Rattle.toml_names.proofs.lemmas.mentions.AllLines.{named_from-is}
use Rattle.toml_names.proofs.lemmas.mentions.ValuesAbove.{holder}
use Rattle.toml_names.proofs.lemmas.model.Copies.{apart}
use Rattle.toml_names.proofs.lemmas.model.Levels.{array-here, array-item, array-name, table-here, table-member, table-index}
use Rattle.toml_names.proofs.lemmas.reader.WholeValue.{root_at}
use Rattle.toml_names.proofs.lemmas.tree.Held.{here, at_name, at_index}
use Rattle.toml_names.proofs.lemmas.tree.NodeData.{no_step}
use Rattle.toml_names.proofs.lemmas.tree.NodePlaces.{leads_to}

abbrev pub Members : Type 0
Members = BTreeMap (String Global) Datum

-- what is named at an address is what the nodes have there
module _ (nodes : List Spot) (ms : List Named) (stands : IsTreeOf nodes ms) where
  pub facts_by_nodes : (at : Address) → node_kind nodes at ≡ fact_at ms at
  facts_by_nodes at = by (place_of at (addresses nodes)) refl
    where
      by : (o : Option ℕ) → place_of at (addresses nodes) ≡ o → node_kind nodes at ≡ fact_at ms at
      by None is = rw is (sym (stands.no_facts at is))
      by (Some k) is =
          let leads = leads_to nodes stands.tree at k is in
          rw is (sym (ap (fact_at ms) (sym leads.address) ∙ stands.kinds k nowhere leads.within))

-- ---- a level

-- the address of a whole set hides nothing
pub none_hidden : (set : AddressSet) → is_whole set ≡ true → (at : Address) → is_hidden set at ≡ false
none_hidden set whole [] = refl
none_hidden set whole (s ∷ at) = rw whole refl

-- one step down
pub hidden_below : (set : AddressSet) → is_whole set ≡ false → (s : Step) (at : Address) → is_hidden set (s ∷ at) ≡ hides (below set s) s at
hidden_below set part s at = rw part refl

either_none : (b : Bool) → ◌≡◌ {A = Option Kind} None (cond b None None)
either_none true = refl
either_none false = refl

module _ (nodes : List Spot) (sound : IsSound nodes) (id : ℕ) (low : id < length nodes) where
  tree : IsTree nodes
  tree = sound.stands.tree

  -- nothing stands below by a step of another kind
  nothing_by : (k : Kind) (s : Step) (at : Address) → IsOfKind nodes id k → (k ≡ holder s → ⊥) → below_node nodes id (s ∷ at) ≡ None
  nothing_by k s at is other = facts_by_nodes nodes sound.things sound.stands (address_at nodes id ++ s ∷ at) ∙ no_step nodes id low sound.things sound.stands sound.joined k s at is other

  kind_here : (k : Kind) → IsOfKind nodes id k → below_node nodes id [] ≡ Some k
  kind_here k is = here nodes tree id low ∙ ap Some (is nowhere)

  -- all the data
  pub near_whole : (set : AddressSet) (d : Datum) → is_whole set ≡ true → IsDatumAt nodes id d → IsNearDatum nodes id set d
  near_whole set d whole is at =
      is sound.things sound.stands sound.joined at ∙ sym (facts_by_nodes nodes sound.things sound.stands (address_at nodes id ++ at)) ∙ sym (rw (none_hidden set whole at) refl)

  -- a scalar
  pub near_scalar : (set : AddressSet) (v : ScalarValue) (d : Datum) → IsOfKind nodes id (a_scalar v) → IsOnly (a_scalar v) d → IsNearDatum nodes id set d
  near_scalar set v d is only [] = only [] ∙ sym (kind_here (a_scalar v) is)
  near_scalar set v d is only (Name n ∷ at) =
      only (Name n ∷ at) ∙ either_none (is_hidden set (Name n ∷ at)) ∙ sym (ap (cond (is_hidden set (Name n ∷ at)) None) (nothing_by (a_scalar v) (Name n) at is (λ same. cc)))
  near_scalar set v d is only (Index i ∷ at) =
      only (Index i ∷ at) ∙ either_none (is_hidden set (Index i ∷ at)) ∙ sym (ap (cond (is_hidden set (Index i ∷ at)) None) (nothing_by (a_scalar v) (Index i) at is (λ same. cc)))

  -- a table of what is near at its names
  pub near_table : (set : AddressSet) (m : Members) → is_whole set ≡ false → IsOfKind nodes id a_table
      → ((n : List ℕ) → IsNearIn nodes (Name n) (below set (Name n)) (child_of nodes id n) (get_by_text m n)) → IsNearDatum nodes id set (Table m)
  near_table set m part is parts [] = table-here m ∙ sym (kind_here a_table is)
  near_table set m part is parts (Name n ∷ at) =
      table-member m n at ∙ parts n at ∙ sym (ap (λ b. cond b None (below_node nodes id (Name n ∷ at))) (hidden_below set part (Name n) at) ∙ ap (cond (hides (below set (Name n)) (Name n) at) None) (at_name nodes tree id low n at))
  near_table set m part is parts (Index i ∷ at) =
      table-index m i at ∙ either_none (is_hidden set (Index i ∷ at)) ∙ sym (ap (cond (is_hidden set (Index i ∷ at)) None) (nothing_by a_table (Index i) at is (λ same. cc)))

  -- an array of what is near at its indices
  pub near_array : (set : AddressSet) (v : Vec Datum Global) → is_whole set ≡ false → IsOfKind nodes id an_array
      → ((i : ℕ) → IsNearIn nodes (Index i) (below set (Index i)) (element_of nodes id i) (slice_get v.items i)) → IsNearDatum nodes id set (Array v)
  near_array set v part is parts [] = array-here v ∙ sym (kind_here an_array is)
  near_array set v part is parts (Index i ∷ at) =
      array-item v i at ∙ parts i at ∙ sym (ap (λ b. cond b None (below_node nodes id (Index i ∷ at))) (hidden_below set part (Index i) at) ∙ ap (cond (hides (below set (Index i)) (Index i) at) None) (at_index nodes tree id low i at))
  near_array set v part is parts (Name n ∷ at) =
      array-name v n at ∙ either_none (is_hidden set (Name n ∷ at)) ∙ sym (ap (cond (is_hidden set (Name n ∷ at)) None) (nothing_by an_array (Name n) at is (λ same. cc)))

  -- an element that stands alone
  pub near_lone : (i : ℕ) (d : Datum) → IsOnly (slice_index_or nodes id nowhere).kind d → IsNearIn nodes (Index i) None (Some id) (Some d)
  near_lone i d only [] = only [] ∙ sym (here nodes tree id low)
  near_lone i d only (s ∷ at) = only (s ∷ at)

-- ---- the loop over elements

-- the elements so far
abbrev pub AreNear : List Spot → AddressSet → List ℕ → List Datum → Type 0
AreNear nodes set elements items = (i : ℕ) → i < length items → IsNearIn nodes (Index i) (below set (Index i)) (slice_get elements i) (slice_get items i)

pub elements_near : (nodes : List Spot) (set : AddressSet) (elements : List ℕ) (items : List Datum) → length elements ≡ length items → AreNear nodes set elements items
    → (i : ℕ) → IsNearIn nodes (Index i) (below set (Index i)) (slice_get elements i) (slice_get items i)
elements_near nodes set elements items long near i = ⊎_elim (near i) (λ past at.
    ap (λ (o : Option Datum). kind_in o at) (slice_get_past items i past) ∙ either_none (hides (below set (Index i)) (Index i) at)
    ∙ sym (ap (λ (o : Option ℕ). cond (hides (below set (Index i)) (Index i) at) None (below_in nodes o at)) (slice_get_past elements i (omega (arith, long, past))))) (cases_lt i (length items))

slice_front : (ds : List Datum) (d : Datum) (i : ℕ) → i < length ds → slice_get (ds ++ d ∷ []) i ≡ slice_get ds i
slice_front [] d i low = absurd (omega arith)
slice_front (e ∷ ds) d zero low = refl
slice_front (e ∷ ds) d (suc i) low = slice_front ds d i (omega arith)

slice_last : (ds : List Datum) (d : Datum) → slice_get (ds ++ d ∷ []) (length ds) ≡ Some d
slice_last [] d = refl
slice_last (e ∷ ds) d = slice_last ds d

pub near_push : (nodes : List Spot) (set : AddressSet) (elements : List ℕ) (items : List Datum) (i : ℕ) (d : Datum) → length items ≡ i → IsNearIn nodes (Index i) (below set (Index i)) (slice_get elements i) (Some d)
    → AreNear nodes set elements items → AreNear nodes set elements (items ++ d ∷ [])
near_push nodes set elements items i d long one near j low = ⊎_elim
    (λ lower at. ap (λ (o : Option Datum). kind_in o at) (slice_front items d j lower) ∙ near j lower at)
    (λ past. let same : length items ≡ j = omega (arith, past, low, length_push items d) in
    subst (λ k. IsNearIn nodes (Index k) (below set (Index k)) (slice_get elements k) (slice_get (items ++ d ∷ []) k)) same
    (subst (λ k. IsNearIn nodes (Index k) (below set (Index k)) (slice_get elements k) (slice_get (items ++ d ∷ []) (length items))) (sym long) (λ at. ap (λ (o : Option Datum). kind_in o at) (slice_last items d) ∙ one at)))
    (cases_lt j (length items))

-- ---- the loop over names

abbrev pub Parts : Type 0
Parts = List (String Global × AddressSet)

abbrev pub part_of : List ℕ → Parts → Option AddressSet
part_of n left = lookup (is_at (λ k. slice_cmp nat_cmp n (string_bytes k))) left

-- what is near at a name
abbrev pub IsNearAt : List Spot → ℕ → AddressSet → List ℕ → Option Datum → Type 0
IsNearAt nodes id set n = IsNearIn nodes (Name n) (below set (Name n)) (child_of nodes id n)

-- each member is right, and none is missing but those at the names that are left
pub record FillsNear (nodes : List Spot) (id : ℕ) (set : AddressSet) (left : Parts) (members : Members) : Type 0 where
  pub right : (n : List ℕ) (d : Datum) → get_by_text members n ≡ Some d → IsNearAt nodes id set n (Some d)
  pub filled : (n : List ℕ) → part_of n left ≡ None → IsNearAt nodes id set n (get_by_text members n)

pub near_none : (nodes : List Spot) (id : ℕ) (set : AddressSet) (all : Parts) (members : Members) → ((n : List ℕ) → part_of n all ≡ below set (Name n)) → members.entries ≡ [] → FillsNear nodes id set all members
near_none nodes id set all members are none = record {
  right = λ n d there. absurd (none-some d (sym (lacks n) ∙ there));
  filled = λ n absent at. ap (λ (o : Option Datum). kind_in o at) (lacks n) ∙ sym (ap (λ p. cond (hides p (Name n) at) None (below_in nodes (child_of nodes id n) at)) (sym (are n) ∙ absent));
}
  where
    lacks : (n : List ℕ) → get_by_text members n ≡ None
    lacks n = ap (lookup (is_at (λ k. slice_cmp nat_cmp n (string_bytes k)))) none

-- a name that was not left is not, or it was the next one
passed : (left rest : Parts) (e : String Global × AddressSet) (n : List ℕ) → left ≡ e ∷ rest → bytes_eq (string_bytes e.0) n ≡ false → part_of n rest ≡ None → part_of n left ≡ None
passed left rest e n is other none =
    let test : is_at (λ k. slice_cmp nat_cmp n (string_bytes k)) e.0 ≡ false = is_eq-slice_cmp n (string_bytes e.0) ∙ apart (string_bytes e.0) n other in
    rw (is, test) none

module _ (nodes : List Spot) (id : ℕ) (set : AddressSet) (left rest : Parts) (e : String Global × AddressSet) (members : Members) (is : left ≡ e ∷ rest)
    (there : below set (Name (string_bytes e.0)) ≡ Some e.1) (fills : FillsNear nodes id set left members) where
  -- one member more
  pub near_more : (more : Members) (c : ℕ) (d : Datum) → child_of nodes id (string_bytes e.0) ≡ Some c → IsNearDatum nodes c e.1 d
      → ((n : List ℕ) → get_by_text more n ≡ cond (bytes_eq (string_bytes e.0) n) (Some d) (get_by_text members n)) → FillsNear nodes id set rest more
  near_more more c d child near inserted = record { right = λ n f is. right n f is (bytes_eq (string_bytes e.0) n) refl; filled = λ n none. filled n none (bytes_eq (string_bytes e.0) n) refl }
    where
      one : (n : List ℕ) → bytes_eq (string_bytes e.0) n ≡ true → IsNearAt nodes id set n (Some d)
      one n eq = subst (λ k. IsNearAt nodes id set k (Some d)) ((bytes_eq-Decides (string_bytes e.0) n).0 eq) (λ at.
          near at
          ∙ sym (ap (λ p. cond (hides p (Name (string_bytes e.0)) at) None (below_in nodes (child_of nodes id (string_bytes e.0)) at)) there ∙ ap (λ o. cond (is_hidden e.1 at) None (below_in nodes o at)) child))

      put : (n : List ℕ) (b : Bool) → bytes_eq (string_bytes e.0) n ≡ b → get_by_text more n ≡ cond b (Some d) (get_by_text members n)
      put n b eq = inserted n ∙ ap (λ t. cond t (Some d) (get_by_text members n)) eq

      right : (n : List ℕ) (f : Datum) → get_by_text more n ≡ Some f → (b : Bool) → bytes_eq (string_bytes e.0) n ≡ b → IsNearAt nodes id set n (Some f)
      right n f found true eq = subst (λ x. IsNearAt nodes id set n (Some x)) (same_Some d f (sym (put n true eq) ∙ found)) (one n eq)
      right n f found false eq = fills.right n f (sym (put n false eq) ∙ found)

      filled : (n : List ℕ) → part_of n rest ≡ None → (b : Bool) → bytes_eq (string_bytes e.0) n ≡ b → IsNearAt nodes id set n (get_by_text more n)
      filled n none true eq = subst (IsNearAt nodes id set n) (sym (put n true eq)) (one n eq)
      filled n none false eq = subst (IsNearAt nodes id set n) (sym (put n false eq)) (fills.filled n (passed left rest e n is eq none))

  -- or none, where there is no node
  pub near_skip : child_of nodes id (string_bytes e.0) ≡ None → FillsNear nodes id set rest members
  near_skip none = record { right = fills.right; filled = λ n absent. filled n absent (bytes_eq (string_bytes e.0) n) refl }
    where
      nowhere_near : (n : List ℕ) → child_of nodes id n ≡ None → (o : Option Datum) → get_by_text members n ≡ o → IsNearAt nodes id set n o
      nowhere_near n gone None is at = either_none (hides (below set (Name n)) (Name n) at) ∙ sym (ap (λ o. cond (hides (below set (Name n)) (Name n) at) None (below_in nodes o at)) gone)
      nowhere_near n gone (Some d) is at = fills.right n d is at

      filled : (n : List ℕ) → part_of n rest ≡ None → (b : Bool) → bytes_eq (string_bytes e.0) n ≡ b → IsNearAt nodes id set n (get_by_text members n)
      filled n absent true eq = nowhere_near n (ap (child_of nodes id) (sym ((bytes_eq-Decides (string_bytes e.0) n).0 eq)) ∙ none) (get_by_text members n) refl
      filled n absent false eq = fills.filled n (passed left rest e n is eq absent)

-- where no name is left
pub near_all : (nodes : List Spot) (id : ℕ) (set : AddressSet) (left : Parts) (members : Members) → left ≡ [] → FillsNear nodes id set left members → (n : List ℕ) → IsNearAt nodes id set n (get_by_text members n)
near_all nodes id set left members is fills n = fills.filled n (ap (part_of n) is)

pub not_some : (o : Option ℕ) → ((k : ℕ) → o ≡ Some k → ⊥) → o ≡ None
not_some None none = refl
not_some (Some k) none = absurd (none k refl)

-- the root of what lines name is a table
pub root_is_table : (nodes : List Spot) (lines : List Line) (own : List (Option ℕ)) (at : ℕ) → IsReader nodes lines own at → IsOfKind nodes 0 a_table
root_is_table nodes lines own at reads d =
    let first : fact_at (named lines) (address_at nodes 0) ≡ Some a_table =
    ap (fact_at (named lines)) (root_at nodes (named lines) reads.stands) ∙ ap (λ ms. fact_at ms []) (named_from-is lines (root ∷ []) 0) in
    same_Some _ _ (sym (reads.stands.kinds 0 d reads.stands.tree.root) ∙ first)
