-- Whether data are what stands in the tree of names, level by level; tables by their names, of which both have as many.
use Rattle.toml_names.proofs.Common.{common_steps, ◌≡◌, ◌↔◌, ◌==◌, Result, IfOk, ℕ, ◌<◌, ◌≤◌, Bool, true, List, [], ◌∷◌, ◌++◌, length, Option, Some, None, IsSome, IsTrue, is_some, option_map, String, Vec, BTreeMap, Global, string_cmp, slice_index_or, refl, sym, ap, subst, ⊎_elim, ◌∙◌, true≢false, arith, rules, cases_lt, eqb-true, append_assoc, append-nil, none-some, slice_get_past, slice_get_within, slice_get-get_or, bytes_eq-Decides, get_by_text, btree_map_len, IsOrdered, lookup, slice_get, bytes_eq, ScalarValue, scalar_value, Step, Name, Index, Datum, Table, Address, kind_at, kind_in, Holds, below_node, below_in, node_kind, Kind, a_table, an_array, a_scalar, AreDistinct, IsTree, Spot, addresses, address_at, nowhere, place_of, false, cond, map, string_bytes, is_eq-slice_cmp, is_at, slice_cmp, nat_list_eq_equiv, AllByRecursion, list_any, keys_of, nat_cmp, eq_by_cmp}
use Rattle.toml_scalar.specs.declared.scalar.Scalar.{Scalar as Value}
use Rattle.toml_names.specs.declared.model.datum.Datum.{Scalar, Array}
use Rattle.toml_names.proofs.lemmas.model.Alike.{part_there, kind_there, Each, Entry, each_found}
use Rattle.toml_names.proofs.lemmas.model.Levels.{scalar-here, scalar-below, array-here, array-item, array-name, table-here, table-member, table-index, scalar_from_kind, array_from_kind, table_from_kind}
use Rattle.toml_names.proofs.lemmas.tree.NodePlaces.{leads_to, nothing_below, own_place}
use Rattle.std.proofs.lemmas.Map.Keys.{IsDistinct-cons, IsDistinct-head, IsDistinct-tail, IsDistinct-from_sorted}
use Rattle.std.proofs.lemmas.Map.Made.{is_some-lookup}
use Rattle.std.proofs.lemmas.Map.Steps.{length-le_from_keys}
use Rattle.std.specs.List.{IsDistinct}

abbrev Pairs : Type 0
Pairs = List (List ℕ × ℕ)

abbrev named : List Entry → List (List ℕ × Datum)
named = map (λ e. (string_bytes e.0, e.1))

abbrev names_of : List Entry → List (List ℕ)
names_of es = keys_of (named es)

-- a look-up by text is one among the names
by_name : (n : List ℕ) (es : List Entry) → lookup (bytes_eq n) (named es) ≡ lookup (is_at (λ k. slice_cmp nat_cmp n (string_bytes k))) es
by_name n [] = refl
by_name n (e ∷ es) = rw (is_eq-slice_cmp n (string_bytes e.0)) (ap (λ o. cond (bytes_eq n (string_bytes e.0)) (Some e.1) o) (by_name n es))

pub fresh_by : {X : Type 0} (n : List ℕ) (es : List (List ℕ × X)) → lookup (bytes_eq n) es ≡ None → AllByRecursion (λ y. bytes_eq n y ≡ false) (keys_of es)
fresh_by n [] none = tt
fresh_by n (e ∷ es) none = search (rules, fresh_by n es)

none_distinct : IsDistinct bytes_eq []
unfolding IsDistinct
none_distinct = grind arith

pub children_distinct : (es : Pairs) → AreDistinct es → IsDistinct bytes_eq (keys_of es)
children_distinct [] are = none_distinct
children_distinct (e ∷ es) are = IsDistinct-cons bytes_eq e.0 (keys_of es) (fresh_by e.0 es are.0) (children_distinct es are.1)

apart_names : (k : String Global) (es : List Entry) → AllByRecursion (λ y. eq_by_cmp string_cmp k y ≡ false) (keys_of es) → AllByRecursion (λ y. bytes_eq (string_bytes k) y ≡ false) (names_of es)
apart_names k [] all = tt
apart_names k (e ∷ es) all = (sym (is_eq-slice_cmp (string_bytes k) (string_bytes e.0)) ∙ all.0, apart_names k es all.1)

names_distinct : (es : List Entry) → IsDistinct (eq_by_cmp string_cmp) (keys_of es) → IsDistinct bytes_eq (names_of es)
names_distinct [] are = none_distinct
names_distinct (e ∷ es) are =
    IsDistinct-cons bytes_eq (string_bytes e.0) (names_of es)
    (apart_names e.0 es (IsDistinct-head (eq_by_cmp string_cmp) e.0 (keys_of es) are))
    (names_distinct es (IsDistinct-tail (eq_by_cmp string_cmp) e.0 (keys_of es) are))

length-names_of : (es : List Entry) → length (names_of es) ≡ length es
length-names_of es = grind (arith, common_steps)

length-named : (es : List Entry) → length (named es) ≡ length es
length-named es = grind (arith, common_steps)

pub length-keys : {X : Type 0} (es : List (List ℕ × X)) → length (keys_of es) ≡ length es
length-keys es = grind (arith, common_steps)

module _ (children : Pairs) (m : BTreeMap (String Global) Datum) (apart : AreDistinct children) (ordered : IsOrdered string_cmp m) where
  -- as many names where those of the one are those of the other
  pub one_count : ((n : List ℕ) → IsSome (get_by_text m n) → IsSome (lookup (bytes_eq n) children)) → ((n : List ℕ) → IsSome (lookup (bytes_eq n) children) → IsSome (get_by_text m n))
      → length children ≡ btree_map_len m
  one_count there back =
      let less : length (names_of m.entries) ≤ length children =
      length-le_from_keys nat_list_eq_equiv (names_of m.entries) children (names_distinct m.entries (IsDistinct-from_sorted string_cmp (keys_of m.entries) ordered))
      (λ q h. there q (ap is_some (sym (by_name q m.entries)) ∙ is_some-lookup (bytes_eq q) (named m.entries) ∙ h)) in
      let more : length (keys_of children) ≤ length (named m.entries) =
      length-le_from_keys nat_list_eq_equiv (keys_of children) (named m.entries) (children_distinct children apart)
      (λ q h. ap is_some (by_name q m.entries) ∙ back q (is_some-lookup (bytes_eq q) children ∙ h)) in
      omega (arith, less, more, length-names_of m.entries, length-keys children, length-named m.entries)

  -- no name is left where as many are found
  pub none_left : ((n : List ℕ) → IsSome (get_by_text m n) → IsSome (lookup (bytes_eq n) children)) → length children ≡ btree_map_len m
      → (n : List ℕ) → get_by_text m n ≡ None → lookup (bytes_eq n) children ≡ None
  none_left there count n none = by (lookup (bytes_eq n) children) refl
    where
      found : (q : List ℕ) (b : Bool) → bytes_eq q n ≡ b → IsSome (lookup (bytes_eq n) children) → list_any (bytes_eq q) (n ∷ names_of m.entries) ≡ true → IsSome (lookup (bytes_eq q) children)
      found q true same some h = subst (λ k. IsSome (lookup (bytes_eq k) children)) (sym ((bytes_eq-Decides q n).0 same)) some
      found q false other some h =
          there q (ap is_some (sym (by_name q m.entries)) ∙ is_some-lookup (bytes_eq q) (named m.entries) ∙ (let e : list_any (bytes_eq q) (n ∷ names_of m.entries) ≡ list_any (bytes_eq q) (names_of m.entries) = rw other refl in sym e ∙ h))

      by : (o : Option ℕ) → lookup (bytes_eq n) children ≡ o → lookup (bytes_eq n) children ≡ None
      by None is = is
      by (Some k) is =
          let all : length (n ∷ names_of m.entries) ≤ length children =
          length-le_from_keys nat_list_eq_equiv (n ∷ names_of m.entries) children
          (IsDistinct-cons bytes_eq n (names_of m.entries) (fresh_by n (named m.entries) (by_name n m.entries ∙ none)) (names_distinct m.entries (IsDistinct-from_sorted string_cmp (keys_of m.entries) ordered)))
          (λ q h. found q (bytes_eq q n) refl (ap is_some is) h) in
          absurd (omega (arith, all, count, length-names_of m.entries))

module _ (nodes : List Spot) (tree : IsTree nodes) where
  pub here : (id : ℕ) → id < length nodes → below_node nodes id [] ≡ Some (slice_index_or nodes id nowhere).kind
  here id low = ap (node_kind nodes) (append-nil (address_at nodes id)) ∙ ap (option_map (λ k. (slice_index_or nodes k nowhere).kind)) (own_place nodes tree id low)

  stepped : (id : ℕ) (s : Step) (rest : Address) (o : Option ℕ) → o ≡ place_of (address_at nodes id ++ s ∷ []) (addresses nodes) → below_node nodes id (s ∷ rest) ≡ below_in nodes o rest
  stepped id s rest None is =
      ap (node_kind nodes) (sym (append_assoc (address_at nodes id) (s ∷ []) rest))
      ∙ ap (option_map (λ k. (slice_index_or nodes k nowhere).kind)) (nothing_below (addresses nodes) tree.nested rest (address_at nodes id ++ s ∷ []) (sym is))
  stepped id s rest (Some k) is = search (rules, append_assoc, leads_to)

  module _ (id : ℕ) (low : id < length nodes) where
    pub at_name : (n : List ℕ) (rest : Address) → below_node nodes id (Name n ∷ rest) ≡ below_in nodes (lookup (bytes_eq n) (slice_index_or nodes id nowhere).children) rest
    at_name n rest = stepped id (Name n) rest (lookup (bytes_eq n) (slice_index_or nodes id nowhere).children) (tree.names id nowhere n low)

    pub at_index : (i : ℕ) (rest : Address) → below_node nodes id (Index i ∷ rest) ≡ below_in nodes (slice_get (slice_index_or nodes id nowhere).elements i) rest
    at_index i rest = stepped id (Index i) rest (slice_get (slice_index_or nodes id nowhere).elements i) (tree.indices id nowhere i low)

    there_by : (s : Step) (o : Option ℕ) → o ≡ place_of (address_at nodes id ++ s ∷ []) (addresses nodes) → IsSome o → IsSome (below_in nodes o [])
    there_by s o is some = search (rules, here, leads_to)

    -- a node has something
    pub there_name : (n : List ℕ) → IsSome (lookup (bytes_eq n) (slice_index_or nodes id nowhere).children) → IsSome (below_in nodes (lookup (bytes_eq n) (slice_index_or nodes id nowhere).children) [])
    there_name n = there_by (Name n) _ (tree.names id nowhere n low)

    pub there_index : (i : ℕ) → IsSome (slice_get (slice_index_or nodes id nowhere).elements i) → IsSome (below_in nodes (slice_get (slice_index_or nodes id nowhere).elements i) [])
    there_index i = there_by (Index i) _ (tree.indices id nowhere i low)

-- what has nothing in it is nowhere
pub in_none : (nodes : List Spot) (o : Option ℕ) → below_in nodes o [] ≡ None → (IsSome o → IsSome (below_in nodes o [])) → o ≡ None
in_none nodes o none there = search rules

pub first_name : (es : List (List ℕ × ℕ)) → ((n : List ℕ) → lookup (bytes_eq n) es ≡ None) → es ≡ []
first_name [] none = refl
first_name (e ∷ es) none = let same : bytes_eq e.0 e.0 ≡ true = (bytes_eq-Decides e.0 e.0).1 refl in absurd (none-some e.1 (sym (none e.0) ∙ rw same refl))

pub first_element : (es : List ℕ) → ((i : ℕ) → slice_get es i ≡ None) → es ≡ []
first_element [] none = refl
first_element (e ∷ es) none = absurd (none-some e (sym (none 0)))

module _ (nodes : List Spot) (tree : IsTree nodes) (id : ℕ) (low : id < length nodes) (s : Spot) (is : s ≡ slice_index_or nodes id nowhere) where
  name_is : (n : List ℕ) (rest : Address) → below_node nodes id (Name n ∷ rest) ≡ below_in nodes (lookup (bytes_eq n) s.children) rest
  name_is n rest = at_name nodes tree id low n rest ∙ ap (λ (t : Spot). below_in nodes (lookup (bytes_eq n) t.children) rest) (sym is)

  index_is : (i : ℕ) (rest : Address) → below_node nodes id (Index i ∷ rest) ≡ below_in nodes (slice_get s.elements i) rest
  index_is i rest = at_index nodes tree id low i rest ∙ ap (λ (t : Spot). below_in nodes (slice_get t.elements i) rest) (sym is)

  kind_is : (k : Kind) → s.kind ≡ k → below_node nodes id [] ≡ Some k
  kind_is k same = here nodes tree id low ∙ ap (λ (t : Spot). Some t.kind) (sym is) ∙ ap Some same

  some_name : (n : List ℕ) → IsSome (lookup (bytes_eq n) s.children) → IsSome (below_in nodes (lookup (bytes_eq n) s.children) [])
  some_name n = subst (λ (t : Spot). IsSome (lookup (bytes_eq n) t.children) → IsSome (below_in nodes (lookup (bytes_eq n) t.children) [])) (sym is) (there_name nodes tree id low n)

  some_index : (i : ℕ) → IsSome (slice_get s.elements i) → IsSome (below_in nodes (slice_get s.elements i) [])
  some_index i = subst (λ (t : Spot). IsSome (slice_get t.elements i) → IsSome (below_in nodes (slice_get t.elements i) [])) (sym is) (there_index nodes tree id low i)

  -- where the datum has nothing by a name or an index, neither has the node
  no_names : (d : Datum) → Holds nodes id d → ((n : List ℕ) → kind_at d (Name n ∷ []) ≡ None) → s.children ≡ []
  no_names d holds none = first_name s.children (λ n. in_none nodes _ (sym (name_is n []) ∙ sym (holds (Name n ∷ [])) ∙ none n) (some_name n))

  no_elements : (d : Datum) → Holds nodes id d → ((i : ℕ) → kind_at d (Index i ∷ []) ≡ None) → s.elements ≡ []
  no_elements d holds none = first_element s.elements (λ i. in_none nodes _ (sym (index_is i []) ∙ sym (holds (Index i ∷ [])) ∙ none i) (some_index i))

  -- scalars
  pub scalar_held : (v : ScalarValue) (t : Value) → s.kind ≡ a_scalar v → (s.children ≡ []) × (s.elements ≡ []) → (v ≡ scalar_value t) ↔ Holds nodes id (Scalar t)
  scalar_held v t kind bare = (there, λ holds. inner (sym (kind_is (a_scalar v) kind) ∙ sym (holds []) ∙ scalar-here t))
    where
      there : v ≡ scalar_value t → Holds nodes id (Scalar t)
      there same [] = scalar-here t ∙ ap (λ w. Some (a_scalar w)) (sym same) ∙ sym (kind_is (a_scalar v) kind)
      there same (Name n ∷ rest) = scalar-below t (Name n) rest ∙ sym (name_is n rest ∙ ap (λ es. below_in nodes (lookup (bytes_eq n) es) rest) bare.0)
      there same (Index i ∷ rest) = scalar-below t (Index i) rest ∙ sym (index_is i rest ∙ ap (λ es. below_in nodes (slice_get es i) rest) bare.1)

      inner : ◌≡◌ {A = Option Kind} (Some (a_scalar v)) (Some (a_scalar (scalar_value t))) → v ≡ scalar_value t
      inner same = cc

  pub scalar_bare : (t : Value) → Holds nodes id (Scalar t) → (s.children ≡ []) × (s.elements ≡ [])
  scalar_bare t holds = (no_names (Scalar t) holds (λ n. scalar-below t (Name n) []), no_elements (Scalar t) holds (λ i. scalar-below t (Index i) []))

  -- tables
  pub table_bare : (m : BTreeMap (String Global) Datum) → Holds nodes id (Table m) → s.elements ≡ []
  table_bare m holds = no_elements (Table m) holds (λ i. table-index m i [])

  pub table_parts : (m : BTreeMap (String Global) Datum) → Holds nodes id (Table m) → (n : List ℕ) (at : Address) → kind_in (get_by_text m n) at ≡ below_in nodes (lookup (bytes_eq n) s.children) at
  table_parts m holds n at = sym (table-member m n at) ∙ holds (Name n ∷ at) ∙ name_is n at

  pub table_held : (m : BTreeMap (String Global) Datum) → s.kind ≡ a_table → s.elements ≡ []
      → ((n : List ℕ) (at : Address) → kind_in (get_by_text m n) at ≡ below_in nodes (lookup (bytes_eq n) s.children) at) → Holds nodes id (Table m)
  table_held m kind bare parts [] = table-here m ∙ sym (kind_is a_table kind)
  table_held m kind bare parts (Name n ∷ at) = table-member m n at ∙ parts n at ∙ sym (name_is n at)
  table_held m kind bare parts (Index i ∷ at) = table-index m i at ∙ sym (index_is i at ∙ ap (λ es. below_in nodes (slice_get es i) at) bare)

  pub found_too : (m : BTreeMap (String Global) Datum) → Holds nodes id (Table m) → (n : List ℕ) → IsSome (get_by_text m n) → IsSome (lookup (bytes_eq n) s.children)
  found_too m holds n some = by (lookup (bytes_eq n) s.children) (subst IsSome (table_parts m holds n []) (kind_there (get_by_text m n) some))
    where
      by : (o : Option ℕ) → IsSome (below_in nodes o []) → IsSome o
      by None h = h
      by (Some k) h = refl

  found_back : (m : BTreeMap (String Global) Datum) → Holds nodes id (Table m) → (n : List ℕ) → IsSome (lookup (bytes_eq n) s.children) → IsSome (get_by_text m n)
  found_back m holds n some = part_there (get_by_text m n) (subst IsSome (sym (table_parts m holds n [])) (some_name n some))

  pub table_count : (m : BTreeMap (String Global) Datum) → AreDistinct s.children → IsOrdered string_cmp m → Holds nodes id (Table m) → length s.children ≡ btree_map_len m
  table_count m apart ordered holds = one_count s.children m apart ordered (found_too m holds) (found_back m holds)

  -- arrays
  pub array_bare : (v : Vec Datum Global) → Holds nodes id (Array v) → s.children ≡ []
  array_bare v holds = no_names (Array v) holds (λ n. array-name v n [])

  pub array_parts : (v : Vec Datum Global) → Holds nodes id (Array v) → (i : ℕ) (at : Address) → kind_in (slice_get v.items i) at ≡ below_in nodes (slice_get s.elements i) at
  array_parts v holds i at = sym (array-item v i at) ∙ holds (Index i ∷ at) ∙ index_is i at

  pub array_held : (v : Vec Datum Global) → s.kind ≡ an_array → s.children ≡ []
      → ((i : ℕ) (at : Address) → kind_in (slice_get v.items i) at ≡ below_in nodes (slice_get s.elements i) at) → Holds nodes id (Array v)
  array_held v kind bare parts [] = array-here v ∙ sym (kind_is an_array kind)
  array_held v kind bare parts (Index i ∷ at) = array-item v i at ∙ parts i at ∙ sym (index_is i at)
  array_held v kind bare parts (Name n ∷ at) = array-name v n at ∙ sym (name_is n at ∙ ap (λ es. below_in nodes (lookup (bytes_eq n) es) at) bare)

  -- another kind
  pub no_table : (d : Datum) → s.kind ≡ a_table → ((m : BTreeMap (String Global) Datum) → d ≡ Table m → ⊥) → Holds nodes id d → ⊥
  no_table d kind other holds = let it = table_from_kind d (holds [] ∙ kind_is a_table kind) in other it.0 it.1

  pub no_array : (d : Datum) → s.kind ≡ an_array → ((v : Vec Datum Global) → d ≡ Array v → ⊥) → Holds nodes id d → ⊥
  no_array d kind other holds = let it = array_from_kind d (holds [] ∙ kind_is an_array kind) in other it.0 it.1

  pub no_scalar : (d : Datum) (v : ScalarValue) → s.kind ≡ a_scalar v → ((t : Value) → d ≡ Scalar t → ⊥) → Holds nodes id d → ⊥
  no_scalar d v kind other holds = let it = scalar_from_kind d v (holds [] ∙ kind_is (a_scalar v) kind) in other it.0 it.1

-- a part that may not be there is what stands at the node, if there is one
abbrev pub IsHeldIn : List Spot → Option ℕ → Option Datum → Type 0
IsHeldIn nodes o part = (at : Address) → kind_in part at ≡ below_in nodes o at

-- each member is what stands at the node of its name
abbrev pub HeldEach : List Spot → ℕ → List Entry → Type 0
HeldEach nodes id = Each (λ n d. (k : ℕ) × (lookup (bytes_eq n) (slice_index_or nodes id nowhere).children ≡ Some k) × Holds nodes k d)

pub held_part : (nodes : List Spot) (o : Option ℕ) (part : Option Datum) (k : ℕ) (d : Datum) → o ≡ Some k → part ≡ Some d → Holds nodes k d ↔ IsHeldIn nodes o part
held_part nodes o part k d is there =
    let one : (at : Address) → kind_in part at ≡ kind_at d at = λ at. ap (λ (p : Option Datum). kind_in p at) there in
    let two : (at : Address) → below_in nodes o at ≡ below_node nodes k at = λ at. ap (λ (p : Option ℕ). below_in nodes p at) is in
    (λ holds at. one at ∙ holds at ∙ sym (two at), λ held at. sym (one at) ∙ held at ∙ two at)

held_nowhere : (nodes : List Spot) (o : Option ℕ) (part : Option Datum) → o ≡ None → part ≡ None → IsHeldIn nodes o part
held_nowhere nodes o part is none at = ap (λ (p : Option Datum). kind_in p at) none ∙ sym (ap (λ (p : Option ℕ). below_in nodes p at) is)

-- as many items as elements, each the one's
pub items_held : (nodes : List Spot) (elements : List ℕ) (ds : List Datum) (count : ℕ) → length elements ≡ length ds → length ds ≤ count
    → ((i : ℕ) → i < count → IsHeldIn nodes (slice_get elements i) (slice_get ds i)) → (i : ℕ) → IsHeldIn nodes (slice_get elements i) (slice_get ds i)
items_held nodes elements ds count long all each i = search (rules, held_nowhere, slice_get_past, cases_lt)

got : {X : Type 0} (xs : List X) (i : ℕ) → i < length xs → IsSome (slice_get xs i)
got [] i low = absurd (omega arith)
got (x ∷ xs) i low = ap is_some (slice_get-get_or (x ∷ xs) i x low)

got_within : {X : Type 0} (xs : List X) (i : ℕ) → IsSome (slice_get xs i) → i < length xs
got_within xs i some = search (rules, true≢false, slice_get_within)

pub no_longer : {X Y : Type 0} (xs : List X) (ys : List Y) → ((i : ℕ) → IsSome (slice_get ys i) → IsSome (slice_get xs i)) → length ys ≤ length xs
no_longer xs ys there = ⊎_elim
    (λ low. let h : length xs < length xs = got_within xs (length xs) (there (length xs) (got ys (length xs) low)) in absurd (omega arith))
    (λ le. le)
    (cases_lt (length xs) (length ys))

module _ (nodes : List Spot) (tree : IsTree nodes) (id : ℕ) (low : id < length nodes) where
  abbrev node : Spot
  node = slice_index_or nodes id nowhere

  in_some : (o : Option ℕ) → IsSome (below_in nodes o []) → IsSome o
  in_some o h = search rules

  pub array_count : (v : Vec Datum Global) → Holds nodes id (Array v) → length (slice_index_or nodes id nowhere).elements ≡ length v.items
  array_count v holds = search (rules, array_parts, no_longer, in_some, kind_there, part_there, there_index)

  pub members_held : (m : BTreeMap (String Global) Datum) → AreDistinct (slice_index_or nodes id nowhere).children → IsOrdered string_cmp m
      → length (slice_index_or nodes id nowhere).children ≡ btree_map_len m → (slice_index_or nodes id nowhere).kind ≡ a_table → (slice_index_or nodes id nowhere).elements ≡ []
      → HeldEach nodes id m.entries → Holds nodes id (Table m)
  members_held m apart ordered count kind bare each =
      table_held nodes tree id low (slice_index_or nodes id nowhere) refl m kind bare (λ n. by n (get_by_text m n) refl)
    where
      children : List (List ℕ × ℕ)
      children = (slice_index_or nodes id nowhere).children

      one : (n : List ℕ) (d : Datum) → get_by_text m n ≡ Some d → (k : ℕ) × (lookup (bytes_eq n) children ≡ Some k) × Holds nodes k d
      one n d there = each_found (λ n d. (k : ℕ) × (lookup (bytes_eq n) children ≡ Some k) × Holds nodes k d) m.entries each n d there

      found : (n : List ℕ) → IsSome (get_by_text m n) → IsSome (lookup (bytes_eq n) children)
      found n some = from n (get_by_text m n) refl some
        where
          from : (n : List ℕ) (o : Option Datum) → get_by_text m n ≡ o → IsSome o → IsSome (lookup (bytes_eq n) children)
          from n None is h = absurd (true≢false (sym h))
          from n (Some d) is h = ap is_some (one n d is).1

      by : (n : List ℕ) (o : Option Datum) → get_by_text m n ≡ o → IsHeldIn nodes (lookup (bytes_eq n) children) (get_by_text m n)
      by n None is = held_nowhere nodes (lookup (bytes_eq n) children) (get_by_text m n) (none_left children m apart ordered found count n is) is
      by n (Some d) is = let it = one n d is in (held_part nodes (lookup (bytes_eq n) children) (get_by_text m n) it.0 d it.1 is).0 it.2

pub no_length : {X : Type 0} (xs : List X) → length xs ≡ 0 → xs ≡ []
no_length xs is = grind (arith, common_steps)

pub none_counted : (es : List ℕ) → (length es == 0) ≡ true → length es ≡ 0
none_counted es is = eqb-true (length es) 0 is

pub not_there : (o : Option ℕ) → ((k : ℕ) → o ≡ Some k → ⊥) → IsSome o → ⊥
not_there o none some = search rules

-- what the code answers of a scalar
pub scalar_told : {E : Type 0} (nodes : List Spot) (id : ℕ) (r : Result Bool E) (v : ScalarValue) (t : Value) → IfOk r (λ b. IsTrue b ↔ (v ≡ scalar_value t)) → (v ≡ scalar_value t) ↔ Holds nodes id (Scalar t)
    → IfOk r (λ b. IsTrue b ↔ Holds nodes id (Scalar t))
scalar_told nodes id r v t told is = search rules
