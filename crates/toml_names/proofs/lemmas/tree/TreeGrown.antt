-- One more node keeps the tree, and so does a node that is named once more: the addresses stay nested, and each node hangs where it did.
use Rattle.toml_names.proofs.Common.{common_steps, ◌≡◌, ℕ, ◌+◌, ◌<◌, List, [], ◌∷◌, ◌++◌, length, Some, None, sym, ap, ◌∙◌, arith, slice_get, slice_set, slice_index_or, ◌⊎◌, inl, inr, rules, get_or_append_left, get_or_at, get_or-set_same, get_or-set_other, length-set, length_push, same_Some, lookup, bytes_eq, Step, Name, Index, Role, Bare, Address, child, Kind, IsTree, KeepsAddresses, Spot, addresses, address_at, place_of, leaf, linked, grown, cond, refl, length-append, same_from_push, AreNested, ◌≤◌, Option, cases_lt, false_from_ne_true, slice_get-get_or, slice_get_past, element, KeepsElements, marked, noted}
use Rattle.toml_names.proofs.lemmas.tree.NodeAddresses.{addresses-push, addresses-set, length-addresses}
use Rattle.toml_names.proofs.lemmas.tree.NodePlaces.{is_step, place_of-push, none_is_some, same_address-apart, same_address-here}

-- the node at a place has the address, and what leads from it leads right among all addresses
pub record Hangs (all : List Address) (place : ℕ) (at : Address) (spot : Spot) : Type 0 where
  pub names : (n : List ℕ) → lookup (bytes_eq n) spot.children ≡ place_of (child at n) all
  pub indices : (i : ℕ) → slice_get spot.elements i ≡ place_of (element at i) all
  pub rising : (p : ℕ) (s : Step) → spot.under ≡ Some (p, s) → p < place
  pub deep : spot.depth ≡ length at
  pub mentioned : (p : ℕ) (n : List ℕ) → spot.under ≡ Some (p, Name n) → spot.role ≡ Bare → ⊥

abbrev or_else : Option ℕ → Option ℕ → Option ℕ
or_else None q = q
or_else (Some i) q = Some i

-- where a name leads, with one more pair
lookup-push : (n m : List ℕ) (id : ℕ) (es : List (List ℕ × ℕ)) → lookup (bytes_eq n) (es ++ (m, id) ∷ []) ≡ or_else (lookup (bytes_eq n) es) (cond (bytes_eq n m) (Some id) None)
lookup-push n m id [] = refl
lookup-push n m id (e ∷ es) = search (rules, lookup-push n m id es)

slice_get-new : (xs : List ℕ) (x i : ℕ) → i ≡ length xs → slice_get (xs ++ x ∷ []) i ≡ Some x
slice_get-new xs x i e = slice_get-get_or (xs ++ x ∷ []) i x (omega (arith, length_push xs x)) ∙ ap Some (get_or_at xs x [] x i (sym e))

slice_get-old : (xs : List ℕ) (x i : ℕ) → (i ≡ length xs → ⊥) → slice_get (xs ++ x ∷ []) i ≡ slice_get xs i
slice_get-old xs x i apart = by (cases_lt i (length xs))
  where
    by : (i < length xs) ⊎ (length xs ≤ i) → slice_get (xs ++ x ∷ []) i ≡ slice_get xs i
    by (inl low) =
        slice_get-get_or (xs ++ x ∷ []) i x (omega (arith, length_push xs x))
        ∙ ap Some (get_or_append_left xs (x ∷ []) x i low) ∙ sym (slice_get-get_or xs i x low)
    by (inr high) = slice_get_past (xs ++ x ∷ []) i (omega (arith, length_push xs x)) ∙ sym (slice_get_past xs i high)

module _ (parent : Spot) (s : Step) (id : ℕ) where
  pub name-new : (n : List ℕ) → s ≡ Name n → lookup (bytes_eq n) parent.children ≡ None → lookup (bytes_eq n) (linked parent s id).children ≡ Some id
  name-new n is none = search (rules, lookup-push)

  pub name-old : (n : List ℕ) → (s ≡ Name n → ⊥) → lookup (bytes_eq n) (linked parent s id).children ≡ lookup (bytes_eq n) parent.children
  name-old n apart = search (rules, lookup-push, false_from_ne_true)

  pub index-new : (i : ℕ) → s ≡ Index i → i ≡ length parent.elements → slice_get (linked parent s id).elements i ≡ Some id
  index-new i is next = rw is (slice_get-new parent.elements id i next)

  pub linked-under : (linked parent s id).under ≡ parent.under
  linked-under = search rules

  pub linked-role : (linked parent s id).role ≡ parent.role
  linked-role = search rules

-- an address is not below itself
pub not_below : (at : Address) (s : Step) → at ++ s ∷ [] ≡ at → ⊥
not_below at s e = let long : length (at ++ s ∷ []) ≡ length at = ap length e in omega (arith, length-append at (s ∷ []))

module _ (ats : List Address) (nested : AreNested ats) (a : Address) (s : Step) (p : ℕ) (there : place_of a ats ≡ Some p) (fresh : place_of (a ++ s ∷ []) ats ≡ None) where
  abbrev b : Address
  b = a ++ s ∷ []

  pub place-new : (at : Address) → b ≡ at → place_of at (ats ++ b ∷ []) ≡ Some (length ats)
  place-new at e = place_of-push ats b at fresh ∙ ap (λ t. cond t (Some (length ats)) (place_of at ats)) (same_address-here b at e)

  pub place-old : (at : Address) → (b ≡ at → ⊥) → place_of at (ats ++ b ∷ []) ≡ place_of at ats
  place-old at apart = place_of-push ats b at fresh ∙ ap (λ t. cond t (Some (length ats)) (place_of at ats)) (same_address-apart b at apart)

  -- nothing stands below the new address
  pub place-below : (t : Step) → place_of (b ++ t ∷ []) (ats ++ b ∷ []) ≡ None
  place-below t = place-old (b ++ t ∷ []) (λ e. not_below b t (sym e)) ∙ nested.above b t fresh

  -- what stands below another address than the one above the new address
  pub place-elsewhere : (c : Address) (t : Step) → (a ≡ c → ⊥) → place_of (c ++ t ∷ []) (ats ++ b ∷ []) ≡ place_of (c ++ t ∷ []) ats
  place-elsewhere c t apart = place-old (c ++ t ∷ []) (λ e. apart (same_from_push a c s t e).0)

  -- what stands beside the new address
  pub place-beside : (t : Step) → (s ≡ t → ⊥) → place_of (a ++ t ∷ []) (ats ++ b ∷ []) ≡ place_of (a ++ t ∷ []) ats
  place-beside t apart = place-old (a ++ t ∷ []) (λ e. apart (same_from_push a a s t e).1)

  -- another place than that of the one above is another address's
  pub apart_from_place : (k : ℕ) (c : Address) → place_of c ats ≡ Some k → (k ≡ p → ⊥) → a ≡ c → ⊥
  apart_from_place k c at apart e = apart (let h : Some k ≡ Some p = sym at ∙ ap (λ t. place_of t ats) (sym e) ∙ there in cc)

  own_more : (k : ℕ) (d : Address) → k < length (ats ++ b ∷ []) → place_of (slice_index_or (ats ++ b ∷ []) k d) (ats ++ b ∷ []) ≡ Some k
  own_more k d high = search (rules, length_push, get_or_append_left, place-old, none_is_some, get_or_at, place-new)

  above_more : (at : Address) (t : Step) → place_of at (ats ++ b ∷ []) ≡ None → place_of (at ++ t ∷ []) (ats ++ b ∷ []) ≡ None
  above_more at t none = search (rules, none_is_some, place-new, place-old, place-elsewhere)

  pub AreNested-push : AreNested (ats ++ b ∷ [])
  AreNested-push = record { own = own_more; above = above_more }

-- the node's address stands at its place
pub own_place : (nodes : List Spot) → IsTree nodes → (k : ℕ) → k < length nodes → place_of (address_at nodes k) (addresses nodes) ≡ Some k
own_place nodes tree k low = tree.nested.own k [] (let long = length-addresses nodes in omega arith)

module _ (nodes : List Spot) (p : ℕ) (d : Spot) (s : Step) (r : Role) (kind : Kind) (line : ℕ) (low : p < length nodes) where
  abbrev parent : Spot
  parent = slice_index_or nodes p d

  abbrev after : List Spot
  after = grown nodes p parent s r kind line

  abbrev above : Spot
  above = linked parent s (length nodes)

  abbrev last : Spot
  last = leaf (Some (p, s)) (parent.depth + 1) r kind line

  -- the new address comes last
  pub addresses-grown : addresses after ≡ addresses nodes ++ (address_at nodes p ++ s ∷ []) ∷ []
  addresses-grown = search (rules, addresses-push, addresses-set, linked-under)

  pub length-grown : length after ≡ length nodes + 1
  length-grown = length_push (slice_set nodes p above) last ∙ ap (λ n. n + 1) (length-set nodes p above)

  pub address-old : (k : ℕ) → k < length nodes → address_at after k ≡ address_at nodes k
  address-old k within = search (rules, addresses-grown, get_or_append_left, length-addresses)

  pub address-new : (k : ℕ) → k ≡ length nodes → address_at after k ≡ address_at nodes p ++ s ∷ []
  address-new k is = search (rules, addresses-grown, get_or_at, length-addresses)

  pub KeepsAddresses-grown : KeepsAddresses nodes after
  KeepsAddresses-grown = record { longer = let long = length-grown in omega arith; same = address-old }

  -- the new node, the node above it, and each other
  pub node-last : (k : ℕ) (e : Spot) → k ≡ length nodes → slice_index_or after k e ≡ last
  node-last k e is = get_or_at (slice_set nodes p above) last [] e k (length-set nodes p above ∙ sym is)

  node-before : (k : ℕ) (e : Spot) → k < length nodes → slice_index_or after k e ≡ slice_index_or (slice_set nodes p above) k e
  node-before k e within = get_or_append_left (slice_set nodes p above) (last ∷ []) e k (rw length-set within)

  pub node-above : (k : ℕ) (e : Spot) → k ≡ p → slice_index_or after k e ≡ above
  node-above k e is = rw is (node-before p e low ∙ get_or-set_same nodes p above e low)

  pub node-other : (k : ℕ) (e : Spot) → k < length nodes → (k ≡ p → ⊥) → slice_index_or after k e ≡ slice_index_or nodes k e
  node-other k e within apart = node-before k e within ∙ get_or-set_other nodes p k above e apart

  pub node-parts : (k : ℕ) → k < length after → (k ≡ length nodes) ⊎ ((k ≡ p) ⊎ ((k < length nodes) × (k ≡ p → ⊥)))
  node-parts k high = grind (arith, common_steps)

  module _ (tree : IsTree nodes) (fresh : place_of (address_at nodes p ++ s ∷ []) (addresses nodes) ≡ None)
      (next : (i : ℕ) → s ≡ Index i → i ≡ length (slice_index_or nodes p d).elements) (mention : (n : List ℕ) → s ≡ Name n → r ≡ Bare → ⊥) where
    abbrev all : List Address
    all = addresses nodes ++ (address_at nodes p ++ s ∷ []) ∷ []

    there : place_of (address_at nodes p) (addresses nodes) ≡ Some p
    there = own_place nodes tree p low

    from_above : (t : Step) → (s ≡ t → ⊥) → place_of (address_at nodes p ++ t ∷ []) all ≡ place_of (address_at nodes p ++ t ∷ []) (addresses nodes)
    from_above = place-beside (addresses nodes) tree.nested (address_at nodes p) s p there fresh

    to_new : (t : Step) → s ≡ t → place_of (address_at nodes p ++ t ∷ []) all ≡ Some (length nodes)
    to_new t is = search (rules, place-new, there, length-addresses)

    elsewhere : (k : ℕ) (t : Step) → k < length nodes → (k ≡ p → ⊥) → place_of (address_at nodes k ++ t ∷ []) all ≡ place_of (address_at nodes k ++ t ∷ []) (addresses nodes)
    elsewhere k t within apart = search (rules, place-elsewhere, there, apart_from_place, own_place)

    name_leads : (n : List ℕ) → lookup (bytes_eq n) above.children ≡ place_of (child (address_at nodes p) n) all
    name_leads n = by (is_step s (Name n))
      where
        by : (s ≡ Name n) ⊎ (s ≡ Name n → ⊥) → lookup (bytes_eq n) above.children ≡ place_of (child (address_at nodes p) n) all
        by (inl is) =
            let none : lookup (bytes_eq n) parent.children ≡ None = tree.names p d n low ∙ ap (λ t. place_of (address_at nodes p ++ t ∷ []) (addresses nodes)) (sym is) ∙ fresh in
            name-new parent s (length nodes) n is none ∙ sym (to_new (Name n) is)
        by (inr apart) = name-old parent s (length nodes) n apart ∙ tree.names p d n low ∙ sym (from_above (Name n) apart)

    hangs_above : Hangs all p (address_at nodes p) above
    hangs_above = search (rules, name_leads, is_step, index-new, to_new, slice_get-old, from_above, linked-under, linked-role)

    hangs_other : (k : ℕ) (e : Spot) → k < length nodes → (k ≡ p → ⊥) → Hangs all k (address_at nodes k) (slice_index_or nodes k e)
    hangs_other k e within apart = search (rules, elsewhere)

    root_after : (e : Spot) → (slice_index_or after 0 e).under ≡ None
    root_after e = grind (arith, common_steps)

    pub IsTree-grown : IsTree after
    IsTree-grown = search (rules, addresses-grown, AreNested-push, there, length-grown, root_after, node-parts, address-new, node-last, place-below, same_Some, length_push, node-above, address-old, hangs_above, node-other, hangs_other)

module _ (nodes : List Spot) (k : ℕ) (d : Spot) (r : Role) (line : ℕ) (low : k < length nodes) where
  abbrev here : Spot
  here = slice_index_or nodes k d

  abbrev once_more : List Spot
  once_more = noted nodes k here r line

  pub addresses-noted : addresses once_more ≡ addresses nodes
  addresses-noted = addresses-set nodes k d (marked here r line) refl low

  pub length-noted : length once_more ≡ length nodes
  length-noted = length-set nodes k (marked here r line)

  pub address-noted : (j : ℕ) → address_at once_more j ≡ address_at nodes j
  address-noted j = ap (λ l. slice_index_or l j []) addresses-noted

  pub KeepsAddresses-noted : KeepsAddresses nodes once_more
  KeepsAddresses-noted = record { longer = let long = length-noted in omega arith; same = λ j within. address-noted j }

  pub node-noted : (e : Spot) → slice_index_or once_more k e ≡ marked here r line
  node-noted e = get_or-set_same nodes k (marked here r line) e low

  pub node-beside : (j : ℕ) (e : Spot) → (j ≡ k → ⊥) → slice_index_or once_more j e ≡ slice_index_or nodes j e
  node-beside j e apart = get_or-set_other nodes k j (marked here r line) e apart

  pub KeepsElements-noted : KeepsElements nodes once_more
  KeepsElements-noted = grind (arith, common_steps)

  module _ (tree : IsTree nodes) where
    root_again : (e : Spot) → (slice_index_or once_more 0 e).under ≡ None
    root_again e = search rules

    pub IsTree-noted : IsTree once_more
    IsTree-noted = search (rules, addresses-noted, length-noted, root_again, address-noted)
