-- Whether the same stands in two trees of names, level by level; at names by their counts.
use Rattle.toml_names.proofs.Common.{◌≡◌, ◌↔◌, ℕ, ◌+◌, ◌<◌, ◌≤◌, Bool, true, false, IsTrue, IfOk, Result, Ok, Err, List, [], ◌∷◌, length, take, Option, Some, None, IsSome, is_some, refl, sym, ap, subst, ◌∙◌, ⊎_elim, true≢false, arith, rules, cases_lt, none-some, same_Some, slice_get_past, slice_get-get_or, take_more, get_or, get_or_from_slice_get, bytes_eq-Decides, lookup, keys_of, list_any, nat_list_eq_equiv, slice_get, slice_index_or, bytes_eq, EachIs, Name, Index, Address, below_node, below_in, AreDistinct, IsTree, Spot, nowhere}
use Rattle.toml_names.specs.tree.SameBelow.{SameBelow, SameIn, SameNames, SameElements, child_of, element_of}
use Rattle.toml_names.proofs.Each.{each_append}
use Rattle.toml_names.proofs.lemmas.tree.Held.{fresh_by, children_distinct, length-keys, no_longer, here, at_name, at_index, there_name, there_index}
use Rattle.std.proofs.lemmas.Map.Keys.{IsDistinct-cons}
use Rattle.std.proofs.lemmas.Map.Made.{is_some-lookup}
use Rattle.std.proofs.lemmas.Map.Steps.{length-le_from_keys}

abbrev pub Pairs : Type 0
Pairs = List (List ℕ × ℕ)

-- a name of the one node leads to the same as at the other
abbrev pub IsAlike : List Spot → List Spot → ℕ → List ℕ × ℕ → Type 0
IsAlike nodes others k e = SameIn nodes (Some e.1) others (child_of others k e.0)

-- ---- what holds of each name

pub pairs_found : (P : List ℕ × ℕ → Type 0) (es : Pairs) → EachIs P es → (n : List ℕ) (v : ℕ) → lookup (bytes_eq n) es ≡ Some v → P (n, v)
pairs_found P [] each n v is = absurd (none-some v is)
pairs_found P (e ∷ es) each n v is = search (rules, same_Some, bytes_eq-Decides, pairs_found P es each.1 n v)

pub pairs_more : (P : List ℕ × ℕ → Type 0) (es : Pairs) (i : ℕ) (e : List ℕ × ℕ) → i < length es → Some e ≡ slice_get es i → EachIs P (take i es) → P e → EachIs P (take (i + 1) es)
pairs_more P es i e low is each one =
    subst (EachIs P) (sym (take_more es i e low))
    (each_append P (take i es) (get_or es i e ∷ []) each (subst P (sym (get_or_from_slice_get es i e e (sym is))) one, tt))

-- ---- as many names

module _ (xs ys : Pairs) (apart : AreDistinct xs) (there : (n : List ℕ) → IsSome (lookup (bytes_eq n) xs) → IsSome (lookup (bytes_eq n) ys)) where
  pub no_more : length xs ≤ length ys
  no_more =
      let less : length (keys_of xs) ≤ length ys =
      length-le_from_keys nat_list_eq_equiv (keys_of xs) ys (children_distinct xs apart) (λ q h. there q (is_some-lookup (bytes_eq q) xs ∙ h)) in
      omega (arith, less, length-keys xs)

  -- no name is left where there are no more
  pub none_more : length ys ≤ length xs → (n : List ℕ) → lookup (bytes_eq n) xs ≡ None → lookup (bytes_eq n) ys ≡ None
  none_more count n none = by (lookup (bytes_eq n) ys) refl
    where
      found : (q : List ℕ) (b : Bool) → bytes_eq q n ≡ b → IsSome (lookup (bytes_eq n) ys) → list_any (bytes_eq q) (n ∷ keys_of xs) ≡ true → IsSome (lookup (bytes_eq q) ys)
      found q true same some h = subst (λ k. IsSome (lookup (bytes_eq k) ys)) (sym ((bytes_eq-Decides q n).0 same)) some
      found q false other some h =
          there q (is_some-lookup (bytes_eq q) xs ∙ (let e : list_any (bytes_eq q) (n ∷ keys_of xs) ≡ list_any (bytes_eq q) (keys_of xs) = rw other refl in sym e ∙ h))

      by : (o : Option ℕ) → lookup (bytes_eq n) ys ≡ o → lookup (bytes_eq n) ys ≡ None
      by None is = is
      by (Some k) is =
          let all : length (n ∷ keys_of xs) ≤ length ys =
          length-le_from_keys nat_list_eq_equiv (n ∷ keys_of xs) ys
          (IsDistinct-cons bytes_eq n (keys_of xs) (fresh_by n xs none) (children_distinct xs apart))
          (λ q h. found q (bytes_eq q n) refl (ap is_some is) h) in
          absurd (omega (arith, all, count, length-keys xs))

-- ---- level by level

-- nodes that are not there are the same
pub same_none : (nodes others : List Spot) (o p : Option ℕ) → o ≡ None → p ≡ None → SameIn nodes o others p
same_none nodes others o p is to at = ap (λ (q : Option ℕ). below_in nodes q at) is ∙ sym (ap (λ (q : Option ℕ). below_in others q at) to)

pub same_some : (nodes others : List Spot) (o p : Option ℕ) (k l : ℕ) → o ≡ Some k → p ≡ Some l → SameBelow nodes k others l ↔ SameIn nodes o others p
same_some nodes others o p k l is to =
    let one : (at : Address) → below_in nodes o at ≡ below_node nodes k at = λ at. ap (λ (q : Option ℕ). below_in nodes q at) is in
    let two : (at : Address) → below_in others p at ≡ below_node others l at = λ at. ap (λ (q : Option ℕ). below_in others q at) to in
    (λ same at. one at ∙ same at ∙ sym (two at), λ same at. sym (one at) ∙ same at ∙ two at)

pub some_in : (nodes : List Spot) (o : Option ℕ) → IsSome (below_in nodes o []) → IsSome o
some_in nodes o h = search rules

module _ (nodes : List Spot) (tree : IsTree nodes) (id : ℕ) (low : id < length nodes) (others : List Spot) (other_tree : IsTree others) (k : ℕ) (other_low : k < length others) where
  pub same_kind : SameBelow nodes id others k → (slice_index_or nodes id nowhere).kind ≡ (slice_index_or others k nowhere).kind
  same_kind same = same_Some _ _ (sym (here nodes tree id low) ∙ same [] ∙ here others other_tree k other_low)

  pub same_names : SameBelow nodes id others k → SameNames nodes id others k
  same_names same n at = sym (at_name nodes tree id low n at) ∙ same (Name n ∷ at) ∙ at_name others other_tree k other_low n at

  pub same_elements : SameBelow nodes id others k → SameElements nodes id others k
  same_elements same i at = sym (at_index nodes tree id low i at) ∙ same (Index i ∷ at) ∙ at_index others other_tree k other_low i at

  pub same_below : (slice_index_or nodes id nowhere).kind ≡ (slice_index_or others k nowhere).kind → SameNames nodes id others k → SameElements nodes id others k → SameBelow nodes id others k
  same_below kind names elements [] = here nodes tree id low ∙ ap Some kind ∙ sym (here others other_tree k other_low)
  same_below kind names elements (Name n ∷ at) = at_name nodes tree id low n at ∙ names n at ∙ sym (at_name others other_tree k other_low n at)
  same_below kind names elements (Index i ∷ at) = at_index nodes tree id low i at ∙ elements i at ∙ sym (at_index others other_tree k other_low i at)

  -- names: those of the one are those of the other
  name_there : SameNames nodes id others k → (n : List ℕ) → IsSome (child_of nodes id n) → IsSome (child_of others k n)
  name_there same n some = some_in others (child_of others k n) (subst IsSome (same n []) (there_name nodes tree id low n some))

  name_back : SameNames nodes id others k → (n : List ℕ) → IsSome (child_of others k n) → IsSome (child_of nodes id n)
  name_back same n some = some_in nodes (child_of nodes id n) (subst IsSome (sym (same n [])) (there_name others other_tree k other_low n some))

  pub same_count : AreDistinct (slice_index_or nodes id nowhere).children → AreDistinct (slice_index_or others k nowhere).children → SameNames nodes id others k
      → length (slice_index_or nodes id nowhere).children ≡ length (slice_index_or others k nowhere).children
  same_count apart other_apart same =
      let less = no_more (slice_index_or nodes id nowhere).children (slice_index_or others k nowhere).children apart (name_there same) in
      let more = no_more (slice_index_or others k nowhere).children (slice_index_or nodes id nowhere).children other_apart (name_back same) in
      omega (arith, less, more)

  -- elements
  element_there : SameElements nodes id others k → (i : ℕ) → IsSome (element_of nodes id i) → IsSome (element_of others k i)
  element_there same i some = some_in others (element_of others k i) (subst IsSome (same i []) (there_index nodes tree id low i some))

  element_back : SameElements nodes id others k → (i : ℕ) → IsSome (element_of others k i) → IsSome (element_of nodes id i)
  element_back same i some = some_in nodes (element_of nodes id i) (subst IsSome (sym (same i [])) (there_index others other_tree k other_low i some))

  pub same_length : SameElements nodes id others k → length (slice_index_or nodes id nowhere).elements ≡ length (slice_index_or others k nowhere).elements
  same_length same =
      let less = no_longer (slice_index_or others k nowhere).elements (slice_index_or nodes id nowhere).elements (element_there same) in
      let more = no_longer (slice_index_or nodes id nowhere).elements (slice_index_or others k nowhere).elements (element_back same) in
      omega (arith, less, more)

  -- all names of the one, and as many
  pub names_alike : AreDistinct (slice_index_or nodes id nowhere).children → length (slice_index_or nodes id nowhere).children ≡ length (slice_index_or others k nowhere).children
      → EachIs (IsAlike nodes others k) (slice_index_or nodes id nowhere).children → SameNames nodes id others k
  names_alike apart count each = λ n. by n (child_of nodes id n) refl
    where
      there : (n : List ℕ) → IsSome (child_of nodes id n) → IsSome (child_of others k n)
      there n some = from (child_of nodes id n) refl some
        where
          from : (o : Option ℕ) → child_of nodes id n ≡ o → IsSome o → IsSome (child_of others k n)
          from None is h = absurd (true≢false (sym h))
          from (Some v) is h = some_in others (child_of others k n) (subst IsSome (pairs_found (IsAlike nodes others k) _ each n v is []) (subst (λ o. IsSome (below_in nodes o [])) is (there_name nodes tree id low n (ap is_some is))))

      by : (n : List ℕ) (o : Option ℕ) → child_of nodes id n ≡ o → SameIn nodes (child_of nodes id n) others (child_of others k n)
      by n None is at = same_none nodes others _ _ is (none_more (slice_index_or nodes id nowhere).children (slice_index_or others k nowhere).children apart there (omega (arith, count)) n is) at
      by n (Some v) is at = ap (λ (q : Option ℕ). below_in nodes q at) is ∙ pairs_found (IsAlike nodes others k) _ each n v is at

-- no name and no name
pub no_names : (nodes : List Spot) (id : ℕ) (others : List Spot) (k : ℕ) → (slice_index_or nodes id nowhere).children ≡ [] → (slice_index_or others k nowhere).children ≡ [] → SameNames nodes id others k
no_names nodes id others k none other_none n = same_none nodes others _ _ (ap (lookup (bytes_eq n)) none) (ap (lookup (bytes_eq n)) other_none)

-- elements so far, and all
pub elements_alike : (nodes others : List Spot) (xs ys : List ℕ) (count : ℕ) → length xs ≡ length ys → length xs ≤ count
    → ((i : ℕ) → i < count → SameIn nodes (slice_get xs i) others (slice_get ys i)) → (i : ℕ) → SameIn nodes (slice_get xs i) others (slice_get ys i)
elements_alike nodes others xs ys count long all each i = ⊎_elim (λ low. each i low) (λ past. same_none nodes others _ _ (slice_get_past xs i (omega (arith, past, all))) (slice_get_past ys i (omega (arith, past, all, long)))) (cases_lt i count)

pub elements_more : (nodes others : List Spot) (xs ys : List ℕ) (count : ℕ) → ((i : ℕ) → i < count → SameIn nodes (slice_get xs i) others (slice_get ys i)) → SameIn nodes (slice_get xs count) others (slice_get ys count)
    → (i : ℕ) → i < count + 1 → SameIn nodes (slice_get xs i) others (slice_get ys i)
elements_more nodes others xs ys count all one i low =
    ⊎_elim (λ lower. all i lower) (λ past. let same : count ≡ i = omega (arith, past, low) in subst (λ j. SameIn nodes (slice_get xs j) others (slice_get ys j)) same one) (cases_lt i count)

-- a node is not the same as none
pub same_nowhere : (nodes : List Spot) → IsTree nodes → (id : ℕ) → id < length nodes → (others : List Spot) (p : Option ℕ) → p ≡ None → SameIn nodes (Some id) others p → ⊥
same_nowhere nodes tree id low others p is same = none-some _ (sym (ap (λ (q : Option ℕ). below_in others q []) is) ∙ sym (same []) ∙ here nodes tree id low)

-- what the code answers
pub told_too : {E A B : Type 0} (r : Result Bool E) → IfOk r (λ b. IsTrue b ↔ A) → A ↔ B → IfOk r (λ b. IsTrue b ↔ B)
told_too (Ok b) told is = (λ h. is.0 (told.0 h), λ b. told.1 (is.1 b))
told_too (Err e) told is = told

-- the node of a name
pub child_read : (nodes : List Spot) (id : ℕ) (s : Spot) (n : List ℕ) (to : Option ℕ) → s ≡ slice_index_or nodes id nowhere → to ≡ lookup (bytes_eq n) s.children → child_of nodes id n ≡ to
child_read nodes id s n to is found = ap (λ (t : Spot). lookup (bytes_eq n) t.children) (sym is) ∙ sym found

-- the node of an element
pub element_read : (nodes : List Spot) (id : ℕ) (s : Spot) (elements : List ℕ) (i : ℕ) → s ≡ slice_index_or nodes id nowhere → elements ≡ s.elements → i < length elements → element_of nodes id i ≡ Some (get_or elements i 0)
element_read nodes id s elements i is are low = ap (λ (t : Spot). slice_get t.elements i) (sym is) ∙ ap (λ l. slice_get l i) (sym are) ∙ slice_get-get_or elements i 0 low
