-- Whether a set of addresses hides nothing of what stands in a tree of names, level by level.
use Rattle.toml_names.proofs.Common.{◌≡◌, ◌↔◌, ℕ, ◌+◌, ◌<◌, ◌≤◌, true, false, List, [], ◌∷◌, length, Option, Some, None, refl, sym, ap, subst, ⊎_elim, ◌∙◌, true≢false, none-some, arith, cases_lt, bytes_eq, lookup, slice_get, slice_get_past, slice_index_or, EachIs, Step, Name, Index, Address, below_node, below_in, IsTree, Spot, nowhere}
use Rattle.toml_names.specs.declared.model.address_set.AddressSet.{AddressSet}
use Rattle.toml_names.specs.model.AddressSets.{below, hides, is_whole}
use Rattle.toml_names.specs.tree.SameBelow.{child_of, element_of}
use Rattle.toml_names.specs.tree.Shown.{AreElementsShown, AreNamesShown, IsShown, IsShownIn}
use Rattle.toml_names.proofs.lemmas.tree.Alike.{Pairs, pairs_found}
use Rattle.toml_names.proofs.lemmas.tree.Held.{here, at_name, at_index, there_name, there_index, in_none, first_name, first_element}
use Rattle.toml_names.proofs.lemmas.tree.NearData.{none_hidden, hidden_below}

-- a node that is not there
pub none_shown : (nodes : List Spot) (o : Option ℕ) → o ≡ None → (at : Address) → below_in nodes o at ≡ None
none_shown nodes o is at = ap (λ (p : Option ℕ). below_in nodes p at) is

module _ (nodes : List Spot) (tree : IsTree nodes) (id : ℕ) (low : id < length nodes) (set : AddressSet) where
  pub whole_shown : is_whole set ≡ true → IsShown nodes id set
  whole_shown whole at hidden = absurd (true≢false (sym hidden ∙ none_hidden set whole at))

  pub names_of_shown : is_whole set ≡ false → IsShown nodes id set → AreNamesShown nodes id set
  names_of_shown part shown n at hidden = sym (at_name nodes tree id low n at) ∙ shown (Name n ∷ at) (hidden_below set part (Name n) at ∙ hidden)

  pub elements_of_shown : is_whole set ≡ false → IsShown nodes id set → (from : ℕ) → AreElementsShown nodes id from set
  elements_of_shown part shown from i past at hidden = sym (at_index nodes tree id low i at) ∙ shown (Index i ∷ at) (hidden_below set part (Index i) at ∙ hidden)

  pub shown_by_parts : is_whole set ≡ false → AreNamesShown nodes id set → AreElementsShown nodes id 0 set → IsShown nodes id set
  shown_by_parts part names elements [] hidden = absurd (true≢false (sym hidden))
  shown_by_parts part names elements (Name n ∷ at) hidden = at_name nodes tree id low n at ∙ names n at (sym (hidden_below set part (Name n) at) ∙ hidden)
  shown_by_parts part names elements (Index i ∷ at) hidden = at_index nodes tree id low i at ∙ elements i (omega arith) at (sym (hidden_below set part (Index i) at) ∙ hidden)

module _ (nodes : List Spot) (tree : IsTree nodes) (id : ℕ) (low : id < length nodes) where
  -- a name that the set lacks
  pub hidden_name : (n : List ℕ) (o : Option AddressSet) → o ≡ None → IsShownIn nodes (Some id) (Name n) o → ⊥
  hidden_name n o none shown = none-some _ (sym (shown [] (ap (λ p. hides p (Name n) []) none)) ∙ here nodes tree id low)

  -- below a node without names and elements stands nothing
  pub nothing_below : (slice_index_or nodes id nowhere).children ≡ [] → (slice_index_or nodes id nowhere).elements ≡ [] → (s : Step) (at : Address) → below_node nodes id (s ∷ at) ≡ None
  nothing_below names elements (Name n) at = at_name nodes tree id low n at ∙ none_shown nodes (child_of nodes id n) (ap (lookup (bytes_eq n)) names) at
  nothing_below names elements (Index i) at = at_index nodes tree id low i at ∙ none_shown nodes (element_of nodes id i) (ap (λ es. slice_get es i) elements) at

  pub bare_below : ((s : Step) → below_node nodes id (s ∷ []) ≡ None) → ((slice_index_or nodes id nowhere).children ≡ []) × ((slice_index_or nodes id nowhere).elements ≡ [])
  bare_below nothing = (
    first_name _ (λ n. in_none nodes (child_of nodes id n) (sym (at_name nodes tree id low n []) ∙ nothing (Name n)) (there_name nodes tree id low n)),
    first_element _ (λ i. in_none nodes (element_of nodes id i) (sym (at_index nodes tree id low i []) ∙ nothing (Index i)) (there_index nodes tree id low i)),
  )

  -- an element that the set lacks
  pub leaf_shown : (i : ℕ) (o : Option AddressSet) → o ≡ None → (((slice_index_or nodes id nowhere).children ≡ []) × ((slice_index_or nodes id nowhere).elements ≡ [])) ↔ IsShownIn nodes (Some id) (Index i) o
  leaf_shown i o none = subst (λ p. (((slice_index_or nodes id nowhere).children ≡ []) × ((slice_index_or nodes id nowhere).elements ≡ [])) ↔ IsShownIn nodes (Some id) (Index i) p) (sym none)
      (λ bare. shown bare, λ shown. bare_below (λ s. shown (s ∷ []) refl))
    where
      shown : ((slice_index_or nodes id nowhere).children ≡ []) × ((slice_index_or nodes id nowhere).elements ≡ []) → IsShownIn nodes (Some id) (Index i) None
      shown bare [] hidden = absurd (true≢false (sym hidden))
      shown bare (s ∷ at) hidden = nothing_below bare.0 bare.1 s at

-- ---- the loops

-- what stands at the name is shown
abbrev pub IsNameShown : List Spot → AddressSet → List ℕ × ℕ → Type 0
IsNameShown nodes set e = IsShownIn nodes (Some e.1) (Name e.0) (below set (Name e.0))

pub names_shown : (nodes : List Spot) (id : ℕ) (set : AddressSet) (es : Pairs) → es ≡ (slice_index_or nodes id nowhere).children → EachIs (IsNameShown nodes set) es → AreNamesShown nodes id set
names_shown nodes id set es are each n = from (child_of nodes id n) refl
  where
    from : (o : Option ℕ) → child_of nodes id n ≡ o → IsShownIn nodes (child_of nodes id n) (Name n) (below set (Name n))
    from None is at hidden = none_shown nodes (child_of nodes id n) is at
    from (Some k) is at hidden = ap (λ (p : Option ℕ). below_in nodes p at) is ∙ pairs_found (IsNameShown nodes set) es each n k (ap (lookup (bytes_eq n)) are ∙ is) at hidden

-- the elements from an index on, so far
abbrev pub ShownSoFar : List Spot → AddressSet → List ℕ → ℕ → ℕ → Type 0
ShownSoFar nodes set elements from count = (i : ℕ) → from ≤ i → i < count → IsShownIn nodes (slice_get elements i) (Index i) (below set (Index i))

pub shown_more : (nodes : List Spot) (set : AddressSet) (elements : List ℕ) (from count : ℕ) → ShownSoFar nodes set elements from count → IsShownIn nodes (slice_get elements count) (Index count) (below set (Index count))
    → ShownSoFar nodes set elements from (count + 1)
shown_more nodes set elements from count all one i past low =
    ⊎_elim (all i past) (λ high. let same : count ≡ i = omega (arith, high, low) in subst (λ j. IsShownIn nodes (slice_get elements j) (Index j) (below set (Index j))) same one) (cases_lt i count)

pub shown_all : (nodes : List Spot) (set : AddressSet) (elements : List ℕ) (from count : ℕ) → length elements ≤ count → ShownSoFar nodes set elements from count
    → (i : ℕ) → from ≤ i → IsShownIn nodes (slice_get elements i) (Index i) (below set (Index i))
shown_all nodes set elements from count end all i past =
    ⊎_elim (all i past) (λ high at hidden. none_shown nodes (slice_get elements i) (slice_get_past elements i (omega (arith, end, high))) at) (cases_lt i count)
