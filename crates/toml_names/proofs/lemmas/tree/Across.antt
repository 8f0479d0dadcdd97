-- The nodes one step below a node, and names that a node has or lacks.
use Rattle.toml_names.proofs.Common.{◌≡◌, ◌↔◌, ℕ, ◌<◌, Bool, List, Option, Some, None, IsTrue, is_some, Bor, refl, sym, ap, ◌∙◌, true≢false, bytes_eq, lookup, slice_get, length, option_copied, slice_index_or, Name, Index, IsTree, Spot, nowhere}
use Rattle.toml_names.specs.declared.model.address_set.AddressSet.{AddressSet}
use Rattle.toml_names.specs.tree.EnteringLines.{IsWithin}
use Rattle.toml_names.proofs.lemmas.tree.NodeData.{below_place}

module _ (nodes : List Spot) (tree : IsTree nodes) (id : ℕ) (low : id < length nodes) (s : Spot) (is : s ≡ slice_index_or nodes id nowhere) where
  pub child_within : (n : List ℕ) (to : Option ℕ) → to ≡ lookup (bytes_eq n) s.children → IsWithin to nodes
  child_within n None found = tt
  child_within n (Some k) found = (below_place nodes tree id low (Name n) k (sym (tree.names id nowhere n low) ∙ ap (λ (t : Spot). lookup (bytes_eq n) t.children) (sym is) ∙ sym found)).0

  pub element_within : (i : ℕ) (to : Option ℕ) → to ≡ slice_get s.elements i → IsWithin to nodes
  element_within i None found = tt
  element_within i (Some k) found = (below_place nodes tree id low (Index i) k (sym (tree.indices id nowhere i low) ∙ ap (λ (t : Spot). slice_get t.elements i) (sym is) ∙ sym found)).0

-- a name that is there, or at which something is hidden
pub there_or_hidden : {P : Type 0} (c : Option ℕ) (b : Bool) → b ≡ is_some c → (P → ⊥) → IsTrue b ↔ (c ≡ None → P)
there_or_hidden None b is not = (λ h. absurd (true≢false (sym h ∙ is)), λ shown. absurd (not (shown refl)))
there_or_hidden (Some k) b is not = (λ h none. absurd (true≢false (ap is_some none)), λ shown. is)

pub no_part : (o : Option (Bor AddressSet)) → ((t : Bor AddressSet) → o ≡ Some t → ⊥) → option_copied o ≡ None
no_part None none = refl
no_part (Some t) none = absurd (none t refl)
