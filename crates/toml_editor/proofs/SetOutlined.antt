-- A `set` on a value's tree, and on its outline.
use Rattle.std.proofs.Common.{◌≡◌, ℕ, ◌+◌, Bool, true, false, cond, Some, None, List, [], ◌∷◌, map, refl, sym, ap, ap₂, ◌∙◌}
use Rattle.toml_tree.specs.Tree.{Dotted, Assign, Value, Scalar, Array, Inline, Items, Close, Last, More, Pairs, ClosePairs, LastPair, MorePairs}
use Rattle.toml_names.specs.mentions.Keys.{key_names, part_name, rest_names, spelled_name}
use Rattle.toml_names.specs.model.Addresses.{Address, same_address, element, below}
use Rattle.toml_layout.specs.Outlines as outline
use Rattle.toml_working.specs.Setting.{set_value, set_within, set_items, set_pairs, SetIsOutlined}
use Rattle.toml_layout.specs.SetOutlines.{outlined_names, set_outline, set_outline_within, set_listed, set_braced}
use Rattle.toml_layout.specs.TreeOutlines.{gap_outline, dotted_outline, assign_outline, value_outline, items_outline, pairs_outline}

rest_outlined : (ds : List Dotted) → map (λ (d : outline.DottedOutline). spelled_name d.part) (map dotted_outline ds) ≡ rest_names ds
rest_outlined [] = refl
rest_outlined (d ∷ ds) = ap (λ r. part_name d.part ∷ r) (rest_outlined ds)

-- an outline keeps the names of a key
pub names_outlined : (a : Assign) → outlined_names (assign_outline a) ≡ key_names a.key
names_outlined a = ap (λ r. part_name a.key.first ∷ r) (rest_outlined a.key.rest)

module _ (p : Address) (new : Value) where
  abbrev IsSetWithin : Value → Address → Type 0
  IsSetWithin v at = value_outline (set_within p new at v) ≡ set_outline_within p (value_outline new) at (value_outline v)

  -- a value itself, once it is so of what stands in it
  value_set : (v : Value) (at : Address) → IsSetWithin v at → value_outline (set_value p new at v) ≡ set_outline p (value_outline new) at (value_outline v)
  value_set v at within = by (same_address at p)
    where
      by : (b : Bool) → value_outline (cond b new (set_within p new at v)) ≡ cond b (value_outline new) (set_outline_within p (value_outline new) at (value_outline v))
      by true = refl
      by false = within

  -- a pair's value, by the names of the outline
  pair_set : (a : Assign) (v : Value) (at : Address) → IsSetWithin v (below at (key_names a.key))
      → value_outline (set_value p new (below at (key_names a.key)) v) ≡ set_outline p (value_outline new) (below at (outlined_names (assign_outline a))) (value_outline v)
  pair_set a v at within =
      value_set v (below at (key_names a.key)) within
      ∙ ap (λ k. set_outline p (value_outline new) (below at k) (value_outline v)) (sym (names_outlined a))

  mutual
    within_set : (v : Value) (at : Address) → value_outline (set_within p new at v) ≡ set_outline_within p (value_outline new) at (value_outline v)
    within_set (Scalar kind text) at = refl
    within_set (Array whole items) at = ap (outline.Listed (0x5B ∷ [])) (items_set items at 0)
    within_set (Inline whole pairs) at = ap (outline.Braced (0x7B ∷ [])) (pairs_set pairs at)

    items_set : (items : Items) (at : Address) (i : ℕ) → items_outline (set_items p new at i items) ≡ set_listed p (value_outline new) at i (items_outline items)
    items_set (Close g) at i = refl
    items_set (Last g v h) at i =
        ap (λ w. outline.Entry (gap_outline g) None w (gap_outline h) (outline.End None)) (value_set v (element at i) (within_set v (element at i)))
    items_set (More g v h is) at i =
        ap₂ (λ w es. outline.Entry (gap_outline g) None w (gap_outline h) es) (value_set v (element at i) (within_set v (element at i))) (items_set is at (i + 1))

    pairs_set : (pairs : Pairs) (at : Address) → pairs_outline (set_pairs p new at pairs) ≡ set_braced p (value_outline new) at (pairs_outline pairs)
    pairs_set (ClosePairs g) at = refl
    pairs_set (LastPair g a v h) at =
        ap (λ w. outline.Entry (gap_outline g) (Some (assign_outline a)) w (gap_outline h) (outline.End None))
        (pair_set a v at (within_set v (below at (key_names a.key))))
    pairs_set (MorePairs g a v h ps) at =
        ap₂ (λ w es. outline.Entry (gap_outline g) (Some (assign_outline a)) w (gap_outline h) es)
        (pair_set a v at (within_set v (below at (key_names a.key)))) (pairs_set ps at)

pub set_is_outlined : SetIsOutlined
set_is_outlined p new at v = value_set p new v at (within_set p new v at)
