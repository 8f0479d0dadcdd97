-- A `rename` on a value's tree, and on its outline.
use Rattle.std.proofs.Common.{◌≡◌, ℕ, ◌+◌, Bool, true, false, cond, Some, None, List, [], ◌∷◌, map, refl, sym, ap, ap₂, ◌∙◌}
use Rattle.toml_scalar.specs.Spelling.{spelled}
use Rattle.toml_tree.specs.Bare.{fresh}
use Rattle.toml_tree.specs.Tree.{Piece, Dotted, Assign, Value, Scalar, Array, Inline, Items, Close, Last, More, Pairs, ClosePairs, LastPair, MorePairs}
use Rattle.toml_names.specs.mentions.Keys.{key_names, part_name}
use Rattle.toml_names.specs.model.Addresses.{Address, same_address, child, element, below}
use Rattle.toml_layout.specs.Outlines as outline
use Rattle.toml_working.specs.Renaming.{RenameIsOutlined}
use Rattle.toml_layout.specs.RenameOutlines.{rename_text, rename_dotted, rename_outlined, rename_outline, rename_listed, rename_braced}
use Rattle.toml_working.specs.Renaming.{rename_part, rename_rest, rename_assign, rename_value, rename_items, rename_pairs}
use Rattle.toml_layout.specs.SetOutlines.{outlined_names}
use Rattle.toml_layout.specs.TreeOutlines.{gap_outline, dotted_outline, assign_outline, value_outline, items_outline, pairs_outline}
use Rattle.toml_editor.proofs.SetOutlined.{names_outlined}

module _ (p : Address) (to : List ℕ) where
  pub part_renamed : (here : Address) (part : Piece) → (rename_part p to here part).text ≡ rename_text p (spelled to) here part.text
  part_renamed here part = by (same_address here p)
    where
      by : (b : Bool) → (cond b (fresh (spelled to)) part).text ≡ cond b (spelled to) part.text
      by true = refl
      by false = refl

  rest_renamed : (ds : List Dotted) (here : Address) → map dotted_outline (rename_rest p to (λ at. at) here ds) ≡ rename_dotted p (spelled to) here (map dotted_outline ds)
  rest_renamed [] here = refl
  rest_renamed (d ∷ ds) here =
      let next = child here (part_name d.part) in
      ap₂ (λ (t : List ℕ) (r : List outline.DottedOutline). record { before_dot = d.before_dot.text; after_dot = d.after_dot.text; part = t } ∷ r)
      (part_renamed next d.part) (rest_renamed ds next)

  pub assign_renamed : (a : Assign) (at : Address) → assign_outline (rename_assign p to at a) ≡ rename_outlined p (spelled to) at (assign_outline a)
  assign_renamed a at =
      let here = child at (part_name a.key.first) in
      ap₂ (λ (t : List ℕ) (r : List outline.DottedOutline). record { first = t; rest = r; before_equals = a.before_equals.text; after_equals = a.after_equals.text })
      (part_renamed here a.key.first) (rest_renamed a.key.rest here)

  -- a pair's value, by the names of the outline
  by_names : (a : Assign) (v : Value) (at : Address) → rename_outline p (spelled to) (below at (key_names a.key)) (value_outline v)
      ≡ rename_outline p (spelled to) (below at (outlined_names (assign_outline a))) (value_outline v)
  by_names a v at = ap (λ k. rename_outline p (spelled to) (below at k) (value_outline v)) (sym (names_outlined a))

  mutual
    pub value_renamed : (v : Value) (at : Address) → value_outline (rename_value p to at v) ≡ rename_outline p (spelled to) at (value_outline v)
    value_renamed (Scalar kind text) at = refl
    value_renamed (Array whole items) at = ap (outline.Listed (0x5B ∷ [])) (items_renamed items at 0)
    value_renamed (Inline whole pairs) at = ap (outline.Braced (0x7B ∷ [])) (pairs_renamed pairs at)

    items_renamed : (items : Items) (at : Address) (i : ℕ) → items_outline (rename_items p to at i items) ≡ rename_listed p (spelled to) at i (items_outline items)
    items_renamed (Close g) at i = refl
    items_renamed (Last g v h) at i = ap (λ w. outline.Entry (gap_outline g) None w (gap_outline h) (outline.End None)) (value_renamed v (element at i))
    items_renamed (More g v h is) at i =
        ap₂ (λ w es. outline.Entry (gap_outline g) None w (gap_outline h) es) (value_renamed v (element at i)) (items_renamed is at (i + 1))

    pairs_renamed : (pairs : Pairs) (at : Address) → pairs_outline (rename_pairs p to at pairs) ≡ rename_braced p (spelled to) at (pairs_outline pairs)
    pairs_renamed (ClosePairs g) at = refl
    pairs_renamed (LastPair g a v h) at =
        ap₂ (λ b w. outline.Entry (gap_outline g) (Some b) w (gap_outline h) (outline.End None)) (assign_renamed a at)
        (value_renamed v (below at (key_names a.key)) ∙ by_names a v at)
    pairs_renamed (MorePairs g a v h ps) at =
        ap₂ (λ b (r : outline.EntriesOutline). outline.Entry (gap_outline g) (Some b) (value_outline (rename_value p to (below at (key_names a.key)) v)) (gap_outline h) r)
        (assign_renamed a at) (pairs_renamed ps at)
        ∙ ap (λ w. outline.Entry (gap_outline g) (Some (rename_outlined p (spelled to) at (assign_outline a))) w (gap_outline h) (rename_braced p (spelled to) at (pairs_outline ps)))
        (value_renamed v (below at (key_names a.key)) ∙ by_names a v at)

pub rename_is_outlined : RenameIsOutlined
rename_is_outlined p to at v = value_renamed p to v at
