-- Where a `set` changes nothing.
use Rattle.std.proofs.Common.{◌≡◌, ◌⊎◌, inl, inr, ℕ, ◌+◌, ◌==◌, cond, List, [], ◌∷◌, ◌++◌, map, length, refl, sym, ap, ap₂, ◌∙◌, subst, append_assoc}
use Rattle.std.proofs.lemmas.Bool.{cond-false}
use Rattle.toml_text.specs.Forms.{IsNewline}
use Rattle.toml_tree.specs.Spells.{IsValue, AreItems, ArePairs}
use Rattle.toml_tree.specs.Tree.{Assign, Value, Scalar, Array, Inline, Items, Close, Last, More, Pairs, ClosePairs, LastPair, MorePairs}
use Rattle.toml_names.specs.declared.model.address.Step.{Step}
use Rattle.toml_names.specs.declared.model.address.Step.TheVariants.{Name, Index}
use Rattle.toml_names.specs.model.Addresses.{Address, IsAbove, element, below}
use Rattle.toml_names.specs.mentions.Keys.{key_names, part_name, rest_names}
use Rattle.toml_editor.specs.SetLaws.{SetWithin, SetElsewhere}
use Rattle.toml_editor.specs.Steps.{StyleIsNewline}
use Rattle.toml_working.specs.Lines.{array_of, inline_of}
use Rattle.toml_tree.specs.Bare.{fresh, bare_key, bare_assign, bare_gap, bare_value, bare_items, bare_pairs}
use Rattle.toml_working.specs.Setting.{set_at, set_within, set_items, set_pairs}
use Rattle.toml_tree.proofs.Proved.{bare_items_text, bare_pairs_text}
use Rattle.toml_editor.proofs.written.Clear.{differ}

-- a step further, and what is below that
pub beyond : (at : Address) (s : Step) (more p : Address) → ¬ IsAbove at p → ¬ (at ++ s ∷ more ≡ p) × ¬ IsAbove (at ++ s ∷ more) p
beyond at s more p not = (
  (λ is. not (s, more, sym is)),
  (λ above. not (s, more ++ above.0 ∷ above.1, above.2 ∙ append_assoc at (s ∷ more) (above.0 ∷ above.1))),
)

module _ (p : Address) (new : Value) where
  kept_at : (to : Address) (v w : Value) → ¬ (to ≡ p) → v ≡ w → set_at p new to v ≡ w
  kept_at to v w apart is = cond-false _ _ _ (differ to p apart) ∙ is

  kept_pair : (at : Address) (a : Assign) (v : Value) → ¬ IsAbove at p → ((to : Address) → ¬ IsAbove to p → set_within p new to (bare_value v) ≡ bare_value v)
      → set_at p new (below at (key_names (bare_key a.key))) (set_within p new (below at (key_names (bare_key a.key))) (bare_value v)) ≡ bare_value v
  kept_pair at a v not within =
      let to = below at (key_names (bare_key a.key)) in
      let far = beyond at (Name (part_name a.key.first)) (map Name (rest_names (bare_key a.key).rest)) p not in
      kept_at to (set_within p new to (bare_value v)) (bare_value v) far.0 (within to far.1)

  mutual
    kept : (v : Value) (at : Address) → IsValue v → ¬ IsAbove at p → set_within p new at (bare_value v) ≡ bare_value v
    kept (Scalar kind text) at is not = refl
    kept (Array whole items) at is not = ap array_of (items_kept items at 0 is.1 not) ∙ ap (λ t. Array (fresh t) (bare_items items)) (ap (λ t. 0x5B ∷ t) (bare_items_text items) ∙ sym is.0)
    kept (Inline whole pairs) at is not = ap inline_of (pairs_kept pairs at is.1 not) ∙ ap (λ t. Inline (fresh t) (bare_pairs pairs)) (ap (λ t. 0x7B ∷ t) (bare_pairs_text pairs) ∙ sym is.0)

    items_kept : (items : Items) (at : Address) (i : ℕ) → AreItems items → ¬ IsAbove at p → set_items p new at i (bare_items items) ≡ bare_items items
    items_kept (Close g) at i is not = refl
    items_kept (Last g v h) at i is not =
        let far = beyond at (Index i) [] p not in
        ap (λ x. Last (bare_gap g) x (bare_gap h)) (kept_at (element at i) (set_within p new (element at i) (bare_value v)) (bare_value v) far.0 (kept v (element at i) is.1 far.1))
    items_kept (More g v h more) at i is not =
        let far = beyond at (Index i) [] p not in
        ap₂ (λ x y. More (bare_gap g) x (bare_gap h) y) (kept_at (element at i) (set_within p new (element at i) (bare_value v)) (bare_value v) far.0 (kept v (element at i) is.1 far.1)) (items_kept more at (i + 1) is.3 not)

    pairs_kept : (pairs : Pairs) (at : Address) → ArePairs pairs → ¬ IsAbove at p → set_pairs p new at (bare_pairs pairs) ≡ bare_pairs pairs
    pairs_kept (ClosePairs g) at is not = refl
    pairs_kept (LastPair g a v h) at is not = ap (λ x. LastPair (bare_gap g) (bare_assign a) x (bare_gap h)) (kept_pair at a v not (λ to far. kept v to is.2 far))
    pairs_kept (MorePairs g a v h ps) at is not = ap₂ (λ x y. MorePairs (bare_gap g) (bare_assign a) x (bare_gap h) y) (kept_pair at a v not (λ to far. kept v to is.2 far)) (pairs_kept ps at is.4 not)

pub set_within_kept : SetWithin
set_within_kept p new at v is not = kept p new v at is not

pub set_elsewhere : SetElsewhere
set_elsewhere p new at v is clear = kept_at p new at (set_within p new at (bare_value v)) (bare_value v) clear.apart (kept p new v at is clear.not_above)

newline_or : (bs : List ℕ) → (bs ≡ []) ⊎ IsNewline bs → IsNewline (cond (length bs == 0) (0x0A ∷ []) bs)
newline_or bs (inl is) = subst (λ x. IsNewline (cond (length x == 0) (0x0A ∷ []) x)) (sym is) (inl refl)
newline_or bs (inr (inl is)) = subst (λ x. IsNewline (cond (length x == 0) (0x0A ∷ []) x)) (sym is) (inl refl)
newline_or bs (inr (inr is)) = subst (λ x. IsNewline (cond (length x == 0) (0x0A ∷ []) x)) (sym is) (inr refl)

pub style_is_newline : StyleIsNewline
style_is_newline [] is = inl refl
style_is_newline (l ∷ []) is = newline_or l.newline.text (inl is.1)
style_is_newline (l ∷ m ∷ ls) is = newline_or l.newline.text (inr is.1)
