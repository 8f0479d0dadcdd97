-- What a `rename` leaves as it was: keys that do not lead through the address, and the texts of values in which it does not lie.
use Rattle.std.proofs.Common.{◌≡◌, ℕ, ◌+◌, ◌-◌, ◌==◌, Bool, true, false, cond, List, [], ◌∷◌, ◌++◌, map, refl, sym, ap, ap₂, ◌∙◌, subst, append_assoc, append-nil}
use Rattle.std.proofs.lemmas.Bool.{cond-false}
use Rattle.toml_tree.specs.Spells.{joined, symbol, value_parts, items_parts, pairs_parts, gap_parts, assign_parts}
use Rattle.toml_tree.specs.Tree.{Piece, Dotted, Assign, Value, Scalar, Array, Inline, Items, Close, Last, More, Pairs, ClosePairs, LastPair, MorePairs}
use Rattle.toml_tree.specs.Tree as tree
use Rattle.toml_names.specs.declared.model.address.Step.TheVariants.{Name, Index}
use Rattle.toml_names.specs.mentions.Keys.{Key, key_names, rest_names, part_name}
use Rattle.toml_names.specs.mentions.Mentions.{Named, entered, count_tables}
use Rattle.toml_names.specs.model.Addresses.{Address, IsAbove, child, element, below}
use Rattle.toml_names.specs.reader.Names.{header_end}
use Rattle.toml_checker.specs.CarriedTo.{IsAtOrAbove}
use Rattle.toml_working.specs.Renaming.{rename_part, rename_rest, rename_key, rename_assign, rename_value, rename_items, rename_pairs}
use Rattle.toml_editor.proofs.written.Clear.{differ}
use Rattle.toml_editor.proofs.written.Elsewhere.{beyond}
use Rattle.toml_editor.proofs.written.Texts.{both_texts, back_text}

module _ (p : Address) (to : List ℕ) where
  -- a key in the table leads to the address or through it
  abbrev pub Leads : Address → Key → Type 0
  Leads at key = IsAbove at p × IsAtOrAbove p (below at key)

  abbrev stay : Address → Address
  stay here = here

  part_kept : (here : Address) (part : Piece) → ¬ (here ≡ p) → rename_part p to here part ≡ part
  part_kept here part apart = cond-false _ _ _ (differ here p apart)

  rest_kept : (ds : List Dotted) (here : Address) → ¬ Leads here (rest_names ds) → rename_rest p to stay here ds ≡ ds
  rest_kept [] here not = refl
  rest_kept (d ∷ ds) here not =
      let n = part_name d.part in
      ap₂ (λ (x : Piece) (r : List Dotted). record { before_dot = d.before_dot; after_dot = d.after_dot; part = x } ∷ r)
      (part_kept (child here n) d.part (λ is. not ((Name n, [], sym is), (map Name (rest_names ds), sym (append_assoc here (Name n ∷ []) (map Name (rest_names ds))) ∙ ap (λ a. a ++ map Name (rest_names ds)) is))))
      (rest_kept ds (child here n) (λ leads. not (
        (Name n, leads.0.0 ∷ leads.0.1, leads.0.2 ∙ append_assoc here (Name n ∷ []) (leads.0.0 ∷ leads.0.1)),
        (leads.1.0, sym (append_assoc here (Name n ∷ []) (map Name (rest_names ds))) ∙ leads.1.1),
      )))

  pub key_kept : (k : tree.Key) (at : Address) → ¬ Leads at (key_names k) → rename_key p to stay at k ≡ k
  key_kept k at not =
      let n = part_name k.first in
      ap₂ (λ (x : Piece) (r : List Dotted). record { first = x; rest = r })
      (part_kept (child at n) k.first (λ is. not ((Name n, [], sym is), (map Name (rest_names k.rest), sym (append_assoc at (Name n ∷ []) (map Name (rest_names k.rest))) ∙ ap (λ a. a ++ map Name (rest_names k.rest)) is))))
      (rest_kept k.rest (child at n) (λ leads. not (
        (Name n, leads.0.0 ∷ leads.0.1, leads.0.2 ∙ append_assoc at (Name n ∷ []) (leads.0.0 ∷ leads.0.1)),
        (leads.1.0, sym (append_assoc at (Name n ∷ []) (map Name (rest_names k.rest))) ∙ leads.1.1),
      )))

  pub assign_kept : (a : Assign) (at : Address) → ¬ Leads at (key_names a.key) → rename_assign p to at a ≡ a
  assign_kept a at not = ap (λ (k : tree.Key). record { key = k; before_equals = a.before_equals; after_equals = a.after_equals }) (key_kept a.key at not)

  -- ---- values

  mutual
    pub value_text : (v : Value) (at : Address) → ¬ IsAbove at p → joined (value_parts (rename_value p to at v)) ≡ joined (value_parts v)
    value_text (Scalar kind text) at not = refl
    value_text (Array whole items) at not = ap (λ t. 0x5B ∷ t) (items_text items at 0 not)
    value_text (Inline whole pairs) at not = ap (λ t. 0x7B ∷ t) (pairs_text pairs at not)

    items_text : (items : Items) (at : Address) (i : ℕ) → ¬ IsAbove at p → joined (items_parts (rename_items p to at i items)) ≡ joined (items_parts items)
    items_text (Close g) at i not = refl
    items_text (Last g v h) at i not =
        back_text (gap_parts g) _ _ (both_texts (value_parts (rename_value p to (element at i) v)) (value_parts v) (gap_parts h ++ symbol (0x5D ∷ []) ∷ []) _ (value_text v (element at i) (beyond at (Index i) [] p not).1) refl)
    items_text (More g v h is) at i not =
        back_text (gap_parts g) _ _ (both_texts (value_parts (rename_value p to (element at i) v)) (value_parts v) (gap_parts h ++ symbol (0x2C ∷ []) ∷ items_parts (rename_items p to at (i + 1) is)) _
        (value_text v (element at i) (beyond at (Index i) [] p not).1)
        (back_text (gap_parts h) (symbol (0x2C ∷ []) ∷ items_parts (rename_items p to at (i + 1) is)) (symbol (0x2C ∷ []) ∷ items_parts is) (ap (λ t. 0x2C ∷ t) (items_text is at (i + 1) not))))

    pairs_text : (pairs : Pairs) (at : Address) → ¬ IsAbove at p → joined (pairs_parts (rename_pairs p to at pairs)) ≡ joined (pairs_parts pairs)
    pairs_text (ClosePairs g) at not = refl
    pairs_text (LastPair g a v h) at not =
        back_text (gap_parts g) _ _ (both_texts (assign_parts (rename_assign p to at a)) (assign_parts a) (value_parts (rename_value p to (below at (key_names a.key)) v) ++ (gap_parts h ++ symbol (0x7D ∷ []) ∷ [])) _
        (ap (λ x. joined (assign_parts x)) (assign_kept a at (λ leads. not leads.0)))
        (both_texts (value_parts (rename_value p to (below at (key_names a.key)) v)) (value_parts v) (gap_parts h ++ symbol (0x7D ∷ []) ∷ []) _
        (value_text v (below at (key_names a.key)) (beyond at (Name (part_name a.key.first)) (map Name (rest_names a.key.rest)) p not).1) refl))
    pairs_text (MorePairs g a v h ps) at not =
        back_text (gap_parts g) _ _ (both_texts (assign_parts (rename_assign p to at a)) (assign_parts a) (value_parts (rename_value p to (below at (key_names a.key)) v) ++ (gap_parts h ++ symbol (0x2C ∷ []) ∷ pairs_parts (rename_pairs p to at ps))) _
        (ap (λ x. joined (assign_parts x)) (assign_kept a at (λ leads. not leads.0)))
        (both_texts (value_parts (rename_value p to (below at (key_names a.key)) v)) (value_parts v) (gap_parts h ++ symbol (0x2C ∷ []) ∷ pairs_parts (rename_pairs p to at ps)) _
        (value_text v (below at (key_names a.key)) (beyond at (Name (part_name a.key.first)) (map Name (rest_names a.key.rest)) p not).1)
        (back_text (gap_parts h) (symbol (0x2C ∷ []) ∷ pairs_parts (rename_pairs p to at ps)) (symbol (0x2C ∷ []) ∷ pairs_parts ps) (ap (λ t. 0x2C ∷ t) (pairs_text ps at not)))))

  -- a pair whose key does not lead there, and in whose value it does not lie
  pub keyval_text : (a : Assign) (v : Value) (at : Address) → ¬ Leads at (key_names a.key) → ¬ IsAbove (below at (key_names a.key)) p
      → joined (assign_parts (rename_assign p to at a) ++ value_parts (rename_value p to (below at (key_names a.key)) v)) ≡ joined (assign_parts a ++ value_parts v)
  keyval_text a v at not far =
      both_texts (assign_parts (rename_assign p to at a)) (assign_parts a) (value_parts (rename_value p to (below at (key_names a.key)) v)) (value_parts v)
      (ap (λ x. joined (assign_parts x)) (assign_kept a at not)) (value_text v (below at (key_names a.key)) far)

  -- ---- headers

  module _ (xs : List Named) where
    enters : (at : Address) → IsAtOrAbove at (entered xs at)
    enters at = by (count_tables xs at == 0)
      where
        by : (b : Bool) → IsAtOrAbove at (cond b at (element at (count_tables xs at - 1)))
        by true = ([], sym (append-nil at))
        by false = (Index (count_tables xs at - 1) ∷ [], refl)

    -- a key's end lies at or below each of its parts
    ends_below : (ns : Key) (n : List ℕ) (at : Address) → IsAtOrAbove (child at n) (header_end xs at (n ∷ ns))
    ends_below [] n at = ([], sym (append-nil (child at n)))
    ends_below (m ∷ ns) n at =
        let further = ends_below ns m (entered xs (child at n)) in
        let entry = enters (child at n) in (
          entry.0 ++ (Name m ∷ further.0),
          further.1 ∙ ap (λ a. (a ++ Name m ∷ []) ++ further.0) entry.1
              ∙ append_assoc (child at n ++ entry.0) (Name m ∷ []) further.0
              ∙ append_assoc (child at n) entry.0 (Name m ∷ further.0),
        )

    parts_kept : (ds : List Dotted) (n : List ℕ) (at : Address) → ¬ IsAtOrAbove p (header_end xs at (n ∷ rest_names ds)) → rename_rest p to (entered xs) (child at n) ds ≡ ds
    parts_kept [] n at not = refl
    parts_kept (d ∷ ds) n at not =
        let m = part_name d.part in
        ap₂ (λ (x : Piece) (r : List Dotted). record { before_dot = d.before_dot; after_dot = d.after_dot; part = x } ∷ r)
        (part_kept (child (entered xs (child at n)) m) d.part (λ is. not (subst (λ a. IsAtOrAbove a (header_end xs (entered xs (child at n)) (m ∷ rest_names ds))) is (ends_below (rest_names ds) m (entered xs (child at n))))))
        (parts_kept ds m (entered xs (child at n)) not)

    pub header_kept : (k : tree.Key) → ¬ IsAtOrAbove p (header_end xs [] (key_names k)) → rename_key p to (entered xs) [] k ≡ k
    header_kept k not =
        let n = part_name k.first in
        ap₂ (λ (x : Piece) (r : List Dotted). record { first = x; rest = r })
        (part_kept (child [] n) k.first (λ is. not (subst (λ a. IsAtOrAbove a (header_end xs [] (n ∷ rest_names k.rest))) is (ends_below (rest_names k.rest) n []))))
        (parts_kept k.rest n [] not)
