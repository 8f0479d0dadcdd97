-- Parts of keys that are written, one after the other.
use Rattle.std.proofs.Common.{◌≡◌, ◌∙◌, ◌-◌, ◌<◌, ◌≤◌, ◌++◌, ℕ, zero, suc, List, [], ◌∷◌, drop, length, map, reverse, set, take, Option, Some, refl, ap, ap₂, sym, arith}
use Rattle.std.proofs.lemmas.List.{length-append, length-drop, length-map, length-take-le}
use Rattle.std.proofs.lemmas.Option.{none-some, same_Some}
use Rattle.std.specs.Prelude.{option_map, slice_get}
use Rattle.toml_lists.specs.Gaps.{items}
use Rattle.toml_lists.specs.declared.gap_list.GapList.{GapList}
use Rattle.toml_names.specs.model.Addresses.{Address}
use Rattle.toml_layout.specs.declared.tree.Dotted.{Dotted}
use Rattle.toml_layout.specs.declared.tree.Entries.{Entries}
use Rattle.toml_layout.specs.declared.tree.Entry.{Entry}
use Rattle.toml_layout.specs.declared.tree.Value.TheViews.{out-Entries, roll-Entries}
use Rattle.toml_layout.specs.Parts.{PartOutline}
use Rattle.toml_layout.specs.OpenOutlines.{Enclosed, EntryOutline, dotted, entries, entries_of, entry, gap_read, leaf_text}
use Rattle.toml_layout.specs.Outlines.{DottedOutline, EntriesOutline, End}
use Rattle.toml_layout.specs.Outlines as outline
use Rattle.toml_layout.specs.RenamingIn.{KeysRenamed, dotted_with, key_with, pair_with, pairs_with, rest_with}
use Rattle.toml_layout.proofs.Outlined.{entries_is, entries_made, items_mapped}

-- ---- a key

rest_below : (n : ℕ) (text : List ℕ) (ds : List DottedOutline) → 0 < n → rest_with n text ds ≡ dotted_with (n - 1) text ds
rest_below zero text ds some = absurd (omega (arith, some))
rest_below (suc i) text ds some = ap (λ k. dotted_with k text ds) (let e : i ≡ suc i - 1 = omega arith in e)

part_set : (ds : List Dotted) (i : ℕ) (d n : Dotted) (text : List ℕ) → slice_get ds i ≡ Some d
    → dotted n ≡ record { before_dot = leaf_text d.before_dot; after_dot = leaf_text d.after_dot; part = text }
    → map dotted (set ds i n) ≡ dotted_with i text (map dotted ds)
part_set [] i d n text is made = absurd (none-some d is)
part_set (e ∷ ds) zero d n text is made =
    ap (λ x. x ∷ map dotted ds)
    (made ∙ ap (λ (o : Dotted). record { before_dot = leaf_text o.before_dot; after_dot = leaf_text o.after_dot; part = text }) (sym (same_Some e d is)))
part_set (e ∷ ds) (suc i) d n text is made = ap (λ l. dotted e ∷ l) (part_set ds i d n text is made)

part_past : (ds : List Dotted) (i : ℕ) (text : List ℕ) → length ds ≤ i → map dotted ds ≡ dotted_with i text (map dotted ds)
part_past [] i text past = refl
part_past (e ∷ ds) zero text past = absurd (omega (arith, past))
part_past (e ∷ ds) (suc i) text past = ap (λ l. dotted e ∷ l) (part_past ds i text (omega (arith, past)))

pub rest_set : (ds : List Dotted) (number : ℕ) (d n : Dotted) (text : List ℕ) → 0 < number → slice_get ds (number - 1) ≡ Some d
    → dotted n ≡ record { before_dot = leaf_text d.before_dot; after_dot = leaf_text d.after_dot; part = text }
    → map dotted (set ds (number - 1) n) ≡ rest_with number text (map dotted ds)
rest_set ds number d n text some is made = part_set ds (number - 1) d n text is made ∙ sym (rest_below number text (map dotted ds) some)

pub rest_past : (ds : List Dotted) (number : ℕ) (text : List ℕ) → 0 < number → length ds ≤ number - 1 → map dotted ds ≡ rest_with number text (map dotted ds)
rest_past ds number text some past = part_past ds (number - 1) text past ∙ sym (rest_below number text (map dotted ds) some)

-- ---- pairs

abbrev first_or : EntryOutline → List EntryOutline → EntryOutline
first_or d [] = d
first_or d (x ∷ xs) = x

abbrev rest_of : List EntryOutline → List EntryOutline
rest_of [] = []
rest_of (x ∷ xs) = xs

module _ (steps : Address) (text : List ℕ) where
  pairs_written : (es : List EntryOutline) (end : Option (List PartOutline)) → entries_of (map (pair_with steps text) es) end ≡ pairs_with steps text (entries_of es end)
  pairs_written [] end = refl
  pairs_written (e ∷ es) end = ap (outline.Entry e.before (option_map (key_with steps text) e.assign) e.value e.after) (pairs_written es end)

  -- on each side of the gap
  pub keys_written : (old : Entries) (list : GapList Entry)
      → map entry list.before.items ≡ map (pair_with steps text) (map entry (out-Entries old).list.before.items)
      → map entry list.behind.items ≡ map (pair_with steps text) (map entry (out-Entries old).list.behind.items)
      → KeysRenamed steps text (entries old) (entries (roll-Entries (record { opening = (out-Entries old).opening; list = list; end = (out-Entries old).end })))
  keys_written old list before behind =
      let all = (out-Entries old).list in
      let end = option_map gap_read (out-Entries old).end in
      let opening = leaf_text (out-Entries old).opening in
      let same : map entry (items list) ≡ map (pair_with steps text) (map entry (items all)) =
      sym (items_mapped entry list.before.items list.behind.items)
      ∙ ap₂ (λ (xs ys : List EntryOutline). xs ++ reverse ys) before behind
      ∙ items_mapped (pair_with steps text) (map entry all.before.items) (map entry all.behind.items)
      ∙ ap (map (pair_with steps text)) (items_mapped entry all.before.items all.behind.items) in
      entries_made (record { opening = (out-Entries old).opening; list = list; end = (out-Entries old).end })
      ∙ ap (λ es. record { opening = opening; entries = entries_of es end }) same
      ∙ ap (λ es. record { opening = opening; entries = es }) (pairs_written (map entry (items all)) end)
      ∙ ap (λ (o : Enclosed). record { opening = o.opening; entries = pairs_with steps text o.entries }) (sym (entries_is old))

  -- one pair more
  pub pair_written : (es : List Entry) (i : ℕ) (e n : Entry) (os : List EntryOutline) → slice_get es i ≡ Some e → entry n ≡ pair_with steps text (entry e)
      → map entry es ≡ map (pair_with steps text) (take i os) ++ drop i os → i < length os
      → map entry (set es i n) ≡ map (pair_with steps text) (take (suc i) os) ++ drop (suc i) os
  pair_written [] i e n os is made so_far low = absurd (none-some e is)
  pair_written (x ∷ es) i e n [] is made so_far low = absurd (omega (arith, low))
  pair_written (x ∷ es) zero e n (o ∷ os) is made so_far low =
      let first : entry x ≡ o = ap (first_or o) so_far in
      let rest : map entry es ≡ os = ap rest_of so_far in
      ap₂ (λ y ys. y ∷ ys) (made ∙ ap (pair_with steps text) (ap entry (sym (same_Some x e is)) ∙ first)) rest
  pair_written (x ∷ es) (suc i) e n (o ∷ os) is made so_far low =
      let first : entry x ≡ pair_with steps text o = ap (first_or o) so_far in
      let rest : map entry es ≡ map (pair_with steps text) (take i os) ++ drop i os = ap rest_of so_far in
      ap₂ (λ y ys. y ∷ ys) first (pair_written es i e n os is made rest (omega (arith, low)))

  -- there are as many as before
  pub as_many : (es : List Entry) (os : List EntryOutline) (i : ℕ) → map entry es ≡ map (pair_with steps text) (take i os) ++ drop i os → i < length os → length es ≡ length os
  as_many es os i is low =
      let all = ap length is in
      let front = length-map (take i os) (pair_with steps text) in
      let taken = length-take-le i os (omega (arith, low)) in
      let both = length-append (map (pair_with steps text) (take i os)) (drop i os) in
      let left = length-drop i os in
      let own = length-map es entry in
      omega (arith, low, all, front, taken, both, left, own)
