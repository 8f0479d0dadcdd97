-- The outlines of values, entries and lists of entries, by what they are made of.
use Rattle.std.proofs.Common.{◌≡◌, ◌∙◌, List, [], ◌∷◌, ◌++◌, map, reverse, refl, ap, sym, Box}
use Rattle.std.proofs.lemmas.List.{map-append, reverse-append}
use Rattle.std.specs.Global.{Global}
use Rattle.toml_lists.specs.Gaps.{items}
use Rattle.std.specs.Prelude.{option_map}
use Rattle.toml_layout.specs.declared.tree.Entries.{Entries}
use Rattle.toml_layout.specs.declared.tree.Entry.{Entry}
use Rattle.toml_layout.specs.declared.tree.Leaf.{Leaf}
use Rattle.toml_layout.specs.declared.tree.Value.{Value}
use Rattle.toml_layout.specs.declared.tree.Value.TheOpen as layer
use Rattle.toml_layout.specs.declared.tree.Value.TheOpen.{Entries-F, Entry-F}
use Rattle.toml_layout.specs.declared.tree.Value.TheViews.{out-Entries, out-Entry, roll-Entries, roll-Entry}
use Rattle.toml_layout.specs.declared.tree.Value.TheFolds.{fold-roll-Value, fold_out-Entries, fold_out-Entry, fold-roll-Entries, fold-roll-Entry}
use Rattle.toml_layout.specs.declared.tree.Value.TheVariants as variants
use Rattle.toml_layout.specs.declared.tree.Value.TheVariants.{rolls-Scalar, rolls-Array, rolls-Inline}
use Rattle.toml_layout.specs.OpenOutlines.{EntryOutline, Enclosed, entry, entries, entries_of, gap_read, leaf_text, assign, value, value_step, entries_step, entry_step}
use Rattle.toml_layout.specs.Outlines.{Braced, Listed, Token, ValueOutline}

-- ---- a list with a gap

pub map_reverse : {X Y : Type 0} (f : X → Y) (xs : List X) → map f (reverse xs) ≡ reverse (map f xs)
map_reverse f [] = refl
map_reverse f (x ∷ xs) =
    ap (map f) (reverse-append (x ∷ []) xs) ∙ map-append f (reverse xs) (x ∷ [])
    ∙ ap (λ r. r ++ f x ∷ []) (map_reverse f xs) ∙ sym (reverse-append (f x ∷ []) (map f xs))

-- each item on its side
pub items_mapped : {X Y : Type 0} (f : X → Y) (xs ys : List X) → map f xs ++ reverse (map f ys) ≡ map f (xs ++ reverse ys)
items_mapped f xs ys = sym (map-append f xs (reverse ys) ∙ ap (λ r. map f xs ++ r) (map_reverse f ys))

-- what stands between brackets or braces, by what the working tree has there
pub entries_is : (e : Entries) → entries e ≡ record {
  opening = leaf_text (out-Entries e).opening;
  entries = entries_of (map entry (items (out-Entries e).list)) (option_map gap_read (out-Entries e).end);
}
entries_is e =
    fold_out-Entries ValueOutline Enclosed EntryOutline value_step entries_step entry_step e
    ∙ ap (λ es. record { opening = leaf_text (out-Entries e).opening; entries = entries_of es (option_map gap_read (out-Entries e).end) })
    (items_mapped entry (out-Entries e).list.before.items (out-Entries e).list.behind.items)

-- an entry, by what the working tree has there
pub entry_is : (e : Entry) → entry e ≡ record {
  before = gap_read (out-Entry e).before;
  assign = option_map (λ a. assign a.value) (out-Entry e).assign;
  value = value (out-Entry e).value;
  after = gap_read (out-Entry e).after;
}
entry_is = fold_out-Entry ValueOutline Enclosed EntryOutline value_step entries_step entry_step

-- a value by its variant
pub scalar_made : (l : Leaf) → value (variants.Scalar l) ≡ Token (leaf_text l)
scalar_made l = ap value (sym (rolls-Scalar l)) ∙ fold-roll-Value ValueOutline Enclosed EntryOutline value_step entries_step entry_step (layer.Scalar l)

pub array_made : (b : Box Entries Global) → value (variants.Array b) ≡ Listed (entries b.value).opening (entries b.value).entries
array_made b = ap value (sym (rolls-Array b)) ∙ fold-roll-Value ValueOutline Enclosed EntryOutline value_step entries_step entry_step (layer.Array b)

pub inline_made : (b : Box Entries Global) → value (variants.Inline b) ≡ Braced (entries b.value).opening (entries b.value).entries
inline_made b = ap value (sym (rolls-Inline b)) ∙ fold-roll-Value ValueOutline Enclosed EntryOutline value_step entries_step entry_step (layer.Inline b)

-- entries that are made of these
pub entries_made : (e : Entries-F Value Entries Entry)
    → entries (roll-Entries e) ≡ record { opening = leaf_text e.opening; entries = entries_of (map entry (items e.list)) (option_map gap_read e.end) }
entries_made e =
    fold-roll-Entries ValueOutline Enclosed EntryOutline value_step entries_step entry_step e
    ∙ ap (λ es. record { opening = leaf_text e.opening; entries = entries_of es (option_map gap_read e.end) })
    (items_mapped entry e.list.before.items e.list.behind.items)

-- an entry that is made of these
pub entry_made : (e : Entry-F Value Entries Entry)
    → entry (roll-Entry e) ≡ record { before = gap_read e.before; assign = option_map (λ a. assign a.value) e.assign; value = value e.value; after = gap_read e.after }
entry_made = fold-roll-Entry ValueOutline Enclosed EntryOutline value_step entries_step entry_step
