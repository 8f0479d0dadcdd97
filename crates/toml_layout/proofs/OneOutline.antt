-- An array or an inline table of which an edit changes what it names has one outline then.
use Rattle.std.proofs.Common.{◌≡◌, ◌∙◌, drop, length, ◌-◌, ℕ, List, [], ◌∷◌, Option, Some, None, Box, inl, inr, map, refl, ap, ap₂, sym, subst}
use Rattle.std.specs.Global.{Global}
use Rattle.std.specs.declared.string.String.{String}
use Rattle.std.proofs.lemmas.List.{length-map}
use Rattle.std.specs.Prelude.{option_map, string_bytes}
use Rattle.toml_lists.specs.Gaps.{items}
use Rattle.toml_names.specs.declared.model.address.Step.TheVariants.{Index}
use Rattle.toml_names.specs.model.Addresses.{Address}
use Rattle.toml_layout.specs.declared.layout.Layout.{Layout}
use Rattle.toml_layout.specs.declared.tree.Entries.{Entries}
use Rattle.toml_layout.specs.declared.tree.Entry.{Entry}
use Rattle.toml_layout.specs.declared.tree.Gap.{Gap}
use Rattle.toml_layout.specs.declared.tree.Value.{Value}
use Rattle.toml_layout.specs.declared.tree.Value.TheVariants as values
use Rattle.toml_layout.specs.declared.tree.Value.TheViews.{out-Entries}
use Rattle.toml_layout.specs.Holding.{ChangesArray, ChangesTable, PutsHeld, TakesHeld}
use Rattle.toml_layout.specs.Items.{Items, gap_parts, item, items_of}
use Rattle.toml_layout.specs.OneOutline.{PutIsOne, TakenIsOne}
use Rattle.toml_layout.specs.OpenOutlines.{Enclosed, entries, entries_of, entry, gap_read, leaf_text, parts_read, value}
use Rattle.toml_layout.specs.Outlines.{Braced, EntriesOutline, Listed}
use Rattle.toml_layout.specs.PairPlaces.{PutsPair, last_parts}
use Rattle.toml_layout.specs.PairRemovals.{TakesPairs}
use Rattle.toml_layout.specs.Rooms.{PutsItem}
use Rattle.toml_layout.specs.Takings.{TakesOne}
use Rattle.toml_layout.proofs.Holders.{parent_is}
use Rattle.toml_layout.proofs.OneValue.{Holding, IsHolder, held_one}
use Rattle.toml_layout.proofs.Outlined.{array_made, entries_is, entry_is, inline_made}
use Rattle.toml_layout.proofs.SameEntries.{entries_apart}
use Rattle.toml_layout.proofs.SameItems.{SameItems, item_outline, taking_same}
use Rattle.toml_layout.proofs.SamePairs.{pair_put_same, pairs_taken_same}
use Rattle.toml_layout.proofs.SameRooms.{putting_same}
use Rattle.toml_layout.proofs.TakenParts.{drop_mapped}

-- ---- entries and items

entries_mapped : (xs : List Entry) → map entry xs ≡ map item_outline (map item xs)
entries_mapped [] = refl
entries_mapped (x ∷ xs) = ap₂ ◌∷◌ (entry_is x) (entries_mapped xs)

end_mapped : (o : Option Gap) → option_map gap_read o ≡ option_map parts_read (option_map gap_parts o)
end_mapped None = refl
end_mapped (Some g) = refl

abbrev enclosed : Items → Enclosed
enclosed m = record { opening = leaf_text m.opening; entries = entries_of (map item_outline m.list) (option_map parts_read m.end) }

enclosed_is : (e : Entries) → entries e ≡ enclosed (items_of e)
enclosed_is e =
    entries_is e
    ∙ ap (λ (es : EntriesOutline). record { opening = leaf_text (out-Entries e).opening; entries = es })
    (ap₂ entries_of (entries_mapped (items (out-Entries e).list)) (end_mapped (out-Entries e).end))

-- what reads alike has one outline, and the other way round
pub one_of_items : (e f : Entries) → SameItems (items_of e) (items_of f) → entries e ≡ entries f
one_of_items e f same =
    enclosed_is e
    ∙ ap (λ (t : List ℕ). record { opening = t; entries = (enclosed (items_of e)).entries }) same.opening
    ∙ ap (λ (es : EntriesOutline). record { opening = leaf_text (items_of f).opening; entries = es }) (ap₂ entries_of same.list same.end)
    ∙ sym (enclosed_is f)

pub items_of_one : (e f : Entries) → entries e ≡ entries f → SameItems (items_of e) (items_of f)
items_of_one e f same =
    let whole : enclosed (items_of e) ≡ enclosed (items_of f) = sym (enclosed_is e) ∙ same ∙ enclosed_is f in
    let parts = entries_apart (map item_outline (items_of e).list) (map item_outline (items_of f).list) (option_map parts_read (items_of e).end)
    (option_map parts_read (items_of f).end) (ap (λ (c : Enclosed). c.entries) whole) in
    record { opening = ap (λ (c : Enclosed). c.opening) whole; list = parts.0; end = parts.1 }

-- ---- arrays and inline tables

listed_apart : (s t : List ℕ) (es fs : EntriesOutline) → Listed s es ≡ Listed t fs → (s ≡ t) × (es ≡ fs)
listed_apart s t es fs same = (cc, cc)

braced_apart : (s t : List ℕ) (es fs : EntriesOutline) → Braced s es ≡ Braced t fs → (s ≡ t) × (es ≡ fs)
braced_apart s t es fs same = (cc, cc)

not_both : (s t : List ℕ) (es fs : EntriesOutline) → Listed s es ≡ Braced t fs → ⊥
not_both s t es fs same = cc

enclosed_same : (c d : Enclosed) → (c.opening ≡ d.opening) × (c.entries ≡ d.entries) → c ≡ d
enclosed_same c d parts =
    ap (λ (t : List ℕ). record { opening = t; entries = c.entries }) parts.0
    ∙ ap (λ (es : EntriesOutline). record { opening = d.opening; entries = es }) parts.1

array_is_one : (a b : Box Entries Global) → value (values.Array a) ≡ value (values.Array b) → entries a.value ≡ entries b.value
array_is_one a b same =
    enclosed_same (entries a.value) (entries b.value)
    (listed_apart (entries a.value).opening (entries b.value).opening (entries a.value).entries (entries b.value).entries (sym (array_made a) ∙ same ∙ array_made b))

table_is_one : (a b : Box Entries Global) → value (values.Inline a) ≡ value (values.Inline b) → entries a.value ≡ entries b.value
table_is_one a b same =
    enclosed_same (entries a.value) (entries b.value)
    (braced_apart (entries a.value).opening (entries b.value).opening (entries a.value).entries (entries b.value).entries (sym (inline_made a) ∙ same ∙ inline_made b))

no_array : (a b : Box Entries Global) → value (values.Array a) ≡ value (values.Inline b) → ⊥
no_array a b same =
    not_both (entries a.value).opening (entries b.value).opening (entries a.value).entries (entries b.value).entries (sym (array_made a) ∙ same ∙ inline_made b)

one_index : (i j : ℕ) (steps : Address) → steps ≡ Index i ∷ [] → steps ≡ Index j ∷ [] → i ≡ j
one_index i j steps one other = let same : Index i ∷ [] ≡ Index j ∷ [] = sym one ∙ other in cc

-- where of items that read alike the same is made, the arrays or the tables that have them are of one outline then
array_changed : (P Q : ℕ → Items → Items → Type 0)
    → ((i : ℕ) (a b c d : Items) → SameItems a b → P i a c → Q i b d → SameItems c d) → (steps : Address) (was other too more : Value)
    → ChangesArray P steps was other → ChangesArray Q steps too more → value was ≡ value too → value other ≡ value more
array_changed P Q changed steps was other too more one two same =
    let old : entries one.old.value ≡ entries two.old.value =
    array_is_one one.old two.old (ap value (sym one.was_is) ∙ same ∙ ap value two.was_is) in
    let index : two.index ≡ one.index = one_index two.index one.index steps two.named one.named in
    let now : entries one.now.value ≡ entries two.now.value =
    one_of_items one.now.value two.now.value
    (changed one.index (items_of one.old.value) (items_of two.old.value) (items_of one.now.value) (items_of two.now.value)
    (items_of_one one.old.value two.old.value old) one.made (subst (λ i. Q i (items_of two.old.value) (items_of two.now.value)) index two.made)) in
    ap value one.other_is ∙ array_made one.now ∙ ap (λ (c : Enclosed). Listed c.opening c.entries) now ∙ sym (array_made two.now) ∙ ap value (sym two.other_is)

table_changed : (P Q : Address → Address → Items → Items → Type 0)
    → ((parent steps : Address) (a b c d : Items) → SameItems a b → P parent steps a c → Q parent steps b d → SameItems c d) → (steps : Address)
    (was other too more : Value) → ChangesTable P steps was other → ChangesTable Q steps too more → value was ≡ value too → value other ≡ value more
table_changed P Q changed steps was other too more one two same =
    let old : entries one.old.value ≡ entries two.old.value =
    table_is_one one.old two.old (ap value (sym one.was_is) ∙ same ∙ ap value two.was_is) in
    let parent : two.parent ≡ one.parent = sym (parent_is steps two.parent two.last two.split) ∙ parent_is steps one.parent one.last one.split in
    let now : entries one.now.value ≡ entries two.now.value =
    one_of_items one.now.value two.now.value
    (changed one.parent steps (items_of one.old.value) (items_of two.old.value) (items_of one.now.value) (items_of two.now.value)
    (items_of_one one.old.value two.old.value old) one.made (subst (λ p. Q p steps (items_of two.old.value) (items_of two.now.value)) parent two.made)) in
    ap value one.other_is ∙ inline_made one.now ∙ ap (λ (c : Enclosed). Braced c.opening c.entries) now ∙ sym (inline_made two.now) ∙ ap value (sym two.other_is)

-- one is an array, the other none
not_alike : (P : ℕ → Items → Items → Type 0) (Q : Address → Address → Items → Items → Type 0) (steps : Address) (was other too more : Value)
    → ChangesArray P steps was other → ChangesTable Q steps too more → value was ≡ value too → ⊥
not_alike P Q steps was other too more one two same = no_array one.old two.old (ap value (sym one.was_is) ∙ same ∙ ap value two.was_is)

taken_alike : (layout : Layout) (steps : Address) (was other too more : Value) → TakesHeld layout steps was other → TakesHeld layout steps too more
    → value was ≡ value too → value other ≡ value more
taken_alike layout steps was other too more (inl one) (inl two) same =
    array_changed (TakesOne layout) (TakesOne layout) (λ i a b c d old here there. taking_same layout i a b c d here there old) steps was other too more one two same
taken_alike layout steps was other too more (inr one) (inr two) same =
    table_changed (TakesPairs layout) (TakesPairs layout) (pairs_taken_same layout) steps was other too more one two same
taken_alike layout steps was other too more (inl one) (inr two) same =
    absurd (not_alike (TakesOne layout) (TakesPairs layout) steps was other too more one two same)
taken_alike layout steps was other too more (inr one) (inl two) same =
    absurd (not_alike (TakesOne layout) (TakesPairs layout) steps too more was other two one (sym same))

-- the last of the spellings are the same
last_same : (spelled twin : List (String Global)) (steps : Address) → map string_bytes spelled ≡ map string_bytes twin → last_parts spelled steps ≡ last_parts twin steps
last_same spelled twin steps same =
    drop_mapped string_bytes (length spelled - length steps) spelled
    ∙ ap₂ (λ n l. drop (n - length steps) l) (sym (length-map spelled string_bytes) ∙ ap length same ∙ length-map twin string_bytes) same
    ∙ sym (drop_mapped string_bytes (length twin - length steps) twin)

put_alike : (layout : Layout) (spelled twin : List (String Global)) (texts : map string_bytes spelled ≡ map string_bytes twin) (steps : Address)
    (new same was other too more : Value) → PutsHeld layout spelled new steps was other
    → PutsHeld layout twin same steps too more → value new ≡ value same → value was ≡ value too → value other ≡ value more
put_alike layout spelled twin texts steps new same was other too more (inl one) (inl two) alike is =
    array_changed (λ i. PutsItem layout i None new) (λ i. PutsItem layout i None same)
    (λ i a b c d old here there. putting_same layout i None None new same a b c d here there refl alike old) steps was other too more one two is
put_alike layout spelled twin texts steps new same was other too more (inr one) (inr two) alike is =
    table_changed (λ parent rest. PutsPair layout (last_parts spelled rest) new parent) (λ parent rest. PutsPair layout (last_parts twin rest) same parent)
    (λ parent rest a b c d old here there. pair_put_same layout (last_parts spelled rest) new same parent a b c d old alike here
    (subst (λ l. PutsPair layout l same parent b d) (sym (last_same spelled twin rest texts)) there)) steps was other too more one two is
put_alike layout spelled twin texts steps new same was other too more (inl one) (inr two) alike is =
    absurd (not_alike (λ i. PutsItem layout i None new) (λ parent rest. PutsPair layout (last_parts twin rest) same parent) steps was other too more one two is)
put_alike layout spelled twin texts steps new same was other too more (inr one) (inl two) alike is =
    absurd (not_alike (λ i. PutsItem layout i None same) (λ parent rest. PutsPair layout (last_parts spelled rest) new parent) steps too more was other two one (sym is))

-- ---- what holds it

array_holds : (P : ℕ → Items → Items → Type 0) (steps : Address) (was other : Value) → ChangesArray P steps was other → IsHolder steps (value was)
array_holds P steps was other one = inl ((entries one.old.value).opening, (entries one.old.value).entries, one.index, ap value one.was_is ∙ array_made one.old, one.named)

table_holds : (P : Address → Address → Items → Items → Type 0) (steps : Address) (was other : Value) → ChangesTable P steps was other → IsHolder steps (value was)
table_holds P steps was other one =
    inr ((entries one.old.value).opening, (entries one.old.value).entries, one.parent, one.last, ap value one.was_is ∙ inline_made one.old, one.split, one.innermost)

taken_holds : (layout : Layout) → Holding (TakesHeld layout)
taken_holds layout steps was other (inl one) = array_holds (TakesOne layout) steps was other one
taken_holds layout steps was other (inr one) = table_holds (TakesPairs layout) steps was other one

put_holds : (layout : Layout) (spelled : List (String Global)) (new : Value) → Holding (PutsHeld layout spelled new)
put_holds layout spelled new steps was other (inl one) = array_holds (λ i. PutsItem layout i None new) steps was other one
put_holds layout spelled new steps was other (inr one) = table_holds (λ parent rest. PutsPair layout (last_parts spelled rest) new parent) steps was other one

pub taken_is_one : TakenIsOne
taken_is_one layout steps old now new apart one two =
    held_one (TakesHeld layout) (TakesHeld layout) (taken_holds layout) (taken_holds layout) (taken_alike layout) old apart steps now new one two

pub put_is_one : PutIsOne
put_is_one layout spelled twin steps put same old now new apart texts alike one two =
    held_one (PutsHeld layout spelled put) (PutsHeld layout twin same) (put_holds layout spelled put) (put_holds layout twin same)
    (λ at was other too more here there is. put_alike layout spelled twin texts at put same was other too more here there alike is) old apart steps now new one two
