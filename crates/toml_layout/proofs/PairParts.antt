-- Where a pair is put in, by what the working tree has there.
use Rattle.std.proofs.Common.{◌≡◌, ◌≢◌, ◌∙◌, ◌-◌, ◌≤◌, ℕ, false, List, [], ◌∷◌, length, Option, Some, None, refl, ap}
use Rattle.std.proofs.lemmas.Option.{slice_get-map, slice_get_past}
use Rattle.std.specs.Prelude.{option_and_then, option_map, slice_get}
use Rattle.toml_lists.specs.Gaps.{items}
use Rattle.toml_names.specs.model.Addresses.{Address}
use Rattle.toml_layout.specs.declared.tree.Entries.{Entries}
use Rattle.toml_layout.specs.declared.tree.Entry.{Entry}
use Rattle.toml_layout.specs.declared.tree.Value.TheViews.{out-Entries}
use Rattle.toml_layout.specs.Items.{Item, item, items_of}
use Rattle.toml_layout.specs.Leading.{pair_key}
use Rattle.toml_layout.specs.PairPlaces.{IsPlaceBelow, equals_above, goes_on, goes_on_at, item_equals, item_key}
use Rattle.toml_layout.proofs.ItemGaps.{item_at}
use Rattle.toml_layout.proofs.TakenParts.{above_at}

-- whether the key of the pair with the index goes on
pub goes_on_is : (e : Entries) (steps : Address) (i : ℕ) → goes_on_at steps (items_of e).list i ≡ goes_on steps (option_and_then pair_key (slice_get (items (out-Entries e).list) i))
goes_on_is e steps i = ap (λ o. goes_on steps (option_and_then item_key o)) (item_at e i) ∙ by (slice_get (items (out-Entries e).list) i)
  where
    by : (o : Option Entry) → goes_on steps (option_and_then item_key (option_map item o)) ≡ goes_on steps (option_and_then pair_key o)
    by None = refl
    by (Some x) = refl

-- none does behind the last one
pub none_past : (e : Entries) (steps : Address) (i : ℕ) → length (items_of e).list ≤ i → goes_on_at steps (items_of e).list i ≡ false
none_past e steps i past = ap (λ o. goes_on steps (option_and_then item_key o)) (slice_get_past (items_of e).list i past)

pub no_parent : (parent : Address) (list : List Item) (i : ℕ) → parent ≡ [] → i ≡ length list → IsPlaceBelow parent list i
no_parent [] list i none is = is
no_parent (s ∷ parent) list i none is = cc

-- what stands around the `=` of the pair before the index
pub equals_is : (e : Entries) (i : ℕ) (x : Entry) → i ≢ 0 → slice_get (items (out-Entries e).list) (i - 1) ≡ Some x → equals_above (items_of e) i ≡ item_equals (item x)
equals_is e i x some here =
    ap (option_and_then item_equals) (above_at (items_of e) i some ∙ slice_get-map item (items (out-Entries e).list) (i - 1) ∙ ap (option_map item) here)

pub no_equals : (e : Entries) (i : ℕ) → i ≢ 0 → slice_get (items (out-Entries e).list) (i - 1) ≡ None → equals_above (items_of e) i ≡ None
no_equals e i some none =
    ap (option_and_then item_equals) (above_at (items_of e) i some ∙ slice_get-map item (items (out-Entries e).list) (i - 1) ∙ ap (option_map item) none)
