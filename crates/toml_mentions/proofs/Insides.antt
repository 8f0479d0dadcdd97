-- What lies in values, by whether these are on the way.
use Rattle.std.proofs.Common.{◌≡◌, ◌⊎◌, inl, inr, ◌<◌, ◌≤◌, ◌+◌, ◌-◌, ℕ, zero, suc, Bool, true, false, List, [], ◌∷◌, ◌++◌, map, length, take, get_or, Option, Some, None, refl, sym, ap, ◌∙◌, subst, arith, append-nil}
use Rattle.std.specs.Prelude.{slice_get}
use Rattle.std.specs.Global.{Box}
use Rattle.std.specs.List.{flat_map}
use Rattle.std.proofs.lemmas.List.{flat_map_more, length-map, take_more}
use Rattle.std.proofs.lemmas.Option.{none-some}
use Rattle.toml_tree.specs.ReadingValues.{Element, Member, before_end, pairs_before_end}
use Rattle.toml_tree.specs.Tree.{Piece, Dotted, Assign, Value, Scalar, Array, Inline, Items, Close, Last, More, Pairs, ClosePairs, LastPair, MorePairs}
use Rattle.toml_tree.specs.Tree as tree
use Rattle.toml_tree.specs.View.{array_items, array_step, element as item_element, gap, inline_step, item_step, key, keyval, keyval_step, last_ends, last_pairs, member, pair_step, table_pairs, value, value_step}
use Rattle.toml_tree.specs.declared.piece.Gap.{Gap}
use Rattle.toml_tree.specs.declared.tree.Array.{Array as MadeArray}
use Rattle.toml_tree.specs.declared.tree.InlineTable.{InlineTable}
use Rattle.toml_tree.specs.declared.tree.Item.{Item}
use Rattle.toml_tree.specs.declared.tree.KeyVal.{KeyVal as MadeKeyVal}
use Rattle.toml_tree.specs.declared.tree.Pair.{Pair}
use Rattle.toml_tree.specs.declared.tree.Value.{Value as MadeValue}
use Rattle.toml_tree.specs.declared.tree.Value.TheVariants as made
use Rattle.toml_tree.specs.declared.tree.Value.TheViews.{out-Array, out-InlineTable}
use Rattle.toml_tree.proofs.Proved.{keyval_is, value_array, value_inline}
use Rattle.toml_tree.specs.declared.tree.Value.TheFolds.{fold_out-Item, fold_out-Pair}
use Rattle.toml_names.specs.declared.model.address.Step.TheVariants.{Name, Index}
use Rattle.toml_names.specs.mentions.Keys.{part_name}
use Rattle.toml_names.specs.model.Addresses.{Address, child, element}
use Rattle.toml_mentions.specs.Sought.{IsKeySeen, Part, Sees, element_parts, inside_parts, key_end, key_parts, member_parts, pair_parts, sights, way_to}
use Rattle.toml_mentions.specs.declared.seeker.Seeker.{Seeker}
use Rattle.toml_mentions.proofs.Sights.{sees_none, sees_on, sees_then, sights-append, sights_apart}
use Rattle.toml_mentions.proofs.Ways.{off, off_apart}

-- nothing in what is off the way
module _ (t : Address) where
  both_none : (ps qs : List Part) → sights t ps ≡ [] → sights t qs ≡ [] → sights t (ps ++ qs) ≡ []
  both_none ps qs p q = sights-append t ps qs ∙ (ap (λ l. l ++ sights t qs) p ∙ q)

  one_none : (p : Part) (ps : List Part) → None ≡ way_to t p.address → sights t ps ≡ [] → sights t (p ∷ ps) ≡ []
  one_none p ps h rest = both_none (p ∷ []) ps (sights_apart t p (off_apart t p.address h)) rest

  pub keys_off : (q : Address) (p : Piece) (ds : List Dotted) → None ≡ way_to t q → sights t (key_parts q p ds) ≡ []
  keys_off q p [] h = one_none _ [] (off t q (Name (part_name p)) h) refl
  keys_off q p (d ∷ ds) h = one_none _ (key_parts (child q (part_name p)) d.part ds) (off t q (Name (part_name p)) h) (keys_off (child q (part_name p)) d.part ds (off t q (Name (part_name p)) h))

  pub end_off : (q : Address) (p : Piece) (ds : List Dotted) → None ≡ way_to t q → None ≡ way_to t (key_end q p ds)
  end_off q p [] h = off t q (Name (part_name p)) h
  end_off q p (d ∷ ds) h = end_off (child q (part_name p)) d.part ds (off t q (Name (part_name p)) h)

  mutual
    pub inside_off : (q : Address) (v : Value) → None ≡ way_to t q → sights t (inside_parts q v) ≡ []
    inside_off q (Scalar kind p) h = refl
    inside_off q (Array whole items) h = elements_off q 0 items h
    inside_off q (Inline whole pairs) h = members_off q pairs h

    elements_off : (q : Address) (i : ℕ) (items : Items) → None ≡ way_to t q → sights t (element_parts q i items) ≡ []
    elements_off q i (Close g) h = refl
    elements_off q i (Last g v h') h = inside_off (element q i) v (off t q (Index i) h)
    elements_off q i (More g v h' is) h =
        both_none (inside_parts (element q i) v) (element_parts q (i + 1) is) (inside_off (element q i) v (off t q (Index i) h)) (elements_off q (i + 1) is h)

    members_off : (q : Address) (pairs : Pairs) → None ≡ way_to t q → sights t (member_parts q pairs) ≡ []
    members_off q (ClosePairs g) h = refl
    members_off q (LastPair g a v h') h =
        both_none (key_parts q a.key.first a.key.rest) (inside_parts (key_end q a.key.first a.key.rest) v) (keys_off q a.key.first a.key.rest h)
        (inside_off (key_end q a.key.first a.key.rest) v (end_off q a.key.first a.key.rest h))
    members_off q (MorePairs g a v h' ps) h =
        both_none (key_parts q a.key.first a.key.rest ++ inside_parts (key_end q a.key.first a.key.rest) v) (member_parts q ps)
        (both_none (key_parts q a.key.first a.key.rest) (inside_parts (key_end q a.key.first a.key.rest) v) (keys_off q a.key.first a.key.rest h)
        (inside_off (key_end q a.key.first a.key.rest) v (end_off q a.key.first a.key.rest h))) (members_off q ps h)

-- the elements of an array, from an index on
abbrev pub elements_from : Address → ℕ → List Element → List Part
elements_from at i [] = []
elements_from at i (e ∷ es) = inside_parts (element at i) e.value ++ elements_from at (i + 1) es

-- the pairs of an inline table
abbrev pub of_member : Address → Member → List Part
of_member at m = pair_parts at m.pair.assign m.pair.value

before_end_is : (at : Address) (i : ℕ) (es : List Element) (g : _) → element_parts at i (before_end es (Close g)) ≡ elements_from at i es
before_end_is at i [] g = refl
before_end_is at i (e ∷ es) g = ap (λ l. inside_parts (element at i) e.value ++ l) (before_end_is at (i + 1) es g)

last_ends_is : (at : Address) (i : ℕ) (es : List Element) → element_parts at i (last_ends es) ≡ elements_from at i es
last_ends_is at i [] = refl
last_ends_is at i (e ∷ []) = sym (append-nil (inside_parts (element at i) e.value))
last_ends_is at i (e ∷ f ∷ es) = ap (λ l. inside_parts (element at i) e.value ++ l) (last_ends_is at (i + 1) (f ∷ es))

pub items_are : (at : Address) (es : List Element) (end : Option Gap) → element_parts at 0 (array_items es end) ≡ elements_from at 0 es
items_are at es None = last_ends_is at 0 es
items_are at es (Some g) = before_end_is at 0 es _

before_pairs_is : (at : Address) (ms : List Member) (g : _) → member_parts at (pairs_before_end ms (ClosePairs g)) ≡ flat_map (of_member at) ms
before_pairs_is at [] g = refl
before_pairs_is at (m ∷ ms) g = ap (λ l. pair_parts at m.pair.assign m.pair.value ++ l) (before_pairs_is at ms g)

last_pairs_is : (at : Address) (ms : List Member) → member_parts at (last_pairs ms) ≡ flat_map (of_member at) ms
last_pairs_is at [] = refl
last_pairs_is at (m ∷ []) = sym (append-nil (pair_parts at m.pair.assign m.pair.value))
last_pairs_is at (m ∷ n ∷ ms) = ap (λ l. pair_parts at m.pair.assign m.pair.value ++ l) (last_pairs_is at (n ∷ ms))

pub pairs_are : (at : Address) (ms : List Member) (end : Option Gap) → member_parts at (table_pairs ms end) ≡ flat_map (of_member at) ms
pairs_are at ms None = last_pairs_is at ms
pairs_are at ms (Some g) = before_pairs_is at ms _

-- the layers of a tree
pub member_is : (p : Pair) → member p ≡ record { before = gap p.before; pair = keyval p.keyval; after = gap p.after }
member_is = fold_out-Pair tree.Value tree.Value tree.Value Element tree.KeyVal Member value_step array_step inline_step item_step keyval_step pair_step

pub element_is : (i : Item) → item_element i ≡ record { before = gap i.before; value = value i.value; after = gap i.after }
element_is = fold_out-Item tree.Value tree.Value tree.Value Element tree.KeyVal Member value_step array_step inline_step item_step keyval_step pair_step

pub pairs_more : (at : Address) (ms : List Member) (i : ℕ) (m : Member) → i < length ms → m ≡ get_or ms i m
    → flat_map (of_member at) (take (i + 1) ms) ≡ flat_map (of_member at) (take i ms) ++ of_member at m
pairs_more at ms i m low is =
    ap (flat_map (of_member at)) (subst (λ x. take (i + 1) ms ≡ take i ms ++ x ∷ []) (sym is) (take_more ms i m low))
    ∙ sym (flat_map_more (of_member at) [] (take i ms) m)

-- only one element is on the way
module _ (t at : Address) (k : ℕ) (others : (j : ℕ) → ¬ (j ≡ k) → None ≡ way_to t (element at j)) where
  from_none : (i : ℕ) (es : List Element) → (k < i) ⊎ (i + length es ≤ k) → sights t (elements_from at i es) ≡ []
  from_none i [] h = refl
  from_none i (e ∷ es) (inl low) =
      both_none t (inside_parts (element at i) e.value) (elements_from at (i + 1) es) (inside_off t (element at i) e.value (others i (λ same. omega (arith, same, low)))) (from_none (i + 1) es (inl (omega (arith, low))))
  from_none i (e ∷ es) (inr far) =
      both_none t (inside_parts (element at i) e.value) (elements_from at (i + 1) es) (inside_off t (element at i) e.value (others i (λ same. omega (arith, same, far)))) (from_none (i + 1) es (inr (omega (arith, far))))

  pub no_element : (es : List Element) → length es ≤ k → sights t (elements_from at 0 es) ≡ []
  no_element es far = from_none 0 es (inr (omega (arith, far)))

  from_one : (i n : ℕ) (es : List Element) (e : Element) → i + n ≡ k → slice_get es n ≡ Some e → sights t (elements_from at i es) ≡ sights t (inside_parts (element at k) e.value)
  from_one i n [] e is here = absurd (none-some e here)
  from_one i zero (f ∷ es) e is here =
      let same : f ≡ e = cc in
      let at_k : i ≡ k = omega (arith, is) in
      sights-append t (inside_parts (element at i) f.value) (elements_from at (i + 1) es)
      ∙ (ap (λ l. sights t (inside_parts (element at i) f.value) ++ l) (from_none (i + 1) es (inl (omega (arith, is))))
      ∙ (append-nil (sights t (inside_parts (element at i) f.value))
      ∙ (ap (λ j. sights t (inside_parts (element at j) f.value)) at_k ∙ ap (λ (g : Element). sights t (inside_parts (element at k) g.value)) same)))
  from_one i (suc n) (f ∷ es) e is here =
      sights-append t (inside_parts (element at i) f.value) (elements_from at (i + 1) es)
      ∙ (ap (λ l. l ++ sights t (elements_from at (i + 1) es)) (inside_off t (element at i) f.value (others i (λ same. omega (arith, same, is))))
      ∙ from_one (i + 1) n es e (omega (arith, is)) here)

  pub one_element : (es : List Element) (d : Element) → k < length es → sights t (elements_from at 0 es) ≡ sights t (inside_parts (element at k) (get_or es k d).value)
  one_element es d low = from_one 0 k es (get_or es k d) (omega arith) (get_there es k d low)
    where
      get_there : {A : Type 0} (xs : List A) (i : ℕ) (d : A) → i < length xs → slice_get xs i ≡ Some (get_or xs i d)
      get_there [] i d low = absurd (omega (arith, low))
      get_there (x ∷ xs) zero d low = refl
      get_there (x ∷ xs) (suc i) d low = get_there xs i d (omega (arith, low))

-- nor is one, where none is on the way
pub all_elements_off : (t at : Address) → ((j : ℕ) → None ≡ way_to t (element at j)) → (i : ℕ) (es : List Element) → sights t (elements_from at i es) ≡ []
all_elements_off t at each i [] = refl
all_elements_off t at each i (e ∷ es) =
    both_none t (inside_parts (element at i) e.value) (elements_from at (i + 1) es) (inside_off t (element at i) e.value (each i)) (all_elements_off t at each (i + 1) es)

-- what a value's layers hold
pub array_parts : (at : Address) (b : Box MadeArray) (node : MadeValue) (items : List Item) → node ≡ made.Array b → items ≡ (out-Array b.value).items.items
    → inside_parts at (value node) ≡ element_parts at 0 (array_items (map item_element items) (out-Array b.value).end)
array_parts at b node items is items_are =
    ap (inside_parts at) (ap value is ∙ value_array b) ∙ ap (λ l. element_parts at 0 (array_items (map item_element l) (out-Array b.value).end)) (sym items_are)

pub table_pairs_are : (at : Address) (b : Box InlineTable) (node : MadeValue) (pairs : List Pair) → node ≡ made.Inline b → pairs ≡ (out-InlineTable b.value).pairs.items
    → inside_parts at (value node) ≡ flat_map (of_member at) (map member pairs)
table_pairs_are at b node pairs is pairs_are' =
    ap (inside_parts at) (ap value is ∙ value_inline b)
    ∙ (pairs_are at (map member (out-InlineTable b.value).pairs.items) (out-InlineTable b.value).end ∙ ap (λ l. flat_map (of_member at) (map member l)) (sym pairs_are'))

map_get : {A B : Type 0} (f : A → B) (xs : List A) (i : ℕ) (d : A) → get_or (map f xs) i (f d) ≡ f (get_or xs i d)
map_get f [] i d = refl
map_get f (x ∷ xs) zero d = refl
map_get f (x ∷ xs) (suc i) d = map_get f xs i d

-- one pair more was seen
pub member_seen : (old mid new : Seeker) (at : Address) (xs : List Pair) (i : ℕ) (x : Pair) → i < length xs → x ≡ get_or xs i x
    → Sees old mid (sights old.target.now (flat_map (of_member at) (take i (map member xs))))
    → Sees mid new (sights mid.target.now (pair_parts at (keyval x.keyval).assign (keyval x.keyval).value))
    → Sees old new (sights old.target.now (flat_map (of_member at) (take (i + 1) (map member xs))))
member_seen old mid new at xs i x low is before sees =
    let there : member x ≡ get_or (map member xs) i (member x) = ap member is ∙ sym (map_get member xs i x) in
    let room : i < length (map member xs) = omega (arith, low, length-map xs member) in
    let pair : (member x).pair ≡ keyval x.keyval = ap (λ (m : Member). m.pair) (member_is x) in
    let here : Sees mid new (sights mid.target.now (of_member at (member x))) = subst (λ k. Sees mid new (sights mid.target.now (pair_parts at k.assign k.value))) (sym pair) sees in
    subst (λ l. Sees old new (sights old.target.now l)) (sym (pairs_more at (map member xs) i (member x) room there))
    (sees_then old mid new (flat_map (of_member at) (take i (map member xs))) (of_member at (member x)) before here)

-- the one element on the way was seen
pub element_seen : (old mid new : Seeker) (at : Address) (items : List Item) (end : Option Gap) (k : ℕ) (x : Item) → ((j : ℕ) → ¬ (j ≡ k) → None ≡ way_to old.target.now (element at j))
    → k < length items → x ≡ get_or items k x → Sees old mid [] → Sees mid new (sights mid.target.now (inside_parts (element at k) (value x.value)))
    → Sees old new (sights old.target.now (element_parts at 0 (array_items (map item_element items) end)))
element_seen old mid new at items end k x others low is first sees =
    let es = map item_element items in
    let t = old.target.now in
    let room : k < length es = omega (arith, low, length-map items item_element) in
    let there : get_or es k (item_element x) ≡ item_element x = map_get item_element items k x ∙ ap item_element (sym is) in
    let holds : (get_or es k (item_element x)).value ≡ value x.value = ap (λ (e : Element). e.value) (there ∙ element_is x) in
    let all : sights t (element_parts at 0 (array_items es end)) ≡ sights t (inside_parts (element at k) (value x.value)) =
    ap (sights t) (items_are at es end) ∙ (one_element t at k others es (item_element x) room ∙ ap (λ v. sights t (inside_parts (element at k) v)) holds) in
    let here : Sees mid new (sights t (inside_parts (element at k) (value x.value))) =
    subst (λ q. Sees mid new (sights q.now (inside_parts (element at k) (value x.value)))) first.target sees in
    subst (Sees old new) (sym all) (sees_on old mid new [] (sights t (inside_parts (element at k) (value x.value))) first here)

-- a key and its value were seen
pub keyval_seen : (old mid new : Seeker) (at : Address) (k : MadeKeyVal) (way : Option ℕ) → IsKeySeen old mid at (key k.assign.key) way
    → Sees mid new (sights mid.target.now (inside_parts (key_end at (key k.assign.key).first (key k.assign.key).rest) (value k.value)))
    → Sees old new (sights old.target.now (pair_parts at (keyval k).assign (keyval k).value))
keyval_seen old mid new at k way seen sees =
    let q = key k.assign.key in
    subst (λ kv. Sees old new (sights old.target.now (pair_parts at kv.assign kv.value))) (sym (keyval_is k))
    (sees_then old mid new (key_parts at q.first q.rest) (inside_parts (key_end at q.first q.rest) (value k.value)) seen.sees sees)

pub keyval_off : (old mid : Seeker) (at : Address) (k : MadeKeyVal) → IsKeySeen old mid at (key k.assign.key) None → Sees old mid (sights old.target.now (pair_parts at (keyval k).assign (keyval k).value))
keyval_off old mid at k seen =
    let q = key k.assign.key in
    let off_way : None ≡ way_to mid.target.now (key_end at q.first q.rest) = seen.is ∙ ap (λ t. way_to t.now (key_end at q.first q.rest)) (sym seen.sees.target) in
    keyval_seen old mid mid at k None seen (subst (Sees mid mid) (sym (inside_off mid.target.now (key_end at q.first q.rest) (value k.value) off_way)) (sees_none mid))
