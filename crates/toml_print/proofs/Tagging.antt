-- JSON that is built item by item and entry by entry stands for the data.
use Rattle.std.proofs.Common.{◌≡◌, ℕ, suc, Bool, true, false, cond, List, [], ◌∷◌, ◌++◌, length, map, Option, Some, None, IsSome, Contains, String, Global, Less, Equal, Greater, slice_get, refl, sym, ap, ◌∙◌, subst, append_assoc, length-append, arith, inl, string_bytes, string_cmp, nat_cmp}
use Rattle.std.proofs.lemmas.Cmp.{nat_list_cmp_total, tied_itself}
use Rattle.std.proofs.lemmas.Map.Text.{is_eq-slice_cmp}
use Rattle.std.proofs.lemmas.Slice.Eq.{bytes_eq-Decides}
use Rattle.std.specs.BTreeMap.{is_at}
use Rattle.std.specs.Cmp.Lexicographic.{slice_cmp}
use Rattle.std.specs.List.{AllByRecursion}
use Rattle.std.specs.List.Sorted.{IsStrictlySortedBy}
use Rattle.std.specs.Map.{keys_of, lookup}
use Rattle.std.specs.Ordering.{ordering_reverse}
use Rattle.serde_json.specs.Data.{Data, array, object, Items, no_items, item, Members, no_members, member, put}
use Rattle.serde_json.specs.View.{items_of}
use Rattle.toml_names.specs.declared.model.datum.Datum.{Datum}
use Rattle.toml_names.specs.model.Data.{Kinds, within, in_array, in_table}
use Rattle.toml_print.specs.Tagged.{IsTagged, AreItems, AreMembers, keys, kinds_of}

-- item for item, the JSON stands for the data
abbrev pub TagItems : List Kinds → Items → Type 0
TagItems [] no_items = Unit {0}
TagItems [] (item j js) = ⊥
TagItems (f ∷ fs) no_items = ⊥
TagItems (f ∷ fs) (item j js) = IsTagged f j × TagItems fs js

-- one more item
pub TagItems-push : (fs : List Kinds) (js : List Data) (f : Kinds) (j : Data) → TagItems fs (items_of js) → IsTagged f j → TagItems (fs ++ f ∷ []) (items_of (js ++ j ∷ []))
TagItems-push [] [] f j h t = (t, tt)
TagItems-push [] (k ∷ js) f j h t = absurd h
TagItems-push (e ∷ fs) [] f j h t = absurd h
TagItems-push (e ∷ fs) (k ∷ js) f j h t = (h.0, TagItems-push fs js f j h.1 t)

slice_get-middle : (done more : List Kinds) (f : Kinds) → slice_get (done ++ f ∷ more) (length done) ≡ Some f
slice_get-middle [] more f = refl
slice_get-middle (e ∷ done) more f = slice_get-middle done more f

slice_get-end : (done : List Kinds) → slice_get (done ++ []) (length done) ≡ None
slice_get-end [] = refl
slice_get-end (e ∷ done) = slice_get-end done

items_from : (done fs : List Kinds) (js : Items) → TagItems fs js → AreItems (in_array (done ++ fs)) (length done) js
items_from done [] no_items t = ap (λ o. within o []) (slice_get-end done)
items_from done [] (item j js) t = absurd t
items_from done (f ∷ fs) no_items t = absurd t
items_from done (f ∷ fs) (item j js) t = (
  subst (λ (o : Option Kinds). IsTagged (within o) j) (sym (slice_get-middle done fs f)) t.0,
  subst (λ i. AreItems (in_array (done ++ f ∷ fs)) i js) (length-append done (f ∷ []))
      (subst (λ all. AreItems (in_array all) (length (done ++ f ∷ [])) js) (append_assoc done (f ∷ []) fs) (items_from (done ++ f ∷ []) fs js t.1)),
)

-- the whole array
pub array_tagged : (fs : List Kinds) (js : Items) → TagItems fs js → IsTagged (in_array fs) (array js)
array_tagged fs js t = (refl, items_from [] fs js t)

abbrev pub Entry : Type 0
Entry = String Global × Kinds

-- entry for entry, the JSON stands for the data
abbrev pub TagMembers : List Entry → Members → Type 0
TagMembers [] no_members = Unit {0}
TagMembers [] (member k j js) = ⊥
TagMembers (e ∷ es) no_members = ⊥
TagMembers (e ∷ es) (member k j js) = (k ≡ string_bytes e.0) × IsTagged e.1 j × TagMembers es js

abbrev pub AreSorted : List (String Global) → Type 0
AreSorted = IsStrictlySortedBy string_cmp

-- whether it is the name's key
abbrev is_named : List ℕ → String Global → Bool
is_named n = is_at (λ k. slice_cmp nat_cmp n (string_bytes k))

below_middle : (k : String Global) (done : List Entry) (e : Entry) (more : List Entry) → AllByRecursion (λ y. string_cmp k y ≡ Less) (keys_of (done ++ e ∷ more)) → string_cmp k e.0 ≡ Less
below_middle k [] e more h = h.0
below_middle k (x ∷ done) e more h = below_middle k done e more h.1

-- the other way round
above : (k l : String Global) → string_cmp k l ≡ Less → slice_cmp nat_cmp (string_bytes l) (string_bytes k) ≡ Greater
above k l h = nat_list_cmp_total.antisymm (string_bytes l) (string_bytes k) ∙ ap ordering_reverse h

same_text : (xs : List ℕ) → slice_cmp nat_cmp xs xs ≡ Equal
same_text xs = tied_itself nat_list_cmp_total xs

lookup-middle : (done : List Entry) (e : Entry) (more : List Entry) → AreSorted (keys_of (done ++ e ∷ more)) → lookup (is_named (string_bytes e.0)) (done ++ e ∷ more) ≡ Some e.1
unfolding IsStrictlySortedBy
lookup-middle [] e more h = rw same_text
lookup-middle (first ∷ done) e more h =
    let passed : slice_cmp nat_cmp (string_bytes e.0) (string_bytes first.0) ≡ Greater = above first.0 e.0 (below_middle first.0 done e more h.0) in
    rw passed (lookup-middle done e more h.1)

-- one more member, whose key is above those before it
pub TagMembers-put : (done : List Entry) (js : Members) (e : Entry) (more : List Entry) (j : Data) → AreSorted (keys_of (done ++ e ∷ more)) → TagMembers done js → IsTagged e.1 j
    → TagMembers (done ++ e ∷ []) (put (string_bytes e.0) j js)
unfolding IsStrictlySortedBy
TagMembers-put [] no_members e more j h t tagged = (refl, tagged, tt)
TagMembers-put [] (member k c js) e more j h t tagged = absurd t
TagMembers-put (first ∷ done) no_members e more j h t tagged = absurd t
TagMembers-put (first ∷ done) (member k c js) e more j h t tagged =
    let passed : slice_cmp nat_cmp (string_bytes e.0) k ≡ Greater = ap (slice_cmp nat_cmp (string_bytes e.0)) t.0 ∙ above first.0 e.0 (below_middle first.0 done e more h.0) in
    rw passed (t.0, t.1, TagMembers-put done js e more j h.1 t.2 tagged)

members_from : (done es : List Entry) (js : Members) → AreSorted (keys_of (done ++ es)) → TagMembers es js → AreMembers (in_table (done ++ es)) js
members_from done [] no_members sorted t = tt
members_from done [] (member k j js) sorted t = absurd t
members_from done (e ∷ es) no_members sorted t = absurd t
members_from done (e ∷ es) (member k j js) sorted t =
    let found : lookup (is_named k) (done ++ e ∷ es) ≡ Some e.1 = ap (λ n. lookup (is_named n) (done ++ e ∷ es)) t.0 ∙ lookup-middle done e es sorted in
    let all : (done ++ e ∷ []) ++ es ≡ done ++ e ∷ es = append_assoc done (e ∷ []) es in (
      subst (λ (o : Option Kinds). IsTagged (within o) j) (sym found) t.1,
      subst (λ es. AreMembers (in_table es) js) all (members_from (done ++ e ∷ []) es js (subst (λ es. AreSorted (keys_of es)) (sym all) sorted) t.2),
    )

Contains-later : (n k : List ℕ) (ks : List (List ℕ)) → Contains ks n → Contains (k ∷ ks) n
Contains-later n k ks h = (suc h.0, omega (arith, h.1), h.2)

-- a name where something stands is a key
keys_named : (n : List ℕ) (es : List Entry) (js : Members) → TagMembers es js → IsSome (within (lookup (is_named n) es) []) → Contains (keys js) n
keys_named n [] js t h = cc
keys_named n (e ∷ es) no_members t h = absurd t
keys_named n (e ∷ es) (member k j js) t h = by (is_named n e.0) refl (keys_named n es js t.2) h
  where
    by : (b : Bool) → is_named n e.0 ≡ b → (IsSome (within (lookup (is_named n) es) []) → Contains (keys js) n)
        → IsSome (within (cond b (Some e.1) (lookup (is_named n) es)) []) → Contains (k ∷ keys js) n
    by true is later h =
        let same : n ≡ string_bytes e.0 = (bytes_eq-Decides n (string_bytes e.0)).0 (sym (is_eq-slice_cmp n (string_bytes e.0)) ∙ is) in
        (0, omega arith, t.0 ∙ sym same)
    by false is later h = Contains-later n k (keys js) (later h)

below_all : (k : String Global) (es : List Entry) (js : Members) → TagMembers es js → AllByRecursion (λ y. string_cmp k y ≡ Less) (keys_of es) → AllByRecursion (λ y. slice_cmp nat_cmp (string_bytes k) y ≡ Less) (keys js)
below_all k [] no_members t h = tt
below_all k [] (member l j js) t h = absurd t
below_all k (e ∷ es) no_members t h = absurd t
below_all k (e ∷ es) (member l j js) t h = (ap (slice_cmp nat_cmp (string_bytes k)) t.0 ∙ h.0, below_all k es js t.2 h.1)

keys_sorted : (es : List Entry) (js : Members) → TagMembers es js → AreSorted (keys_of es) → IsStrictlySortedBy (slice_cmp nat_cmp) (keys js)
unfolding IsStrictlySortedBy
keys_sorted [] no_members t h = tt
keys_sorted [] (member l j js) t h = absurd t
keys_sorted (e ∷ es) no_members t h = absurd t
keys_sorted (e ∷ es) (member l j js) t h = (
  subst (λ (k : List ℕ). AllByRecursion (λ y. slice_cmp nat_cmp k y ≡ Less) (keys js)) (sym t.0) (below_all e.0 es js t.2 h.0),
  keys_sorted es js t.2 h.1,
)

pub keys_of-kinds : (es : List (String Global × Datum)) → keys_of (map kinds_of es) ≡ keys_of es
keys_of-kinds [] = refl
keys_of-kinds (e ∷ es) = ap (λ ks. e.0 ∷ ks) (keys_of-kinds es)

-- the whole table
pub table_tagged : (es : List Entry) (js : Members) → AreSorted (keys_of es) → TagMembers es js → IsTagged (in_table es) (object js)
table_tagged es js sorted t = inl (refl, members_from [] es js sorted t, record { each = λ n. keys_named n es js t; ascending = keys_sorted es js t sorted })
