-- Values that are found in a value at steps.
use Rattle.std.proofs.Common.{◌≡◌, ◌≢◌, ◌⊎◌, ◌+◌, ℕ, zero, suc, true, false, List, [], ◌∷◌, ◌++◌, Option, Some, None, is_some, slice_get, Bor, refl, sym, ap, ◌∙◌, subst, arith, inl, inr}
use Rattle.toml_tree.specs.ReadingValues.{Element, Member, before_end, pairs_before_end}
use Rattle.toml_tree.specs.Tree.{Piece, Gap, Value, Scalar, Array, Inline, Close, ClosePairs, KeyVal, Expr}
use Rattle.toml_tree.specs.View.{array_items, last_ends, table_pairs, last_pairs}
use Rattle.toml_tree.specs.declared.piece.Gap as code
use Rattle.toml_names.specs.declared.model.address.Step.TheVariants.{Index}
use Rattle.toml_names.specs.mentions.Keys.{key_names}
use Rattle.toml_names.specs.model.Addresses.{Address, below}
use Rattle.toml_print.specs.Searching.{FindsOne, Finds, IsInItems, FindsInItems, IsInPair, FindsInPair, IsInPairs, FindsInPairs, IsOfLine, FindsOfLine}
use Rattle.toml_print.specs.ValueTexts.{StandsIn, StandsInItems, StandsInPairs, value_of}

-- what is found of one is found of the other, where they are the same
pub finds_alike : (P Q : Value → Type 0) (found : Option (Bor (List ℕ))) → ((w : Value) → P w → Q w) → ((w : Value) → Q w → P w) → FindsOne P found → FindsOne Q found
finds_alike P Q None to back none = λ w q. none w (back w q)
finds_alike P Q (Some text) to back some = (some.0, to some.0 some.1, some.2)

-- a value stands in itself at no steps
itself : (v : Value) → StandsIn v [] v
itself (Scalar kind p) = (refl, refl)
itself (Array whole items) = inl (refl, refl)
itself (Inline whole pairs) = inl (refl, refl)

-- an element from an index on
abbrev Located : ℕ → List Element → Address → Value → Type 0
Located j es at w = (k : ℕ) × (e : Element) × (rest : Address) × (slice_get es k ≡ Some e) × (at ≡ Index (j + k) ∷ rest) × StandsIn e.value rest w

abbrev First : ℕ → Value → Address → Value → Type 0
First j v at w = (rest : Address) × (at ≡ Index j ∷ rest) × StandsIn v rest w

module _ (at : Address) (w : Value) where
  located_first : (j : ℕ) (e : Element) (es : List Element) → First j e.value at w → Located j (e ∷ es) at w
  located_first j e es (rest, is, stands) = let same : j ≡ j + 0 = omega arith in (0, e, rest, refl, is ∙ ap (λ n. Index n ∷ rest) same, stands)

  located_later : (j : ℕ) (e : Element) (es : List Element) → Located (j + 1) es at w → Located j (e ∷ es) at w
  located_later j e es (k, x, rest, get, is, stands) = let same : (j + 1) + k ≡ j + suc k = omega arith in (suc k, x, rest, get, is ∙ ap (λ n. Index n ∷ rest) same, stands)

  -- the first, or one behind it
  located_split : (j : ℕ) (e : Element) (es : List Element) → Located j (e ∷ es) at w → First j e.value at w ⊎ Located (j + 1) es at w
  located_split j e es (zero, x, rest, get, is, stands) =
      let same : j + 0 ≡ j = omega arith in
      let first : x ≡ e = cc in
      inl (rest, is ∙ ap (λ n. Index n ∷ rest) same, subst (λ (y : Element). StandsIn y.value rest w) first stands)
  located_split j e es (suc k, x, rest, get, is, stands) = let same : j + suc k ≡ (j + 1) + k = omega arith in inr (k, x, rest, get, is ∙ ap (λ n. Index n ∷ rest) same, stands)

  not_located : (j : ℕ) → Located j [] at w → ⊥
  not_located j (k, x, rest, get, is, stands) = let no : None ≡ Some x = get in cc

  in_list : (es : List Element) (j : ℕ) (g : Gap) → StandsInItems j (before_end es (Close g)) at w → Located j es at w
  in_list [] j g h = absurd h
  in_list (e ∷ es) j g (inl h) = located_first j e es h
  in_list (e ∷ es) j g (inr h) = located_later j e es (in_list es (j + 1) g h)

  of_list : (es : List Element) (j : ℕ) (g : Gap) → Located j es at w → StandsInItems j (before_end es (Close g)) at w
  of_list [] j g h = not_located j h
  of_list (e ∷ es) j g h = elim (located_split j e es h) [ inl first ↦ inl first | inr later ↦ inr (of_list es (j + 1) g later) ]

  in_last : (es : List Element) (j : ℕ) → StandsInItems j (last_ends es) at w → Located j es at w
  in_last [] j h = absurd h
  in_last (e ∷ []) j h = located_first j e [] h
  in_last (e ∷ f ∷ es) j (inl h) = located_first j e (f ∷ es) h
  in_last (e ∷ f ∷ es) j (inr h) = located_later j e (f ∷ es) (in_last (f ∷ es) (j + 1) h)

  of_last : (es : List Element) (j : ℕ) → Located j es at w → StandsInItems j (last_ends es) at w
  of_last [] j h = not_located j h
  of_last (e ∷ []) j h = elim (located_split j e [] h) [ inl first ↦ first | inr later ↦ absurd (not_located (j + 1) later) ]
  of_last (e ∷ f ∷ es) j h = elim (located_split j e (f ∷ es) h) [ inl first ↦ inl first | inr later ↦ inr (of_last (f ∷ es) (j + 1) later) ]

  in_array : (es : List Element) (end : Option code.Gap) → StandsInItems 0 (array_items es end) at w → IsInItems es at w
  in_array es end h = from_start (by end h)
    where
      by : (end : Option code.Gap) → StandsInItems 0 (array_items es end) at w → Located 0 es at w
      by (Some g) h = in_list es 0 _ h
      by None h = in_last es 0 h

      from_start : Located 0 es at w → IsInItems es at w
      from_start (k, x, rest, get, is, stands) = let same : 0 + k ≡ k = omega arith in (k, x, rest, get, is ∙ ap (λ n. Index n ∷ rest) same, stands)

  of_array : (es : List Element) (end : Option code.Gap) → IsInItems es at w → StandsInItems 0 (array_items es end) at w
  of_array es end (k, x, rest, get, is, stands) = let same : k ≡ 0 + k = omega arith in by end (k, x, rest, get, is ∙ ap (λ n. Index n ∷ rest) same, stands)
    where
      by : (end : Option code.Gap) → Located 0 es at w → StandsInItems 0 (array_items es end) at w
      by (Some g) h = of_list es 0 _ h
      by None h = of_last es 0 h

  in_pairs : (ms : List Member) (g : Gap) → StandsInPairs (pairs_before_end ms (ClosePairs g)) at w → IsInPairs ms at w
  in_pairs [] g h = absurd h
  in_pairs (m ∷ ms) g (inl h) = inl h
  in_pairs (m ∷ ms) g (inr h) = inr (in_pairs ms g h)

  of_pairs : (ms : List Member) (g : Gap) → IsInPairs ms at w → StandsInPairs (pairs_before_end ms (ClosePairs g)) at w
  of_pairs [] g h = absurd h
  of_pairs (m ∷ ms) g (inl h) = inl h
  of_pairs (m ∷ ms) g (inr h) = inr (of_pairs ms g h)

  in_last_pairs : (ms : List Member) → StandsInPairs (last_pairs ms) at w → IsInPairs ms at w
  in_last_pairs [] h = absurd h
  in_last_pairs (m ∷ []) h = inl h
  in_last_pairs (m ∷ n ∷ ms) (inl h) = inl h
  in_last_pairs (m ∷ n ∷ ms) (inr h) = inr (in_last_pairs (n ∷ ms) h)

  of_last_pairs : (ms : List Member) → IsInPairs ms at w → StandsInPairs (last_pairs ms) at w
  of_last_pairs [] h = absurd h
  of_last_pairs (m ∷ []) (inl h) = h
  of_last_pairs (m ∷ []) (inr h) = absurd h
  of_last_pairs (m ∷ n ∷ ms) (inl h) = inl h
  of_last_pairs (m ∷ n ∷ ms) (inr h) = inr (of_last_pairs (n ∷ ms) h)

  in_table : (ms : List Member) (end : Option code.Gap) → StandsInPairs (table_pairs ms end) at w → IsInPairs ms at w
  in_table ms (Some g) h = in_pairs ms _ h
  in_table ms None h = in_last_pairs ms h

  of_table : (ms : List Member) (end : Option code.Gap) → IsInPairs ms at w → StandsInPairs (table_pairs ms end) at w
  of_table ms (Some g) h = of_pairs ms _ h
  of_table ms None h = of_last_pairs ms h

-- what is found in the elements of an array is found in it,
pub finds_in_array : (whole : Piece) (es : List Element) (end : Option code.Gap) (at : Address) (found : Option (Bor (List ℕ))) → (at ≡ [] → ⊥) → FindsInItems es at found → Finds (Array whole (array_items es end)) at found
finds_in_array whole es end at found some = finds_alike (IsInItems es at) (StandsIn (Array whole (array_items es end)) at) found (λ w h. inr (of_array at w es end h)) back
  where
    back : (w : Value) → StandsIn (Array whole (array_items es end)) at w → IsInItems es at w
    back w (inl h) = absurd (some h.0)
    back w (inr h) = in_array at w es end h

-- and so in an inline table
pub finds_in_inline : (whole : Piece) (ms : List Member) (end : Option code.Gap) (at : Address) (found : Option (Bor (List ℕ))) → (at ≡ [] → ⊥) → FindsInPairs ms at found → Finds (Inline whole (table_pairs ms end)) at found
finds_in_inline whole ms end at found some = finds_alike (IsInPairs ms at) (StandsIn (Inline whole (table_pairs ms end)) at) found (λ w h. inr (of_table at w ms end h)) back
  where
    back : (w : Value) → StandsIn (Inline whole (table_pairs ms end)) at w → IsInPairs ms at w
    back w (inl h) = absurd (some h.0)
    back w (inr h) = in_table at w ms end h

-- in the element at the index
pub finds_in_item : (es : List Element) (i : ℕ) (e : Element) (rest at : Address) (found : Option (Bor (List ℕ))) → slice_get es i ≡ Some e → at ≡ Index i ∷ rest → Finds e.value rest found → FindsInItems es at found
finds_in_item es i e rest at found get is = finds_alike (StandsIn e.value rest) (IsInItems es at) found (λ w h. (i, e, rest, get, is, h)) back
  where
    back : (w : Value) → IsInItems es at w → StandsIn e.value rest w
    back w (k, x, more, had, was, stands) =
        let both : ◌≡◌ {A = Address} (Index k ∷ more) (Index i ∷ rest) = sym was ∙ is in
        let index : k ≡ i = cc in
        let same : more ≡ rest = cc in
        let one : Some x ≡ Some e = sym had ∙ ap (slice_get es) index ∙ get in
        let element : x ≡ e = cc in
        subst (λ (y : Element). StandsIn y.value rest w) element (subst (λ a. StandsIn x.value a w) same stands)

-- no element is there
pub finds_no_item : (es : List Element) (i : ℕ) (rest at : Address) → slice_get es i ≡ None → at ≡ Index i ∷ rest → FindsInItems es at None
finds_no_item es i rest at none is w (k, x, more, had, was, stands) =
    let both : ◌≡◌ {A = Address} (Index k ∷ more) (Index i ∷ rest) = sym was ∙ is in
    let index : k ≡ i = cc in
    let no : None ≡ Some x = sym none ∙ ap (slice_get es) (sym index) ∙ had in
    cc

-- the steps lead to no element
pub finds_no_index : (es : List Element) (at : Address) → ((i : ℕ) (rest : Address) → at ≡ Index i ∷ rest → ⊥) → FindsInItems es at None
finds_no_index es at none w (k, x, more, had, was, stands) = none k more was

cancel : (front a b : Address) → front ++ a ≡ front ++ b → a ≡ b
cancel [] a b is = is
cancel (s ∷ front) a b is = let rest : front ++ a ≡ front ++ b = cc in cancel front a b rest

-- in a pair, behind its key
pub finds_in_pair : (p : KeyVal) (key rest at : Address) (found : Option (Bor (List ℕ))) → key ≡ below [] (key_names p.assign.key) → at ≡ key ++ rest → Finds p.value rest found → FindsInPair p at found
finds_in_pair p key rest at found key_is is =
    let own : at ≡ below [] (key_names p.assign.key) ++ rest = is ∙ ap (λ k. k ++ rest) key_is in
    finds_alike (StandsIn p.value rest) (IsInPair p at) found (λ w h. (rest, own, h)) (λ w h. subst (λ a. StandsIn p.value a w) (cancel (below [] (key_names p.assign.key)) h.0 rest (sym h.1 ∙ own)) h.2)

pub finds_no_pair : (p : KeyVal) (key at : Address) → key ≡ below [] (key_names p.assign.key) → ((rest : Address) → at ≢ key ++ rest) → FindsInPair p at None
finds_no_pair p key at key_is none w (rest, is, stands) = none rest (is ∙ ap (λ k. k ++ rest) (sym key_is))

-- what is among the pairs is among those from a place on
abbrev pub AreLater : Address → List Member → List Member → Type 0
AreLater at all left = (w : Value) → IsInPairs all at w → IsInPairs left at w

pub later_next : (at : Address) (all left : List Member) (m : Member) (more : List Member) → AreLater at all left → left ≡ m ∷ more → FindsInPair m.pair at None → AreLater at all more
later_next at all left m more later is none w h = elim (subst (λ l. IsInPairs l at w) is (later w h)) [ inl here ↦ absurd (none w here) | inr behind ↦ behind ]

-- what is among some is among all
abbrev pub ArePart : Address → List Member → List Member → Type 0
ArePart at all left = (w : Value) → IsInPairs left at w → IsInPairs all at w

pub finds_in_pairs : (at : Address) (all left : List Member) (m : Member) (more : List Member) (found : Option (Bor (List ℕ))) → ArePart at all left → left ≡ m ∷ more → is_some found ≡ true → FindsInPair m.pair at found
    → FindsInPairs all at found
finds_in_pairs at all left m more None part next some finds = let e : false ≡ true = some in cc
finds_in_pairs at all left m more (Some text) part next some finds = (finds.0, part finds.0 (subst (λ l. IsInPairs l at finds.0) (sym next) (inl finds.1)), finds.2)

pub is_none : {X : Type 0} (o : Option X) → is_some o ≡ false → o ≡ None
is_none None is = refl
is_none (Some x) is = let e : true ≡ false = is in cc

-- in the value of a line behind its own address
pub finds_of_line : (e : Expr) (v : Value) (own rest at : Address) (found : Option (Bor (List ℕ))) → value_of e ≡ Some v → at ≡ own ++ rest → Finds v rest found → FindsOfLine e own at found
finds_of_line e v own rest at found value is = finds_alike (StandsIn v rest) (IsOfLine e own at) found (λ w h. (v, rest, value, is, h)) back
  where
    back : (w : Value) → IsOfLine e own at w → StandsIn v rest w
    back w (u, more, there, was, stands) =
        let one : Some u ≡ Some v = sym there ∙ value in
        let same : u ≡ v = cc in
        subst (λ x. StandsIn x rest w) same (subst (λ a. StandsIn u a w) (cancel own more rest (sym was ∙ is)) stands)
