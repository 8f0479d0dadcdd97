-- The steps of the addresses of header lines.
use Rattle.std.proofs.Common.{◌≡◌, ◌∙◌, ℕ, ◌+◌, ◌<◌, ◌≤◌, Bool, true, false, List, [], ◌∷◌, ◌++◌, length, take, drop, get_or, map, Some, None, refl, ap, ap₂, sym, subst, arith, add-one}
use Rattle.std.specs.Prelude.{option_map, slice_get}
use Rattle.std.proofs.lemmas.Bool.{and_parts}
use Rattle.std.proofs.lemmas.List.{length-take-le, take-append-drop, take_more}
use Rattle.toml_names.proofs.Proved.{same_address-decides}
use Rattle.toml_names.specs.declared.model.address.Step.{Step}
use Rattle.toml_names.specs.declared.model.address.Step.TheVariants.{Name, Index}
use Rattle.toml_names.specs.model.Addresses.{Address, same_address, same_step}
use Rattle.toml_names.proofs.Proved.{same_step-equal}
use Rattle.toml_scalar.specs.Spelling.{spelled}
use Rattle.toml_layout.specs.Beginnings.{begins}
use Rattle.toml_layout.specs.NewKeys.{HasParts, IsKey, bare_part}
use Rattle.toml_layout.specs.OpenOutlines.{closing_brackets, dotted, leaf_text, opening_brackets}
use Rattle.toml_layout.specs.Outlines as outline
use Rattle.toml_layout.specs.declared.tree.Brackets.{Brackets}
use Rattle.toml_layout.specs.declared.tree.Key.{Key}
use Rattle.toml_working.specs.Headers.{element_of, header_of, inner_of, innermost, names_of}
use Rattle.toml_working.specs.PuttingHeaders.{AreSpellings, name_texts, up_to}
use Rattle.toml_working.proofs.Beginning.{begins_self}

-- ---- the same steps

same_bool : (x y : Bool) → (x ≡ true → y ≡ true) → (y ≡ true → x ≡ true) → x ≡ y
same_bool true y f g = sym (f refl)
same_bool false true f g = g refl
same_bool false false f g = refl

begun_whole : (a b : Address) → length a ≡ length b → begins a b ≡ true → a ≡ b
begun_whole [] [] long h = refl
begun_whole [] (t ∷ b) long h = absurd (omega (arith, long))
begun_whole (s ∷ a) [] long h = absurd (omega (arith, long))
begun_whole (s ∷ a) (t ∷ b) long h =
    let parts = and_parts (same_step s t) (begins a b) h in
    ap₂ (λ u w. u ∷ w) (same_step-equal s t parts.0) (begun_whole a b (omega (arith, long)) parts.1)

pub same_begun : (a b : Address) → length a ≡ length b → begins a b ≡ same_address a b
same_begun a b long =
    same_bool (begins a b) (same_address a b) (λ h. (same_address-decides a b).1 (begun_whole a b long h))
    (λ h. subst (λ x. begins a x ≡ true) ((same_address-decides a b).0 h) (begins_self a))

-- ---- elements

pub ends_in_index : (array : Address) (i : ℕ) → element_of (array ++ Index i ∷ []) ≡ Some (array, i)
ends_in_index [] i = refl
ends_in_index (s ∷ []) i = refl
ends_in_index (s ∷ t ∷ array) i = ap (option_map (λ (e : Address × ℕ). (s ∷ e.0, e.1))) (ends_in_index (t ∷ array) i)

pub ends_in_name : (front : Address) (n : List ℕ) → element_of (front ++ Name n ∷ []) ≡ None
ends_in_name [] n = refl
ends_in_name (s ∷ []) n = refl
ends_in_name (s ∷ t ∷ front) n = ap (option_map (λ (e : Address × ℕ). (s ∷ e.0, e.1))) (ends_in_name (t ∷ front) n)

pub inner_name : (front : Address) (n : List ℕ) → innermost (front ++ Name n ∷ []) ≡ innermost front
inner_name [] n = refl
inner_name (s ∷ front) n = ap (λ o. inner_of o s) (inner_name front n)

pub inner_index : (front : Address) (i : ℕ) → innermost (front ++ Index i ∷ []) ≡ Some (front ++ Index i ∷ [])
inner_index [] i = refl
inner_index (s ∷ front) i = ap (λ o. inner_of o s) (inner_index front i)

-- ---- names

pub texts_named : (p : Address) (texts : List (List ℕ)) → AreSpellings p texts → name_texts p texts ≡ map spelled (names_of p)
texts_named [] texts h = refl
texts_named (s ∷ p) [] h = absurd h
texts_named (Name n ∷ p) (text ∷ texts) h = ap₂ (λ x xs. x ∷ xs) h.0 (texts_named p texts h.1)
texts_named (Index i ∷ p) (text ∷ texts) h = texts_named p texts h

-- a header of these texts
pub header_is : (brackets : Brackets) (key : Key) (texts : List (List ℕ)) → HasParts texts key
    → outline.Header (opening_brackets brackets) [] (leaf_text key.first) (map dotted key.rest.items) [] (closing_brackets brackets) ≡ header_of brackets texts
header_is brackets key [] (first, rest) = ap₂ (λ f r. outline.Header (opening_brackets brackets) [] f r [] (closing_brackets brackets)) first rest
header_is brackets key (text ∷ texts) (first, rest) = ap₂ (λ f r. outline.Header (opening_brackets brackets) [] f r [] (closing_brackets brackets)) first rest

-- the key so far, and whether it has no part yet
abbrev pub IsBuilt : List (List ℕ) → Bool → Key → Type 0
IsBuilt [] true key = IsKey [] [] key
IsBuilt [] false key = ⊥
IsBuilt (text ∷ texts) true key = ⊥
IsBuilt (text ∷ texts) false key = IsKey text (map bare_part texts) key

pub built : (texts : List (List ℕ)) (first : Bool) (key : Key) → IsBuilt texts first key → HasParts texts key
built [] true key h = h
built [] false key h = absurd h
built (text ∷ texts) true key h = absurd h
built (text ∷ texts) false key h = h

-- one part more
pub built_on : (texts : List (List ℕ)) (text : List ℕ) (first : Bool) (old now : Key) → IsBuilt texts first old
    → (first ≡ true → IsKey text (map dotted old.rest.items) now)
    → (first ≡ false → IsKey (leaf_text old.first) (map dotted old.rest.items ++ bare_part text ∷ []) now)
    → IsBuilt (texts ++ text ∷ []) false now
built_on [] text true old now h begun added = subst (λ r. IsKey text r now) h.1 (begun refl)
built_on [] text false old now h begun added = absurd h
built_on (t ∷ texts) text true old now h begun added = absurd h
built_on (t ∷ texts) text false old now h begun added =
    subst (λ r. IsKey t r now) (ap (λ r. r ++ bare_part text ∷ []) h.1 ∙ sym (map-append_one texts text))
    (subst (λ f. IsKey f (map dotted old.rest.items ++ bare_part text ∷ []) now) h.0 (added refl))
  where
    map-append_one : (xs : List (List ℕ)) (x : List ℕ) → map bare_part (xs ++ x ∷ []) ≡ map bare_part xs ++ bare_part x ∷ []
    map-append_one [] x = refl
    map-append_one (y ∷ xs) x = ap (λ r. bare_part y ∷ r) (map-append_one xs x)

-- the texts of one step more
pub name_more : (front : Address) (n : List ℕ) (texts : List (List ℕ)) (text : List ℕ) → slice_get texts (length front) ≡ Some text
    → name_texts (front ++ Name n ∷ []) texts ≡ name_texts front texts ++ text ∷ []
name_more [] n [] text there = cc
name_more [] n (t ∷ texts) text there = let e : t ≡ text = cc in ap (λ x. x ∷ []) e
name_more (s ∷ front) n [] text there = cc
name_more (Name m ∷ front) n (t ∷ texts) text there = ap (λ r. t ∷ r) (name_more front n texts text there)
name_more (Index i ∷ front) n (t ∷ texts) text there = name_more front n texts text there

pub index_more : (front : Address) (i : ℕ) (texts : List (List ℕ)) → length front < length texts
    → name_texts (front ++ Index i ∷ []) texts ≡ name_texts front texts
index_more [] i [] low = refl
index_more [] i (t ∷ texts) low = refl
index_more (s ∷ front) i [] low = refl
index_more (Name m ∷ front) i (t ∷ texts) low = ap (λ r. t ∷ r) (index_more front i texts (omega (arith, low)))
index_more (Index j ∷ front) i (t ∷ texts) low = index_more front i texts (omega (arith, low))

-- where the texts are too few, the last steps have none
pub texts_out : (front back : Address) (texts : List (List ℕ)) → length texts ≤ length front → name_texts (front ++ back) texts ≡ name_texts front texts
texts_out [] [] [] few = refl
texts_out [] (s ∷ back) [] few = refl
texts_out [] back (t ∷ texts) few = absurd (omega (arith, few))
texts_out (s ∷ front) back [] few = refl
texts_out (Name m ∷ front) back (t ∷ texts) few = ap (λ r. t ∷ r) (texts_out front back texts (omega (arith, few)))
texts_out (Index j ∷ front) back (t ∷ texts) few = texts_out front back texts (omega (arith, few))

-- ---- up to the last index

pub index_met : (steps : Address) (place count i : ℕ) (s : Step) → take (place + 1) steps ≡ take place steps ++ s ∷ [] → s ≡ Index i → count ≡ place + 1
    → innermost (take (place + 1) steps) ≡ up_to count steps
index_met steps place count i s more is count_is =
    ap innermost (more ∙ ap (λ x. take place steps ++ x ∷ []) is) ∙ inner_index (take place steps) i
    ∙ ap Some (ap (λ x. take place steps ++ x ∷ []) (sym is) ∙ sym more ∙ ap (λ n. take n steps) (add-one place))
    ∙ ap (λ n. up_to n steps) (sym (count_is ∙ add-one place))

pub name_met : (steps : Address) (place count before : ℕ) (n : List ℕ) (s : Step) → take (place + 1) steps ≡ take place steps ++ s ∷ [] → s ≡ Name n → count ≡ before
    → innermost (take place steps) ≡ up_to before steps → innermost (take (place + 1) steps) ≡ up_to count steps
name_met steps place count before n s more is count_is so_far =
    ap innermost (more ∙ ap (λ x. take place steps ++ x ∷ []) is) ∙ inner_name (take place steps) n ∙ so_far ∙ ap (λ k. up_to k steps) (sym count_is)

-- ---- a key of names

module _ (at : Address) (texts : List (List ℕ)) (place : ℕ) (s : Step) (low : place < length at) (here : s ≡ get_or at place s) where
  one_more : take (place + 1) at ≡ take place at ++ s ∷ []
  one_more = take_more at place s low ∙ ap (λ x. take place at ++ x ∷ []) (sym here)

  taken_long : length (take place at) ≡ place
  taken_long = length-take-le place at (omega (arith, low))

  pub named_on : (n text : List ℕ) (first : Bool) (old now : Key) → s ≡ Name n → slice_get texts place ≡ Some text → IsBuilt (name_texts (take place at) texts) first old
      → (first ≡ true → IsKey text (map dotted old.rest.items) now)
      → (first ≡ false → IsKey (leaf_text old.first) (map dotted old.rest.items ++ bare_part text ∷ []) now)
      → IsBuilt (name_texts (take (place + 1) at) texts) false now
  named_on n text first old now is there so_far begun added =
      let more : name_texts (take (place + 1) at) texts ≡ name_texts (take place at) texts ++ text ∷ [] =
      ap (λ x. name_texts x texts) (one_more ∙ ap (λ x. take place at ++ x ∷ []) is)
      ∙ name_more (take place at) n texts text (ap (slice_get texts) taken_long ∙ there) in
      subst (λ x. IsBuilt x false now) (sym more) (built_on (name_texts (take place at) texts) text first old now so_far begun added)

  pub indexed_on : (i : ℕ) (first : Bool) (key : Key) → s ≡ Index i → place < length texts → IsBuilt (name_texts (take place at) texts) first key
      → IsBuilt (name_texts (take (place + 1) at) texts) first key
  indexed_on i first key is within so_far =
      let same : name_texts (take (place + 1) at) texts ≡ name_texts (take place at) texts =
      ap (λ x. name_texts x texts) (one_more ∙ ap (λ x. take place at ++ x ∷ []) is)
      ∙ index_more (take place at) i texts (let e = taken_long in omega (arith, within, e)) in
      subst (λ x. IsBuilt x first key) (sym same) so_far

  pub named_out : (first : Bool) (key : Key) → length texts ≤ place → IsBuilt (name_texts (take place at) texts) first key → HasParts (name_texts at texts) key
  named_out first key few so_far =
      let same : name_texts at texts ≡ name_texts (take place at) texts =
      ap (λ x. name_texts x texts) (sym (take-append-drop place at))
      ∙ texts_out (take place at) (drop place at) texts (let e = taken_long in omega (arith, few, e)) in
      subst (λ x. HasParts x key) (sym same) (built (name_texts (take place at) texts) first key so_far)
