-- A value that lines name stands on one of them, or in its value.
use Rattle.std.proofs.Common.{◌≡◌, ◌⊎◌, inl, inr, ℕ, ◌+◌, Bool, true, false, ◌||◌, List, [], ◌∷◌, ◌++◌, refl, sym, ap, ◌∙◌, subst, true≢false}
use Rattle.std.specs.List.{list_any}
use Rattle.toml_tree.specs.Tree.{Piece, Assign, Value, Scalar, Array, Inline, Items, Close, Last, More, Pairs, ClosePairs, LastPair, MorePairs, Expr, BlankLine, KeyValLine, TableLine, ArrayTableLine, Line}
use Rattle.toml_names.specs.declared.mentions.mention.Role.{Role}
use Rattle.toml_names.specs.declared.mentions.mention.Role.TheVariants.{Valued, Bare}
use Rattle.toml_names.specs.mentions.Joining.{is_lone}
use Rattle.toml_names.specs.mentions.Keys.{Key, key_names}
use Rattle.toml_names.specs.mentions.Mentions.{Named, named, named_by, named_from, root, section, entered, followed, fronts, ends_table, ends_tables, value_named, inside, elements, members}
use Rattle.toml_names.specs.model.Addresses.{Address, same_address, child, element, below}
use Rattle.toml_layout.specs.SetOutlines.{outlined_names, has_outline, has_within, has_listed, has_braced}
use Rattle.toml_working.specs.Standing.{line_stands, standing_from, has}
use Rattle.toml_editor.specs.StandingLaws.{ValueStands}
use Rattle.toml_layout.specs.TreeOutlines.{assign_outline, value_outline, items_outline, pairs_outline}
use Rattle.toml_editor.proofs.SetOutlined.{names_outlined}
use Rattle.toml_editor.proofs.written.Clear.{self}
use Rattle.toml_editor.proofs.written.Pairwise.{Has, has_of_any, has_parts}

pub or_left : (a b : Bool) → a ≡ true → (a || b) ≡ true
or_left true b is = refl
or_left false b is = absurd (true≢false (sym is))

pub or_right : (a b : Bool) → b ≡ true → (a || b) ≡ true
or_right true b is = refl
or_right false b is = is

module _ (p : Address) where
  abbrev IsThere : Named → Type 0
  IsThere m = (m.address ≡ p) × (is_lone m.role ≡ true)

  no_front : (key : Key) (n : ℕ) (at : Address) → Has IsThere (fronts n at key) → ⊥
  no_front [] n at h = h
  no_front (k ∷ []) n at h = h
  no_front (k ∷ l ∷ more) n at (inl h) = true≢false (sym h.1)
  no_front (k ∷ l ∷ more) n at (inr h) = no_front (l ∷ more) n (child at k) h

  -- a value, once it is so of what stands in it
  value_has : (v : Value) (n : ℕ) (role : Role) (at : Address) → (Has IsThere (inside n at v) → has_within p at (value_outline v) ≡ true)
      → Has IsThere (value_named n role at v ∷ inside n at v) → has_outline p at (value_outline v) ≡ true
  value_has v n role at within (inl h) = or_left _ _ (ap (λ a. same_address a p) h.0 ∙ self p)
  value_has v n role at within (inr h) = or_right (same_address at p) _ (within h)

  -- a pair, whose key passes tables that are no values
  pair_has : (a : Assign) (v : Value) (n : ℕ) (at : Address)
      → (Has IsThere (inside n (below at (key_names a.key)) v) → has_within p (below at (key_names a.key)) (value_outline v) ≡ true)
      → Has IsThere (fronts n at (key_names a.key) ++ (value_named n Valued (below at (key_names a.key)) v ∷ inside n (below at (key_names a.key)) v))
      → has_outline p (below at (outlined_names (assign_outline a))) (value_outline v) ≡ true
  pair_has a v n at within h =
      let to = below at (key_names a.key) in
      subst (λ k. has_outline p (below at k) (value_outline v) ≡ true) (sym (names_outlined a))
      (elim (has_parts IsThere (fronts n at (key_names a.key)) (value_named n Valued to v ∷ inside n to v) h) [
        | inl k ↦ absurd (no_front (key_names a.key) n at k)
        | inr k ↦ value_has v n Valued to within k
      ])

  mutual
    within_has : (v : Value) (n : ℕ) (at : Address) → Has IsThere (inside n at v) → has_within p at (value_outline v) ≡ true
    within_has (Scalar kind text) n at h = absurd h
    within_has (Array whole items) n at h = items_has items n at 0 h
    within_has (Inline whole pairs) n at h = pairs_has pairs n at h

    items_has : (items : Items) (n : ℕ) (at : Address) (i : ℕ) → Has IsThere (elements n at i items) → has_listed p at i (items_outline items) ≡ true
    items_has (Close g) n at i h = absurd h
    items_has (Last g v b) n at i h = or_left _ _ (value_has v n Bare (element at i) (within_has v n (element at i)) h)
    items_has (More g v b is) n at i h =
        elim (has_parts IsThere (value_named n Bare (element at i) v ∷ inside n (element at i) v) (elements n at (i + 1) is) h) [
          | inl k ↦ or_left _ _ (value_has v n Bare (element at i) (within_has v n (element at i)) k)
          | inr k ↦ or_right (has_outline p (element at i) (value_outline v)) _ (items_has is n at (i + 1) k)
        ]

    pairs_has : (pairs : Pairs) (n : ℕ) (at : Address) → Has IsThere (members n at pairs) → has_braced p at (pairs_outline pairs) ≡ true
    pairs_has (ClosePairs g) n at h = absurd h
    pairs_has (LastPair g a v b) n at h = or_left _ _ (pair_has a v n at (within_has v n (below at (key_names a.key))) h)
    pairs_has (MorePairs g a v b ps) n at h =
        let to = below at (key_names a.key) in
        elim (has_parts IsThere (fronts n at (key_names a.key) ++ (value_named n Valued to v ∷ inside n to v)) (members n at ps) h) [
          | inl k ↦ or_left _ _ (pair_has a v n at (within_has v n to) k)
          | inr k ↦ or_right (has_outline p (below at (outlined_names (assign_outline a))) (value_outline v)) _ (pairs_has ps n at k)
        ]

  -- headers name no value
  no_header : (key : Key) (n : ℕ) (xs : List Named) (e : Address → List Named) (at : Address) → ((to : Address) → Has IsThere (e to) → ⊥)
      → Has IsThere (followed n xs e at key) → ⊥
  no_header [] n xs e at ends h = h
  no_header (k ∷ []) n xs e at ends h = ends (child at k) h
  no_header (k ∷ l ∷ more) n xs e at ends (inl h) = true≢false (sym h.1)
  no_header (k ∷ l ∷ more) n xs e at ends (inr h) = no_header (l ∷ more) n xs e (entered xs (child at k)) ends h

  line_has : (xs : List Named) (n : ℕ) (e : Expr) (newline : Piece) → Has IsThere (named_by xs n e) → has p (line_stands xs (record { expr = e; newline = newline })) ≡ true
  line_has xs n (BlankLine b) newline h = absurd h
  line_has xs n (KeyValLine ws pair tail) newline h =
      let to = below (section xs) (key_names pair.assign.key) in
      elim (has_parts IsThere (fronts n (section xs) (key_names pair.assign.key)) (value_named n Valued to pair.value ∷ inside n to pair.value) h) [
        | inl k ↦ absurd (no_front (key_names pair.assign.key) n (section xs) k)
        | inr k ↦ value_has pair.value n Valued to (within_has pair.value n to) k
      ]
  line_has xs n (TableLine ws header tail) newline h =
      absurd (no_header (key_names header.key) n xs (ends_table n) [] (λ to k. elim k [ inl here ↦ true≢false (sym here.1) | inr none ↦ none ]) h)
  line_has xs n (ArrayTableLine ws header tail) newline h =
      absurd (no_header (key_names header.key) n xs (ends_tables n xs) []
      (λ to k. elim k [ inl here ↦ true≢false (sym here.1) | inr (inl here) ↦ true≢false (sym here.1) | inr (inr none) ↦ none ]) h)

  lines_have : (ls : List Line) (xs : List Named) (n : ℕ) → Has IsThere (named_from xs n ls) → Has IsThere xs ⊎ (list_any (has p) (standing_from xs n ls) ≡ true)
  lines_have [] xs n h = inl h
  lines_have (l ∷ ls) xs n h = elim (lines_have ls (xs ++ named_by xs n l.expr) (n + 1) h) [
    | inr later ↦ inr (or_right (has p (line_stands xs l)) _ later)
    | inl k ↦ elim (has_parts IsThere xs (named_by xs n l.expr) k) [
      | inl before ↦ inl before
      | inr here ↦ inr (or_left _ _ (line_has xs n l.expr l.newline here))
    ]
  ]

pub value_stands : ValueStands
value_stands p lines apart there = elim (lines_have p lines (root ∷ []) 0 (has_of_any _ (named lines) there)) [
  | inr found ↦ found
  | inl (inl here) ↦ absurd (apart (sym here.0))
  | inl (inr none) ↦ absurd none
]
