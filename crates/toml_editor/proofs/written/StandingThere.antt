-- A value that stands on one of the lines, or in its value, is one that they name.
use Rattle.std.proofs.Common.{◌≡◌, inl, inr, ℕ, ◌+◌, true, false, List, [], ◌∷◌, ◌++◌, refl, subst, true≢false, sym}
use Rattle.std.proofs.lemmas.Bool.{or_cases}
use Rattle.std.specs.List.{list_any}
use Rattle.toml_tree.specs.Tree.{Piece, Assign, Value, Scalar, Array, Inline, Items, Close, Last, More, Pairs, ClosePairs, LastPair, MorePairs, Expr, BlankLine, KeyValLine, TableLine, ArrayTableLine, Line}
use Rattle.toml_names.specs.declared.mentions.mention.Role.{Role}
use Rattle.toml_names.specs.declared.mentions.mention.Role.TheVariants.{Valued, Bare}
use Rattle.toml_names.specs.mentions.Joining.{is_lone}
use Rattle.toml_names.specs.mentions.Keys.{key_names}
use Rattle.toml_names.specs.mentions.Mentions.{Named, named, named_by, named_from, root, section, fronts, value_named, inside, elements, members}
use Rattle.toml_names.specs.model.Addresses.{Address, same_address, element, below}
use Rattle.toml_layout.specs.SetOutlines.{outlined_names, has_outline, has_within, has_listed, has_braced}
use Rattle.toml_working.specs.Standing.{line_stands, standing_from, has}
use Rattle.toml_editor.specs.StandingLaws.{StandingIsValue}
use Rattle.toml_layout.specs.TreeOutlines.{assign_outline, value_outline, items_outline, pairs_outline}
use Rattle.toml_editor.proofs.SetOutlined.{names_outlined}
use Rattle.toml_editor.proofs.written.Clear.{same_is}
use Rattle.toml_editor.proofs.written.Pairwise.{Has, any_of_has, has_append_left, has_append_right}

module _ (p : Address) where
  abbrev IsThere : Named → Type 0
  IsThere m = (m.address ≡ p) × (is_lone m.role ≡ true)

  -- a value, once it is so of what stands in it
  value_there : (v : Value) (n : ℕ) (role : Role) (at : Address) → is_lone role ≡ true
      → (has_within p at (value_outline v) ≡ true → Has IsThere (inside n at v))
      → has_outline p at (value_outline v) ≡ true → Has IsThere (value_named n role at v ∷ inside n at v)
  value_there v n role at lone within is =
      elim (or_cases (same_address at p) (has_within p at (value_outline v)) is) [
        | inl same ↦ inl (same_is at p same, lone)
        | inr k ↦ inr (within k)
      ]

  -- a pair
  pair_there : (a : Assign) (v : Value) (n : ℕ) (at : Address)
      → (has_within p (below at (key_names a.key)) (value_outline v) ≡ true → Has IsThere (inside n (below at (key_names a.key)) v))
      → has_outline p (below at (outlined_names (assign_outline a))) (value_outline v) ≡ true
      → Has IsThere (fronts n at (key_names a.key) ++ (value_named n Valued (below at (key_names a.key)) v ∷ inside n (below at (key_names a.key)) v))
  pair_there a v n at within is =
      has_append_right IsThere (fronts n at (key_names a.key)) _
      (value_there v n Valued (below at (key_names a.key)) refl within
      (subst (λ k. has_outline p (below at k) (value_outline v) ≡ true) (names_outlined a) is))

  mutual
    within_there : (v : Value) (n : ℕ) (at : Address) → has_within p at (value_outline v) ≡ true → Has IsThere (inside n at v)
    within_there (Scalar kind text) n at is = absurd (true≢false (sym is))
    within_there (Array whole items) n at is = items_there items n at 0 is
    within_there (Inline whole pairs) n at is = pairs_there pairs n at is

    items_there : (items : Items) (n : ℕ) (at : Address) (i : ℕ) → has_listed p at i (items_outline items) ≡ true → Has IsThere (elements n at i items)
    items_there (Close g) n at i is = absurd (true≢false (sym is))
    items_there (Last g v b) n at i is =
        elim (or_cases (has_outline p (element at i) (value_outline v)) false is) [
          | inl k ↦ value_there v n Bare (element at i) refl (within_there v n (element at i)) k
          | inr none ↦ absurd (true≢false (sym none))
        ]
    items_there (More g v b more) n at i is =
        elim (or_cases (has_outline p (element at i) (value_outline v)) (has_listed p at (i + 1) (items_outline more)) is) [
          | inl k ↦ has_append_left IsThere (value_named n Bare (element at i) v ∷ inside n (element at i) v) _
              (value_there v n Bare (element at i) refl (within_there v n (element at i)) k)
          | inr k ↦ has_append_right IsThere (value_named n Bare (element at i) v ∷ inside n (element at i) v) _ (items_there more n at (i + 1) k)
        ]

    pairs_there : (pairs : Pairs) (n : ℕ) (at : Address) → has_braced p at (pairs_outline pairs) ≡ true → Has IsThere (members n at pairs)
    pairs_there (ClosePairs g) n at is = absurd (true≢false (sym is))
    pairs_there (LastPair g a v b) n at is =
        elim (or_cases (has_outline p (below at (outlined_names (assign_outline a))) (value_outline v)) false is) [
          | inl k ↦ pair_there a v n at (within_there v n (below at (key_names a.key))) k
          | inr none ↦ absurd (true≢false (sym none))
        ]
    pairs_there (MorePairs g a v b ps) n at is =
        let to = below at (key_names a.key) in
        elim (or_cases (has_outline p (below at (outlined_names (assign_outline a))) (value_outline v)) (has_braced p at (pairs_outline ps)) is) [
          | inl k ↦ has_append_left IsThere (fronts n at (key_names a.key) ++ (value_named n Valued to v ∷ inside n to v)) _
              (pair_there a v n at (within_there v n to) k)
          | inr k ↦ has_append_right IsThere (fronts n at (key_names a.key) ++ (value_named n Valued to v ∷ inside n to v)) _ (pairs_there ps n at k)
        ]

  line_there : (xs : List Named) (n : ℕ) (e : Expr) (newline : Piece) → has p (line_stands xs (record { expr = e; newline = newline })) ≡ true
      → Has IsThere (named_by xs n e)
  line_there xs n (BlankLine b) newline is = absurd (true≢false (sym is))
  line_there xs n (KeyValLine ws pair tail) newline is =
      let to = below (section xs) (key_names pair.assign.key) in
      has_append_right IsThere (fronts n (section xs) (key_names pair.assign.key)) _
      (value_there pair.value n Valued to refl (within_there pair.value n to) is)
  line_there xs n (TableLine ws header tail) newline is = absurd (true≢false (sym is))
  line_there xs n (ArrayTableLine ws header tail) newline is = absurd (true≢false (sym is))

  -- what was named before stays named
  earlier_there : (ls : List Line) (xs : List Named) (n : ℕ) → Has IsThere xs → Has IsThere (named_from xs n ls)
  earlier_there [] xs n h = h
  earlier_there (l ∷ ls) xs n h = earlier_there ls (xs ++ named_by xs n l.expr) (n + 1) (has_append_left IsThere xs (named_by xs n l.expr) h)

  lines_there : (ls : List Line) (xs : List Named) (n : ℕ) → list_any (has p) (standing_from xs n ls) ≡ true → Has IsThere (named_from xs n ls)
  lines_there [] xs n is = absurd (true≢false (sym is))
  lines_there (l ∷ ls) xs n is =
      elim (or_cases (has p (line_stands xs l)) (list_any (has p) (standing_from (xs ++ named_by xs n l.expr) (n + 1) ls)) is) [
        | inl here ↦ earlier_there ls (xs ++ named_by xs n l.expr) (n + 1)
            (has_append_right IsThere xs (named_by xs n l.expr) (line_there xs n l.expr l.newline here))
        | inr later ↦ lines_there ls (xs ++ named_by xs n l.expr) (n + 1) later
      ]

pub standing_is_value : StandingIsValue
standing_is_value p lines is = any_of_has _ (named lines) (lines_there p lines (root ∷ []) 0 is)
