-- The values of lines around a value at an address hold it.
use Rattle.std.proofs.Common.{◌≡◌, inl, inr, ℕ, ◌+◌, ◌<◌, ◌≤◌, Some, List, [], ◌∷◌, ◌++◌, cond, refl, sym, ap, ◌∙◌, subst, true≢false, true, false, arith}
use Rattle.toml_tree.specs.Spells.{EachIs}
use Rattle.toml_tree.specs.Tree.{Value, Scalar, Array, Inline, Items, Close, Last, More, Pairs, ClosePairs, LastPair, MorePairs, Assign, Expr, BlankLine, KeyValLine, TableLine, ArrayTableLine, Line}
use Rattle.toml_names.specs.declared.mentions.mention.Role.TheVariants.{Valued, Bare}
use Rattle.toml_names.specs.mentions.Joining.{is_lone}
use Rattle.toml_names.specs.mentions.Keys.{Key, key_names}
use Rattle.toml_names.specs.mentions.Mentions.{Named, named, named_by, named_from, root, section, fronts, value_named, pair_named}
use Rattle.toml_names.specs.mentions.Mentions as mentions
use Rattle.toml_names.specs.mentions.Rules.{KeepsRules}
use Rattle.toml_names.specs.model.Addresses.{Address, IsAbove, same_address, child, element, below}
use Rattle.toml_names.proofs.Proved.{named_has_line, below_is_of_its_line, line_values_stand_alone}
use Rattle.toml_units.specs.Units.{element_unit, pair_unit, inside, elements, members, line_units, units_from, units, comment_units}
use Rattle.toml_units.specs.declared.unit.UnitKind.TheVariants as kinds
use Rattle.toml_working.specs.Premises.{HasValue}
use Rattle.toml_editor.proofs.Each.{each_append, each_back, each_weaker}
use Rattle.toml_editor.proofs.written.Alike.{each_from, pairs_from}
use Rattle.toml_editor.proofs.written.Around.{IsSole, sole}
use Rattle.toml_editor.proofs.written.Clear.{above_apart, self}
use Rattle.toml_editor.proofs.written.Pairwise.{PairsAre, pairs_back, Alone, Has, has_of_any, has_parts, has_weaker, has_each, from_has, pairs_of_all}
use Rattle.toml_editor.proofs.written.WayHeld.{held, held_append, between, at_end}

-- fronts of keys are no values
fronts_pass : (line : ℕ) (key : Key) (at : Address) → EachIs (λ m. is_lone m.role ≡ false) (fronts line at key)
fronts_pass line [] at = tt
fronts_pass line (n ∷ []) at = tt
fronts_pass line (n ∷ m ∷ more) at = (refl, fronts_pass line (m ∷ more) (child at n))

module _ (p : Address) where
  -- a value that is there
  abbrev IsIt : Named → Type 0
  IsIt m = (m.address ≡ p) × (is_lone m.role ≡ true)

  no_front : (line : ℕ) (key : Key) (at : Address) → Has IsIt (fronts line at key) → ⊥
  no_front line key at = from_has (λ m. is_lone m.role ≡ false) IsIt ⊥ (λ m not is. true≢false (sym is.1 ∙ not)) (fronts line at key)
      (fronts_pass line key at)

  -- ---- a value that is named is a unit's

  own_one : (at : Address) → at ≡ p → ◌≡◌ {A = ℕ} (cond (same_address at p) 1 0) 1
  own_one at is = ap (λ b. cond {A = ℕ} b 1 0) (subst (λ x. same_address x p ≡ true) (sym is) (self p))

  elem_some : (v : Value) (line : ℕ) (at : Address) (i : ℕ)
      → (Has IsIt (mentions.inside line (element at i) v) → 0 < held p (inside (element at i) v))
      → Has IsIt (value_named line Bare (element at i) v ∷ mentions.inside line (element at i) v)
      → 0 < held p (element_unit (element at i) v ∷ inside (element at i) v)
  elem_some v line at i within (inl is) = let own = own_one (element at i) is.0 in omega (arith, own)
  elem_some v line at i within (inr has) = let more = within has in omega (arith, more)

  pair_some : (a : Assign) (v : Value) (line : ℕ) (at : Address)
      → (Has IsIt (mentions.inside line (below at (key_names a.key)) v) → 0 < held p (inside (below at (key_names a.key)) v))
      → Has IsIt (pair_named line at a v)
      → 0 < held p (pair_unit at (record { assign = a; value = v }) ∷ inside (below at (key_names a.key)) v)
  pair_some a v line at within has =
      let to = below at (key_names a.key) in
      elim (has_parts IsIt (fronts line at (key_names a.key)) (value_named line Valued to v ∷ mentions.inside line to v) has) [
        | inl front ↦ absurd (no_front line (key_names a.key) at front)
        | inr (inl is) ↦ let own = own_one to is.0 in omega (arith, own)
        | inr (inr more) ↦ let some = within more in omega (arith, some)
      ]

  mutual
    value_some : (v : Value) (line : ℕ) (at : Address) → Has IsIt (mentions.inside line at v) → 0 < held p (inside at v)
    value_some (Scalar kind text) line at has = absurd has
    value_some (Array whole items) line at has = items_some items line at 0 has
    value_some (Inline whole pairs) line at has = pairs_some pairs line at has

    items_some : (items : Items) (line : ℕ) (at : Address) (i : ℕ) → Has IsIt (mentions.elements line at i items)
        → 0 < held p (elements at i items)
    items_some (Close g) line at i has = absurd has
    items_some (Last g v h) line at i has = let some = elem_some v line at i
        (λ h. value_some v line (element at i) h) has in let count =
        at_end p g h at (element_unit (element at i) v ∷ inside (element at i) v) in omega (arith, some, count)
    items_some (More g v h is) line at i has =
        let count = between p g h at (element_unit (element at i) v ∷ inside (element at i) v) (elements at (i + 1) is) in
        elim (has_parts IsIt (value_named line Bare (element at i) v ∷ mentions.inside line (element at i) v)
        (mentions.elements line at (i + 1) is) has) [
          | inl here ↦ let some = elem_some v line at i (λ h. value_some v line (element at i) h) here in omega (arith, some, count)
          | inr there ↦ let some = items_some is line at (i + 1) there in omega (arith, some, count)
        ]

    pairs_some : (pairs : Pairs) (line : ℕ) (at : Address) → Has IsIt (mentions.members line at pairs) → 0 < held p (members at pairs)
    pairs_some (ClosePairs g) line at has = absurd has
    pairs_some (LastPair g a v h) line at has =
        let some = pair_some a v line at (λ h. value_some v line (below at (key_names a.key)) h) has in let count = at_end p g h at
        (pair_unit at (record { assign = a; value = v }) ∷ inside (below at (key_names a.key)) v) in omega (arith, some, count)
    pairs_some (MorePairs g a v h ps) line at has =
        let count =
        between p g h at (pair_unit at (record { assign = a; value = v }) ∷ inside (below at (key_names a.key)) v) (members at ps) in
        elim (has_parts IsIt (pair_named line at a v) (mentions.members line at ps) has) [
          | inl here ↦ let some =
              pair_some a v line at (λ h. value_some v line (below at (key_names a.key)) h) here in omega (arith, some, count)
          | inr there ↦ let some = pairs_some ps line at there in omega (arith, some, count)
        ]

  -- ---- lines

  abbrev pub IsSoleLine : List Named → Expr → Type 0
  IsSoleLine xs (KeyValLine ws kv b) =
      (IsAbove (below (section xs) (key_names kv.assign.key)) p
      → held p (inside (below (section xs) (key_names kv.assign.key)) kv.value) ≡ 1)
      × IsSole p kv.value (below (section xs) (key_names kv.assign.key))
  IsSoleLine xs _ = Unit {0}

  abbrev pub AreSoleLines : List Line → List Named → ℕ → Type 0
  AreSoleLines [] xs n = Unit {0}
  AreSoleLines (l ∷ ls) xs n = IsSoleLine xs l.expr × AreSoleLines ls (xs ++ named_by xs n l.expr) (n + 1)

  -- such a one of a line
  abbrev IsOfLine : ℕ → Named → Type 0
  IsOfLine k m = IsIt m × (m.line ≡ k)

  -- what an earlier line names was named before
  was_named : (ls : List Line) (xs : List Named) (n k : ℕ) → k < n → Has (IsOfLine k) (named_from xs n ls) → Has (IsOfLine k) xs
  was_named [] xs n k low has = has
  was_named (l ∷ ls) xs n k low has = elim
      (has_parts (IsOfLine k) xs (named_by xs n l.expr) (was_named ls (xs ++ named_by xs n l.expr) (n + 1) k (omega (arith, low)) has)) [
        | inl here ↦ here
        | inr there ↦ absurd (from_has (λ m. m.line ≡ n) (IsOfLine k) ⊥ (λ m is of. let e : ⊥ = omega (arith, low, is, of.1) in e)
            (named_by xs n l.expr) (named_has_line xs n l.expr) there)
      ]

  -- what is below a value is of its line
  abbrev OfItsLine : List Named → Named → Type 0
  OfItsLine all v = v.role ≡ Valued → EachIs (λ m. IsAbove v.address m.address → m.line ≡ v.line) all

  abbrev CameBefore : ℕ → Named → Type 0
  CameBefore n m = m.address ≡ p → m.line < n

  line_sole : (ls : List Line) (xs : List Named) (n : ℕ) (e : Expr) → PairsAre Alone (named_from (xs ++ named_by xs n e) (n + 1) ls)
      → EachIs (OfItsLine (named_from (xs ++ named_by xs n e) (n + 1) ls)) (named_from (xs ++ named_by xs n e) (n + 1) ls)
      → Has IsIt (named_from (xs ++ named_by xs n e) (n + 1) ls)
      → held p (line_units xs e) ≤ 1 → EachIs (CameBefore n) xs → IsSoleLine xs e
  line_sole ls xs n (BlankLine b) alone lines has few before = tt
  line_sole ls xs n (TableLine ws h b) alone lines has few before = tt
  line_sole ls xs n (ArrayTableLine ws h b) alone lines has few before = tt
  line_sole ls xs n (KeyValLine ws kv b) alone lines has few before = (one, sole p n kv.value to inner.1 one)
    where
      to : Address
      to = below (section xs) (key_names kv.assign.key)

      here : List Named
      here = pair_named n (section xs) kv.assign kv.value

      all : List Named
      all = named_from (xs ++ here) (n + 1) ls

      front : List Named
      front = fronts n (section xs) (key_names kv.assign.key)

      value : Named
      value = value_named n Valued to kv.value

      inner : PairsAre Alone (value ∷ mentions.inside n to kv.value)
      inner = pairs_back Alone front (value ∷ mentions.inside n to kv.value)
          (pairs_back Alone xs here (pairs_from Alone ls (xs ++ here) (n + 1) alone))

      of_line : EachIs (λ m. IsAbove to m.address → m.line ≡ n) all
      of_line =
          (each_back (OfItsLine all) front (value ∷ mentions.inside n to kv.value)
          (each_back (OfItsLine all) xs here (each_from (OfItsLine all) ls (xs ++ here) (n + 1) lines))).0 refl

      in_line : IsAbove to p → Has (IsOfLine n) here
      in_line above = elim (has_parts (IsOfLine n) xs here (was_named ls (xs ++ here) (n + 1) n (omega arith)
          (has_each (λ m. IsAbove to m.address → m.line ≡ n) IsIt (IsOfLine n)
          (λ m of is. (is, of (subst (IsAbove to) (sym is.0) above))) all of_line has))) [
            | inl early ↦ absurd (from_has (CameBefore n) (IsOfLine n) ⊥
                (λ m came is. let low = came is.0.0 in let e : ⊥ = omega (arith, low, is.1) in e) xs before early)
            | inr there ↦ there
          ]

      in_value : IsAbove to p → Has IsIt (mentions.inside n to kv.value)
      in_value above = elim
          (has_parts IsIt front (value ∷ mentions.inside n to kv.value)
          (has_weaker (IsOfLine n) IsIt (λ m is. is.0) here (in_line above))) [
            | inl early ↦ absurd (no_front n (key_names kv.assign.key) (section xs) early)
            | inr (inl is) ↦ absurd (above_apart to p above (sym is.0))
            | inr (inr there) ↦ there
          ]

      one : IsAbove to p → held p (inside to kv.value) ≡ 1
      one above =
          let some = value_some kv.value n to (in_value above) in
          let count = held_append p (inside to kv.value) (comment_units kinds.TailComment (Some to) b.comment) in
          omega (arith, some, few, count)

  all_sole : (ls : List Line) (xs : List Named) (n : ℕ) → PairsAre Alone (named_from xs n ls)
      → EachIs (OfItsLine (named_from xs n ls)) (named_from xs n ls) → Has IsIt (named_from xs n ls)
      → held p (units_from xs n ls) ≤ 1 → EachIs (CameBefore n) xs → AreSoleLines ls xs n
  all_sole [] xs n alone lines has few before = tt
  all_sole (l ∷ ls) xs n alone lines has few before =
      let count = held_append p (line_units xs l.expr) (units_from (xs ++ named_by xs n l.expr) (n + 1) ls) in (
        line_sole ls xs n l.expr alone lines has (omega (arith, few, count)) before,
        all_sole ls (xs ++ named_by xs n l.expr) (n + 1) alone lines has (omega (arith, few, count))
            (each_append (CameBefore (n + 1)) xs (named_by xs n l.expr)
            (each_weaker (CameBefore n) (CameBefore (n + 1)) (λ m came is. let low = came is in omega (arith, low)) xs before)
            (each_weaker (λ m. m.line ≡ n) (CameBefore (n + 1)) (λ m is at. omega (arith, is)) (named_by xs n l.expr)
            (named_has_line xs n l.expr))),
      )

  pub lines_sole : (lines : List Line) → ¬ (p ≡ []) → HasValue lines p → KeepsRules (named lines) → held p (units lines) ≤ 1
      → AreSoleLines lines (root ∷ []) 0
  lines_sole lines some there keeps few =
      all_sole lines (root ∷ []) 0 (pairs_of_all Alone (named lines) (line_values_stand_alone lines keeps))
      (below_is_of_its_line lines keeps) (has_of_any IsIt (named lines) there) few ((λ is. absurd (some (sym is))), tt)
