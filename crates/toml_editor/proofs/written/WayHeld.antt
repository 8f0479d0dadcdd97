-- How many units have the value at an address: no more than what is named there.
use Rattle.std.proofs.Common.{◌≡◌, ◌≤◌, ◌+◌, ℕ, Bool, true, false, cond, ◌&&◌, Option, Some, None, List, [], ◌∷◌, ◌++◌, refl, sym, ap, ◌∙◌, true≢false, arith}
use Rattle.std.specs.Prelude.{is_some}
use Rattle.toml_tree.specs.Spells.{EachIs}
use Rattle.toml_tree.specs.Tree.{Piece, Assign, GapLine, Gap, Value, Scalar, Array, Inline, Items, Close, Last, More, Pairs, ClosePairs, LastPair, MorePairs, Expr, BlankLine, KeyValLine, TableLine, ArrayTableLine, Line}
use Rattle.toml_names.specs.declared.mentions.mention.Role.TheVariants as roles
use Rattle.toml_names.specs.mentions.Joining.{is_lone}
use Rattle.toml_names.specs.mentions.Keys.{key_names}
use Rattle.toml_names.specs.mentions.Mentions.{Named, named_by, named_from, section, fronts, value_named, pair_named}
use Rattle.toml_names.specs.mentions.Mentions as mentions
use Rattle.toml_names.specs.model.Addresses.{Address, same_address, element, below}
use Rattle.toml_names.specs.reader.Names.{own_address}
use Rattle.toml_names.specs.mentions.Clear.{AreValuesAt}
use Rattle.toml_units.specs.Units.{TextUnit, comment_units, gap_line_units, gap_units, inside, elements, members, line_units, units_from}
use Rattle.toml_units.specs.declared.unit.UnitKind.{UnitKind}
use Rattle.toml_units.specs.declared.unit.UnitKind.TheVariants as kinds
use Rattle.toml_editor.proofs.written.Clear.{same_is}
use Rattle.toml_editor.proofs.written.Pairwise.{PairsAre, Alone}
use Rattle.toml_editor.proofs.written.UnitsIn.{of_element, of_pair}

-- units that have a value of their own
abbrev pub has_value : UnitKind → Option ℕ → Bool
has_value kinds.Line base = is_some base
has_value kinds.Element base = true
has_value kinds.Pair base = true
has_value kinds.TailComment base = false
has_value kinds.InnerComment base = false

module _ (p : Address) where
  abbrev pub stands_there : Option Address → Bool
  stands_there None = false
  stands_there (Some a) = same_address a p

  abbrev pub one_held : TextUnit → ℕ
  one_held u = cond (has_value u.kind u.base && stands_there u.address) 1 0

  abbrev pub held : List TextUnit → ℕ
  held [] = 0
  held (u ∷ us) = one_held u + held us

  abbrev pub one_there : Named → ℕ
  one_there m = cond (same_address m.address p) 1 0

  abbrev pub there : List Named → ℕ
  there [] = 0
  there (m ∷ ms) = one_there m + there ms

  pub held_append : (us vs : List TextUnit) → held (us ++ vs) ≡ held us + held vs
  held_append [] vs = omega arith
  held_append (u ∷ us) vs = let more = held_append us vs in omega (arith, more)

  there_append : (ms ns : List Named) → there (ms ++ ns) ≡ there ms + there ns
  there_append [] ns = omega arith
  there_append (m ∷ ms) ns = let more = there_append ms ns in omega (arith, more)

  comment_held : (kind : UnitKind) → has_value kind None ≡ false → (at : Option Address) (o : Option Piece) → held (comment_units kind at o) ≡ 0
  comment_held kind none at None = refl
  comment_held kind none at (Some piece) = let e : ◌≡◌ {A = ℕ} (cond (has_value kind None && stands_there at) 1 0) 0 = ap (λ b. cond {A = ℕ} (b && stands_there at) 1 0) none in omega (arith, e)

  pub gap_held : (ls : List GapLine) (at : Address) → held (gap_line_units at ls) ≡ 0
  gap_held [] at = refl
  gap_held (l ∷ ls) at =
      let first = comment_held kinds.InnerComment refl (Some at) l.blank.comment in
      let more = gap_held ls at in
      let both = held_append (comment_units kinds.InnerComment (Some at) l.blank.comment) (gap_line_units at ls) in
      omega (arith, first, more, both)

  pub between : (g h : Gap) (at : Address) (us vs : List TextUnit)
      → held (gap_units at g ++ (us ++ (gap_units at h ++ vs))) ≡ held us + held vs
  between g h at us vs =
      let a = held_append (gap_units at g) (us ++ (gap_units at h ++ vs)) in
      let b = held_append us (gap_units at h ++ vs) in
      let c = held_append (gap_units at h) vs in
      let d = gap_held g.lines at in
      let e = gap_held h.lines at in
      omega (arith, a, b, c, d, e)

  pub at_end : (g h : Gap) (at : Address) (us : List TextUnit) → held (gap_units at g ++ (us ++ gap_units at h)) ≡ held us
  at_end g h at us =
      let a = held_append (gap_units at g) (us ++ gap_units at h) in
      let b = held_append us (gap_units at h) in
      let d = gap_held g.lines at in
      let e = gap_held h.lines at in
      omega (arith, a, b, d, e)

  pub pair_held : (line : ℕ) (a : Assign) (v : Value) (at : Address)
      → held (inside (below at (key_names a.key)) v) ≤ there (mentions.inside line (below at (key_names a.key)) v)
      → held (of_pair at a v) ≤ there (pair_named line at a v)
  pair_held line a v at within =
      let to = below at (key_names a.key) in
      let both = there_append (fronts line at (key_names a.key)) (value_named line roles.Valued to v ∷ mentions.inside line to v) in
      omega (arith, within, both)

  mutual
    pub value_held : (v : Value) (line : ℕ) (at : Address) → held (inside at v) ≤ there (mentions.inside line at v)
    value_held (Scalar kind text) line at = omega arith
    value_held (Array whole items) line at = items_held items line at 0
    value_held (Inline whole pairs) line at = pairs_held pairs line at

    pub items_held : (items : Items) (line : ℕ) (at : Address) (i : ℕ)
        → held (elements at i items) ≤ there (mentions.elements line at i items)
    items_held (Close g) line at i = let e = gap_held g.lines at in omega (arith, e)
    items_held (Last g v h) line at i = let e = at_end g h at (of_element at i v) in let w = value_held v line (element at i) in omega (arith, e, w)
    items_held (More g v h is) line at i =
        let e = between g h at (of_element at i v) (elements at (i + 1) is) in
        let w = value_held v line (element at i) in
        let more = items_held is line at (i + 1) in
        let both = there_append (mentions.inside line (element at i) v) (mentions.elements line at (i + 1) is) in
        omega (arith, e, w, more, both)

    pub pairs_held : (pairs : Pairs) (line : ℕ) (at : Address) → held (members at pairs) ≤ there (mentions.members line at pairs)
    pairs_held (ClosePairs g) line at = let e = gap_held g.lines at in omega (arith, e)
    pairs_held (LastPair g a v h) line at =
        let e = at_end g h at (of_pair at a v) in
        let w = pair_held line a v at (value_held v line (below at (key_names a.key))) in
        omega (arith, e, w)
    pairs_held (MorePairs g a v h ps) line at =
        let e = between g h at (of_pair at a v) (members at ps) in
        let w = pair_held line a v at (value_held v line (below at (key_names a.key))) in
        let more = pairs_held ps line at in
        let both = there_append (pair_named line at a v) (mentions.members line at ps) in
        omega (arith, e, w, more, both)

  tail_held : (at : Option Address) (o : Option Piece) → held (comment_units kinds.TailComment at o) ≡ 0
  tail_held at o = comment_held kinds.TailComment refl at o

  line_held : (xs : List Named) (n : ℕ) (e : Expr) → held (line_units xs e) ≤ there (named_by xs n e)
  line_held xs n (BlankLine b) = let e = tail_held None b.comment in omega (arith, e)
  line_held xs n (KeyValLine ws k b) =
      let at = section xs in
      let to = below at (key_names k.assign.key) in
      let both = held_append (inside to k.value) (comment_units kinds.TailComment (Some to) b.comment) in
      let e = tail_held (Some to) b.comment in
      let w = pair_held n k.assign k.value at (value_held k.value n to) in
      omega (arith, both, e, w)
  line_held xs n (TableLine ws h b) = let e = tail_held (own_address xs (TableLine ws h b)) b.comment in omega (arith, e)
  line_held xs n (ArrayTableLine ws h b) = let e = tail_held (own_address xs (ArrayTableLine ws h b)) b.comment in omega (arith, e)

  pub lines_held : (ls : List Line) (xs : List Named) (n : ℕ) → held (units_from xs n ls) + there xs ≤ there (named_from xs n ls)
  lines_held [] xs n = omega arith
  lines_held (l ∷ ls) xs n =
      let new = named_by xs n l.expr in
      let first = line_held xs n l.expr in
      let more = lines_held ls (xs ++ new) (n + 1) in
      let us = held_append (line_units xs l.expr) (units_from (xs ++ new) (n + 1) ls) in
      let both = there_append xs new in
      omega (arith, first, more, us, both)

  -- values at the address are one
  none_there : (m : Named) → m.address ≡ p → is_lone m.role ≡ true → (ms : List Named) → EachIs (Alone m) ms → there ms ≡ 0
  none_there m here lone [] alone = refl
  none_there m here lone (x ∷ ms) alone = by (same_address x.address p) refl (none_there m here lone ms alone.1)
    where
      by : (b : Bool) → same_address x.address p ≡ b → there ms ≡ 0 → cond b 1 0 + there ms ≡ 0
      by true same more = absurd (true≢false (sym lone ∙ (alone.0 (here ∙ sym (same_is x.address p same))).0))
      by false same more = omega (arith, more)

  pub one_there_only : (ms : List Named) → AreValuesAt p ms → PairsAre Alone ms → there ms ≤ 1
  one_there_only [] values alone = omega arith
  one_there_only (m ∷ ms) values alone = by (same_address m.address p) refl (one_there_only ms values.1 alone.1)
    where
      by : (b : Bool) → same_address m.address p ≡ b → there ms ≤ 1 → cond b 1 0 + there ms ≤ 1
      by true same more = let here = same_is m.address p same in let none = none_there m here (values.0 here) ms alone.0 in omega (arith, none)
      by false same more = omega (arith, more)
