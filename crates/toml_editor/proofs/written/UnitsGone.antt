-- The units in the value at an address.
use Rattle.std.proofs.Common.{◌≡◌, ◌⊎◌, inl, inr, ℕ, ◌+◌, true, false, map, Option, Some, None, List, [], ◌∷◌, ◌++◌, refl, sym, ap, ◌∙◌, append_assoc, true≢false}
use Rattle.toml_tree.specs.Spells.{EachIs}
use Rattle.toml_tree.specs.Tree.{Piece, Assign, GapLine, Gap, Value, Scalar, Array, Inline, Items, Close, Last, More, Pairs, ClosePairs, LastPair, MorePairs}
use Rattle.toml_names.specs.declared.model.address.Step.{Step}
use Rattle.toml_names.specs.declared.model.address.Step.TheVariants.{Name, Index}
use Rattle.toml_names.specs.mentions.Keys.{key_names, part_name, rest_names}
use Rattle.toml_names.specs.model.Addresses.{Address, IsAbove, element, below}
use Rattle.toml_units.specs.Places.{is_line}
use Rattle.toml_units.specs.Units.{TextUnit, comment_units, gap_line_units, gap_units, inside, elements, members}
use Rattle.toml_units.specs.declared.unit.UnitKind.{UnitKind}
use Rattle.toml_units.specs.declared.unit.UnitKind.TheVariants as kinds
use Rattle.toml_editor.specs.ChangedUnits.{is_inner, LiesInValue, IsSetTo, AreMadeOf}
use Rattle.toml_editor.proofs.Each.{each_append}
use Rattle.toml_editor.proofs.written.UnitsIn.{of_element, of_pair}

-- what may stand in a value is no line
pub inner_line : (k : UnitKind) → is_inner k ≡ true → is_line k ≡ false
inner_line kinds.Line is = absurd (true≢false (sym is))
inner_line kinds.TailComment is = refl
inner_line kinds.InnerComment is = refl
inner_line kinds.Element is = refl
inner_line kinds.Pair is = refl

module _ (p : Address) where
  abbrev pub IsIn : Address → Type 0
  IsIn at = IsAbove p at ⊎ (at ≡ p)

  abbrev Lie : List TextUnit → Type 0
  Lie = EachIs (LiesInValue p)

  further : (at : Address) (s : Step) (more : Address) → IsIn at → IsAbove p (at ++ s ∷ more)
  further at s more (inl (t, rest, is)) = (t, rest ++ s ∷ more, ap (λ (a : Address). a ++ s ∷ more) is ∙ append_assoc p (t ∷ rest) (s ∷ more))
  further at s more (inr is) = (s, more, ap (λ (a : Address). a ++ s ∷ more) is)

  comment_in : (at : Address) → IsIn at → (o : Option Piece) → Lie (comment_units kinds.InnerComment (Some at) o)
  comment_in at here None = tt
  comment_in at (inl above) (Some piece) = ((refl, inl above), tt)
  comment_in at (inr is) (Some piece) = ((refl, inr (is, refl)), tt)

  gap_in : (ls : List GapLine) (at : Address) → IsIn at → Lie (gap_line_units at ls)
  gap_in [] at here = tt
  gap_in (l ∷ ls) at here = each_append (LiesInValue p) (comment_units kinds.InnerComment (Some at) l.blank.comment) (gap_line_units at ls) (comment_in at here l.blank.comment) (gap_in ls at here)

  between : (g h : Gap) (at : Address) (us vs : List TextUnit) → IsIn at → Lie us → Lie vs → Lie (gap_units at g ++ (us ++ (gap_units at h ++ vs)))
  between g h at us vs here this rest =
      each_append (LiesInValue p) (gap_units at g) (us ++ (gap_units at h ++ vs)) (gap_in g.lines at here)
      (each_append (LiesInValue p) us (gap_units at h ++ vs) this (each_append (LiesInValue p) (gap_units at h) vs (gap_in h.lines at here) rest))

  at_end : (g h : Gap) (at : Address) (us : List TextUnit) → IsIn at → Lie us → Lie (gap_units at g ++ (us ++ gap_units at h))
  at_end g h at us here this =
      each_append (LiesInValue p) (gap_units at g) (us ++ gap_units at h) (gap_in g.lines at here) (each_append (LiesInValue p) us (gap_units at h) this (gap_in h.lines at here))

  abbrev to_pair : (at : Address) (a : Assign) → IsIn at → IsAbove p (below at (key_names a.key))
  to_pair at a here = further at (Name (part_name a.key.first)) (map Name (rest_names a.key.rest)) here

  mutual
    pub value_in : (v : Value) (at : Address) → IsIn at → Lie (inside at v)
    value_in (Scalar kind text) at here = tt
    value_in (Array whole items) at here = items_in items at 0 here
    value_in (Inline whole pairs) at here = pairs_in pairs at here

    items_in : (items : Items) (at : Address) (i : ℕ) → IsIn at → Lie (elements at i items)
    items_in (Close g) at i here = gap_in g.lines at here
    items_in (Last g v h) at i here =
        let under = further at (Index i) [] here in
        at_end g h at (of_element at i v) here ((refl, inl under), value_in v (element at i) (inl under))
    items_in (More g v h is) at i here =
        let under = further at (Index i) [] here in
        between g h at (of_element at i v) (elements at (i + 1) is) here ((refl, inl under), value_in v (element at i) (inl under)) (items_in is at (i + 1) here)

    pairs_in : (pairs : Pairs) (at : Address) → IsIn at → Lie (members at pairs)
    pairs_in (ClosePairs g) at here = gap_in g.lines at here
    pairs_in (LastPair g a v h) at here =
        let under = to_pair at a here in
        at_end g h at (of_pair at a v) here ((refl, inl under), value_in v (below at (key_names a.key)) (inl under))
    pairs_in (MorePairs g a v h ps) at here =
        let under = to_pair at a here in
        between g h at (of_pair at a v) (members at ps) here ((refl, inl under), value_in v (below at (key_names a.key)) (inl under)) (pairs_in ps at here)

  -- nothing is made of them
  pub none_made : (text : List ℕ) (IsOld : Value → Type 0) (new : Value) (us : List TextUnit) → Lie us → AreMadeOf (IsSetTo p text IsOld new) us []
  none_made text IsOld new [] lie = refl
  none_made text IsOld new (u ∷ us) lie = ([], [], inl (lie.0, refl), refl, none_made text IsOld new us lie.1)
