-- The line of a unit.
use Rattle.std.proofs.Common.{◌≡◌, ◌⊎◌, inl, inr, ℕ, zero, suc, ◌+◌, List, [], ◌∷◌, ◌++◌, Option, Some, None, true, false, refl, sym, ap, subst, ◌∙◌}
use Rattle.std.specs.Prelude.{slice_get, IsSome}
use Rattle.std.proofs.lemmas.Option.{same_Some}
use Rattle.toml_tree.specs.Spells.{EachIs}
use Rattle.toml_tree.specs.Tree.{Piece, Assign, GapLine, Gap, Value, Scalar, Array, Inline, Items, Close, Last, More, Pairs, ClosePairs, LastPair, MorePairs, Expr, BlankLine, KeyValLine, TableLine, ArrayTableLine, Line}
use Rattle.toml_names.specs.model.Addresses.{Address, element}
use Rattle.toml_names.specs.mentions.Mentions.{Named, root, named_by}
use Rattle.toml_names.specs.reader.Names.{own_address}
use Rattle.toml_units.specs.declared.unit.UnitKind.{UnitKind}
use Rattle.toml_units.specs.declared.unit.UnitKind.TheVariants as kinds
use Rattle.toml_units.specs.Blocks.{IsUnder}
use Rattle.toml_units.specs.OfLines.{IsOfLine, UnitsAreOfLines}
use Rattle.toml_units.specs.Places.{is_line, line_with, line_from}
use Rattle.toml_units.specs.Units.{TextUnit, comment_units, gap_units, gap_line_units, element_unit, pair_unit, inside, elements, members, value_units, tail_units, inside_line, line_unit, pair_address, units_from, units}
use Rattle.toml_units.proofs.Each.{each_append, each_between, each_weaker, each_of_both}
use Rattle.toml_units.proofs.InLines.{line_under}

-- the same, its address apart
record IsPart (l w : TextUnit) : Type 0 where
  line : l.kind ≡ kinds.Line
  inner : ¬ (w.kind ≡ kinds.Line)
  tail : w.kind ≡ kinds.TailComment → (w.address ≡ l.address) × (w.base ≡ None)
  pair : w.kind ≡ kinds.Pair → IsSome w.base
  header : l.base ≡ None → w.kind ≡ kinds.TailComment

abbrev pub OfLine : Option TextUnit → TextUnit → Type 0
OfLine line w = (w.kind ≡ kinds.Line) ⊎ ((l : TextUnit) × (line ≡ Some l) × IsOfLine l w)

-- each unit is a line, or in the line so far
abbrev pub AreInLines : Option TextUnit → List TextUnit → Type 0
AreInLines line [] = Unit {0}
AreInLines line (w ∷ ws) = OfLine line w × AreInLines (line_with line w) ws

-- what lies in a value is no line and no tail comment
abbrev pub IsInner : TextUnit → Type 0
IsInner w = ¬ (w.kind ≡ kinds.Line) × ¬ (w.kind ≡ kinds.TailComment) × (w.kind ≡ kinds.Pair → IsSome w.base)

no_pair : kinds.InnerComment ≡ kinds.Pair → ⊥
no_pair e = cc

no_element : kinds.Element ≡ kinds.Pair → ⊥
no_element e = cc

no_tail : kinds.TailComment ≡ kinds.Pair → ⊥
no_tail e = cc

comment_inner : (at : Option Address) (c : Option Piece) → EachIs IsInner (comment_units kinds.InnerComment at c)
comment_inner at None = tt
comment_inner at (Some p) = (((λ e. cc), (λ e. cc), (λ e. absurd (no_pair e))), tt)

gap_line_inner : (at : Address) (ls : List GapLine) → EachIs IsInner (gap_line_units at ls)
gap_line_inner at [] = tt
gap_line_inner at (l ∷ ls) = each_append IsInner (comment_units kinds.InnerComment (Some at) l.blank.comment) (gap_line_units at ls) (comment_inner (Some at) l.blank.comment) (gap_line_inner at ls)

gap_inner : (at : Address) (g : Gap) → EachIs IsInner (gap_units at g)
gap_inner at g = gap_line_inner at g.lines

element_inner : (at : Address) (v : Value) → EachIs IsInner (inside at v) → EachIs IsInner (element_unit at v ∷ inside at v)
element_inner at v h = (((λ e. cc), (λ e. cc), (λ e. absurd (no_element e))), h)

pair_inner : (at : Address) (a : Assign) (v : Value) → EachIs IsInner (inside (pair_address at a) v) → EachIs IsInner (pair_unit at (record { assign = a; value = v }) ∷ inside (pair_address at a) v)
pair_inner at a v h = (((λ e. cc), (λ e. cc), (λ e. refl)), h)

mutual
  inner_inside : (at : Address) (v : Value) → EachIs IsInner (inside at v)
  inner_inside at (Scalar kind p) = tt
  inner_inside at (Array whole items) = inner_elements at 0 items
  inner_inside at (Inline whole pairs) = inner_members at pairs

  inner_elements : (at : Address) (i : ℕ) (is : Items) → EachIs IsInner (elements at i is)
  inner_elements at i (Close g) = gap_inner at g
  inner_elements at i (Last g v h) =
      each_between IsInner (gap_units at g) (element_unit (element at i) v ∷ inside (element at i) v) (gap_units at h) (gap_inner at g) (element_inner (element at i) v (inner_inside (element at i) v)) (gap_inner at h)
  inner_elements at i (More g v h is) =
      each_between IsInner (gap_units at g) (element_unit (element at i) v ∷ inside (element at i) v) (gap_units at h ++ elements at (i + 1) is) (gap_inner at g) (element_inner (element at i) v (inner_inside (element at i) v))
      (each_append IsInner (gap_units at h) (elements at (i + 1) is) (gap_inner at h) (inner_elements at (i + 1) is))

  inner_members : (at : Address) (ps : Pairs) → EachIs IsInner (members at ps)
  inner_members at (ClosePairs g) = gap_inner at g
  inner_members at (LastPair g a v h) =
      each_between IsInner (gap_units at g) (pair_unit at (record { assign = a; value = v }) ∷ inside (pair_address at a) v) (gap_units at h) (gap_inner at g) (pair_inner at a v (inner_inside (pair_address at a) v)) (gap_inner at h)
  inner_members at (MorePairs g a v h ps) =
      each_between IsInner (gap_units at g) (pair_unit at (record { assign = a; value = v }) ∷ inside (pair_address at a) v) (gap_units at h ++ members at ps) (gap_inner at g) (pair_inner at a v (inner_inside (pair_address at a) v))
      (each_append IsInner (gap_units at h) (members at ps) (gap_inner at h) (inner_members at ps))

pub value_inner : (at : Option Address) (v : Value) → EachIs IsInner (value_units at v)
value_inner None v = tt
value_inner (Some at) v = inner_inside at v

tail_in : (l : TextUnit) (c : Option Piece) → l.kind ≡ kinds.Line → EachIs (IsPart l) (comment_units kinds.TailComment l.address c)
tail_in l None is = tt
tail_in l (Some p) is = (record { line = is; inner = λ e. cc; tail = λ e. (refl, refl); pair = λ e. absurd (no_tail e); header = λ e. refl }, tt)

no_base : (n : ℕ) → Some n ≡ None → ⊥
no_base n e = cc

part_of : (earlier : List Named) (e : Expr) → EachIs (IsPart (line_unit earlier e)) (inside_line (own_address earlier e) e)
part_of earlier (BlankLine b) = tail_in (line_unit earlier (BlankLine b)) b.comment refl
part_of earlier (KeyValLine ws k b) =
    each_append (IsPart (line_unit earlier (KeyValLine ws k b))) (value_units (own_address earlier (KeyValLine ws k b)) k.value) (tail_units (own_address earlier (KeyValLine ws k b)) b)
    (each_weaker IsInner (IsPart (line_unit earlier (KeyValLine ws k b))) (λ w h. record { line = refl; inner = h.0; tail = λ e. absurd (h.1 e); pair = h.2; header = λ e. absurd (no_base _ e) }) (value_units (own_address earlier (KeyValLine ws k b)) k.value) (value_inner (own_address earlier (KeyValLine ws k b)) k.value))
    (tail_in (line_unit earlier (KeyValLine ws k b)) b.comment refl)
part_of earlier (TableLine ws h b) = tail_in (line_unit earlier (TableLine ws h b)) b.comment refl
part_of earlier (ArrayTableLine ws h b) = tail_in (line_unit earlier (ArrayTableLine ws h b)) b.comment refl

joins : (l w : TextUnit) → IsPart l w × IsUnder l.address w → IsOfLine l w
joins l w h = record { is_line = h.0.line; inner = h.0.inner; tail = h.0.tail; only_tail = h.0.header; pair = h.0.pair; under = h.1 }

in_line : (earlier : List Named) (e : Expr) → EachIs (IsOfLine (line_unit earlier e)) (inside_line (own_address earlier e) e)
in_line earlier e =
    each_weaker (λ w. IsPart (line_unit earlier e) w × IsUnder (own_address earlier e) w) (IsOfLine (line_unit earlier e)) (joins (line_unit earlier e)) (inside_line (own_address earlier e) e)
    (each_of_both (IsPart (line_unit earlier e)) (IsUnder (own_address earlier e)) (inside_line (own_address earlier e) e) (part_of earlier e) (line_under earlier e))

pub not_line : (k : UnitKind) → ¬ (k ≡ kinds.Line) → is_line k ≡ false
not_line kinds.Line h = absurd (h refl)
not_line kinds.TailComment h = refl
not_line kinds.InnerComment h = refl
not_line kinds.Element h = refl
not_line kinds.Pair h = refl

-- behind a line its units, and then what is in lines whatever the line so far is
before : (l : TextUnit) (ws vs : List TextUnit) → EachIs (IsOfLine l) ws → ((line : Option TextUnit) → AreInLines line vs) → AreInLines (Some l) (ws ++ vs)
before l [] vs h next = next (Some l)
before l (w ∷ ws) vs h next =
    (inr (l, refl, h.0), subst (λ o. AreInLines o (ws ++ vs)) (let e : line_with (Some l) w ≡ Some l = rw (not_line w.kind h.0.inner) refl in sym e) (before l ws vs h.1 next))

all_in_lines : (ls : List Line) (earlier : List Named) (n : ℕ) (line : Option TextUnit) → AreInLines line (units_from earlier n ls)
all_in_lines [] earlier n line = tt
all_in_lines (l ∷ ls) earlier n line =
    (inl refl, before (line_unit earlier l.expr) (inside_line (own_address earlier l.expr) l.expr) (units_from (earlier ++ named_by earlier n l.expr) (n + 1) ls) (in_line earlier l.expr) (all_in_lines ls (earlier ++ named_by earlier n l.expr) (n + 1)))

-- the same by places
line_at : (us : List TextUnit) (line : Option TextUnit) (i : ℕ) (w : TextUnit) → AreInLines line us → slice_get us i ≡ Some w → ((w.kind ≡ kinds.Line) × (line_from line us i ≡ Some w)) ⊎ ((l : TextUnit) × (line_from line us i ≡ Some l) × IsOfLine l w)
line_at [] line i w h is = cc
line_at (u ∷ us) line zero w h is = by (same_Some u w is) h.0
  where
    by : u ≡ w → OfLine line u → ((w.kind ≡ kinds.Line) × (line_with line u ≡ Some w)) ⊎ ((l : TextUnit) × (line_with line u ≡ Some l) × IsOfLine l w)
    by e (inl k) = inl (sym (ap (λ (x : TextUnit). x.kind) e) ∙ k, let b : is_line u.kind ≡ true = rw k refl in rw b (ap Some e))
    by e (inr k) = inr (k.0, rw (not_line u.kind k.2.inner) k.1, subst (IsOfLine k.0) e k.2)
line_at (u ∷ us) line (suc i) w h is = line_at us (line_with line u) i w h.1 is

pub units_are_of_lines : UnitsAreOfLines
units_are_of_lines ls i w is = line_at (units ls) None i w (all_in_lines ls (root ∷ []) 0 None) is
