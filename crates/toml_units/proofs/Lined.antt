-- The units of a document, each with the newline of its line.
use Rattle.std.proofs.Common.{◌≡◌, ℕ, zero, suc, ◌+◌, List, [], ◌∷◌, ◌++◌, map, take, Option, Some, None, option_map, Bool, cond, refl, sym, ap, subst, ◌∙◌, arith}
use Rattle.std.specs.Prelude.{slice_get}
use Rattle.std.proofs.lemmas.List.{map-append}
use Rattle.std.proofs.lemmas.List.Sums.{sum_by-cons}
use Rattle.std.proofs.lemmas.Option.{none-some, same_Some}
use Rattle.toml_tree.specs.Spells.{EachIs}
use Rattle.toml_tree.specs.Tree.{Piece, Blank, GapLine, Value, Scalar, Array, Inline, Items, Close, Last, More, Pairs, ClosePairs, LastPair, MorePairs, Expr, BlankLine, KeyValLine, TableLine, ArrayTableLine, Line}
use Rattle.toml_names.specs.model.Addresses.{Address, element}
use Rattle.toml_names.specs.mentions.Mentions.{Named, root, named_by}
use Rattle.toml_names.specs.reader.Names.{own_address}
use Rattle.toml_units.specs.declared.unit.UnitKind.TheVariants as kinds
use Rattle.toml_units.specs.Lined.{LinedAreUnits, LinedHaveNewlines, LinedUnit, lined_from, lined_line, line_at, with_newline}
use Rattle.toml_units.specs.Places.{is_line}
use Rattle.toml_units.specs.Plain.{Spanned, spanned, line_span, line_spans, pair_span, plain_elements, plain_from, plain_inside, plain_line, plain_members, plain_value}
use Rattle.toml_units.specs.Units.{TextUnit, comment_units, element_unit, gap_line_units, gap_units, pair_address, tail_units}
use Rattle.toml_units.proofs.Each.{each_append, each_between}
use Rattle.toml_units.proofs.UnitLines.{not_line}

abbrev pub IsNoLine : Spanned → Type 0
IsNoLine u = ¬ (u.kind ≡ kinds.Line)

comment_no_lines : (at : Address) (c : Option Piece) (us : List TextUnit) → EachIs IsNoLine (map spanned us)
    → EachIs IsNoLine (map spanned (comment_units kinds.InnerComment (Some at) c ++ us))
comment_no_lines at None us h = h
comment_no_lines at (Some p) us h = ((λ e. cc), h)

gap_no_lines : (at : Address) (ls : List GapLine) → EachIs IsNoLine (map spanned (gap_line_units at ls))
gap_no_lines at [] = tt
gap_no_lines at (l ∷ ls) = comment_no_lines at l.blank.comment (gap_line_units at ls) (gap_no_lines at ls)

pub tail_no_lines : (at : Option Address) (b : Blank) → EachIs IsNoLine (map spanned (tail_units at b))
tail_no_lines at b = of b.comment
  where
    of : (c : Option Piece) → EachIs IsNoLine (map spanned (comment_units kinds.TailComment at c))
    of None = tt
    of (Some p) = ((λ e. cc), tt)

mutual
  inside_no_lines : (v : Value) (at : Address) → EachIs IsNoLine (plain_inside at v)
  inside_no_lines (Scalar kind p) at = tt
  inside_no_lines (Array whole items) at = elements_no_lines items at 0
  inside_no_lines (Inline whole pairs) at = members_no_lines pairs at

  pub elements_no_lines : (items : Items) (at : Address) (i : ℕ) → EachIs IsNoLine (plain_elements at i items)
  elements_no_lines (Close g) at i = gap_no_lines at g.lines
  elements_no_lines (Last g v h) at i =
      each_between IsNoLine (map spanned (gap_units at g)) (spanned (element_unit (element at i) v) ∷ plain_inside (element at i) v)
      (map spanned (gap_units at h))
      (gap_no_lines at g.lines) ((λ e. cc), inside_no_lines v (element at i)) (gap_no_lines at h.lines)
  elements_no_lines (More g v h is) at i =
      each_between IsNoLine (map spanned (gap_units at g)) (spanned (element_unit (element at i) v) ∷ plain_inside (element at i) v)
      (map spanned (gap_units at h) ++ plain_elements at (i + 1) is)
      (gap_no_lines at g.lines) ((λ e. cc), inside_no_lines v (element at i))
      (each_append IsNoLine (map spanned (gap_units at h)) (plain_elements at (i + 1) is) (gap_no_lines at h.lines) (elements_no_lines is at (i + 1)))

  members_no_lines : (pairs : Pairs) (at : Address) → EachIs IsNoLine (plain_members at pairs)
  members_no_lines (ClosePairs g) at = gap_no_lines at g.lines
  members_no_lines (LastPair g a v h) at =
      each_between IsNoLine (map spanned (gap_units at g)) (pair_span at (record { assign = a; value = v }) ∷ plain_inside (pair_address at a) v)
      (map spanned (gap_units at h))
      (gap_no_lines at g.lines) ((λ e. cc), inside_no_lines v (pair_address at a)) (gap_no_lines at h.lines)
  members_no_lines (MorePairs g a v h ps) at =
      each_between IsNoLine (map spanned (gap_units at g)) (pair_span at (record { assign = a; value = v }) ∷ plain_inside (pair_address at a) v)
      (map spanned (gap_units at h) ++ plain_members at ps)
      (gap_no_lines at g.lines) ((λ e. cc), inside_no_lines v (pair_address at a))
      (each_append IsNoLine (map spanned (gap_units at h)) (plain_members at ps) (gap_no_lines at h.lines) (members_no_lines ps at))

value_no_lines : (at : Option Address) (v : Value) → EachIs IsNoLine (plain_value at v)
value_no_lines None v = tt
value_no_lines (Some at) v = inside_no_lines v at

-- what lies on a line is none
pub line_no_lines : (at : Option Address) (e : Expr) → EachIs IsNoLine (plain_line at e)
line_no_lines at (BlankLine b) = tail_no_lines at b
line_no_lines at (KeyValLine ws k b) =
    each_append IsNoLine (plain_value at k.value) (map spanned (tail_units at b)) (value_no_lines at k.value) (tail_no_lines at b)
line_no_lines at (TableLine ws h b) = tail_no_lines at b
line_no_lines at (ArrayTableLine ws h b) = tail_no_lines at b

with_no_lines : (newline : List ℕ) (us : List Spanned) → EachIs IsNoLine us → EachIs (λ (x : LinedUnit). IsNoLine x.unit) (with_newline newline us)
with_no_lines newline [] h = tt
with_no_lines newline (u ∷ us) h = (h.0, with_no_lines newline us h.1)

units_of : (newline : List ℕ) (us : List Spanned) → map (λ (x : LinedUnit). x.unit) (with_newline newline us) ≡ us
units_of newline [] = refl
units_of newline (u ∷ us) = ap (λ vs. u ∷ vs) (units_of newline us)

units_from : (ls : List Line) (earlier : List Named) (n : ℕ) → map (λ (x : LinedUnit). x.unit) (lined_from earlier n ls) ≡ plain_from earlier n ls
units_from [] earlier n = refl
units_from (l ∷ ls) earlier n =
    let at = own_address earlier l.expr in
    let old = earlier ++ named_by earlier n l.expr in
    let here = units_of l.newline.text (line_spans at l.expr) in
    let rest = units_from ls old (n + 1) in
    map-append (λ (x : LinedUnit). x.unit) (lined_line at l) (lined_from old (n + 1) ls) ∙ (λ j. here j ++ rest j)

pub lined_are_units : LinedAreUnits
lined_are_units ls = units_from ls (root ∷ []) 0

abbrev one_if : Bool → ℕ
one_if b = cond b 1 0

counted : (u : LinedUnit) (xs : List LinedUnit) (j : ℕ) → line_at (u ∷ xs) (suc j) ≡ one_if (is_line u.unit.kind) + line_at xs j
counted u xs j = sum_by-cons (λ (x : LinedUnit). cond (is_line x.unit.kind) 1 0) u (take j xs)

-- a unit that is a line, behind what is none
behind : (us rest : List LinedUnit) → EachIs (λ (x : LinedUnit). IsNoLine x.unit) us → (j : ℕ) (x : LinedUnit)
    → slice_get (us ++ rest) j ≡ Some x → x.unit.kind ≡ kinds.Line → (k : ℕ) × (slice_get rest k ≡ Some x) × (line_at (us ++ rest) j ≡ line_at rest k)
behind [] rest none j x is line = (j, is, refl)
behind (u ∷ us) rest none zero x is line = absurd (none.0 (ap (λ (y : LinedUnit). y.unit.kind) (same_Some u x is) ∙ line))
behind (u ∷ us) rest none (suc j) x is line =
    let more = behind us rest none.1 j x is line in
    let same = counted u (us ++ rest) j in
    let none_here : one_if (is_line u.unit.kind) ≡ 0 = ap one_if (not_line u.unit.kind none.0) in
    let count : line_at (u ∷ (us ++ rest)) (suc j) ≡ line_at rest more.0 = omega (arith, same, none_here, more.2) in
    (more.0, more.1, count)

newlines_from : (ls : List Line) (earlier : List Named) (n i : ℕ) (x : LinedUnit) → slice_get (lined_from earlier n ls) i ≡ Some x
    → x.unit.kind ≡ kinds.Line → option_map (λ (l : Line). l.newline.text) (slice_get ls (line_at (lined_from earlier n ls) i)) ≡ Some x.newline
newlines_from [] earlier n i x is line = absurd (none-some x is)
newlines_from (l ∷ ls) earlier n zero x is line =
    ap (λ (y : LinedUnit). Some y.newline) (same_Some (record { unit = line_span (own_address earlier l.expr) l.expr; newline = l.newline.text }) x is)
newlines_from (l ∷ ls) earlier n (suc j) x is line =
    let at = own_address earlier l.expr in
    let first : LinedUnit = record { unit = line_span at l.expr; newline = l.newline.text } in
    let us = with_newline l.newline.text (plain_line at l.expr) in
    let old = earlier ++ named_by earlier n l.expr in
    let rest = lined_from old (n + 1) ls in
    let more = behind us rest (with_no_lines l.newline.text (plain_line at l.expr) (line_no_lines at l.expr)) j x is line in
    let same = counted first (us ++ rest) j in
    let count : line_at (first ∷ (us ++ rest)) (suc j) ≡ suc (line_at rest more.0) = omega (arith, same, more.2) in
    subst (λ m. option_map (λ (k : Line). k.newline.text) (slice_get (l ∷ ls) m) ≡ Some x.newline) (sym count)
    (newlines_from ls old (n + 1) more.0 x more.1 line)

pub lined_have_newlines : LinedHaveNewlines
lined_have_newlines ls i x is line = newlines_from ls (root ∷ []) 0 i x is line
