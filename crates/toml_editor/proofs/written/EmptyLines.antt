-- Behind a line of no bytes comes a line.
use Rattle.std.proofs.Common.{◌≡◌, inr, ◌<◌, ◌+◌, ℕ, zero, suc, Option, Some, None, List, [], ◌∷◌, ◌++◌, length, refl, ap, ◌∙◌, subst, arith}
use Rattle.std.specs.Prelude.{slice_get}
use Rattle.std.proofs.lemmas.Option.{same_Some}
use Rattle.toml_tree.specs.Spells.{EachIs, joined, blank_parts, expr_parts, IsExpr, IsCommentOrNone, AreLines}
use Rattle.toml_tree.specs.Tree.{Piece, Expr, BlankLine, KeyValLine, TableLine, ArrayTableLine, Line}
use Rattle.toml_names.specs.mentions.Keys.{key_names}
use Rattle.toml_names.specs.mentions.Mentions.{Named, named_by, root, section}
use Rattle.toml_names.specs.model.Addresses.{below}
use Rattle.toml_names.specs.reader.Names.{own_address}
use Rattle.toml_units.specs.Units.{TextUnit, comment_units, inside, line_unit, line_units, units_from, units}
use Rattle.toml_units.specs.declared.unit.UnitKind.TheVariants as kinds
use Rattle.toml_editor.specs.UnitBlocks.{BeginWithLine}
use Rattle.toml_editor.proofs.Each.{each_append}
use Rattle.toml_editor.proofs.written.LastLines.{no_lines, tail_no_line, pair_long, table_long, array_long, comment_long}
use Rattle.toml_editor.proofs.written.UnitsGone.{value_in}
use Rattle.toml_editor.proofs.written.UnitsPut.{lines_first}

-- behind each line of no bytes the units go on with a line, or end
abbrev pub EmptyEnds : List TextUnit → Type 0
EmptyEnds [] = Unit {0}
EmptyEnds (u ∷ us) = (u.kind ≡ kinds.Line → u.piece.text ≡ [] → BeginWithLine us) × EmptyEnds us

inner_ends : (us vs : List TextUnit) → EachIs (λ (u : TextUnit). ¬ (u.kind ≡ kinds.Line)) us → EmptyEnds vs → EmptyEnds (us ++ vs)
inner_ends [] vs h ends = ends
inner_ends (u ∷ us) vs h ends = ((λ is none. absurd (h.0 is)), inner_ends us vs h.1 ends)

-- ---- lines with bytes

none_left : {P : Type 0} (xs : List ℕ) → 0 < length xs → xs ≡ [] → P
none_left xs some is = let e = ap length is in let f : ⊥ = omega (arith, some, e) in absurd f

-- ---- all lines

line_ends : (xs : List Named) (e : Expr) (vs : List TextUnit) → IsExpr e → BeginWithLine vs → EmptyEnds vs
    → EmptyEnds (line_units xs e ++ vs)
line_ends xs (BlankLine b) vs is first ends = by b.comment is.1
  where
    by : (o : Option Piece) → IsCommentOrNone o
        → EmptyEnds ((line_unit xs (BlankLine (record { ws = b.ws; comment = o })) ∷ comment_units kinds.TailComment None o) ++ vs)
    by None is = ((λ line none. first), ends)
    by (Some p) is = (
      (λ line none. none_left (joined (blank_parts (record { ws = b.ws; comment = Some p })))
          (comment_long b.ws.text (Some p) refl is) none),
      ((λ line none. cc), ends),
    )
line_ends xs (KeyValLine ws k b) vs is first ends =
    let at = below (section xs) (key_names k.assign.key) in (
      (λ line none. none_left (joined (expr_parts (KeyValLine ws k b))) (pair_long ws k b) none),
      inner_ends (inside at k.value ++ comment_units kinds.TailComment (Some at) b.comment) vs
          (each_append _ (inside at k.value) (comment_units kinds.TailComment (Some at) b.comment)
          (no_lines at (inside at k.value) (value_in at k.value at (inr refl))) (tail_no_line (Some at) b.comment)) ends,
    )
line_ends xs (TableLine ws h b) vs is first ends = (
  (λ line none. none_left (joined (expr_parts (TableLine ws h b))) (table_long ws h b) none),
  inner_ends (comment_units kinds.TailComment (own_address xs (TableLine ws h b)) b.comment) vs
      (tail_no_line (own_address xs (TableLine ws h b)) b.comment) ends,
)
line_ends xs (ArrayTableLine ws h b) vs is first ends = (
  (λ line none. none_left (joined (expr_parts (ArrayTableLine ws h b))) (array_long ws h b) none),
  inner_ends (comment_units kinds.TailComment (own_address xs (ArrayTableLine ws h b)) b.comment) vs
      (tail_no_line (own_address xs (ArrayTableLine ws h b)) b.comment) ends,
)

lines_end : (ls : List Line) (xs : List Named) (n : ℕ) → EachIs (λ (l : Line). IsExpr l.expr) ls → EmptyEnds (units_from xs n ls)
lines_end [] xs n h = tt
lines_end (l ∷ ls) xs n h =
    line_ends xs l.expr (units_from (xs ++ named_by xs n l.expr) (n + 1) ls) h.0 (lines_first ls (xs ++ named_by xs n l.expr) (n + 1))
    (lines_end ls (xs ++ named_by xs n l.expr) (n + 1) h.1)

formed : (ls : List Line) → AreLines ls → EachIs (λ (l : Line). IsExpr l.expr) ls
formed [] h = tt
formed (l ∷ []) h = (h.0, tt)
formed (l ∷ m ∷ ls) h = (h.0, formed (m ∷ ls) h.2)

pub empty_ends : (lines : List Line) → AreLines lines → EmptyEnds (units lines)
empty_ends lines forms = lines_end lines (root ∷ []) 0 (formed lines forms)

-- by places: where a unit comes behind a line of no bytes, the next one is a line
pub behind_empty : (us : List TextUnit) (y : ℕ) (v w : TextUnit) → EmptyEnds us → slice_get us y ≡ Some v → v.kind ≡ kinds.Line
    → v.piece.text ≡ [] → slice_get us (suc y) ≡ Some w → w.kind ≡ kinds.Line
behind_empty [] y v w ends is line none next = cc
behind_empty (u ∷ []) zero v w ends is line none next = cc
behind_empty (u ∷ x ∷ us) zero v w ends is line none next =
    let same : u ≡ v = same_Some u v is in
    let first : x ≡ w = same_Some x w next in
    subst (λ (y : TextUnit). y.kind ≡ kinds.Line) first
    (ends.0 (ap (λ (y : TextUnit). y.kind) same ∙ line) (ap (λ (y : TextUnit). y.piece.text) same ∙ none))
behind_empty (u ∷ us) (suc y) v w ends is line none next = behind_empty us y v w ends.1 is line none next
