-- Where the text of lines ends in a newline, the last of their units that is a line has no bytes.
use Rattle.std.proofs.Common.{◌≡◌, ◌+◌, ℕ, true, Option, Some, None, List, [], ◌∷◌, ◌++◌, map, length, refl, sym, ap, ap₂, ◌∙◌, subst, arith, append-nil}
use Rattle.std.specs.Prelude.{is_some}
use Rattle.toml_tree.specs.Spells.{AreLines, IsExpr, expr_parts, joined, lines_parts}
use Rattle.toml_tree.specs.Tree.{Expr, BlankLine, KeyValLine, TableLine, ArrayTableLine, Line, Piece}
use Rattle.toml_names.specs.mentions.Mentions.{Named, named_by, root}
use Rattle.toml_units.specs.Bares.{bare_unit}
use Rattle.toml_units.specs.declared.unit.UnitKind.TheVariants as kinds
use Rattle.toml_units.specs.Units.{TextUnit, comment_units, inside_line, line_unit, line_units, units, units_from}
use Rattle.toml_working.specs.Manners.{ends_in_newline}
use Rattle.toml_editor.proofs.written.EndsBare.{ends_bare}
use Rattle.toml_editor.proofs.written.InsertSpaced.{line_formed}
use Rattle.toml_editor.proofs.written.LastLines.{array_long, comment_long, pair_long, table_long}
use Rattle.toml_editor.proofs.written.Way.{one_line}
use Rattle.toml_editor.proofs.written.WayLast.{LastIsBare, bare_behind}
use Rattle.toml_editor.proofs.written.WayZip.{lines_in}

-- ---- units without their places

lines_same : (us ws : List TextUnit) → map bare_unit us ≡ map bare_unit ws → lines_in us ≡ lines_in ws
lines_same [] [] is = refl
lines_same [] (w ∷ ws) is = cc
lines_same (u ∷ us) [] is = cc
lines_same (u ∷ us) (w ∷ ws) is =
    let head : bare_unit u ≡ bare_unit w = cc in
    let rest : map bare_unit us ≡ map bare_unit ws = cc in
    ap₂ (λ x y. x + y) (ap (λ (y : TextUnit). one_line y.kind) head) (lines_same us ws rest)

pub same_bare : (us ws : List TextUnit) → map bare_unit us ≡ map bare_unit ws → LastIsBare us → LastIsBare ws
same_bare us ws is it = by it.front ws (ap (map bare_unit) (sym it.is) ∙ is)
  where
    by : (front ws : List TextUnit) → map bare_unit (front ++ it.last ∷ it.back) ≡ map bare_unit ws → LastIsBare ws
    by [] [] same = cc
    by (x ∷ front) [] same = cc
    by [] (w ∷ ws) same =
        let head : bare_unit it.last ≡ bare_unit w = cc in
        let rest : map bare_unit it.back ≡ map bare_unit ws = cc in
        record {
          front = [];
          last = w;
          back = ws;
          is = refl;
          line = sym (ap (λ (y : TextUnit). y.kind) head) ∙ it.line;
          bare = sym (ap (λ (y : TextUnit). y.piece.text) head) ∙ it.bare;
          nowhere = sym (ap (λ (y : TextUnit). y.address) head) ∙ it.nowhere;
          none = sym (lines_same it.back ws rest) ∙ it.none;
        }
    by (x ∷ front) (w ∷ ws) same = let rest : map bare_unit (front ++ it.last ∷ it.back) ≡ map bare_unit ws = cc in bare_behind w ws (by front ws rest)

bare_append : (front us : List TextUnit) → LastIsBare us → LastIsBare (front ++ us)
bare_append [] us it = it
bare_append (x ∷ front) us it = bare_behind x (front ++ us) (bare_append front us it)

-- ---- the last line

-- an expression without bytes is blank, and has no comment
bare_line : (xs : List Named) (e : Expr) → IsExpr e → joined (expr_parts e) ≡ [] → LastIsBare (line_units xs e)
bare_line xs (KeyValLine ws k b) form none = let some = pair_long ws k b in let zero = ap length none in let e : ⊥ = omega (arith, some, zero) in absurd e
bare_line xs (TableLine ws h b) form none = let some = table_long ws h b in let zero = ap length none in let e : ⊥ = omega (arith, some, zero) in absurd e
bare_line xs (ArrayTableLine ws h b) form none = let some = array_long ws h b in let zero = ap length none in let e : ⊥ = omega (arith, some, zero) in absurd e
bare_line xs (BlankLine b) form none = by b.comment refl
  where
    by : (o : Option Piece) → b.comment ≡ o → LastIsBare (line_units xs (BlankLine b))
    by (Some p) is =
        let some = comment_long b.ws.text b.comment (ap is_some is) form.1 in let zero = ap length none in let e : ⊥ = omega (arith, some, zero) in absurd e
    by None is = record {
      front = [];
      last = line_unit xs (BlankLine b);
      back = inside_line None (BlankLine b);
      is = refl;
      line = refl;
      bare = none;
      nowhere = refl;
      none = ap (λ o. lines_in (comment_units kinds.TailComment None o)) is;
    }

last_of : (front : List Line) (l : Line) (xs : List Named) (n : ℕ) → IsExpr l.expr → joined (expr_parts l.expr) ≡ [] → LastIsBare (units_from xs n (front ++ l ∷ []))
last_of [] l xs n form none = subst LastIsBare (sym (append-nil (line_units xs l.expr))) (bare_line xs l.expr form none)
last_of (m ∷ front) l xs n form none = bare_append (line_units xs m.expr) _ (last_of front l (xs ++ named_by xs n m.expr) (n + 1) form none)

-- Where the text ends in a newline, it is so of its units.
pub last_is_bare : (lines : List Line) → AreLines lines → ends_in_newline (joined (lines_parts lines)) ≡ true → LastIsBare (units lines)
last_is_bare lines forms ends =
    let (front, l, is, none, ended) = ends_bare lines forms ends in
    subst (λ ls. LastIsBare (units ls)) (sym is) (last_of front l (root ∷ []) 0 (line_formed front [] l (subst AreLines is forms)) none)
