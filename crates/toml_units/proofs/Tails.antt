-- Behind the comment at the end of a line comes a line.
use Rattle.std.proofs.Common.{◌≡◌, ℕ, ◌+◌, List, [], ◌∷◌, ◌++◌, Option, Some, None, refl, sym, subst, append_assoc}
use Rattle.toml_tree.specs.Spells.{EachIs}
use Rattle.toml_tree.specs.Tree.{Piece, Expr, BlankLine, KeyValLine, TableLine, ArrayTableLine, Line}
use Rattle.toml_names.specs.model.Addresses.{Address}
use Rattle.toml_names.specs.mentions.Mentions.{Named, root, named_by}
use Rattle.toml_names.specs.reader.Names.{own_address}
use Rattle.toml_units.specs.declared.unit.UnitKind.TheVariants as kinds
use Rattle.toml_units.specs.Tails.{BeginsWithLine, TailsEnd, TailsEndLines}
use Rattle.toml_units.specs.Units.{TextUnit, comment_units, value_units, tail_units, inside_line, units_from}
use Rattle.toml_units.proofs.UnitLines.{IsInner, value_inner}

inner_end : (xs vs : List TextUnit) → EachIs IsInner xs → TailsEnd vs → TailsEnd (xs ++ vs)
inner_end [] vs h k = k
inner_end (x ∷ xs) vs h k = ((λ e. absurd (h.0.1 e)), inner_end xs vs h.1 k)

tail_end : (at : Option Address) (c : Option Piece) (vs : List TextUnit) → BeginsWithLine vs → TailsEnd vs → TailsEnd (comment_units kinds.TailComment at c ++ vs)
tail_end at None vs b k = k
tail_end at (Some p) vs b k = ((λ e. b), k)

line_end : (at : Option Address) (e : Expr) (vs : List TextUnit) → BeginsWithLine vs → TailsEnd vs → TailsEnd (inside_line at e ++ vs)
line_end at (BlankLine b) vs h k = tail_end at b.comment vs h k
line_end at (KeyValLine ws p b) vs h k =
    subst TailsEnd (sym (append_assoc (value_units at p.value) (tail_units at b) vs)) (inner_end (value_units at p.value) (tail_units at b ++ vs) (value_inner at p.value) (tail_end at b.comment vs h k))
line_end at (TableLine ws x b) vs h k = tail_end at b.comment vs h k
line_end at (ArrayTableLine ws x b) vs h k = tail_end at b.comment vs h k

begins : (ls : List Line) (earlier : List Named) (n : ℕ) → BeginsWithLine (units_from earlier n ls)
begins [] earlier n = tt
begins (l ∷ ls) earlier n = refl

no_tail : kinds.Line ≡ kinds.TailComment → ⊥
no_tail e = cc

tails_end_from : (ls : List Line) (earlier : List Named) (n : ℕ) → TailsEnd (units_from earlier n ls)
tails_end_from [] earlier n = tt
tails_end_from (l ∷ ls) earlier n =
    let old = earlier ++ named_by earlier n l.expr in
    ((λ e. absurd (no_tail e)), line_end (own_address earlier l.expr) l.expr (units_from old (n + 1) ls) (begins ls old (n + 1)) (tails_end_from ls old (n + 1)))

pub tails_end_lines : TailsEndLines
tails_end_lines ls = tails_end_from ls (root ∷ []) 0
