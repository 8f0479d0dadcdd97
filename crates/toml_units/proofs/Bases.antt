-- Which units have a base.
use Rattle.std.proofs.Common.{◌≡◌, inl, inr, ℕ, ◌+◌, ◌<◌, List, [], ◌∷◌, ◌++◌, length, Option, Some, None, refl, sym, subst, arith}
use Rattle.std.proofs.lemmas.Option.{same_Some}
use Rattle.toml_tree.specs.Spells.{EachIs}
use Rattle.toml_tree.specs.Tree.{Piece, GapLine, Gap, Value, Scalar, Array, Inline, Items, Close, Last, More, Pairs, ClosePairs, LastPair, MorePairs, KeyVal, Expr, BlankLine, KeyValLine, TableLine, ArrayTableLine, Line}
use Rattle.toml_tree.specs.Tree as tree
use Rattle.toml_names.specs.model.Addresses.{Address, element}
use Rattle.toml_names.specs.mentions.Keys.{key_names}
use Rattle.toml_names.specs.mentions.Mentions.{Named, root, section, named_by}
use Rattle.toml_names.specs.reader.Names.{own_address}
use Rattle.toml_units.specs.declared.unit.UnitKind.{UnitKind}
use Rattle.toml_units.specs.declared.unit.UnitKind.TheVariants as kinds
use Rattle.toml_units.specs.Bases.{IsBased, UnitsAreBased, lines_of, HasBase, AreLines, LinesAreUnits}
use Rattle.toml_units.specs.Units.{TextUnit, comment_units, gap_units, gap_line_units, element_unit, pair_unit, pair_address, inside, elements, members, value_units, tail_units, inside_line, line_unit, units_from}
use Rattle.toml_units.proofs.Each.{each_append, each_between}
use Rattle.toml_units.proofs.InLines.{line_no_lines}
use Rattle.toml_units.proofs.UnitLines.{not_line}

-- a key has a part
key_some : (k : tree.Key) → 0 < length (key_names k)
key_some k = omega arith

-- a unit without a base
without : (u : TextUnit) → u.base ≡ None → ¬ (u.kind ≡ kinds.Pair) → IsBased u
without u none other = record {
  only = λ some. cc;
  pair = λ is. absurd (other is);
  front = λ n is. cc;
}

comments_based : (kind : UnitKind) (at : Option Address) (c : Option Piece) → ¬ (kind ≡ kinds.Pair) → EachIs IsBased (comment_units kind at c)
comments_based kind at None other = tt
comments_based kind at (Some p) other = (without (record { kind = kind; piece = p; address = at; base = None }) refl other, tt)

gap_lines_based : (at : Address) (ls : List GapLine) → EachIs IsBased (gap_line_units at ls)
gap_lines_based at [] = tt
gap_lines_based at (l ∷ ls) = each_append IsBased (comment_units kinds.InnerComment (Some at) l.blank.comment) (gap_line_units at ls) (comments_based kinds.InnerComment (Some at) l.blank.comment (λ e. cc)) (gap_lines_based at ls)

gap_based : (at : Address) (g : Gap) → EachIs IsBased (gap_units at g)
gap_based at g = gap_lines_based at g.lines

element_based : (at : Address) (v : Value) → IsBased (element_unit at v)
element_based at v = without (element_unit at v) refl (λ e. cc)

pair_based : (at : Address) (k : KeyVal) → IsBased (pair_unit at k)
pair_based at k = record {
  only = λ some. inr refl;
  pair = λ is. refl;
  front = λ n is. record { table = at; key = key_names k.assign.key; long = sym (same_Some (length at) n is); address = refl; some = key_some k.assign.key };
}

mutual
  inside_based : (at : Address) (v : Value) → EachIs IsBased (inside at v)
  inside_based at (Scalar kind p) = tt
  inside_based at (Array whole items) = elements_based at 0 items
  inside_based at (Inline whole pairs) = members_based at pairs

  elements_based : (at : Address) (i : ℕ) (is : Items) → EachIs IsBased (elements at i is)
  elements_based at i (Close g) = gap_based at g
  elements_based at i (Last g v h) =
      each_between IsBased (gap_units at g) (element_unit (element at i) v ∷ inside (element at i) v) (gap_units at h) (gap_based at g) (element_based (element at i) v, inside_based (element at i) v) (gap_based at h)
  elements_based at i (More g v h is) =
      each_between IsBased (gap_units at g) (element_unit (element at i) v ∷ inside (element at i) v) (gap_units at h ++ elements at (i + 1) is) (gap_based at g) (element_based (element at i) v, inside_based (element at i) v)
      (each_append IsBased (gap_units at h) (elements at (i + 1) is) (gap_based at h) (elements_based at (i + 1) is))

  members_based : (at : Address) (ps : Pairs) → EachIs IsBased (members at ps)
  members_based at (ClosePairs g) = gap_based at g
  members_based at (LastPair g a v h) =
      let k : KeyVal = record { assign = a; value = v } in
      each_between IsBased (gap_units at g) (pair_unit at k ∷ inside (pair_address at a) v) (gap_units at h) (gap_based at g) (pair_based at k, inside_based (pair_address at a) v) (gap_based at h)
  members_based at (MorePairs g a v h ps) =
      let k : KeyVal = record { assign = a; value = v } in
      each_between IsBased (gap_units at g) (pair_unit at k ∷ inside (pair_address at a) v) (gap_units at h ++ members at ps) (gap_based at g) (pair_based at k, inside_based (pair_address at a) v)
      (each_append IsBased (gap_units at h) (members at ps) (gap_based at h) (members_based at ps))

value_based : (at : Option Address) (v : Value) → EachIs IsBased (value_units at v)
value_based None v = tt
value_based (Some at) v = inside_based at v

tail_based : (at : Option Address) (b : tree.Blank) → EachIs IsBased (tail_units at b)
tail_based at b = comments_based kinds.TailComment at b.comment (λ e. cc)

line_based : (earlier : List Named) (e : Expr) → IsBased (line_unit earlier e)
line_based earlier (BlankLine b) = without (line_unit earlier (BlankLine b)) refl (λ e. cc)
line_based earlier (KeyValLine ws k b) = record {
  only = λ some. inl refl;
  pair = λ is. refl;
  front = λ n is. record { table = section earlier; key = key_names k.assign.key; long = sym (same_Some (length (section earlier)) n is); address = refl; some = key_some k.assign.key };
}
line_based earlier (TableLine ws h b) = without (line_unit earlier (TableLine ws h b)) refl (λ e. cc)
line_based earlier (ArrayTableLine ws h b) = without (line_unit earlier (ArrayTableLine ws h b)) refl (λ e. cc)

in_line_based : (at : Option Address) (e : Expr) → EachIs IsBased (inside_line at e)
in_line_based at (BlankLine b) = tail_based at b
in_line_based at (KeyValLine ws k b) = each_append IsBased (value_units at k.value) (tail_units at b) (value_based at k.value) (tail_based at b)
in_line_based at (TableLine ws h b) = tail_based at b
in_line_based at (ArrayTableLine ws h b) = tail_based at b

lines_based : (ls : List Line) (earlier : List Named) (n : ℕ) → EachIs IsBased (units_from earlier n ls)
lines_based [] earlier n = tt
lines_based (l ∷ ls) earlier n =
    (line_based earlier l.expr, each_append IsBased (inside_line (own_address earlier l.expr) l.expr) (units_from (earlier ++ named_by earlier n l.expr) (n + 1) ls) (in_line_based (own_address earlier l.expr) l.expr) (lines_based ls (earlier ++ named_by earlier n l.expr) (n + 1)))

pub units_are_based : UnitsAreBased
units_are_based ls = lines_based ls (root ∷ []) 0

-- behind what is no line come the lines that come anyway
no_lines_before : (us vs : List TextUnit) → EachIs (λ w. ¬ (w.kind ≡ kinds.Line)) us → lines_of (us ++ vs) ≡ lines_of vs
no_lines_before [] vs h = refl
no_lines_before (u ∷ us) vs h = rw (not_line u.kind h.0) (no_lines_before us vs h.1)

has_base : (earlier : List Named) (e : Expr) → HasBase (line_unit earlier e) e
has_base earlier (BlankLine b) = refl
has_base earlier (KeyValLine ws k b) = refl
has_base earlier (TableLine ws h b) = refl
has_base earlier (ArrayTableLine ws h b) = refl

each_line : (ls : List Line) (earlier : List Named) (n : ℕ) → AreLines (lines_of (units_from earlier n ls)) ls
each_line [] earlier n = tt
each_line (l ∷ ls) earlier n =
    let old = earlier ++ named_by earlier n l.expr in
    let rest = units_from old (n + 1) ls in
    let behind = no_lines_before (inside_line (own_address earlier l.expr) l.expr) rest (line_no_lines earlier l.expr) in
    (refl, has_base earlier l.expr, subst (λ us. AreLines us ls) (sym behind) (each_line ls old (n + 1)))

pub lines_are_units : LinesAreUnits
lines_are_units ls = each_line ls (root ∷ []) 0
