-- A text has few units: each has a byte of its own, but for lines, of which the last may have none.
use Rattle.std.proofs.Common.{inl, inr, ◌+◌, ◌*◌, ◌≤◌, ℕ, Option, Some, None, List, [], ◌∷◌, ◌++◌, length, length-append, ap, arith}
use Rattle.std.proofs.lemmas.List.{length-drop}
use Rattle.toml_text.specs.Forms.{IsComment, IsNewline}
use Rattle.toml_tree.proofs.Proved.{sizes_add}
use Rattle.toml_tree.specs.Parts.{size}
use Rattle.toml_tree.specs.Spells.{Part, piece, symbol, begin, array_header_parts, header_parts, IsCommentOrNone, IsGap, IsGapLine, EachIs, IsValue, AreItems, ArePairs, AreLines, IsExpr, mark_of, all_parts, assign_parts, blank_parts, comment_parts, expr_parts, gap_line_parts, gap_parts, items_parts, keyval_parts, line_parts, lines_parts, pairs_parts, value_parts}
use Rattle.toml_tree.specs.Tree.{Piece, Blank, GapLine, Gap, Value, Scalar, Array, Inline, Items, Close, Last, More, Pairs, ClosePairs, LastPair, MorePairs, Expr, BlankLine, KeyValLine, TableLine, ArrayTableLine, Line}
use Rattle.toml_names.specs.mentions.Keys.{key_names}
use Rattle.toml_names.specs.mentions.Mentions.{Named, named_by, root, section}
use Rattle.toml_names.specs.reader.Names.{own_address}
use Rattle.toml_names.specs.model.Addresses.{Address, below, element}
use Rattle.toml_units.specs.declared.unit.UnitKind.{UnitKind}
use Rattle.toml_units.specs.declared.unit.UnitKind.TheVariants as kinds
use Rattle.toml_units.specs.Laws.{UnitsAreFew}
use Rattle.toml_units.specs.Units.{TextUnit, comment_units, gap_line_units, gap_units, inside, elements, members, pair_address, tail_units, line_units, units_from}

comment_few : (kind : UnitKind) (at : Option Address) (c : Option Piece) → IsCommentOrNone c → length (comment_units kind at c) ≤ size (comment_parts c)
comment_few kind at None is = omega arith
comment_few kind at (Some p) is = by p.text is
  where
    by : (t : List ℕ) → IsComment t → 1 ≤ length (t ++ [])
    by [] is = absurd is
    by (b ∷ t) is = omega arith

pub newline_long : (t : List ℕ) → IsNewline t → 1 ≤ length t
newline_long t (inl is) = let e = ap length is in omega (arith, e)
newline_long t (inr is) = let e = ap length is in omega (arith, e)

gap_lines_few : (at : Address) (ls : List GapLine) → EachIs IsGapLine ls → length (gap_line_units at ls) ≤ size (all_parts gap_line_parts ls)
gap_lines_few at [] are = omega arith
gap_lines_few at (l ∷ ls) are =
    let c = comment_few kinds.InnerComment (Some at) l.blank.comment are.0.0.1 in
    let a = length-append (comment_units kinds.InnerComment (Some at) l.blank.comment) (gap_line_units at ls) in
    let more = gap_lines_few at ls are.1 in
    let b = sizes_add (gap_line_parts l) (all_parts gap_line_parts ls) in
    let d = sizes_add (blank_parts l.blank) (piece l.newline ∷ []) in
    let e = sizes_add (piece l.blank.ws ∷ []) (comment_parts l.blank.comment) in
    omega (arith, c, a, more, b, d, e)

gap_few : (at : Address) (g : Gap) → IsGap g → length (gap_units at g) ≤ size (gap_parts g)
gap_few at g is =
    let few = gap_lines_few at g.lines is.0 in
    let e = sizes_add (all_parts gap_line_parts g.lines) (piece g.ws ∷ []) in
    omega (arith, few, e)

-- between gaps a value, before which a key may stand, and what is behind them
entry_few : (us vs ws xs : List TextUnit) (u : TextUnit) (g a v h rest : List Part) (b : List ℕ) → length us ≤ size g → length vs ≤ size v → length ws ≤ size h
    → length xs ≤ size rest → 1 ≤ length b
    → length (us ++ ((u ∷ vs) ++ (ws ++ xs))) ≤ size (g ++ (a ++ (v ++ (h ++ symbol b ∷ rest))))
entry_few us vs ws xs u g a v h rest b first second third fourth long = let none : List ℕ = [] in omega (
  arith,
  first,
  second,
  third,
  fourth,
  long,
  length-append us ((u ∷ vs) ++ (ws ++ xs)),
  length-append (u ∷ vs) (ws ++ xs),
  length-append ws xs,
  sizes_add g (a ++ (v ++ (h ++ symbol b ∷ rest))),
  sizes_add a (v ++ (h ++ symbol b ∷ rest)),
  sizes_add v (h ++ symbol b ∷ rest),
  sizes_add h (symbol b ∷ rest),
  sizes_add (symbol b ∷ []) rest,
  length-append b none,
)

last_few : (us vs ws : List TextUnit) (u : TextUnit) (g a v h : List Part) (b : List ℕ) → length us ≤ size g → length vs ≤ size v → length ws ≤ size h
    → 1 ≤ length b → length (us ++ ((u ∷ vs) ++ ws)) ≤ size (g ++ (a ++ (v ++ (h ++ symbol b ∷ []))))
last_few us vs ws u g a v h b first second third long = let none : List ℕ = [] in omega (
  arith,
  first,
  second,
  third,
  long,
  length-append us ((u ∷ vs) ++ ws),
  length-append (u ∷ vs) ws,
  sizes_add g (a ++ (v ++ (h ++ symbol b ∷ []))),
  sizes_add a (v ++ (h ++ symbol b ∷ [])),
  sizes_add v (h ++ symbol b ∷ []),
  sizes_add h (symbol b ∷ []),
  length-append b none,
)

closed_few : (us : List TextUnit) (g : List Part) (b : List ℕ) → length us ≤ size g → length us ≤ size (g ++ symbol b ∷ [])
closed_few us g b few = let e = sizes_add g (symbol b ∷ []) in omega (arith, few, e)

mutual
  value_few : (v : Value) (at : Address) → IsValue v → length (inside at v) ≤ size (value_parts v)
  value_few (Scalar kind p) at is = omega arith
  value_few (Array whole items) at is =
      let few = items_few items at 0 is.1 in
      let e = sizes_add (begin whole ∷ symbol (0x5B ∷ []) ∷ []) (items_parts items) in
      omega (arith, few, e)
  value_few (Inline whole pairs) at is =
      let few = pairs_few pairs at is.1 in
      let e = sizes_add (begin whole ∷ symbol (0x7B ∷ []) ∷ []) (pairs_parts pairs) in
      omega (arith, few, e)

  items_few : (is : Items) (at : Address) (i : ℕ) → AreItems is → length (elements at i is) ≤ size (items_parts is)
  items_few (Close g) at i are = closed_few (gap_units at g) (gap_parts g) (0x5D ∷ []) (gap_few at g are)
  items_few (Last g v h) at i are =
      last_few (gap_units at g) (inside (element at i) v) (gap_units at h) _ (gap_parts g) [] (value_parts v) (gap_parts h) (0x5D ∷ [])
      (gap_few at g are.0) (value_few v (element at i) are.1) (gap_few at h are.2) (omega arith)
  items_few (More g v h is) at i are =
      entry_few (gap_units at g) (inside (element at i) v) (gap_units at h) (elements at (i + 1) is) _ (gap_parts g) [] (value_parts v) (gap_parts h)
      (items_parts is) (0x2C ∷ []) (gap_few at g are.0) (value_few v (element at i) are.1) (gap_few at h are.2) (items_few is at (i + 1) are.3) (omega arith)

  pairs_few : (ps : Pairs) (at : Address) → ArePairs ps → length (members at ps) ≤ size (pairs_parts ps)
  pairs_few (ClosePairs g) at are = closed_few (gap_units at g) (gap_parts g) (0x7D ∷ []) (gap_few at g are)
  pairs_few (LastPair g a v h) at are =
      last_few (gap_units at g) (inside (pair_address at a) v) (gap_units at h) _ (gap_parts g) (assign_parts a) (value_parts v) (gap_parts h) (0x7D ∷ [])
      (gap_few at g are.0) (value_few v (pair_address at a) are.2) (gap_few at h are.3) (omega arith)
  pairs_few (MorePairs g a v h ps) at are =
      entry_few (gap_units at g) (inside (pair_address at a) v) (gap_units at h) (members at ps) _ (gap_parts g) (assign_parts a) (value_parts v) (gap_parts h)
      (pairs_parts ps) (0x2C ∷ []) (gap_few at g are.0) (value_few v (pair_address at a) are.2) (gap_few at h are.3) (pairs_few ps at are.4) (omega arith)

tail_few : (at : Option Address) (b : Blank) → IsCommentOrNone b.comment → length (tail_units at b) ≤ size (blank_parts b)
tail_few at b is =
    let c = comment_few kinds.TailComment at b.comment is in
    let e = sizes_add (piece b.ws ∷ []) (comment_parts b.comment) in
    omega (arith, c, e)

header_few : (at : Option Address) (ws : Piece) (parts : List Part) (b : Blank) → length (tail_units at b) ≤ size (blank_parts b)
    → length (tail_units at b) ≤ size (piece ws ∷ (parts ++ blank_parts b))
header_few at ws parts b few =
    let d = sizes_add (piece ws ∷ []) (parts ++ blank_parts b) in
    let e = sizes_add parts (blank_parts b) in
    omega (arith, few, d, e)

-- what lies in a line has no more units than the line bytes
expr_few : (earlier : List Named) (e : Expr) → IsExpr e → length (line_units earlier e) ≤ size (expr_parts e) + 1
expr_few earlier (BlankLine b) is = let c = tail_few None b is.1 in omega (arith, c)
expr_few earlier (KeyValLine ws k b) is =
    let at = below (section earlier) (key_names k.assign.key) in
    let v = value_few k.value at is.1.1 in
    let c = tail_few (Some at) b is.2.1 in
    let a = length-append (inside at k.value) (tail_units (Some at) b) in
    let d = sizes_add (piece ws ∷ []) (keyval_parts k ++ blank_parts b) in
    let e = sizes_add (keyval_parts k) (blank_parts b) in
    let f = sizes_add (assign_parts k.assign) (value_parts k.value) in
    omega (arith, v, c, a, d, e, f)
expr_few earlier (TableLine ws h b) is =
    let at = own_address earlier (TableLine ws h b) in
    let few = header_few at ws (header_parts h) b (tail_few at b is.2.1) in
    omega (arith, few)
expr_few earlier (ArrayTableLine ws h b) is =
    let at = own_address earlier (ArrayTableLine ws h b) in
    let few = header_few at ws (array_header_parts h) b (tail_few at b is.2.1) in
    omega (arith, few)

lines_few : (ls : List Line) (earlier : List Named) (n : ℕ) → AreLines ls → length (units_from earlier n ls) ≤ 2 * size (lines_parts ls) + 1
lines_few [] earlier n are = absurd are
lines_few (l ∷ []) earlier n are =
    let here = expr_few earlier l.expr are.0 in
    let a = length-append (line_units earlier l.expr) [] in
    let b = sizes_add (expr_parts l.expr) (piece l.newline ∷ []) in
    let c = sizes_add (line_parts l) [] in
    omega (arith, here, a, b, c)
lines_few (l ∷ m ∷ ls) earlier n are =
    let here = expr_few earlier l.expr are.0 in
    let long = newline_long l.newline.text are.1 in
    let more = lines_few (m ∷ ls) (earlier ++ named_by earlier n l.expr) (n + 1) are.2 in
    let a = length-append (line_units earlier l.expr) (units_from (earlier ++ named_by earlier n l.expr) (n + 1) (m ∷ ls)) in
    let b = sizes_add (expr_parts l.expr) (piece l.newline ∷ []) in
    let c = sizes_add (line_parts l) (lines_parts (m ∷ ls)) in
    let d = length-append l.newline.text [] in
    omega (arith, here, long, more, a, b, c, d)

-- so their numbers have 64 bits
pub units_are_few : UnitsAreFew
units_are_few d text spelled is =
    let few = lines_few d.lines (root ∷ []) 0 spelled.lines.forms in
    let bytes = ap length spelled.lines.text_is in
    let rest = length-drop (length (mark_of text)) text in
    omega (arith, few, bytes, rest, is.fits)
