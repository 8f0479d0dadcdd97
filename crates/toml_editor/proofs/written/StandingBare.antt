-- Where the pieces of lines stand does not count for what finds them, nor for their outlines.
use Rattle.std.proofs.Common.{◌≡◌, ℕ, ◌+◌, Option, Some, None, List, [], ◌∷◌, ◌++◌, map, refl, sym, ap, ap₂, ◌∙◌}
use Rattle.std.specs.Prelude.{option_map}
use Rattle.toml_tree.specs.Bare.{bare, bare_blank, bare_comment, bare_dotted, bare_assign, bare_gap_line, bare_gap, bare_value, bare_items, bare_pairs, bare_header, bare_expr, bare_line, bare_lines}
use Rattle.toml_tree.specs.Tree.{Piece, Blank, Dotted, Assign, GapLine, Gap, Value, Scalar, Array, Inline, Items, Close, Last, More, Pairs, ClosePairs, LastPair, MorePairs, Header, Expr, BlankLine, KeyValLine, TableLine, ArrayTableLine, Line}
use Rattle.toml_names.specs.mentions.Mentions.{Named, named_by, root, section, count_tables}
use Rattle.toml_names.specs.model.Addresses.{Address, element, below}
use Rattle.toml_names.specs.reader.Names.{header_end, own_address}
use Rattle.toml_names.proofs.Proved.{key_places_are_not_named, line_places_are_not_named}
use Rattle.toml_units.specs.Units.{line_base}
use Rattle.toml_layout.specs.Parts.{Newline}
use Rattle.toml_layout.specs.Outlines as outline
use Rattle.toml_layout.specs.Outlines.{AssignOutline, EntriesOutline, ExprOutline}
use Rattle.toml_working.specs.Standing.{line_stands, standing_from, standing}
use Rattle.toml_editor.specs.StandingLaws.{PlacesDoNotStand}
use Rattle.toml_layout.specs.TreeOutlines.{comment_part, gap_outline, lines_with, ws_part, dotted_outline, assign_outline, value_outline, items_outline, pairs_outline, header_outline, line_of, line_outline}

-- ---- outlines

comment_part_bare : (c : Option Piece) → comment_part (bare_comment c) ≡ comment_part c
comment_part_bare None = refl
comment_part_bare (Some p) = refl

gap_lines_bare : (ls : List GapLine) (ws : List ℕ) → lines_with (map bare_gap_line ls) ws ≡ lines_with ls ws
gap_lines_bare [] ws = refl
gap_lines_bare (l ∷ ls) ws =
    ap₂ (λ c r. ws_part l.blank.ws.text ++ (c ++ Newline l.newline.text ∷ r)) (comment_part_bare l.blank.comment) (gap_lines_bare ls ws)

gap_bare : (g : Gap) → gap_outline (bare_gap g) ≡ gap_outline g
gap_bare g = gap_lines_bare g.lines g.ws.text

rest_bare : (ds : List Dotted) → map dotted_outline (map bare_dotted ds) ≡ map dotted_outline ds
rest_bare [] = refl
rest_bare (d ∷ ds) = ap (λ r. dotted_outline d ∷ r) (rest_bare ds)

assign_bare : (a : Assign) → assign_outline (bare_assign a) ≡ assign_outline a
assign_bare a =
    ap (λ r. record { first = a.key.first.text; rest = r; before_equals = a.before_equals.text; after_equals = a.after_equals.text }) (rest_bare a.key.rest)

entry_bare : (g : Gap) (a b : Option AssignOutline) (v : Value) (h : Gap) (es fs : EntriesOutline) → a ≡ b → value_outline (bare_value v) ≡ value_outline v → es ≡ fs
    → outline.Entry (gap_outline (bare_gap g)) a (value_outline (bare_value v)) (gap_outline (bare_gap h)) es
    ≡ outline.Entry (gap_outline g) b (value_outline v) (gap_outline h) fs
entry_bare g a b v h es fs assign value rest =
    ap₂ (λ s t. outline.Entry s a (value_outline (bare_value v)) t es) (gap_bare g) (gap_bare h)
    ∙ ap₂ (λ x w. outline.Entry (gap_outline g) x w (gap_outline h) es) assign value
    ∙ ap (outline.Entry (gap_outline g) b (value_outline v) (gap_outline h)) rest

mutual
  value_bare : (v : Value) → value_outline (bare_value v) ≡ value_outline v
  value_bare (Scalar kind p) = refl
  value_bare (Array whole items) = ap (outline.Listed (0x5B ∷ [])) (items_bare items)
  value_bare (Inline whole pairs) = ap (outline.Braced (0x7B ∷ [])) (pairs_bare pairs)

  items_bare : (items : Items) → items_outline (bare_items items) ≡ items_outline items
  items_bare (Close g) = ap (λ t. outline.End (Some t)) (gap_bare g)
  items_bare (Last g v h) = entry_bare g None None v h (outline.End None) (outline.End None) refl (value_bare v) refl
  items_bare (More g v h is) = entry_bare g None None v h (items_outline (bare_items is)) (items_outline is) refl (value_bare v) (items_bare is)

  pairs_bare : (pairs : Pairs) → pairs_outline (bare_pairs pairs) ≡ pairs_outline pairs
  pairs_bare (ClosePairs g) = ap (λ t. outline.End (Some t)) (gap_bare g)
  pairs_bare (LastPair g a v h) = entry_bare g _ _ v h (outline.End None) (outline.End None) (ap Some (assign_bare a)) (value_bare v) refl
  pairs_bare (MorePairs g a v h ps) = entry_bare g _ _ v h (pairs_outline (bare_pairs ps)) (pairs_outline ps) (ap Some (assign_bare a)) (value_bare v) (pairs_bare ps)

comment_bare : (c : Option Piece) → option_map (λ (p : Piece). p.text) (bare_comment c) ≡ option_map (λ (p : Piece). p.text) c
comment_bare None = refl
comment_bare (Some p) = refl

header_bare : (opening closing : List ℕ) (h : Header) → header_outline opening closing (bare_header h) ≡ header_outline opening closing h
header_bare opening closing h = ap (λ r. outline.Header opening h.before.text h.key.first.text r h.after.text closing) (rest_bare h.key.rest)

tail_bare : (ws : List ℕ) (e f : ExprOutline) (b : Blank) (newline : Piece) → e ≡ f → line_of ws e (bare_blank b) (bare newline) ≡ line_of ws f b newline
tail_bare ws e f b newline is =
    ap₂ (λ x c. record { ws = ws; expr = x; tail = b.ws.text; comment = c; newline = newline.text }) is (comment_bare b.comment)

line_expr_bare : (e : Expr) (newline : Piece) → line_outline (bare_line (record { expr = e; newline = newline })) ≡ line_outline (record { expr = e; newline = newline })
line_expr_bare (BlankLine b) newline = tail_bare [] outline.Nothing outline.Nothing b newline refl
line_expr_bare (KeyValLine ws pair b) newline =
    tail_bare ws.text _ _ b newline (ap₂ (λ a v. outline.Pair a v) (assign_bare pair.assign) (value_bare pair.value))
line_expr_bare (TableLine ws h b) newline = tail_bare ws.text _ _ b newline (header_bare (0x5B ∷ []) (0x5D ∷ []) h)
line_expr_bare (ArrayTableLine ws h b) newline = tail_bare ws.text _ _ b newline (header_bare (0x5B ∷ 0x5B ∷ []) (0x5D ∷ 0x5D ∷ []) h)

-- ---- what finds them

own_bare : (xs : List Named) (e : Expr) → own_address xs (bare_expr e) ≡ own_address xs e
own_bare xs (BlankLine b) = refl
own_bare xs (KeyValLine ws pair b) = ap (λ k. Some (below (section xs) k)) (key_places_are_not_named pair.assign.key)
own_bare xs (TableLine ws h b) = ap (λ k. Some (header_end xs [] k)) (key_places_are_not_named h.key)
own_bare xs (ArrayTableLine ws h b) =
    ap (λ k. Some (element (header_end xs [] k) (count_tables xs (header_end xs [] k)))) (key_places_are_not_named h.key)

base_bare : (xs : List Named) (e : Expr) → line_base xs (bare_expr e) ≡ line_base xs e
base_bare xs (BlankLine b) = refl
base_bare xs (KeyValLine ws pair b) = refl
base_bare xs (TableLine ws h b) = refl
base_bare xs (ArrayTableLine ws h b) = refl

line_bare : (xs : List Named) (l : Line) → line_stands xs (bare_line l) ≡ line_stands xs l
line_bare xs l =
    ap₂ (λ (a : Option Address) (b : Option ℕ). record { address = a; base = b; outline = line_outline (bare_line l) }) (own_bare xs l.expr) (base_bare xs l.expr)
    ∙ ap (λ o. record { address = own_address xs l.expr; base = line_base xs l.expr; outline = o }) (line_expr_bare l.expr l.newline)

pub lines_bare : (ls : List Line) (xs : List Named) (n : ℕ) → standing_from xs n (bare_lines ls) ≡ standing_from xs n ls
lines_bare [] xs n = refl
lines_bare (l ∷ ls) xs n =
    ap₂ (λ s t. s ∷ t) (line_bare xs l)
    (ap (λ r. standing_from (xs ++ r) (n + 1) (bare_lines ls)) (line_places_are_not_named xs n l.expr) ∙ lines_bare ls (xs ++ named_by xs n l.expr) (n + 1))

pub places_do_not_stand : PlacesDoNotStand
places_do_not_stand ls ms same = sym (lines_bare ls (root ∷ []) 0) ∙ ap standing same ∙ lines_bare ms (root ∷ []) 0
