-- The units of lines without places.
use Rattle.std.proofs.Common.{◌≡◌, ℕ, ◌+◌, Option, Some, None, List, [], ◌∷◌, ◌++◌, map, length, refl, sym, ap, ap₂, ◌∙◌}
use Rattle.std.proofs.lemmas.List.{map-append}
use Rattle.toml_tree.specs.Bare.{bare, bare_comment, bare_blank, bare_dotted, bare_key, bare_assign, bare_gap_line, bare_gap, bare_value, bare_items, bare_pairs, bare_keyval, bare_header, bare_expr, bare_line}
use Rattle.toml_tree.specs.Pieces.{piece_of, expr_piece}
use Rattle.toml_tree.specs.Spells.{Part, piece, symbol, joined, all_parts, comment_parts, blank_parts, dotted_parts, key_parts, equals_parts, assign_parts, value_parts, keyval_parts, header_parts, expr_parts}
use Rattle.toml_tree.specs.Tree.{Piece, Blank, Dotted, Key, Assign, GapLine, Gap, Value, Scalar, Array, Inline, Items, Close, Last, More, Pairs, ClosePairs, LastPair, MorePairs, KeyVal, Header, Expr, BlankLine, KeyValLine, TableLine, ArrayTableLine, Line}
use Rattle.toml_tree.proofs.Proved.{bare_value_text, parts_join}
use Rattle.toml_names.specs.mentions.Keys.{key_names}
use Rattle.toml_names.specs.mentions.Mentions.{Named, named_by, root, section, count_tables}
use Rattle.toml_names.specs.model.Addresses.{Address, element, below}
use Rattle.toml_names.specs.reader.Names.{header_end, own_address}
use Rattle.toml_names.proofs.Proved.{key_places_are_not_named, line_places_are_not_named}
use Rattle.toml_units.specs.Units.{TextUnit, comment_units, gap_line_units, gap_units, element_unit, pair_unit, inside, elements, members, inside_line, line_base, line_units, units_from}
use Rattle.toml_units.specs.declared.unit.UnitKind.{UnitKind}
use Rattle.toml_units.specs.declared.unit.UnitKind.TheVariants as kinds
use Rattle.toml_units.specs.Bares.{bare_unit, UnitsOfBares}

-- ---- texts

both_texts : (a b c d : List Part) → joined a ≡ joined b → joined c ≡ joined d → joined (a ++ c) ≡ joined (b ++ d)
both_texts a b c d first second = parts_join a c ∙ ap₂ (λ s t. s ++ t) first second ∙ sym (parts_join b d)

rest_text : (ds : List Dotted) → joined (all_parts dotted_parts (map bare_dotted ds)) ≡ joined (all_parts dotted_parts ds)
rest_text [] = refl
rest_text (d ∷ ds) = ap (λ t. d.before_dot.text ++ 0x2E ∷ (d.after_dot.text ++ (d.part.text ++ t))) (rest_text ds)

key_text : (k : Key) → joined (key_parts (bare_key k)) ≡ joined (key_parts k)
key_text k = ap (λ t. k.first.text ++ t) (rest_text k.rest)

assign_text : (a : Assign) → joined (assign_parts (bare_assign a)) ≡ joined (assign_parts a)
assign_text a = both_texts (key_parts (bare_key a.key)) (key_parts a.key) (equals_parts (bare a.before_equals) (bare a.after_equals)) (equals_parts a.before_equals a.after_equals) (key_text a.key) refl

keyval_text : (k : KeyVal) → joined (keyval_parts (bare_keyval k)) ≡ joined (keyval_parts k)
keyval_text k = both_texts (assign_parts (bare_assign k.assign)) (assign_parts k.assign) (value_parts (bare_value k.value)) (value_parts k.value) (assign_text k.assign) (bare_value_text k.value)

blank_text : (b : Blank) → joined (blank_parts (bare_blank b)) ≡ joined (blank_parts b)
blank_text b = ap (λ t. b.ws.text ++ t) (by b.comment)
  where
    by : (o : Option Piece) → joined (comment_parts (bare_comment o)) ≡ joined (comment_parts o)
    by None = refl
    by (Some p) = refl

header_text : (h : Header) → joined (header_parts (bare_header h)) ≡ joined (header_parts h)
header_text h =
    ap (λ t. 0x5B ∷ (h.before.text ++ t))
    (both_texts (key_parts (bare_key h.key)) (key_parts h.key) (piece (bare h.after) ∷ symbol (0x5D ∷ []) ∷ []) (piece h.after ∷ symbol (0x5D ∷ []) ∷ []) (key_text h.key) refl)

expr_text : (e : Expr) → joined (expr_parts (bare_expr e)) ≡ joined (expr_parts e)
expr_text (BlankLine b) = blank_text b
expr_text (KeyValLine ws k b) = ap (λ t. ws.text ++ t) (both_texts (keyval_parts (bare_keyval k)) (keyval_parts k) (blank_parts (bare_blank b)) (blank_parts b) (keyval_text k) (blank_text b))
expr_text (TableLine ws h b) = ap (λ t. ws.text ++ t) (both_texts (header_parts (bare_header h)) (header_parts h) (blank_parts (bare_blank b)) (blank_parts b) (header_text h) (blank_text b))
expr_text (ArrayTableLine ws h b) =
    ap (λ t. ws.text ++ 0x5B ∷ t)
    (both_texts (header_parts (bare_header h) ++ symbol (0x5D ∷ []) ∷ []) (header_parts h ++ symbol (0x5D ∷ []) ∷ []) (blank_parts (bare_blank b)) (blank_parts b)
    (both_texts (header_parts (bare_header h)) (header_parts h) (symbol (0x5D ∷ []) ∷ []) (symbol (0x5D ∷ []) ∷ []) (header_text h) refl) (blank_text b))

-- ---- units

both : (us vs us' vs' : List TextUnit) → us' ≡ map bare_unit us → vs' ≡ map bare_unit vs → us' ++ vs' ≡ map bare_unit (us ++ vs)
both us vs us' vs' a b = ap₂ (λ s t. s ++ t) a b ∙ sym (map-append bare_unit us vs)

comment : (kind : UnitKind) (at : Option Address) (o : Option Piece) → comment_units kind at (bare_comment o) ≡ map bare_unit (comment_units kind at o)
comment kind at None = refl
comment kind at (Some p) = refl

gap : (ls : List GapLine) (at : Address) → gap_line_units at (map bare_gap_line ls) ≡ map bare_unit (gap_line_units at ls)
gap [] at = refl
gap (l ∷ ls) at = both (comment_units kinds.InnerComment (Some at) l.blank.comment) (gap_line_units at ls) _ _ (comment kinds.InnerComment (Some at) l.blank.comment) (gap ls at)

piece_bared : (v : Value) → piece_of (bare_value v) ≡ bare (piece_of v)
piece_bared (Scalar kind p) = refl
piece_bared (Array whole items) = refl
piece_bared (Inline whole pairs) = refl

elem_bared : (v : Value) (at : Address) → inside at (bare_value v) ≡ map bare_unit (inside at v) → element_unit at (bare_value v) ∷ inside at (bare_value v) ≡ map bare_unit (element_unit at v ∷ inside at v)
elem_bared v at within = ap₂ (λ (p : Piece) us. record { kind = kinds.Element; piece = p; address = Some at; base = None } ∷ us) (piece_bared v) within

pair_bared : (a : Assign) (v : Value) (at : Address) → inside (below at (key_names a.key)) (bare_value v) ≡ map bare_unit (inside (below at (key_names a.key)) v)
    → pair_unit at (record { assign = bare_assign a; value = bare_value v }) ∷ inside (below at (key_names (bare_key a.key))) (bare_value v) ≡ map bare_unit (pair_unit at (record { assign = a; value = v }) ∷ inside (below at (key_names a.key)) v)
pair_bared a v at within =
    ap (λ k. record { kind = kinds.Pair; piece = record { start = 0; text = joined (keyval_parts (bare_keyval (record { assign = a; value = v }))) }; address = Some (below at k); base = Some (length at) } ∷ inside (below at k) (bare_value v)) (key_places_are_not_named a.key)
    ∙ ap₂ (λ t us. record { kind = kinds.Pair; piece = record { start = 0; text = t }; address = Some (below at (key_names a.key)); base = Some (length at) } ∷ us) (keyval_text (record { assign = a; value = v })) within

between : (g h : Gap) (at : Address) (us vs us' vs' : List TextUnit) → us' ≡ map bare_unit us → vs' ≡ map bare_unit vs
    → gap_units at (bare_gap g) ++ (us' ++ (gap_units at (bare_gap h) ++ vs')) ≡ map bare_unit (gap_units at g ++ (us ++ (gap_units at h ++ vs)))
between g h at us vs us' vs' a b =
    both (gap_units at g) (us ++ (gap_units at h ++ vs)) _ _ (gap g.lines at) (both us (gap_units at h ++ vs) us' _ a (both (gap_units at h) vs _ vs' (gap h.lines at) b))

at_end : (g h : Gap) (at : Address) (us us' : List TextUnit) → us' ≡ map bare_unit us → gap_units at (bare_gap g) ++ (us' ++ gap_units at (bare_gap h)) ≡ map bare_unit (gap_units at g ++ (us ++ gap_units at h))
at_end g h at us us' a = both (gap_units at g) (us ++ gap_units at h) _ _ (gap g.lines at) (both us (gap_units at h) us' _ a (gap h.lines at))

mutual
  in_value : (v : Value) (at : Address) → inside at (bare_value v) ≡ map bare_unit (inside at v)
  in_value (Scalar kind p) at = refl
  in_value (Array whole items) at = in_items items at 0
  in_value (Inline whole pairs) at = in_pairs pairs at

  in_items : (items : Items) (at : Address) (i : ℕ) → elements at i (bare_items items) ≡ map bare_unit (elements at i items)
  in_items (Close g) at i = gap g.lines at
  in_items (Last g v h) at i = at_end g h at (element_unit (element at i) v ∷ inside (element at i) v) _ (elem_bared v (element at i) (in_value v (element at i)))
  in_items (More g v h is) at i =
      between g h at (element_unit (element at i) v ∷ inside (element at i) v) (elements at (i + 1) is) _ _ (elem_bared v (element at i) (in_value v (element at i))) (in_items is at (i + 1))

  in_pairs : (pairs : Pairs) (at : Address) → members at (bare_pairs pairs) ≡ map bare_unit (members at pairs)
  in_pairs (ClosePairs g) at = gap g.lines at
  in_pairs (LastPair g a v h) at =
      at_end g h at (pair_unit at (record { assign = a; value = v }) ∷ inside (below at (key_names a.key)) v) _ (pair_bared a v at (in_value v (below at (key_names a.key))))
  in_pairs (MorePairs g a v h ps) at =
      between g h at (pair_unit at (record { assign = a; value = v }) ∷ inside (below at (key_names a.key)) v) (members at ps) _ _ (pair_bared a v at (in_value v (below at (key_names a.key)))) (in_pairs ps at)

own_bared : (xs : List Named) (e : Expr) → own_address xs (bare_expr e) ≡ own_address xs e
own_bared xs (BlankLine b) = refl
own_bared xs (KeyValLine ws k b) = ap (λ key. Some (below (section xs) key)) (key_places_are_not_named k.assign.key)
own_bared xs (TableLine ws h b) = ap (λ key. Some (header_end xs [] key)) (key_places_are_not_named h.key)
own_bared xs (ArrayTableLine ws h b) = ap (λ key. Some (element (header_end xs [] key) (count_tables xs (header_end xs [] key)))) (key_places_are_not_named h.key)

base_bared : (xs : List Named) (e : Expr) → line_base xs (bare_expr e) ≡ line_base xs e
base_bared xs (BlankLine b) = refl
base_bared xs (KeyValLine ws k b) = refl
base_bared xs (TableLine ws h b) = refl
base_bared xs (ArrayTableLine ws h b) = refl

start_bared : (e : Expr) → expr_piece (bare_expr e) ≡ record { start = 0; text = joined (expr_parts (bare_expr e)) }
start_bared (BlankLine b) = refl
start_bared (KeyValLine ws k b) = refl
start_bared (TableLine ws h b) = refl
start_bared (ArrayTableLine ws h b) = refl

inner_bared : (a : Option Address) (e : Expr) → inside_line a (bare_expr e) ≡ map bare_unit (inside_line a e)
inner_bared a (BlankLine b) = comment kinds.TailComment a b.comment
inner_bared None (KeyValLine ws k b) = comment kinds.TailComment None b.comment
inner_bared (Some at) (KeyValLine ws k b) = both (inside at k.value) (comment_units kinds.TailComment (Some at) b.comment) _ _ (in_value k.value at) (comment kinds.TailComment (Some at) b.comment)
inner_bared a (TableLine ws h b) = comment kinds.TailComment a b.comment
inner_bared a (ArrayTableLine ws h b) = comment kinds.TailComment a b.comment

line_units_bared : (xs : List Named) (e : Expr) → line_units xs (bare_expr e) ≡ map bare_unit (line_units xs e)
line_units_bared xs e =
    ap₂ (λ (a : Option Address) (b : Option ℕ). record { kind = kinds.Line; piece = expr_piece (bare_expr e); address = a; base = b } ∷ inside_line a (bare_expr e)) (own_bared xs e) (base_bared xs e)
    ∙ ap₂ (λ (p : Piece) us. record { kind = kinds.Line; piece = p; address = own_address xs e; base = line_base xs e } ∷ us)
    (start_bared e ∙ ap (λ t. record { start = 0; text = t }) (expr_text e)) (inner_bared (own_address xs e) e)

lines_bared : (ls : List Line) (xs : List Named) (n : ℕ) → units_from xs n (map bare_line ls) ≡ map bare_unit (units_from xs n ls)
lines_bared [] xs n = refl
lines_bared (l ∷ ls) xs n =
    both (line_units xs l.expr) (units_from (xs ++ named_by xs n l.expr) (n + 1) ls) (line_units xs (bare_expr l.expr)) _ (line_units_bared xs l.expr)
    (ap (λ new. units_from (xs ++ new) (n + 1) (map bare_line ls)) (line_places_are_not_named xs n l.expr) ∙ lines_bared ls (xs ++ named_by xs n l.expr) (n + 1))

pub units_of_bares : UnitsOfBares
units_of_bares lines = lines_bared lines (root ∷ []) 0
