-- What a tree spells is the text of its outline.
use Rattle.std.proofs.Common.{◌≡◌, ◌∙◌, ℕ, Bool, true, false, List, [], ◌∷◌, ◌++◌, map, Option, Some, None, refl, ap, ap₂, sym, append_assoc, append-nil}
use Rattle.std.specs.Prelude.{option_map}
use Rattle.toml_tree.proofs.Proved.{parts_join}
use Rattle.toml_tree.specs.Spells.{Part, piece, symbol, joined, all_parts, gap_parts, dotted_parts, key_parts, equals_parts, assign_parts, value_parts, items_parts, pairs_parts, keyval_parts, blank_parts, comment_parts, header_parts, array_header_parts, expr_parts, line_parts, lines_parts}
use Rattle.toml_tree.specs.Tree.{Piece, Blank, Dotted, Assign, Gap, Value, Scalar, Array, Inline, Items, Close, Last, More, Pairs, ClosePairs, LastPair, MorePairs, Header, Expr, BlankLine, KeyValLine, TableLine, ArrayTableLine}
use Rattle.toml_layout.specs.Outlines.{comma_if, comment_outlined, dotted_outlined, assign_outlined, value_outlined, entries_outlined, line_outlined}
use Rattle.toml_layout.proofs.GapSpelled.{gap_spelled, gap_spelled_is}
use Rattle.toml_layout.specs.Parts.{parts_outlined}
use Rattle.toml_layout.specs.TreeOutlines.{gap_outline, dotted_outline, assign_outline, value_outline, items_outline, pairs_outline, line_outline, ValueIsOutlined, LineIsOutlined, LinesAreOutlined}

-- texts one behind the other, where the first is that of some parts
before : (ps qs : List Part) (text : List ℕ) → text ≡ joined qs → joined ps ++ text ≡ joined (ps ++ qs)
before ps qs text is = ap (λ r. joined ps ++ r) is ∙ sym (parts_join ps qs)

dotted_is : (ds : List Dotted) → dotted_outlined (map dotted_outline ds) ≡ joined (all_parts dotted_parts ds)
dotted_is [] = refl
dotted_is (d ∷ ds) = ap (λ r. d.before_dot.text ++ (0x2E ∷ (d.after_dot.text ++ (d.part.text ++ r)))) (dotted_is ds)

assign_is : (a : Assign) → assign_outlined (assign_outline a) ≡ joined (assign_parts a)
assign_is a =
    let equals = equals_parts a.before_equals a.after_equals in
    let after : a.before_equals.text ++ (0x3D ∷ a.after_equals.text) ≡ joined equals =
    ap (λ r. a.before_equals.text ++ (0x3D ∷ r)) (sym (append-nil a.after_equals.text)) in
    ap₂ (λ r s. a.key.first.text ++ (r ++ s)) (dotted_is a.key.rest) after
    ∙ ap (λ r. a.key.first.text ++ r) (sym (parts_join (all_parts dotted_parts a.key.rest) equals))

-- behind a gap, a value and a gap: the symbol that closes, or a comma and what is behind it
closed : (behind : Bool) (gap : List ℕ) (close : ℕ) → (comma_if behind ++ gap) ++ close ∷ [] ≡ comma_if behind ++ (gap ++ close ∷ [])
closed behind gap close = append_assoc (comma_if behind) gap (close ∷ [])

-- an entry, with all that closes behind it
entry_is : (behind : Bool) (g h : Gap) (a : List Part) (v : Value) (own rest : List ℕ) (tail : List Part) (close : ℕ) → own ≡ joined a → value_outlined (value_outline v) ≡ joined (value_parts v)
    → rest ++ close ∷ [] ≡ joined tail
    → (comma_if behind ++ (parts_outlined (gap_outline g) ++ (own ++ (value_outlined (value_outline v) ++ (parts_outlined (gap_outline h) ++ rest))))) ++ close ∷ []
    ≡ comma_if behind ++ joined (gap_parts g ++ (a ++ (value_parts v ++ (gap_parts h ++ tail))))
entry_is behind g h a v own rest tail close own_is value_is tail_is =
    let text = value_outlined (value_outline v) in
    let closing = close ∷ [] in
    ap₂ (λ s t. (comma_if behind ++ (s ++ (own ++ (text ++ (t ++ rest))))) ++ closing) (gap_spelled_is g) (gap_spelled_is h)
    ∙ append_assoc (comma_if behind) (gap_spelled g ++ (own ++ (text ++ (gap_spelled h ++ rest)))) closing
    ∙ ap (λ r. comma_if behind ++ r)
    (append_assoc (gap_spelled g) (own ++ (text ++ (gap_spelled h ++ rest))) closing
    ∙ before (gap_parts g) (a ++ (value_parts v ++ (gap_parts h ++ tail))) _
    (append_assoc own (text ++ (gap_spelled h ++ rest)) closing ∙ ap (λ r. r ++ ((text ++ (gap_spelled h ++ rest)) ++ closing)) own_is
    ∙ before a (value_parts v ++ (gap_parts h ++ tail)) _
    (append_assoc text (gap_spelled h ++ rest) closing ∙ ap (λ r. r ++ ((gap_spelled h ++ rest) ++ closing)) value_is
    ∙ before (value_parts v) (gap_parts h ++ tail) _
    (append_assoc (gap_spelled h) rest closing ∙ before (gap_parts h) tail _ tail_is))))

mutual
  pub value_outlined_is : ValueIsOutlined
  value_outlined_is (Scalar kind p) = sym (append-nil p.text)
  value_outlined_is (Array whole items) = ap (λ r. 0x5B ∷ r) (items_are false items)
  value_outlined_is (Inline whole pairs) = ap (λ r. 0x7B ∷ r) (pairs_are false pairs)

  items_are : (behind : Bool) (is : Items) → entries_outlined behind (items_outline is) ++ 0x5D ∷ [] ≡ comma_if behind ++ joined (items_parts is)
  items_are behind (Close g) = ap (λ t. (comma_if behind ++ t) ++ 0x5D ∷ []) (gap_spelled_is g) ∙ closed behind (gap_spelled g) 0x5D ∙ ap (λ r. comma_if behind ++ r) (before (gap_parts g) (symbol (0x5D ∷ []) ∷ []) (0x5D ∷ []) refl)
  items_are behind (Last g v h) = entry_is behind g h [] v [] [] (symbol (0x5D ∷ []) ∷ []) 0x5D refl (value_outlined_is v) refl
  items_are behind (More g v h is) =
      entry_is behind g h [] v [] (entries_outlined true (items_outline is)) (symbol (0x2C ∷ []) ∷ items_parts is) 0x5D refl (value_outlined_is v) (items_are true is)

  pairs_are : (behind : Bool) (ps : Pairs) → entries_outlined behind (pairs_outline ps) ++ 0x7D ∷ [] ≡ comma_if behind ++ joined (pairs_parts ps)
  pairs_are behind (ClosePairs g) = ap (λ t. (comma_if behind ++ t) ++ 0x7D ∷ []) (gap_spelled_is g) ∙ closed behind (gap_spelled g) 0x7D ∙ ap (λ r. comma_if behind ++ r) (before (gap_parts g) (symbol (0x7D ∷ []) ∷ []) (0x7D ∷ []) refl)
  pairs_are behind (LastPair g a v h) =
      entry_is behind g h (assign_parts a) v (assign_outlined (assign_outline a)) [] (symbol (0x7D ∷ []) ∷ []) 0x7D (assign_is a) (value_outlined_is v) refl
  pairs_are behind (MorePairs g a v h ps) =
      entry_is behind g h (assign_parts a) v (assign_outlined (assign_outline a)) (entries_outlined true (pairs_outline ps)) (symbol (0x2C ∷ []) ∷ pairs_parts ps) 0x7D (assign_is a) (value_outlined_is v) (pairs_are true ps)

-- a blank and the newline behind it
end_is : (tail : Blank) (newline : Piece) → tail.ws.text ++ (comment_outlined (option_map (λ (p : Piece). p.text) tail.comment) ++ newline.text) ≡ joined (blank_parts tail ++ piece newline ∷ [])
end_is tail newline = by tail.comment
  where
    by : (comment : Option Piece) → tail.ws.text ++ (comment_outlined (option_map (λ (p : Piece). p.text) comment) ++ newline.text) ≡ tail.ws.text ++ joined (comment_parts comment ++ piece newline ∷ [])
    by None = ap (λ r. tail.ws.text ++ r) (sym (append-nil newline.text))
    by (Some p) = ap (λ r. tail.ws.text ++ (p.text ++ r)) (sym (append-nil newline.text))

-- what stands on a line, between the whitespace before it and the blank behind it
ended : (ws : List ℕ) (ps : List Part) (e : List ℕ) (tail : Blank) (newline : Piece) → e ≡ joined ps
    → ws ++ (e ++ (tail.ws.text ++ (comment_outlined (option_map (λ (p : Piece). p.text) tail.comment) ++ newline.text))) ≡ ws ++ joined ((ps ++ blank_parts tail) ++ piece newline ∷ [])
ended ws ps e tail newline is =
    ap (λ r. ws ++ r)
    (ap (λ r. r ++ (tail.ws.text ++ (comment_outlined (option_map (λ (p : Piece). p.text) tail.comment) ++ newline.text))) is
    ∙ before ps (blank_parts tail ++ piece newline ∷ []) _ (end_is tail newline) ∙ ap joined (sym (append_assoc ps (blank_parts tail) (piece newline ∷ []))))

-- a header's key and what is behind it
named : (h : Header) (close : List ℕ) (tail : List Part) → close ≡ joined tail
    → h.before.text ++ (h.key.first.text ++ (dotted_outlined (map dotted_outline h.key.rest) ++ (h.after.text ++ close))) ≡ h.before.text ++ joined (key_parts h.key ++ (piece h.after ∷ tail))
named h close tail is =
    ap (λ r. h.before.text ++ (h.key.first.text ++ r))
    (ap₂ (λ r s. r ++ (h.after.text ++ s)) (dotted_is h.key.rest) is ∙ sym (parts_join (all_parts dotted_parts h.key.rest) (piece h.after ∷ tail)))

pub line_outlined_is : LineIsOutlined
line_outlined_is l = by l.expr
  where
    by : (e : Expr) → line_outlined (line_outline (record { expr = e; newline = l.newline })) ≡ joined (expr_parts e ++ piece l.newline ∷ [])
    by (BlankLine tail) = end_is tail l.newline
    by (KeyValLine ws pair tail) =
        ended ws.text (keyval_parts pair) _ tail l.newline
        (ap₂ (λ r s. r ++ s) (assign_is pair.assign) (value_outlined_is pair.value) ∙ sym (parts_join (assign_parts pair.assign) (value_parts pair.value)))
    by (TableLine ws h tail) = ended ws.text (header_parts h) _ tail l.newline (ap (λ r. 0x5B ∷ r) (named h (0x5D ∷ []) (symbol (0x5D ∷ []) ∷ []) refl))
    by (ArrayTableLine ws h tail) =
        let close = symbol (0x5D ∷ []) ∷ [] in
        let split = sym (append_assoc (all_parts dotted_parts h.key.rest) (piece h.after ∷ close) close) in
        ended ws.text (array_header_parts h) _ tail l.newline
        (ap (λ r. 0x5B ∷ 0x5B ∷ r) (named h (0x5D ∷ 0x5D ∷ []) (symbol (0x5D ∷ []) ∷ close) refl ∙ ap (λ ps. h.before.text ++ (h.key.first.text ++ joined ps)) split))

pub lines_outlined_are : LinesAreOutlined
lines_outlined_are [] = refl
lines_outlined_are (l ∷ ls) = ap₂ (λ r s. r ++ s) (line_outlined_is l) (lines_outlined_are ls) ∙ sym (parts_join (line_parts l) (lines_parts ls))
