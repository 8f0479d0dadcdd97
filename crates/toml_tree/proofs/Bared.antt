-- A tree without its places has the same text.
use Rattle.std.proofs.Common.{◌≡◌, List, [], ◌∷◌, ◌++◌, map, Option, Some, None, refl, sym, ap, ap₂, ◌∙◌}
use Rattle.toml_tree.specs.Bare.{bare_comment, bare_blank, bare_dotted, bare_key, bare_assign, bare_gap_line, bare_gap, bare_value, bare_keyval, bare_header, bare_expr, bare_line, BareValueText, BareItemsText, BarePairsText, BareLinesText}
use Rattle.toml_tree.specs.Spells.{Part, piece, symbol, joined, comment_parts, key_parts, dotted_parts, equals_parts, assign_parts, blank_parts, gap_parts, gap_line_parts, all_parts, value_parts, items_parts, pairs_parts, header_parts, keyval_parts, expr_parts, line_parts}
use Rattle.toml_tree.specs.Tree.{Piece, Blank, Key, Assign, GapLine, Gap, Scalar, Array, Inline, Close, Last, More, ClosePairs, LastPair, MorePairs, KeyVal, Header, Expr, BlankLine, KeyValLine, TableLine, ArrayTableLine, Line}
use Rattle.toml_tree.proofs.Texts.{joined_append}

both : (xs xs' ys ys' : List Part) → joined xs ≡ joined xs' → joined ys ≡ joined ys' → joined (xs ++ ys) ≡ joined (xs' ++ ys')
both xs xs' ys ys' a b = joined_append xs ys ∙ ap₂ (λ s t. s ++ t) a b ∙ sym (joined_append xs' ys')

pub each : {A : Type 0} (f : A → A) (parts : A → List Part) → ((x : A) → joined (parts (f x)) ≡ joined (parts x)) → (xs : List A) → joined (all_parts parts (map f xs)) ≡ joined (all_parts parts xs)
each f parts same [] = refl
each f parts same (x ∷ xs) = both (parts (f x)) (parts x) (all_parts parts (map f xs)) (all_parts parts xs) (same x) (each f parts same xs)

pub blank_text : (b : Blank) → joined (blank_parts (bare_blank b)) ≡ joined (blank_parts b)
blank_text b = ap (λ r. b.ws.text ++ r) (by b.comment)
  where
    by : (c : Option Piece) → joined (comment_parts (bare_comment c)) ≡ joined (comment_parts c)
    by None = refl
    by (Some p) = refl

pub key_text : (k : Key) → joined (key_parts (bare_key k)) ≡ joined (key_parts k)
key_text k = ap (λ r. k.first.text ++ r) (each bare_dotted dotted_parts (λ d. refl) k.rest)

pub assign_text : (a : Assign) → joined (assign_parts (bare_assign a)) ≡ joined (assign_parts a)
assign_text a = both (key_parts (bare_key a.key)) (key_parts a.key) _ (equals_parts a.before_equals a.after_equals) (key_text a.key) refl

pub gap_line_text : (l : GapLine) → joined (gap_line_parts (bare_gap_line l)) ≡ joined (gap_line_parts l)
gap_line_text l = both (blank_parts (bare_blank l.blank)) (blank_parts l.blank) _ (piece l.newline ∷ []) (blank_text l.blank) refl

pub gap_text : (g : Gap) → joined (gap_parts (bare_gap g)) ≡ joined (gap_parts g)
gap_text g = both (all_parts gap_line_parts (map bare_gap_line g.lines)) (all_parts gap_line_parts g.lines) _ (piece g.ws ∷ []) (each bare_gap_line gap_line_parts gap_line_text g.lines) refl

mutual
  pub bare_value_text : BareValueText
  bare_value_text (Scalar kind p) = refl
  bare_value_text (Array whole items) = ap (λ r. 0x5B ∷ r) (bare_items_text items)
  bare_value_text (Inline whole pairs) = ap (λ r. 0x7B ∷ r) (bare_pairs_text pairs)

  pub bare_items_text : BareItemsText
  bare_items_text (Close g) = both (gap_parts (bare_gap g)) (gap_parts g) _ (symbol (0x5D ∷ []) ∷ []) (gap_text g) refl
  bare_items_text (Last g v h) =
      both (gap_parts (bare_gap g)) (gap_parts g) _ _ (gap_text g)
      (both (value_parts (bare_value v)) (value_parts v) _ _ (bare_value_text v) (both (gap_parts (bare_gap h)) (gap_parts h) _ (symbol (0x5D ∷ []) ∷ []) (gap_text h) refl))
  bare_items_text (More g v h is) =
      both (gap_parts (bare_gap g)) (gap_parts g) _ _ (gap_text g)
      (both (value_parts (bare_value v)) (value_parts v) _ _ (bare_value_text v)
      (both (gap_parts (bare_gap h)) (gap_parts h) _ (symbol (0x2C ∷ []) ∷ items_parts is) (gap_text h) (ap (λ r. 0x2C ∷ r) (bare_items_text is))))

  pub bare_pairs_text : BarePairsText
  bare_pairs_text (ClosePairs g) = both (gap_parts (bare_gap g)) (gap_parts g) _ (symbol (0x7D ∷ []) ∷ []) (gap_text g) refl
  bare_pairs_text (LastPair g a v h) =
      both (gap_parts (bare_gap g)) (gap_parts g) _ _ (gap_text g)
      (both (assign_parts (bare_assign a)) (assign_parts a) _ _ (assign_text a)
      (both (value_parts (bare_value v)) (value_parts v) _ _ (bare_value_text v) (both (gap_parts (bare_gap h)) (gap_parts h) _ (symbol (0x7D ∷ []) ∷ []) (gap_text h) refl)))
  bare_pairs_text (MorePairs g a v h ps) =
      both (gap_parts (bare_gap g)) (gap_parts g) _ _ (gap_text g)
      (both (assign_parts (bare_assign a)) (assign_parts a) _ _ (assign_text a)
      (both (value_parts (bare_value v)) (value_parts v) _ _ (bare_value_text v)
      (both (gap_parts (bare_gap h)) (gap_parts h) _ (symbol (0x2C ∷ []) ∷ pairs_parts ps) (gap_text h) (ap (λ r. 0x2C ∷ r) (bare_pairs_text ps)))))

pub header_text : (h : Header) → joined (header_parts (bare_header h)) ≡ joined (header_parts h)
header_text h = ap (λ r. 0x5B ∷ h.before.text ++ r) (both (key_parts (bare_key h.key)) (key_parts h.key) _ (piece h.after ∷ symbol (0x5D ∷ []) ∷ []) (key_text h.key) refl)

pub keyval_text : (k : KeyVal) → joined (keyval_parts (bare_keyval k)) ≡ joined (keyval_parts k)
keyval_text k = both (assign_parts (bare_assign k.assign)) (assign_parts k.assign) _ _ (assign_text k.assign) (bare_value_text k.value)

pub expr_text : (e : Expr) → joined (expr_parts (bare_expr e)) ≡ joined (expr_parts e)
expr_text (BlankLine b) = blank_text b
expr_text (KeyValLine ws k b) = ap (λ r. ws.text ++ r) (both (keyval_parts (bare_keyval k)) (keyval_parts k) _ _ (keyval_text k) (blank_text b))
expr_text (TableLine ws h b) = ap (λ r. ws.text ++ r) (both (header_parts (bare_header h)) (header_parts h) _ _ (header_text h) (blank_text b))
expr_text (ArrayTableLine ws h b) =
    ap (λ r. ws.text ++ 0x5B ∷ r)
    (both (header_parts (bare_header h) ++ symbol (0x5D ∷ []) ∷ []) (header_parts h ++ symbol (0x5D ∷ []) ∷ []) _ _ (both (header_parts (bare_header h)) (header_parts h) _ (symbol (0x5D ∷ []) ∷ []) (header_text h) refl) (blank_text b))

pub line_text : (l : Line) → joined (line_parts (bare_line l)) ≡ joined (line_parts l)
line_text l = both (expr_parts (bare_expr l.expr)) (expr_parts l.expr) _ (piece l.newline ∷ []) (expr_text l.expr) refl

pub bare_lines_text : BareLinesText
bare_lines_text ls = each bare_line line_parts line_text ls

-- texts of two that are the same but for places
pub same_text : {A : Type 0} (parts : A → List Part) (f : A → A) → ((x : A) → joined (parts (f x)) ≡ joined (parts x)) → (x y : A) → f x ≡ f y → joined (parts x) ≡ joined (parts y)
same_text parts f same x y is = sym (same x) ∙ ap (λ z. joined (parts z)) is ∙ same y
