-- A tree that is put at a place is the same but for its places.
use Rattle.std.proofs.Common.{◌≡◌, ℕ, ◌+◌, List, [], ◌∷◌, map, length, Option, Some, None, refl, ap, ap₂, ◌∙◌}
use Rattle.toml_tree.specs.Bare.{bare, bare_comment, bare_blank, bare_dotted, bare_key, bare_assign, bare_gap_line, bare_gap, bare_value, bare_items, bare_pairs, bare_keyval, bare_header, bare_expr, bare_line}
use Rattle.toml_tree.specs.Places.{behind, put_comment, put_blank, put_dotted, put_each, put_key, put_assign, put_gap_line, put_gap, put_value, put_items, put_pairs, put_keyval, put_header, put_expr, put_line, PutValueIsSame, PutLinesAreSame}
use Rattle.toml_tree.specs.Spells.{Part, dotted_parts, assign_parts, gap_parts, gap_line_parts, value_parts, header_parts, array_header_parts, keyval_parts, line_parts}
use Rattle.toml_tree.specs.Tree.{Piece, Blank, Dotted, Key, Assign, GapLine, Gap, Scalar, Array, Inline, Items, Close, Last, More, Pairs, ClosePairs, LastPair, MorePairs, KeyVal, Header, Expr, BlankLine, KeyValLine, TableLine, ArrayTableLine, Line}

pub bare_each : {A : Type 0} (b : A → A) (f : ℕ → A → A) (parts : A → List Part) → ((at : ℕ) (x : A) → b (f at x) ≡ b x) → (xs : List A) (at : ℕ) → map b (put_each f parts at xs) ≡ map b xs
bare_each b f parts same [] at = refl
bare_each b f parts same (x ∷ xs) at = ap₂ (λ y ys. y ∷ ys) (same at x) (bare_each b f parts same xs (behind at (parts x)))

pub blank_same : (at : ℕ) (b : Blank) → bare_blank (put_blank at b) ≡ bare_blank b
blank_same at b = ap (λ c. record { ws = bare b.ws; comment = c }) (by b.comment)
  where
    by : (c : Option Piece) → bare_comment (put_comment (at + length b.ws.text) c) ≡ bare_comment c
    by None = refl
    by (Some p) = refl

pub key_same : (at : ℕ) (k : Key) → bare_key (put_key at k) ≡ bare_key k
key_same at k = ap (λ (r : List Dotted). record { first = bare k.first; rest = r }) (bare_each bare_dotted put_dotted dotted_parts (λ a d. refl) k.rest (at + length k.first.text))

pub assign_same : (at : ℕ) (a : Assign) → bare_assign (put_assign at a) ≡ bare_assign a
assign_same at a = ap (λ (k : Key). record { key = k; before_equals = bare a.before_equals; after_equals = bare a.after_equals }) (key_same at a.key)

pub gap_line_same : (at : ℕ) (l : GapLine) → bare_gap_line (put_gap_line at l) ≡ bare_gap_line l
gap_line_same at l = ap (λ (b : Blank). record { blank = b; newline = bare l.newline }) (blank_same at l.blank)

pub gap_same : (at : ℕ) (g : Gap) → bare_gap (put_gap at g) ≡ bare_gap g
gap_same at g = ap (λ (ls : List GapLine). record { lines = ls; ws = bare g.ws }) (bare_each bare_gap_line put_gap_line gap_line_parts gap_line_same g.lines at)

mutual
  pub put_value_same : PutValueIsSame
  put_value_same (Scalar kind p) at = refl
  put_value_same (Array whole items) at = ap (Array (bare whole)) (items_same items (at + 1))
  put_value_same (Inline whole pairs) at = ap (Inline (bare whole)) (pairs_same pairs (at + 1))

  pub items_same : (items : Items) (at : ℕ) → bare_items (put_items at items) ≡ bare_items items
  items_same (Close g) at = ap Close (gap_same at g)
  items_same (Last g v h) at =
      let a = behind at (gap_parts g) in
      ap (λ x. Last x (bare_value (put_value a v)) (bare_gap (put_gap (behind a (value_parts v)) h))) (gap_same at g)
      ∙ ap₂ (λ x y. Last (bare_gap g) x y) (put_value_same v a) (gap_same (behind a (value_parts v)) h)
  items_same (More g v h is) at =
      let a = behind at (gap_parts g) in
      let b = behind a (value_parts v) in
      ap (λ x. More x (bare_value (put_value a v)) (bare_gap (put_gap b h)) (bare_items (put_items (behind b (gap_parts h) + 1) is))) (gap_same at g)
      ∙ ap₂ (λ x y. More (bare_gap g) x y (bare_items (put_items (behind b (gap_parts h) + 1) is))) (put_value_same v a) (gap_same b h)
      ∙ ap (More (bare_gap g) (bare_value v) (bare_gap h)) (items_same is (behind b (gap_parts h) + 1))

  pub pairs_same : (pairs : Pairs) (at : ℕ) → bare_pairs (put_pairs at pairs) ≡ bare_pairs pairs
  pairs_same (ClosePairs g) at = ap ClosePairs (gap_same at g)
  pairs_same (LastPair g a v h) at =
      let key = behind at (gap_parts g) in
      let val = behind key (assign_parts a) in
      ap₂ (λ x y. LastPair x y (bare_value (put_value val v)) (bare_gap (put_gap (behind val (value_parts v)) h))) (gap_same at g) (assign_same key a)
      ∙ ap₂ (λ x y. LastPair (bare_gap g) (bare_assign a) x y) (put_value_same v val) (gap_same (behind val (value_parts v)) h)
  pairs_same (MorePairs g a v h ps) at =
      let key = behind at (gap_parts g) in
      let val = behind key (assign_parts a) in
      let gap = behind val (value_parts v) in
      let more = behind gap (gap_parts h) + 1 in
      ap₂ (λ x y. MorePairs x y (bare_value (put_value val v)) (bare_gap (put_gap gap h)) (bare_pairs (put_pairs more ps))) (gap_same at g) (assign_same key a)
      ∙ ap₂ (λ x y. MorePairs (bare_gap g) (bare_assign a) x y (bare_pairs (put_pairs more ps))) (put_value_same v val) (gap_same gap h)
      ∙ ap (MorePairs (bare_gap g) (bare_assign a) (bare_value v) (bare_gap h)) (pairs_same ps more)

pub header_same : (at : ℕ) (h : Header) → bare_header (put_header at h) ≡ bare_header h
header_same at h = ap (λ (k : Key). record { before = bare h.before; key = k; after = bare h.after }) (key_same (at + 1 + length h.before.text) h.key)

pub keyval_same : (at : ℕ) (k : KeyVal) → bare_keyval (put_keyval at k) ≡ bare_keyval k
keyval_same at k = ap₂ (λ x y. record { assign = x; value = y }) (assign_same at k.assign) (put_value_same k.value (behind at (assign_parts k.assign)))

pub expr_same : (at : ℕ) (e : Expr) → bare_expr (put_expr at e) ≡ bare_expr e
expr_same at (BlankLine b) = ap BlankLine (blank_same at b)
expr_same at (KeyValLine ws k b) = ap₂ (KeyValLine (bare ws)) (keyval_same (at + length ws.text) k) (blank_same (behind (at + length ws.text) (keyval_parts k)) b)
expr_same at (TableLine ws h b) = ap₂ (TableLine (bare ws)) (header_same (at + length ws.text) h) (blank_same (behind (at + length ws.text) (header_parts h)) b)
expr_same at (ArrayTableLine ws h b) = ap₂ (ArrayTableLine (bare ws)) (header_same (at + length ws.text + 1) h) (blank_same (behind (at + length ws.text) (array_header_parts h)) b)

pub line_same : (at : ℕ) (l : Line) → bare_line (put_line at l) ≡ bare_line l
line_same at l = ap (λ (e : Expr). record { expr = e; newline = bare l.newline }) (expr_same at l.expr)

pub put_lines_same : PutLinesAreSame
put_lines_same ls at = bare_each bare_line put_line line_parts line_same ls at
