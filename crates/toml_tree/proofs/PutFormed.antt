-- A tree that is put at a place: what was in its form is.
use Rattle.std.proofs.Common.{◌≡◌, ℕ, ◌+◌, ◌≤◌, max, List, [], ◌∷◌, length, Option, Some, None, refl, sym, ap, ap₂, ◌∙◌, subst}
use Rattle.toml_tree.specs.Bare.{bare_items, bare_pairs}
use Rattle.toml_tree.specs.Places.{behind, put_comment, put_blank, put_dotted, put_each, put_key, put_assign, put_gap_line, put_gap, put_value, put_items, put_pairs, put_expr, put_lines}
use Rattle.toml_tree.specs.Spells.{Part, dotted_parts, assign_parts, gap_parts, gap_line_parts, value_parts, items_parts, pairs_parts, header_parts, array_header_parts, keyval_parts, line_parts, EachIs, IsCommentOrNone, IsBlank, IsDotted, IsKey, IsAssign, IsGapLine, IsGap, IsValue, AreItems, ArePairs, IsExpr, AreLines, depth, items_depth, pairs_depth, max_depth}
use Rattle.toml_tree.specs.Tree.{Piece, Blank, Key, Assign, Gap, Value, Scalar, Array, Inline, Items, Close, Last, More, Pairs, ClosePairs, LastPair, MorePairs, Expr, BlankLine, KeyValLine, TableLine, ArrayTableLine, Line}
use Rattle.toml_tree.proofs.Bared.{same_text, bare_items_text, bare_pairs_text}
use Rattle.toml_tree.proofs.PutSame.{items_same, pairs_same}

pub each_formed : {A : Type 0} (P : A → Type 0) (f : ℕ → A → A) (parts : A → List Part) → ((at : ℕ) (x : A) → P x → P (f at x)) → (xs : List A) (at : ℕ) → EachIs P xs → EachIs P (put_each f parts at xs)
each_formed P f parts formed [] at is = tt
each_formed P f parts formed (x ∷ xs) at is = (formed at x is.0, each_formed P f parts formed xs (behind at (parts x)) is.1)

pub blank_formed : (at : ℕ) (b : Blank) → IsBlank b → IsBlank (put_blank at b)
blank_formed at b is = (is.0, by b.comment is.1)
  where
    by : (c : Option Piece) → IsCommentOrNone c → IsCommentOrNone (put_comment (at + length b.ws.text) c)
    by None h = h
    by (Some p) h = h

pub key_formed : (at : ℕ) (k : Key) → IsKey k → IsKey (put_key at k)
key_formed at k is = (is.0, each_formed IsDotted put_dotted dotted_parts (λ a d h. h) k.rest (at + length k.first.text) is.1)

pub assign_formed : (at : ℕ) (a : Assign) → IsAssign a → IsAssign (put_assign at a)
assign_formed at a is = (key_formed at a.key is.0, is.1, is.2)

pub gap_formed : (at : ℕ) (g : Gap) → IsGap g → IsGap (put_gap at g)
gap_formed at g is = (each_formed IsGapLine put_gap_line gap_line_parts (λ a l h. (blank_formed a l.blank h.0, h.1)) g.lines at is.0, is.1)

mutual
  pub value_formed : (v : Value) (at : ℕ) → IsValue v → IsValue (put_value at v)
  value_formed (Scalar kind p) at is = is
  value_formed (Array whole items) at is =
      (is.0 ∙ ap (λ r. 0x5B ∷ r) (sym (same_text items_parts bare_items bare_items_text (put_items (at + 1) items) items (items_same items (at + 1)))), items_formed items (at + 1) is.1)
  value_formed (Inline whole pairs) at is =
      (is.0 ∙ ap (λ r. 0x7B ∷ r) (sym (same_text pairs_parts bare_pairs bare_pairs_text (put_pairs (at + 1) pairs) pairs (pairs_same pairs (at + 1)))), pairs_formed pairs (at + 1) is.1)

  pub items_formed : (items : Items) (at : ℕ) → AreItems items → AreItems (put_items at items)
  items_formed (Close g) at is = gap_formed at g is
  items_formed (Last g v h) at is = let a = behind at (gap_parts g) in (gap_formed at g is.0, value_formed v a is.1, gap_formed (behind a (value_parts v)) h is.2)
  items_formed (More g v h more) at is =
      let a = behind at (gap_parts g) in
      let b = behind a (value_parts v) in
      (gap_formed at g is.0, value_formed v a is.1, gap_formed b h is.2, items_formed more (behind b (gap_parts h) + 1) is.3)

  pub pairs_formed : (pairs : Pairs) (at : ℕ) → ArePairs pairs → ArePairs (put_pairs at pairs)
  pairs_formed (ClosePairs g) at is = gap_formed at g is
  pairs_formed (LastPair g a v h) at is =
      let key = behind at (gap_parts g) in
      let val = behind key (assign_parts a) in
      (gap_formed at g is.0, assign_formed key a is.1, value_formed v val is.2, gap_formed (behind val (value_parts v)) h is.3)
  pairs_formed (MorePairs g a v h ps) at is =
      let key = behind at (gap_parts g) in
      let val = behind key (assign_parts a) in
      let b = behind val (value_parts v) in
      (gap_formed at g is.0, assign_formed key a is.1, value_formed v val is.2, gap_formed b h is.3, pairs_formed ps (behind b (gap_parts h) + 1) is.4)

mutual
  pub same_depth : (v : Value) (at : ℕ) → depth (put_value at v) ≡ depth v
  same_depth (Scalar kind p) at = refl
  same_depth (Array whole items) at = ap (λ d. d + 1) (items_depth_same items (at + 1))
  same_depth (Inline whole pairs) at = ap (λ d. d + 1) (pairs_depth_same pairs (at + 1))

  pub items_depth_same : (items : Items) (at : ℕ) → items_depth (put_items at items) ≡ items_depth items
  items_depth_same (Close g) at = refl
  items_depth_same (Last g v h) at = same_depth v (behind at (gap_parts g))
  items_depth_same (More g v h is) at = let a = behind at (gap_parts g) in ap₂ max (same_depth v a) (items_depth_same is (behind (behind a (value_parts v)) (gap_parts h) + 1))

  pub pairs_depth_same : (pairs : Pairs) (at : ℕ) → pairs_depth (put_pairs at pairs) ≡ pairs_depth pairs
  pairs_depth_same (ClosePairs g) at = refl
  pairs_depth_same (LastPair g a v h) at = same_depth v (behind (behind at (gap_parts g)) (assign_parts a))
  pairs_depth_same (MorePairs g a v h ps) at =
      let val = behind (behind at (gap_parts g)) (assign_parts a) in ap₂ max (same_depth v val) (pairs_depth_same ps (behind (behind val (value_parts v)) (gap_parts h) + 1))

pub expr_formed : (at : ℕ) (e : Expr) → IsExpr e → IsExpr (put_expr at e)
expr_formed at (BlankLine b) is = blank_formed at b is
expr_formed at (KeyValLine ws k b) is =
    let key = at + length ws.text in
    let val = behind key (assign_parts k.assign) in
    (is.0, (assign_formed key k.assign is.1.0, value_formed k.value val is.1.1, subst (λ d. d ≤ max_depth) (sym (same_depth k.value val)) is.1.2), blank_formed (behind key (keyval_parts k)) b is.2)
expr_formed at (TableLine ws h b) is =
    let key = at + length ws.text in
    (is.0, (is.1.0, key_formed (key + 1 + length h.before.text) h.key is.1.1, is.1.2), blank_formed (behind key (header_parts h)) b is.2)
expr_formed at (ArrayTableLine ws h b) is =
    let key = at + length ws.text in
    (is.0, (is.1.0, key_formed (key + 1 + 1 + length h.before.text) h.key is.1.1, is.1.2), blank_formed (behind key (array_header_parts h)) b is.2)

pub lines_formed : (ls : List Line) (at : ℕ) → AreLines ls → AreLines (put_lines at ls)
lines_formed [] at is = is
lines_formed (l ∷ []) at is = (expr_formed at l.expr is.0, is.1)
lines_formed (l ∷ m ∷ ls) at is = (expr_formed at l.expr is.0, is.1, lines_formed (m ∷ ls) (behind at (line_parts l)) is.2)
