-- A tree that is put at a place: each piece has its place.
use Rattle.std.proofs.Common.{◌≡◌, ℕ, ◌+◌, List, [], ◌∷◌, ◌++◌, map, length, Option, Some, None, refl, sym, ap, ◌∙◌, subst, arith}
use Rattle.toml_tree.specs.Bare.{bare_blank, bare_key, bare_assign, bare_gap_line, bare_gap, bare_value, bare_keyval, bare_header, bare_expr, bare_line}
use Rattle.toml_tree.specs.Places.{behind, put_comment, put_blank, put_dotted, put_each, put_key, put_assign, put_gap_line, put_gap, put_value, put_items, put_pairs, put_keyval, put_header, put_expr, put_line, put_lines}
use Rattle.toml_tree.specs.Spells.{Part, symbol, joined, comment_parts, key_parts, dotted_parts, assign_parts, blank_parts, gap_parts, gap_line_parts, all_parts, value_parts, items_parts, pairs_parts, header_parts, array_header_parts, keyval_parts, expr_parts, line_parts, lines_parts, Placed}
use Rattle.toml_tree.specs.Tree.{Piece, Blank, Key, Assign, GapLine, Gap, Value, Scalar, Array, Inline, Items, Close, Last, More, Pairs, ClosePairs, LastPair, MorePairs, KeyVal, Header, Expr, BlankLine, KeyValLine, TableLine, ArrayTableLine, Line}
use Rattle.toml_tree.proofs.Bared.{same_text, each, blank_text, key_text, assign_text, gap_line_text, gap_text, bare_value_text, header_text, keyval_text, expr_text, line_text}
use Rattle.toml_tree.proofs.PutSame.{bare_each, blank_same, key_same, assign_same, gap_line_same, gap_same, put_value_same, keyval_same, header_same, expr_same, line_same}
use Rattle.toml_tree.proofs.Parts.{placed_both}
use Rattle.toml_tree.proofs.Texts.{joined_append}

-- parts behind others that have the same text as these
joins : (at : ℕ) (xs ps ys : List Part) → joined xs ≡ joined ps → Placed at xs → Placed (behind at ps) ys → Placed at (xs ++ ys)
joins at xs ps ys same placed rest = placed_both xs ys at placed (subst (λ t. Placed (at + length t) ys) (sym same) rest)

pub placed_each : {A : Type 0} (f : ℕ → A → A) (parts : A → List Part) → ((at : ℕ) (x : A) → Placed at (parts (f at x))) → ((at : ℕ) (x : A) → joined (parts (f at x)) ≡ joined (parts x)) → (xs : List A) (at : ℕ) → Placed at (all_parts parts (put_each f parts at xs))
placed_each f parts placed same [] at = tt
placed_each f parts placed same (x ∷ xs) at = joins at (parts (f at x)) (parts x) (all_parts parts (put_each f parts (behind at (parts x)) xs)) (same at x) (placed at x) (placed_each f parts placed same xs (behind at (parts x)))

pub blank_placed : (at : ℕ) (b : Blank) → Placed at (blank_parts (put_blank at b))
blank_placed at b = (refl, by b.comment)
  where
    by : (c : Option Piece) → Placed (at + length b.ws.text) (comment_parts (put_comment (at + length b.ws.text) c))
    by None = tt
    by (Some p) = (refl, tt)

pub blank_reads : (at : ℕ) (b : Blank) → joined (blank_parts (put_blank at b)) ≡ joined (blank_parts b)
blank_reads at b = same_text blank_parts bare_blank blank_text (put_blank at b) b (blank_same at b)

pub key_placed : (at : ℕ) (k : Key) → Placed at (key_parts (put_key at k))
key_placed at k = (refl, placed_each put_dotted dotted_parts (λ a d. (refl, (tt, (refl, (refl, tt))))) (λ a d. refl) k.rest (at + length k.first.text))

pub key_reads : (at : ℕ) (k : Key) → joined (key_parts (put_key at k)) ≡ joined (key_parts k)
key_reads at k = same_text key_parts bare_key key_text (put_key at k) k (key_same at k)

pub assign_placed : (at : ℕ) (a : Assign) → Placed at (assign_parts (put_assign at a))
assign_placed at a = joins at (key_parts (put_key at a.key)) (key_parts a.key) _ (key_reads at a.key) (key_placed at a.key) (refl, (tt, (refl, tt)))

pub assign_reads : (at : ℕ) (a : Assign) → joined (assign_parts (put_assign at a)) ≡ joined (assign_parts a)
assign_reads at a = same_text assign_parts bare_assign assign_text (put_assign at a) a (assign_same at a)

pub gap_line_placed : (at : ℕ) (l : GapLine) → Placed at (gap_line_parts (put_gap_line at l))
gap_line_placed at l = joins at (blank_parts (put_blank at l.blank)) (blank_parts l.blank) _ (blank_reads at l.blank) (blank_placed at l.blank) (refl, tt)

pub gap_line_reads : (at : ℕ) (l : GapLine) → joined (gap_line_parts (put_gap_line at l)) ≡ joined (gap_line_parts l)
gap_line_reads at l = same_text gap_line_parts bare_gap_line gap_line_text (put_gap_line at l) l (gap_line_same at l)

pub gap_lines_text : (ls : List GapLine) → joined (all_parts gap_line_parts (map bare_gap_line ls)) ≡ joined (all_parts gap_line_parts ls)
gap_lines_text ls = each bare_gap_line gap_line_parts gap_line_text ls

pub gap_placed : (at : ℕ) (g : Gap) → Placed at (gap_parts (put_gap at g))
gap_placed at g =
    joins at (all_parts gap_line_parts (put_each put_gap_line gap_line_parts at g.lines)) (all_parts gap_line_parts g.lines) _
    (sym (gap_lines_text (put_each put_gap_line gap_line_parts at g.lines)) ∙ ap (λ ls. joined (all_parts gap_line_parts ls)) (bare_each bare_gap_line put_gap_line gap_line_parts gap_line_same g.lines at) ∙ gap_lines_text g.lines)
    (placed_each put_gap_line gap_line_parts gap_line_placed gap_line_reads g.lines at) (refl, tt)

pub gap_reads : (at : ℕ) (g : Gap) → joined (gap_parts (put_gap at g)) ≡ joined (gap_parts g)
gap_reads at g = same_text gap_parts bare_gap gap_text (put_gap at g) g (gap_same at g)

pub value_reads : (at : ℕ) (v : Value) → joined (value_parts (put_value at v)) ≡ joined (value_parts v)
value_reads at v = same_text value_parts bare_value bare_value_text (put_value at v) v (put_value_same v at)

mutual
  pub value_placed : (v : Value) (at : ℕ) → Placed at (value_parts (put_value at v))
  value_placed (Scalar kind p) at = (refl, tt)
  value_placed (Array whole items) at = let e : at + 1 ≡ at + 0 + 1 = omega arith in (refl, (tt, subst (λ a. Placed a (items_parts (put_items (at + 1) items))) e (items_placed items (at + 1))))
  value_placed (Inline whole pairs) at = let e : at + 1 ≡ at + 0 + 1 = omega arith in (refl, (tt, subst (λ a. Placed a (pairs_parts (put_pairs (at + 1) pairs))) e (pairs_placed pairs (at + 1))))

  pub items_placed : (items : Items) (at : ℕ) → Placed at (items_parts (put_items at items))
  items_placed (Close g) at = joins at (gap_parts (put_gap at g)) (gap_parts g) _ (gap_reads at g) (gap_placed at g) (tt, tt)
  items_placed (Last g v h) at =
      let a = behind at (gap_parts g) in
      let b = behind a (value_parts v) in
      joins at (gap_parts (put_gap at g)) (gap_parts g) _ (gap_reads at g) (gap_placed at g)
      (joins a (value_parts (put_value a v)) (value_parts v) _ (value_reads a v) (value_placed v a)
      (joins b (gap_parts (put_gap b h)) (gap_parts h) _ (gap_reads b h) (gap_placed b h) (tt, tt)))
  items_placed (More g v h is) at =
      let a = behind at (gap_parts g) in
      let b = behind a (value_parts v) in
      joins at (gap_parts (put_gap at g)) (gap_parts g) _ (gap_reads at g) (gap_placed at g)
      (joins a (value_parts (put_value a v)) (value_parts v) _ (value_reads a v) (value_placed v a)
      (joins b (gap_parts (put_gap b h)) (gap_parts h) _ (gap_reads b h) (gap_placed b h) (tt, items_placed is (behind b (gap_parts h) + 1))))

  pub pairs_placed : (pairs : Pairs) (at : ℕ) → Placed at (pairs_parts (put_pairs at pairs))
  pairs_placed (ClosePairs g) at = joins at (gap_parts (put_gap at g)) (gap_parts g) _ (gap_reads at g) (gap_placed at g) (tt, tt)
  pairs_placed (LastPair g a v h) at =
      let key = behind at (gap_parts g) in
      let val = behind key (assign_parts a) in
      let b = behind val (value_parts v) in
      joins at (gap_parts (put_gap at g)) (gap_parts g) _ (gap_reads at g) (gap_placed at g)
      (joins key (assign_parts (put_assign key a)) (assign_parts a) _ (assign_reads key a) (assign_placed key a)
      (joins val (value_parts (put_value val v)) (value_parts v) _ (value_reads val v) (value_placed v val)
      (joins b (gap_parts (put_gap b h)) (gap_parts h) _ (gap_reads b h) (gap_placed b h) (tt, tt))))
  pairs_placed (MorePairs g a v h ps) at =
      let key = behind at (gap_parts g) in
      let val = behind key (assign_parts a) in
      let b = behind val (value_parts v) in
      joins at (gap_parts (put_gap at g)) (gap_parts g) _ (gap_reads at g) (gap_placed at g)
      (joins key (assign_parts (put_assign key a)) (assign_parts a) _ (assign_reads key a) (assign_placed key a)
      (joins val (value_parts (put_value val v)) (value_parts v) _ (value_reads val v) (value_placed v val)
      (joins b (gap_parts (put_gap b h)) (gap_parts h) _ (gap_reads b h) (gap_placed b h) (tt, pairs_placed ps (behind b (gap_parts h) + 1)))))

pub header_placed : (at : ℕ) (h : Header) → Placed at (header_parts (put_header at h))
header_placed at h =
    let key = at + 1 + length h.before.text in
    (tt, (refl, joins key (key_parts (put_key key h.key)) (key_parts h.key) _ (key_reads key h.key) (key_placed key h.key) (refl, (tt, tt))))

pub header_reads : (at : ℕ) (h : Header) → joined (header_parts (put_header at h)) ≡ joined (header_parts h)
header_reads at h = same_text header_parts bare_header header_text (put_header at h) h (header_same at h)

pub keyval_reads : (at : ℕ) (k : KeyVal) → joined (keyval_parts (put_keyval at k)) ≡ joined (keyval_parts k)
keyval_reads at k = same_text keyval_parts bare_keyval keyval_text (put_keyval at k) k (keyval_same at k)

pub keyval_placed : (at : ℕ) (k : KeyVal) → Placed at (keyval_parts (put_keyval at k))
keyval_placed at k = joins at (assign_parts (put_assign at k.assign)) (assign_parts k.assign) _ (assign_reads at k.assign) (assign_placed at k.assign) (value_placed k.value (behind at (assign_parts k.assign)))

pub expr_placed : (at : ℕ) (e : Expr) → Placed at (expr_parts (put_expr at e))
expr_placed at (BlankLine b) = blank_placed at b
expr_placed at (KeyValLine ws k b) =
    let key = at + length ws.text in
    (refl, joins key (keyval_parts (put_keyval key k)) (keyval_parts k) _ (keyval_reads key k) (keyval_placed key k) (blank_placed (behind key (keyval_parts k)) b))
expr_placed at (TableLine ws h b) =
    let key = at + length ws.text in
    (refl, joins key (header_parts (put_header key h)) (header_parts h) _ (header_reads key h) (header_placed key h) (blank_placed (behind key (header_parts h)) b))
expr_placed at (ArrayTableLine ws h b) =
    let key = at + length ws.text in (
      refl,
      joins key (array_header_parts (put_header (key + 1) h)) (array_header_parts h) _
          (ap (λ r. 0x5B ∷ r) (joined_append (header_parts (put_header (key + 1) h)) (symbol (0x5D ∷ []) ∷ []) ∙ ap (λ r. r ++ 0x5D ∷ []) (header_reads (key + 1) h) ∙ sym (joined_append (header_parts h) (symbol (0x5D ∷ []) ∷ []))))
          (tt, joins (key + 1) (header_parts (put_header (key + 1) h)) (header_parts h) _ (header_reads (key + 1) h) (header_placed (key + 1) h) (tt, tt))
          (blank_placed (behind key (array_header_parts h)) b),
    )

pub line_placed : (at : ℕ) (l : Line) → Placed at (line_parts (put_line at l))
line_placed at l = joins at (expr_parts (put_expr at l.expr)) (expr_parts l.expr) _ (same_text expr_parts bare_expr expr_text (put_expr at l.expr) l.expr (expr_same at l.expr)) (expr_placed at l.expr) (refl, tt)

pub lines_placed : (ls : List Line) (at : ℕ) → Placed at (lines_parts (put_lines at ls))
lines_placed ls at = placed_each put_line line_parts line_placed (λ a l. same_text line_parts bare_line line_text (put_line a l) l (line_same a l)) ls at
