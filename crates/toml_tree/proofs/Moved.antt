-- A tree that stands further behind by some bytes.
use Rattle.std.proofs.Common.{◌≡◌, ℕ, ◌+◌, List, [], ◌∷◌, ◌++◌, length, map, Option, Some, None, refl, sym, ap, subst, ◌∙◌, arith}
use Rattle.std.specs.Prelude.{max, option_map}
use Rattle.std.proofs.lemmas.List.{map-append}
use Rattle.toml_tree.specs.Moved.{moved_piece, moved_blank, moved_dotted, moved_key, moved_assign, moved_gap_line, moved_gap, moved, moved_items, moved_pairs, moved_keyval, moved_header, moved_expr, MovedValueText, MovedKeyValText, MovedExprText}
use Rattle.toml_tree.specs.Spells.{Part, piece, symbol, begin, part_text, joined, StartsAt, Placed, all_parts, EachIs, comment_parts, blank_parts, dotted_parts, key_parts, equals_parts, assign_parts, gap_line_parts, gap_parts, value_parts, items_parts, pairs_parts, keyval_parts, header_parts, array_header_parts, expr_parts, IsCommentOrNone, IsBlank, IsDotted, IsKey, IsAssign, IsGapLine, IsGap, IsValue, AreItems, ArePairs, depth, items_depth, pairs_depth, IsKeyVal, IsHeader, IsExpr, SpellsValue, SpellsKeyVal, SpellsExpr}
use Rattle.toml_tree.specs.Tree.{Piece, Blank, Key, Assign, GapLine, Gap, Value, Scalar, Array, Inline, Items, Close, Last, More, Pairs, ClosePairs, LastPair, MorePairs, KeyVal, Header, Expr, BlankLine, KeyValLine, TableLine, ArrayTableLine}

module _ (n : ℕ) where
  -- ---- parts

  abbrev pub moved_part : Part → Part
  moved_part (piece p) = piece (moved_piece n p)
  moved_part (symbol bs) = symbol bs
  moved_part (begin p) = begin (moved_piece n p)

  abbrev pub moved_parts : List Part → List Part
  moved_parts = map moved_part

  pub part_same : (p : Part) → part_text (moved_part p) ≡ part_text p
  part_same (piece p) = refl
  part_same (symbol bs) = refl
  part_same (begin p) = refl

  pub joined_same : (ps : List Part) → joined (moved_parts ps) ≡ joined ps
  joined_same [] = refl
  joined_same (p ∷ ps) = λ i. part_same p i ++ joined_same ps i

  start_moved : (p : Part) (at : ℕ) → StartsAt p at → StartsAt (moved_part p) (at + n)
  start_moved (piece p) at h = omega arith
  start_moved (symbol bs) at h = tt
  start_moved (begin p) at h = omega arith

  placed_moved : (ps : List Part) (at : ℕ) → Placed at ps → Placed (at + n) (moved_parts ps)
  placed_moved [] at h = tt
  placed_moved (p ∷ ps) at h =
      let e : (at + length (part_text p)) + n ≡ (at + n) + length (part_text (moved_part p)) = omega (arith, ap length (part_same p)) in
      (start_moved p at h.0, subst (λ m. Placed m (moved_parts ps)) e (placed_moved ps (at + length (part_text p)) h.1))

  both : (ps qs xs ys : List Part) → ps ≡ moved_parts xs → qs ≡ moved_parts ys → ps ++ qs ≡ moved_parts (xs ++ ys)
  both ps qs xs ys h k = (λ i. h i ++ k i) ∙ sym (map-append moved_part xs ys)

  all_moved : {A : Type 0} (f : A → List Part) (g : A → A) → ((x : A) → f (g x) ≡ moved_parts (f x)) → (xs : List A) → all_parts f (map g xs) ≡ moved_parts (all_parts f xs)
  all_moved f g h [] = refl
  all_moved f g h (x ∷ xs) = both (f (g x)) (all_parts f (map g xs)) (f x) (all_parts f xs) (h x) (all_moved f g h xs)

  comment_moved : (c : Option Piece) → comment_parts (option_map (moved_piece n) c) ≡ moved_parts (comment_parts c)
  comment_moved None = refl
  comment_moved (Some p) = refl

  blank_moved : (b : Blank) → blank_parts (moved_blank n b) ≡ moved_parts (blank_parts b)
  blank_moved b = ap (λ ps. piece (moved_piece n b.ws) ∷ ps) (comment_moved b.comment)

  key_moved : (k : Key) → key_parts (moved_key n k) ≡ moved_parts (key_parts k)
  key_moved k = ap (λ ps. piece (moved_piece n k.first) ∷ ps) (all_moved dotted_parts (moved_dotted n) (λ d. refl) k.rest)

  assign_moved : (a : Assign) → assign_parts (moved_assign n a) ≡ moved_parts (assign_parts a)
  assign_moved a = both (key_parts (moved_key n a.key)) _ (key_parts a.key) (equals_parts a.before_equals a.after_equals) (key_moved a.key) refl

  gap_line_moved : (l : GapLine) → gap_line_parts (moved_gap_line n l) ≡ moved_parts (gap_line_parts l)
  gap_line_moved l = both (blank_parts (moved_blank n l.blank)) _ (blank_parts l.blank) (piece l.newline ∷ []) (blank_moved l.blank) refl

  gap_moved : (g : Gap) → gap_parts (moved_gap n g) ≡ moved_parts (gap_parts g)
  gap_moved g = both (all_parts gap_line_parts (map (moved_gap_line n) g.lines)) _ (all_parts gap_line_parts g.lines) (piece g.ws ∷ []) (all_moved gap_line_parts (moved_gap_line n) gap_line_moved g.lines) refl

  mutual
    pub value_moved : (v : Value) → value_parts (moved n v) ≡ moved_parts (value_parts v)
    value_moved (Scalar kind p) = refl
    value_moved (Array whole items) = ap (λ ps. begin (moved_piece n whole) ∷ symbol (0x5B ∷ []) ∷ ps) (items_moved items)
    value_moved (Inline whole pairs) = ap (λ ps. begin (moved_piece n whole) ∷ symbol (0x7B ∷ []) ∷ ps) (pairs_moved pairs)

    pub items_moved : (items : Items) → items_parts (moved_items n items) ≡ moved_parts (items_parts items)
    items_moved (Close g) = both _ _ (gap_parts g) (symbol (0x5D ∷ []) ∷ []) (gap_moved g) refl
    items_moved (Last g v h) =
        both _ _ (gap_parts g) (value_parts v ++ (gap_parts h ++ symbol (0x5D ∷ []) ∷ [])) (gap_moved g)
        (both _ _ (value_parts v) (gap_parts h ++ symbol (0x5D ∷ []) ∷ []) (value_moved v)
        (both _ _ (gap_parts h) (symbol (0x5D ∷ []) ∷ []) (gap_moved h) refl))
    items_moved (More g v h is) =
        both _ _ (gap_parts g) (value_parts v ++ (gap_parts h ++ symbol (0x2C ∷ []) ∷ items_parts is)) (gap_moved g)
        (both _ _ (value_parts v) (gap_parts h ++ symbol (0x2C ∷ []) ∷ items_parts is) (value_moved v)
        (both _ _ (gap_parts h) (symbol (0x2C ∷ []) ∷ items_parts is) (gap_moved h) (ap (λ ps. symbol (0x2C ∷ []) ∷ ps) (items_moved is))))

    pub pairs_moved : (pairs : Pairs) → pairs_parts (moved_pairs n pairs) ≡ moved_parts (pairs_parts pairs)
    pairs_moved (ClosePairs g) = both _ _ (gap_parts g) (symbol (0x7D ∷ []) ∷ []) (gap_moved g) refl
    pairs_moved (LastPair g a v h) =
        both _ _ (gap_parts g) (assign_parts a ++ (value_parts v ++ (gap_parts h ++ symbol (0x7D ∷ []) ∷ []))) (gap_moved g)
        (both _ _ (assign_parts a) (value_parts v ++ (gap_parts h ++ symbol (0x7D ∷ []) ∷ [])) (assign_moved a)
        (both _ _ (value_parts v) (gap_parts h ++ symbol (0x7D ∷ []) ∷ []) (value_moved v)
        (both _ _ (gap_parts h) (symbol (0x7D ∷ []) ∷ []) (gap_moved h) refl)))
    pairs_moved (MorePairs g a v h ps) =
        both _ _ (gap_parts g) (assign_parts a ++ (value_parts v ++ (gap_parts h ++ symbol (0x2C ∷ []) ∷ pairs_parts ps))) (gap_moved g)
        (both _ _ (assign_parts a) (value_parts v ++ (gap_parts h ++ symbol (0x2C ∷ []) ∷ pairs_parts ps)) (assign_moved a)
        (both _ _ (value_parts v) (gap_parts h ++ symbol (0x2C ∷ []) ∷ pairs_parts ps) (value_moved v)
        (both _ _ (gap_parts h) (symbol (0x2C ∷ []) ∷ pairs_parts ps) (gap_moved h) (ap (λ qs. symbol (0x2C ∷ []) ∷ qs) (pairs_moved ps)))))

  pub keyval_moved : (k : KeyVal) → keyval_parts (moved_keyval n k) ≡ moved_parts (keyval_parts k)
  keyval_moved k = both _ _ (assign_parts k.assign) (value_parts k.value) (assign_moved k.assign) (value_moved k.value)

  header_moved : (h : Header) → header_parts (moved_header n h) ≡ moved_parts (header_parts h)
  header_moved h = ap (λ ps. symbol (0x5B ∷ []) ∷ piece (moved_piece n h.before) ∷ ps) (both _ _ (key_parts h.key) (piece h.after ∷ symbol (0x5D ∷ []) ∷ []) (key_moved h.key) refl)

  pub expr_moved : (e : Expr) → expr_parts (moved_expr n e) ≡ moved_parts (expr_parts e)
  expr_moved (BlankLine b) = blank_moved b
  expr_moved (KeyValLine ws k b) = ap (λ ps. piece (moved_piece n ws) ∷ ps) (both _ _ (keyval_parts k) (blank_parts b) (keyval_moved k) (blank_moved b))
  expr_moved (TableLine ws h b) = ap (λ ps. piece (moved_piece n ws) ∷ ps) (both _ _ (header_parts h) (blank_parts b) (header_moved h) (blank_moved b))
  expr_moved (ArrayTableLine ws h b) =
      ap (λ ps. piece (moved_piece n ws) ∷ ps) (both _ _ (array_header_parts h) (blank_parts b) (ap (λ ps. symbol (0x5B ∷ []) ∷ ps) (both _ _ (header_parts h) (symbol (0x5D ∷ []) ∷ []) (header_moved h) refl)) (blank_moved b))

  pub value_text : (v : Value) → joined (value_parts (moved n v)) ≡ joined (value_parts v)
  value_text v = ap joined (value_moved v) ∙ joined_same (value_parts v)

  pub keyval_text : (k : KeyVal) → joined (keyval_parts (moved_keyval n k)) ≡ joined (keyval_parts k)
  keyval_text k = ap joined (keyval_moved k) ∙ joined_same (keyval_parts k)

  pub expr_text : (e : Expr) → joined (expr_parts (moved_expr n e)) ≡ joined (expr_parts e)
  expr_text e = ap joined (expr_moved e) ∙ joined_same (expr_parts e)

  -- ---- forms

  each_moved : {A : Type 0} (P : A → Type 0) (g : A → A) → ((x : A) → P x → P (g x)) → (xs : List A) → EachIs P xs → EachIs P (map g xs)
  each_moved P g f [] h = tt
  each_moved P g f (x ∷ xs) h = (f x h.0, each_moved P g f xs h.1)

  comment_form : (c : Option Piece) → IsCommentOrNone c → IsCommentOrNone (option_map (moved_piece n) c)
  comment_form None h = tt
  comment_form (Some p) h = h

  blank_form : (b : Blank) → IsBlank b → IsBlank (moved_blank n b)
  blank_form b h = (h.0, comment_form b.comment h.1)

  key_form : (k : Key) → IsKey k → IsKey (moved_key n k)
  key_form k h = (h.0, each_moved IsDotted (moved_dotted n) (λ d i. i) k.rest h.1)

  assign_form : (a : Assign) → IsAssign a → IsAssign (moved_assign n a)
  assign_form a h = (key_form a.key h.0, h.1, h.2)

  gap_form : (g : Gap) → IsGap g → IsGap (moved_gap n g)
  gap_form g h = (each_moved IsGapLine (moved_gap_line n) (λ l i. (blank_form l.blank i.0, i.1)) g.lines h.0, h.1)

  mutual
    value_form : (v : Value) → IsValue v → IsValue (moved n v)
    value_form (Scalar kind p) h = h
    value_form (Array whole items) h = (h.0 ∙ ap (λ bs. 0x5B ∷ bs) (sym (ap joined (items_moved items) ∙ joined_same (items_parts items))), items_form items h.1)
    value_form (Inline whole pairs) h = (h.0 ∙ ap (λ bs. 0x7B ∷ bs) (sym (ap joined (pairs_moved pairs) ∙ joined_same (pairs_parts pairs))), pairs_form pairs h.1)

    items_form : (items : Items) → AreItems items → AreItems (moved_items n items)
    items_form (Close g) h = gap_form g h
    items_form (Last g v k) h = (gap_form g h.0, value_form v h.1, gap_form k h.2)
    items_form (More g v k is) h = (gap_form g h.0, value_form v h.1, gap_form k h.2, items_form is h.3)

    pairs_form : (pairs : Pairs) → ArePairs pairs → ArePairs (moved_pairs n pairs)
    pairs_form (ClosePairs g) h = gap_form g h
    pairs_form (LastPair g a v k) h = (gap_form g h.0, assign_form a h.1, value_form v h.2, gap_form k h.3)
    pairs_form (MorePairs g a v k ps) h = (gap_form g h.0, assign_form a h.1, value_form v h.2, gap_form k h.3, pairs_form ps h.4)

  mutual
    pub depth_same : (v : Value) → depth (moved n v) ≡ depth v
    depth_same (Scalar kind p) = refl
    depth_same (Array whole items) = ap (λ k. k + 1) (items_depth_same items)
    depth_same (Inline whole pairs) = ap (λ k. k + 1) (pairs_depth_same pairs)

    items_depth_same : (items : Items) → items_depth (moved_items n items) ≡ items_depth items
    items_depth_same (Close g) = refl
    items_depth_same (Last g v h) = depth_same v
    items_depth_same (More g v h is) = λ i. max (depth_same v i) (items_depth_same is i)

    pairs_depth_same : (pairs : Pairs) → pairs_depth (moved_pairs n pairs) ≡ pairs_depth pairs
    pairs_depth_same (ClosePairs g) = refl
    pairs_depth_same (LastPair g a v h) = depth_same v
    pairs_depth_same (MorePairs g a v h ps) = λ i. max (depth_same v i) (pairs_depth_same ps i)

  keyval_form : (k : KeyVal) → IsKeyVal k → IsKeyVal (moved_keyval n k)
  keyval_form k h = (assign_form k.assign h.0, value_form k.value h.1, rw (depth_same k.value) h.2)

  header_form : (h : Header) → IsHeader h → IsHeader (moved_header n h)
  header_form h i = (i.0, key_form h.key i.1, i.2)

  expr_form : (e : Expr) → IsExpr e → IsExpr (moved_expr n e)
  expr_form (BlankLine b) h = blank_form b h
  expr_form (KeyValLine ws k b) h = (h.0, keyval_form k h.1, blank_form b h.2)
  expr_form (TableLine ws i b) h = (h.0, header_form i h.1, blank_form b h.2)
  expr_form (ArrayTableLine ws i b) h = (h.0, header_form i h.1, blank_form b h.2)

  -- ---- what is moved spells the same text

  pub spells_value : (v : Value) (at : ℕ) (text : List ℕ) → SpellsValue v at text → SpellsValue (moved n v) (at + n) text
  spells_value v at text h = record {
    form = value_form v h.form;
    shallow = rw (depth_same v) h.shallow;
    text_is = value_text v ∙ h.text_is;
    placed = subst (λ ps. Placed (at + n) ps) (sym (value_moved v)) (placed_moved (value_parts v) at h.placed);
  }

  pub spells_keyval : (k : KeyVal) (at : ℕ) (text : List ℕ) → SpellsKeyVal k at text → SpellsKeyVal (moved_keyval n k) (at + n) text
  spells_keyval k at text h = record {
    form = keyval_form k h.form;
    text_is = keyval_text k ∙ h.text_is;
    placed = subst (λ ps. Placed (at + n) ps) (sym (keyval_moved k)) (placed_moved (keyval_parts k) at h.placed);
  }

  pub spells_expr : (e : Expr) (at : ℕ) (text : List ℕ) → SpellsExpr e at text → SpellsExpr (moved_expr n e) (at + n) text
  spells_expr e at text h = record {
    form = expr_form e h.form;
    text_is = expr_text e ∙ h.text_is;
    placed = subst (λ ps. Placed (at + n) ps) (sym (expr_moved e)) (placed_moved (expr_parts e) at h.placed);
  }

pub moved_value_text : MovedValueText
moved_value_text v n = value_text n v

pub moved_keyval_text : MovedKeyValText
moved_keyval_text k n = keyval_text n k

pub moved_expr_text : MovedExprText
moved_expr_text e n = expr_text n e
