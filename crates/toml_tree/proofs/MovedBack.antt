-- What spells a text further behind spells it, moved back.
use Rattle.std.proofs.Common.{◌≡◌, ℕ, ◌+◌, ◌≤◌, List, [], ◌∷◌, length, map, Option, Some, None, sym, ap, subst, ◌∙◌, arith}
use Rattle.std.specs.Prelude.{option_map}
use Rattle.toml_tree.specs.Moved.{moved_piece, moved_blank, moved_dotted, moved_key, moved_assign, moved_gap_line, moved_gap, moved, moved_items, moved_pairs, moved_keyval, moved_header, moved_expr, MovedValueSpells, MovedKeyValSpells, MovedExprSpells}
use Rattle.toml_tree.specs.Spells.{Part, piece, symbol, begin, part_text, joined, StartsAt, Placed, EachIs, value_parts, items_parts, pairs_parts, keyval_parts, expr_parts, IsCommentOrNone, IsBlank, IsDotted, IsKey, IsAssign, IsGapLine, IsGap, IsValue, AreItems, ArePairs, max_depth, depth, IsKeyVal, IsHeader, IsExpr, SpellsValue, SpellsKeyVal, SpellsExpr}
use Rattle.toml_tree.specs.Tree.{Piece, Blank, Key, Assign, Gap, Value, Scalar, Array, Inline, Items, Close, Last, More, Pairs, ClosePairs, LastPair, MorePairs, KeyVal, Header, Expr, BlankLine, KeyValLine, TableLine, ArrayTableLine}
use Rattle.toml_tree.proofs.Moved.{moved_part, moved_parts, part_same, joined_same, value_moved, items_moved, pairs_moved, keyval_moved, expr_moved, value_text, keyval_text, expr_text, depth_same, spells_value, spells_keyval, spells_expr}

module _ (n : ℕ) where
  -- ---- parts

  start_back : (p : Part) (at : ℕ) → StartsAt (moved_part n p) (at + n) → StartsAt p at
  start_back (piece p) at h = omega arith
  start_back (symbol bs) at h = tt
  start_back (begin p) at h = omega arith

  parts_back : (ps : List Part) (at : ℕ) → Placed (at + n) (moved_parts n ps) → Placed at ps
  parts_back [] at h = tt
  parts_back (p ∷ ps) at h =
      let e : (at + n) + length (part_text (moved_part n p)) ≡ (at + length (part_text p)) + n = omega (arith, ap length (part_same n p)) in
      (start_back p at h.0, parts_back ps (at + length (part_text p)) (subst (λ m. Placed m (moved_parts n ps)) e h.1))

  -- ---- forms

  each_back : {A : Type 0} (P : A → Type 0) (g : A → A) → ((x : A) → P (g x) → P x) → (xs : List A) → EachIs P (map g xs) → EachIs P xs
  each_back P g f [] h = tt
  each_back P g f (x ∷ xs) h = (f x h.0, each_back P g f xs h.1)

  comment_back : (c : Option Piece) → IsCommentOrNone (option_map (moved_piece n) c) → IsCommentOrNone c
  comment_back None h = tt
  comment_back (Some p) h = h

  blank_back : (b : Blank) → IsBlank (moved_blank n b) → IsBlank b
  blank_back b h = (h.0, comment_back b.comment h.1)

  key_back : (k : Key) → IsKey (moved_key n k) → IsKey k
  key_back k h = (h.0, each_back IsDotted (moved_dotted n) (λ d i. i) k.rest h.1)

  assign_back : (a : Assign) → IsAssign (moved_assign n a) → IsAssign a
  assign_back a h = (key_back a.key h.0, h.1, h.2)

  gap_back : (g : Gap) → IsGap (moved_gap n g) → IsGap g
  gap_back g h = (each_back IsGapLine (moved_gap_line n) (λ l i. (blank_back l.blank i.0, i.1)) g.lines h.0, h.1)

  mutual
    value_back : (v : Value) → IsValue (moved n v) → IsValue v
    value_back (Scalar kind p) h = h
    value_back (Array whole items) h = (h.0 ∙ ap (λ bs. 0x5B ∷ bs) (ap joined (items_moved n items) ∙ joined_same n (items_parts items)), items_back items h.1)
    value_back (Inline whole pairs) h = (h.0 ∙ ap (λ bs. 0x7B ∷ bs) (ap joined (pairs_moved n pairs) ∙ joined_same n (pairs_parts pairs)), pairs_back pairs h.1)

    items_back : (items : Items) → AreItems (moved_items n items) → AreItems items
    items_back (Close g) h = gap_back g h
    items_back (Last g v k) h = (gap_back g h.0, value_back v h.1, gap_back k h.2)
    items_back (More g v k is) h = (gap_back g h.0, value_back v h.1, gap_back k h.2, items_back is h.3)

    pairs_back : (pairs : Pairs) → ArePairs (moved_pairs n pairs) → ArePairs pairs
    pairs_back (ClosePairs g) h = gap_back g h
    pairs_back (LastPair g a v k) h = (gap_back g h.0, assign_back a h.1, value_back v h.2, gap_back k h.3)
    pairs_back (MorePairs g a v k ps) h = (gap_back g h.0, assign_back a h.1, value_back v h.2, gap_back k h.3, pairs_back ps h.4)

  shallow_back : (v : Value) → depth (moved n v) ≤ max_depth → depth v ≤ max_depth
  shallow_back v h = subst (λ d. d ≤ max_depth) (depth_same n v) h

  keyval_back : (k : KeyVal) → IsKeyVal (moved_keyval n k) → IsKeyVal k
  keyval_back k h = (assign_back k.assign h.0, value_back k.value h.1, shallow_back k.value h.2)

  header_back : (h : Header) → IsHeader (moved_header n h) → IsHeader h
  header_back h i = (i.0, key_back h.key i.1, i.2)

  expr_back : (e : Expr) → IsExpr (moved_expr n e) → IsExpr e
  expr_back (BlankLine b) h = blank_back b h
  expr_back (KeyValLine ws k b) h = (h.0, keyval_back k h.1, blank_back b h.2)
  expr_back (TableLine ws i b) h = (h.0, header_back i h.1, blank_back b h.2)
  expr_back (ArrayTableLine ws i b) h = (h.0, header_back i h.1, blank_back b h.2)

  -- ---- texts

  spells_value_back : (v : Value) (at : ℕ) (text : List ℕ) → SpellsValue (moved n v) (at + n) text → SpellsValue v at text
  spells_value_back v at text h = record {
    form = value_back v h.form;
    shallow = shallow_back v h.shallow;
    text_is = sym (value_text n v) ∙ h.text_is;
    placed = parts_back (value_parts v) at (subst (λ ps. Placed (at + n) ps) (value_moved n v) h.placed);
  }

  spells_keyval_back : (k : KeyVal) (at : ℕ) (text : List ℕ) → SpellsKeyVal (moved_keyval n k) (at + n) text → SpellsKeyVal k at text
  spells_keyval_back k at text h = record {
    form = keyval_back k h.form;
    text_is = sym (keyval_text n k) ∙ h.text_is;
    placed = parts_back (keyval_parts k) at (subst (λ ps. Placed (at + n) ps) (keyval_moved n k) h.placed);
  }

  spells_expr_back : (e : Expr) (at : ℕ) (text : List ℕ) → SpellsExpr (moved_expr n e) (at + n) text → SpellsExpr e at text
  spells_expr_back e at text h = record {
    form = expr_back e h.form;
    text_is = sym (expr_text n e) ∙ h.text_is;
    placed = parts_back (expr_parts e) at (subst (λ ps. Placed (at + n) ps) (expr_moved n e) h.placed);
  }

pub moved_value_spells : MovedValueSpells
moved_value_spells v n at text = (spells_value n v at text, spells_value_back n v at text)

pub moved_keyval_spells : MovedKeyValSpells
moved_keyval_spells k n at text = (spells_keyval n k at text, spells_keyval_back n k at text)

pub moved_expr_spells : MovedExprSpells
moved_expr_spells e n at text = (spells_expr n e at text, spells_expr_back n e at text)
