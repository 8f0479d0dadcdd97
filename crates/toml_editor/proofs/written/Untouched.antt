-- Lines that an edit does not touch.
use Rattle.std.proofs.Common.{◌≡◌, inl, inr, ℕ, ◌+◌, Some, List, [], ◌∷◌, ◌++◌, map, length, slice_get, refl, sym, ap, ap₂, ◌∙◌}
use Rattle.std.proofs.lemmas.Bool.{cond-false}
use Rattle.toml_tree.specs.Bare.{fresh, bare, bare_blank, bare_dotted, bare_key, bare_assign, bare_gap, bare_value, bare_items, bare_pairs, bare_header, bare_expr, bare_line, bare_lines}
use Rattle.toml_tree.specs.Spells.{IsValue, AreItems, ArePairs, IsExpr}
use Rattle.toml_tree.specs.Tree.{Piece, Dotted, Key, Assign, Value, Scalar, Array, Inline, Items, Close, Last, More, Pairs, ClosePairs, LastPair, MorePairs, Header, Expr, BlankLine, KeyValLine, TableLine, ArrayTableLine, Line}
use Rattle.toml_tree.proofs.Proved.{bare_items_text, bare_pairs_text}
use Rattle.toml_names.specs.declared.model.address.Step.TheVariants.{Name, Index}
use Rattle.toml_names.specs.mentions.Clear.{IsClear}
use Rattle.toml_names.specs.mentions.Keys as names
use Rattle.toml_names.specs.mentions.Keys.{part_name, key_names, rest_names}
use Rattle.toml_names.specs.mentions.Mentions.{Named, named, named_by, named_from, root, section, entered}
use Rattle.toml_names.specs.model.Addresses.{Address, IsAbove, child, element, below}
use Rattle.toml_editor.specs.InsertLaws.{Ahead, Behind, First, InsertKeepsLines}
use Rattle.toml_working.specs.Lines.{array_of, inline_of, lines_from}
use Rattle.toml_editor.specs.RenameLaws.{HasNoPart, IsBesideKeys, RenameKeepsLine}
use Rattle.toml_working.specs.Renaming.{rename_part, rename_rest, rename_key, rename_assign, rename_value, rename_items, rename_pairs, rename_header, rename_expr}
use Rattle.toml_editor.specs.SetLaws.{IsBesideValue, SetKeepsLine}
use Rattle.toml_working.specs.Setting.{set_value, set_expr}
use Rattle.toml_editor.proofs.written.Clear.{differ}
use Rattle.toml_editor.proofs.written.InsertedTables.{insert_in_place}
use Rattle.toml_editor.proofs.written.Elsewhere.{beyond, set_within_kept}
use Rattle.toml_editor.proofs.written.Unplaced.{array_bared, inline_bared, set_bared}

-- where each line becomes one, with the same newline
module _ (f : List Named → Expr → Expr) where
  abbrev one : List Named → Line → List Line
  one xs l = record { expr = f xs l.expr; newline = l.newline } ∷ []

  stays : (front back : List Line) (l : Line) (xs : List Named) (n : ℕ) → bare_expr (f (named_from xs n front) l.expr) ≡ bare_expr l.expr
      → slice_get (bare_lines (lines_from one xs n (front ++ l ∷ back))) (length front) ≡ Some (bare_line l)
  stays [] back l xs n is = ap (λ (e : Expr). Some (record { expr = e; newline = bare l.newline })) is
  stays (m ∷ front) back l xs n is = stays front back l (xs ++ named_by xs n m.expr) (n + 1) is

-- a whole array and a whole table are the text of what stands in them
array_whole : (whole : Piece) (new old : Items) → IsValue (Array whole old) → bare_items new ≡ bare_items old → bare_value (array_of new) ≡ bare_value (Array whole old)
array_whole whole new old is same =
    array_bared new ∙ ap array_of same ∙ ap (λ t. Array (fresh t) (bare_items old)) (ap (λ t. 0x5B ∷ t) (bare_items_text old) ∙ sym is.0)

inline_whole : (whole : Piece) (new old : Pairs) → IsValue (Inline whole old) → bare_pairs new ≡ bare_pairs old → bare_value (inline_of new) ≡ bare_value (Inline whole old)
inline_whole whole new old is same =
    inline_bared new ∙ ap inline_of same ∙ ap (λ t. Inline (fresh t) (bare_pairs old)) (ap (λ t. 0x7B ∷ t) (bare_pairs_text old) ∙ sym is.0)

-- ---- set

set_kept : (p : Address) (new : Value) (at : Address) (v : Value) → IsValue v → IsClear at p → bare_value (set_value p new at v) ≡ bare_value v
set_kept p new at v is clear =
    ap bare_value (cond-false _ _ _ (differ at p clear.apart)) ∙ set_bared p new v at ∙ set_within_kept p (bare_value new) at v is clear.not_above

set_expr_kept : (p : Address) (new : Value) (earlier : List Named) (e : Expr) → IsExpr e → IsBesideValue p earlier e
    → bare_expr (set_expr p new (section earlier) e) ≡ bare_expr e
set_expr_kept p new earlier (BlankLine b) is beside = refl
set_expr_kept p new earlier (KeyValLine ws k b) is beside =
    ap (λ (x : Value). KeyValLine (bare ws) (record { assign = bare_assign k.assign; value = x }) (bare_blank b))
    (set_kept p new (below (section earlier) (key_names k.assign.key)) k.value is.1.1 beside)
set_expr_kept p new earlier (TableLine ws h b) is beside = refl
set_expr_kept p new earlier (ArrayTableLine ws h b) is beside = refl

pub set_keeps_line : SetKeepsLine
set_keeps_line p new front back l is beside =
    stays (λ xs e. set_expr p new (section xs) e) front back l (root ∷ []) 0 (set_expr_kept p new (named front) l.expr is beside)

-- ---- rename

module _ (p : Address) (to : List ℕ) where
  part_kept : (here : Address) (part : Piece) → ¬ (here ≡ p) → bare (rename_part p to here part) ≡ bare part
  part_kept here part apart = ap bare (cond-false _ _ _ (differ here p apart))

  rest_kept : (enter : Address → Address) (ds : List Dotted) (here : Address) → HasNoPart p enter (enter here) (rest_names ds)
      → map bare_dotted (rename_rest p to enter here ds) ≡ map bare_dotted ds
  rest_kept enter [] here free = refl
  rest_kept enter (d ∷ ds) here free =
      let next = child (enter here) (part_name d.part) in
      ap₂ (λ (x : Piece) (r : List Dotted). record { before_dot = bare d.before_dot; after_dot = bare d.after_dot; part = x } ∷ r) (part_kept next d.part free.0) (rest_kept enter ds next free.1)

  key_kept : (enter : Address → Address) (at : Address) (k : Key) → HasNoPart p enter at (key_names k) → bare_key (rename_key p to enter at k) ≡ bare_key k
  key_kept enter at k free =
      let here = child at (part_name k.first) in
      ap₂ (λ (x : Piece) (r : List Dotted). record { first = x; rest = r }) (part_kept here k.first free.0) (rest_kept enter k.rest here free.1)

  assign_kept : (at : Address) (a : Assign) → HasNoPart p (λ here. here) at (key_names a.key) → bare_assign (rename_assign p to at a) ≡ bare_assign a
  assign_kept at a free = ap (λ (k : Key). record { key = k; before_equals = bare a.before_equals; after_equals = bare a.after_equals }) (key_kept (λ here. here) at a.key free)

  -- what the address does not lie in has no key that leads to it
  no_part : (key : names.Key) (at : Address) → ¬ IsAbove at p → HasNoPart p (λ here. here) at key
  no_part [] at not = tt
  no_part (n ∷ ns) at not = let far = beyond at (Name n) [] p not in (far.0, no_part ns (child at n) far.1)

  pair_far : (at : Address) (a : Assign) → ¬ IsAbove at p → ¬ IsAbove (below at (key_names a.key)) p
  pair_far at a not = (beyond at (Name (part_name a.key.first)) (map Name (rest_names a.key.rest)) p not).1

  mutual
    value_kept : (v : Value) (at : Address) → IsValue v → ¬ IsAbove at p → bare_value (rename_value p to at v) ≡ bare_value v
    value_kept (Scalar kind text) at is not = refl
    value_kept (Array whole items) at is not = array_whole whole (rename_items p to at 0 items) items is (items_kept items at 0 is.1 not)
    value_kept (Inline whole pairs) at is not = inline_whole whole (rename_pairs p to at pairs) pairs is (pairs_kept pairs at is.1 not)

    items_kept : (items : Items) (at : Address) (i : ℕ) → AreItems items → ¬ IsAbove at p → bare_items (rename_items p to at i items) ≡ bare_items items
    items_kept (Close g) at i is not = refl
    items_kept (Last g v h) at i is not =
        ap (λ x. Last (bare_gap g) x (bare_gap h)) (value_kept v (element at i) is.1 (beyond at (Index i) [] p not).1)
    items_kept (More g v h more) at i is not =
        ap₂ (λ x y. More (bare_gap g) x (bare_gap h) y) (value_kept v (element at i) is.1 (beyond at (Index i) [] p not).1) (items_kept more at (i + 1) is.3 not)

    pairs_kept : (pairs : Pairs) (at : Address) → ArePairs pairs → ¬ IsAbove at p → bare_pairs (rename_pairs p to at pairs) ≡ bare_pairs pairs
    pairs_kept (ClosePairs g) at is not = refl
    pairs_kept (LastPair g a v h) at is not =
        ap₂ (λ x y. LastPair (bare_gap g) x y (bare_gap h)) (assign_kept at a (no_part (key_names a.key) at not)) (value_kept v (below at (key_names a.key)) is.2 (pair_far at a not))
    pairs_kept (MorePairs g a v h ps) at is not =
        ap₂ (λ x y. MorePairs (bare_gap g) x y (bare_gap h) (bare_pairs (rename_pairs p to at ps))) (assign_kept at a (no_part (key_names a.key) at not)) (value_kept v (below at (key_names a.key)) is.2 (pair_far at a not))
        ∙ ap (λ y. MorePairs (bare_gap g) (bare_assign a) (bare_value v) (bare_gap h) y) (pairs_kept ps at is.4 not)

  header_kept : (earlier : List Named) (h : Header) → HasNoPart p (entered earlier) [] (key_names h.key) → bare_header (rename_header p to earlier h) ≡ bare_header h
  header_kept earlier h free = ap (λ (k : Key). record { before = bare h.before; key = k; after = bare h.after }) (key_kept (entered earlier) [] h.key free)

  rename_expr_kept : (earlier : List Named) (e : Expr) → IsExpr e → IsBesideKeys p earlier e → bare_expr (rename_expr p to earlier e) ≡ bare_expr e
  rename_expr_kept earlier (BlankLine b) is beside = refl
  rename_expr_kept earlier (KeyValLine ws k b) is beside =
      ap₂ (λ (x : Assign) (y : Value). KeyValLine (bare ws) (record { assign = x; value = y }) (bare_blank b))
      (assign_kept (section earlier) k.assign beside.0) (value_kept k.value (below (section earlier) (key_names k.assign.key)) is.1.1 beside.1)
  rename_expr_kept earlier (TableLine ws h b) is beside = ap (λ x. TableLine (bare ws) x (bare_blank b)) (header_kept earlier h beside)
  rename_expr_kept earlier (ArrayTableLine ws h b) is beside = ap (λ x. ArrayTableLine (bare ws) x (bare_blank b)) (header_kept earlier h beside)

pub rename_keeps_line : RenameKeepsLine
rename_keeps_line p to front back l is beside =
    stays (λ xs e. rename_expr p to xs e) front back l (root ∷ []) 0 (rename_expr_kept p to (named front) l.expr is beside)

-- ---- insert

pub insert_keeps_lines : InsertKeepsLines
insert_keeps_lines q name v manner lines there = elim (insert_in_place q name v manner lines there) [
  | inl (inl (at_root, first)) ↦ First at_root first
  | inl (inr put) ↦ Behind put.section_at (put.first ∷ put.rest) (λ e. cc) put.same put.front put.line put.back put.spacing put.plain put.was put.is
  | inr (implied, put) ↦ Ahead implied put.not_root put.front put.back put.ws put.spacing put.plain put.was put.is
]
