-- An edit of a tree without places is the edit, without its places.
use Rattle.std.proofs.Common.{◌≡◌, ℕ, ◌+◌, ◌-◌, ◌==◌, Bool, true, false, ◌&&◌, not, cond, Option, Some, None, List, [], ◌∷◌, ◌++◌, map, length, refl, sym, ap, ap₂, ◌∙◌}
use Rattle.std.proofs.lemmas.List.{map-append, take-map}
use Rattle.std.specs.Prelude.{is_some}
use Rattle.toml_scalar.specs.Spelling.{spelled}
use Rattle.toml_tree.specs.Tree.{Piece, Dotted, Key, Assign, Value, Scalar, Array, Inline, Items, Close, Last, More, Pairs, ClosePairs, LastPair, MorePairs, Header, Expr, BlankLine, KeyValLine, TableLine, ArrayTableLine, Line}
use Rattle.toml_names.specs.model.Addresses.{Address, same_address, child, element, below}
use Rattle.toml_names.specs.mentions.Keys.{part_name, key_names}
use Rattle.toml_names.specs.mentions.Mentions.{Named, named_by, root, section, entered}
use Rattle.toml_names.proofs.Proved.{key_places_are_not_named, line_places_are_not_named}
use Rattle.toml_layout.specs.declared.layout.Layout.{Layout}
use Rattle.toml_layout.specs.declared.layout.Layout.TheVariants as layouts
use Rattle.toml_working.specs.Inserting.{comments_end, goes_below, has_comment, has_pair, insert_behind, insert_first, is_blank, is_comment, line_behind, new_line, spacing_of}
use Rattle.toml_working.specs.Manners.{Manner}
use Rattle.toml_layout.specs.Spacings.{laid_out, plain_spacing}
use Rattle.toml_working.specs.Lines.{array_of, inline_of, lines_from}
use Rattle.toml_tree.specs.Bare.{bare_lines, fresh, bare, bare_blank, bare_comment, bare_dotted, bare_key, bare_assign, bare_gap, bare_value, bare_items, bare_pairs, bare_header, bare_expr, bare_line}
use Rattle.toml_tree.proofs.Proved.{bare_items_text, bare_pairs_text}
use Rattle.toml_editor.specs.Bares.{SetBares, InsertBares, RenameBares, RemoveBares}
use Rattle.toml_working.specs.Removing.{emptied_expr, empty_line, empty_table, left_of_line, lines_left, no_blank, remove_line}
use Rattle.toml_working.specs.RemoveStanding.{leaves_parent}
use Rattle.toml_layout.specs.Holders.{parent_of}
use Rattle.toml_working.specs.Standing.{standing}
use Rattle.toml_editor.proofs.written.StandingBare.{lines_bare}
use Rattle.toml_working.specs.Renaming.{rename_part, rename_rest, rename_key, rename_assign, rename_value, rename_items, rename_pairs, rename_header, rename_expr, rename_line}
use Rattle.toml_working.specs.Setting.{set_at, set_within, set_items, set_pairs, set_expr, set_line}

pub array_bared : (is : Items) → bare_value (array_of is) ≡ array_of (bare_items is)
array_bared is = ap (λ t. Array (fresh (0x5B ∷ t)) (bare_items is)) (sym (bare_items_text is))

pub inline_bared : (ps : Pairs) → bare_value (inline_of ps) ≡ inline_of (bare_pairs ps)
inline_bared ps = ap (λ t. Inline (fresh (0x7B ∷ t)) (bare_pairs ps)) (sym (bare_pairs_text ps))

-- line by line
from_bared : (f g : List Named → Line → List Line) → ((xs : List Named) (l : Line) → map bare_line (f xs l) ≡ g xs (bare_line l)) → (ls : List Line) (xs : List Named) (n : ℕ) → map bare_line (lines_from f xs n ls) ≡ lines_from g xs n (map bare_line ls)
from_bared f g same [] xs n = refl
from_bared f g same (l ∷ ls) xs n =
    map-append bare_line (f xs l) (lines_from f (xs ++ named_by xs n l.expr) (n + 1) ls)
    ∙ ap₂ (λ a b. a ++ b) (same xs l)
    (from_bared f g same ls (xs ++ named_by xs n l.expr) (n + 1) ∙ ap (λ new. lines_from g (xs ++ new) (n + 1) (map bare_line ls)) (sym (line_places_are_not_named xs n l.expr)))

-- ---- set

module _ (p : Address) (new : Value) where
  at_bared : (at : Address) (v w : Value) → bare_value v ≡ w → bare_value (set_at p new at v) ≡ set_at p (bare_value new) at w
  at_bared at v w is = by (same_address at p)
    where
      by : (b : Bool) → bare_value (cond b new v) ≡ cond b (bare_value new) w
      by true = refl
      by false = is

  -- in a pair, whose key is the same without places
  value_block : (at : Address) (a : Assign) (v : Value) → ((to : Address) → bare_value (set_within p new to v) ≡ set_within p (bare_value new) to (bare_value v))
      → bare_value (set_at p new (below at (key_names a.key)) (set_within p new (below at (key_names a.key)) v))
      ≡ set_at p (bare_value new) (below at (key_names (bare_key a.key))) (set_within p (bare_value new) (below at (key_names (bare_key a.key))) (bare_value v))
  value_block at a v within =
      let to = below at (key_names a.key) in
      at_bared to (set_within p new to v) (set_within p (bare_value new) to (bare_value v)) (within to)
      ∙ ap (λ k. set_at p (bare_value new) (below at k) (set_within p (bare_value new) (below at k) (bare_value v))) (sym (key_places_are_not_named a.key))

  mutual
    pub set_bared : (v : Value) (at : Address) → bare_value (set_within p new at v) ≡ set_within p (bare_value new) at (bare_value v)
    set_bared (Scalar kind text) at = refl
    set_bared (Array whole items) at = array_bared (set_items p new at 0 items) ∙ ap array_of (items_set items at 0)
    set_bared (Inline whole pairs) at = inline_bared (set_pairs p new at pairs) ∙ ap inline_of (pairs_set pairs at)

    items_set : (items : Items) (at : Address) (i : ℕ) → bare_items (set_items p new at i items) ≡ set_items p (bare_value new) at i (bare_items items)
    items_set (Close g) at i = refl
    items_set (Last g v h) at i = ap (λ x. Last (bare_gap g) x (bare_gap h)) (at_bared (element at i) (set_within p new (element at i) v) (set_within p (bare_value new) (element at i) (bare_value v)) (set_bared v (element at i)))
    items_set (More g v h is) at i =
        ap₂ (λ x y. More (bare_gap g) x (bare_gap h) y) (at_bared (element at i) (set_within p new (element at i) v) (set_within p (bare_value new) (element at i) (bare_value v)) (set_bared v (element at i))) (items_set is at (i + 1))

    pairs_set : (pairs : Pairs) (at : Address) → bare_pairs (set_pairs p new at pairs) ≡ set_pairs p (bare_value new) at (bare_pairs pairs)
    pairs_set (ClosePairs g) at = refl
    pairs_set (LastPair g a v h) at = ap (λ x. LastPair (bare_gap g) (bare_assign a) x (bare_gap h)) (value_block at a v (λ to. set_bared v to))
    pairs_set (MorePairs g a v h ps) at = ap₂ (λ x y. MorePairs (bare_gap g) (bare_assign a) x (bare_gap h) y) (value_block at a v (λ to. set_bared v to)) (pairs_set ps at)

  expr_set : (at : Address) (e : Expr) → bare_expr (set_expr p new at e) ≡ set_expr p (bare_value new) at (bare_expr e)
  expr_set at (BlankLine b) = refl
  expr_set at (KeyValLine ws k b) = ap (λ (x : Value). KeyValLine (bare ws) (record { assign = bare_assign k.assign; value = x }) (bare_blank b)) (value_block at k.assign k.value (λ to. set_bared k.value to))
  expr_set at (TableLine ws h b) = refl
  expr_set at (ArrayTableLine ws h b) = refl

  set_line_bared : (xs : List Named) (l : Line) → map bare_line (set_line p new xs l) ≡ set_line p (bare_value new) xs (bare_line l)
  set_line_bared xs l = ap (λ (e : Expr). record { expr = e; newline = bare l.newline } ∷ []) (expr_set (section xs) l.expr)

pub set_bares : SetBares
set_bares p new lines = from_bared (set_line p new) (set_line p (bare_value new)) (set_line_bared p new) lines (root ∷ []) 0

-- ---- insert

spacing_bared : (e : Expr) → spacing_of (bare_expr e) ≡ spacing_of e
spacing_bared (BlankLine b) = refl
spacing_bared (KeyValLine ws k b) = refl
spacing_bared (TableLine ws h b) = refl
spacing_bared (ArrayTableLine ws h b) = refl

pair_bared : (ls : List Line) → has_pair (map bare_line ls) ≡ has_pair ls
pair_bared [] = refl
pair_bared (l ∷ ls) = by l.expr (pair_bared ls)
  where
    by : (e : Expr) → has_pair (map bare_line ls) ≡ has_pair ls
        → ◌≡◌ {A = Bool} (elim (bare_expr e) [ BlankLine b ↦ has_pair (map bare_line ls) | KeyValLine ws pair tail ↦ true | TableLine ws header tail ↦ false | ArrayTableLine ws header tail ↦ false ])
        (elim e [ BlankLine b ↦ has_pair ls | KeyValLine ws pair tail ↦ true | TableLine ws header tail ↦ false | ArrayTableLine ws header tail ↦ false ])
    by (BlankLine b) same = same
    by (KeyValLine ws k b) same = refl
    by (TableLine ws h b) same = refl
    by (ArrayTableLine ws h b) same = refl

some_bared : (c : Option Piece) → is_some (bare_comment c) ≡ is_some c
some_bared None = refl
some_bared (Some p) = refl

comment_bared : (e : Expr) → is_comment (bare_expr e) ≡ is_comment e
comment_bared (BlankLine b) = some_bared b.comment
comment_bared (KeyValLine ws k b) = refl
comment_bared (TableLine ws h b) = refl
comment_bared (ArrayTableLine ws h b) = refl

blank_line_bared : (e : Expr) → is_blank (bare_expr e) ≡ is_blank e
blank_line_bared (BlankLine b) = ap not (some_bared b.comment)
blank_line_bared (KeyValLine ws k b) = refl
blank_line_bared (TableLine ws h b) = refl
blank_line_bared (ArrayTableLine ws h b) = refl

comments_bared : (ls : List Line) → has_comment (map bare_line ls) ≡ has_comment ls
comments_bared [] = refl
comments_bared (l ∷ ls) = comment_bared l.expr

end_bared : (ls : List Line) → comments_end (map bare_line ls) ≡ comments_end ls
end_bared [] = refl
end_bared (l ∷ ls) =
    ap₂ (λ c b. cond c (comments_end (map bare_line ls)) b) (comment_bared l.expr) (blank_line_bared l.expr)
    ∙ ap (λ e. cond (is_comment l.expr) e (is_blank l.expr)) (end_bared ls)

below_bared : (layout : Layout) (ls : List Line) → goes_below layout (map bare_line ls) ≡ goes_below layout ls
below_bared layouts.Plain ls = refl
below_bared layouts.Follow ls = ap₂ (λ a b. a && b) (comments_bared ls) (end_bared ls)

module _ (name : List ℕ) (v : Value) (manner : Manner) where
  behind_bared : (l : Line) (ls : List Line) → map bare_line (line_behind name v manner l ls) ≡ line_behind name (bare_value v) manner (bare_line l) (map bare_line ls)
  behind_bared l [] =
      ap (λ s. record { expr = bare_expr l.expr; newline = fresh manner.newline } ∷ new_line (laid_out manner.layout s) (name ∷ []) (bare_value v) [] ∷ [])
      (sym (spacing_bared l.expr))
  behind_bared l (m ∷ ms) =
      ap (λ s. bare_line l ∷ new_line (laid_out manner.layout s) (name ∷ []) (bare_value v) manner.newline ∷ bare_line m ∷ map bare_line ms) (sym (spacing_bared l.expr))

  module _ (more : List Line → Bool) (same : (ls : List Line) → more (map bare_line ls) ≡ more ls) where
    last_bared : (ls : List Line) → map bare_line (insert_behind more name v manner ls) ≡ insert_behind more name (bare_value v) manner (map bare_line ls)
    last_bared [] = refl
    last_bared (l ∷ ls) =
        by (more ls) (last_bared ls)
        ∙ ap (λ b. cond b (bare_line l ∷ insert_behind more name (bare_value v) manner (map bare_line ls)) (line_behind name (bare_value v) manner (bare_line l) (map bare_line ls))) (sym (same ls))
      where
        by : (b : Bool) → map bare_line (insert_behind more name v manner ls) ≡ insert_behind more name (bare_value v) manner (map bare_line ls)
            → map bare_line (cond b (l ∷ insert_behind more name v manner ls) (line_behind name v manner l ls))
            ≡ cond b (bare_line l ∷ insert_behind more name (bare_value v) manner (map bare_line ls)) (line_behind name (bare_value v) manner (bare_line l) (map bare_line ls))
        by true others = ap (λ r. bare_line l ∷ r) others
        by false others = behind_bared l ls

  first_bared : (lines : List Line) → map bare_line (insert_first name v manner lines) ≡ insert_first name (bare_value v) manner (map bare_line lines)
  first_bared lines =
      by (goes_below manner.layout lines)
      ∙ ap (λ b. cond b (insert_behind has_comment name (bare_value v) manner (map bare_line lines)) (new_line plain_spacing (name ∷ []) (bare_value v) manner.newline ∷ map bare_line lines))
      (sym (below_bared manner.layout lines))
    where
      by : (b : Bool)
          → map bare_line (cond b (insert_behind has_comment name v manner lines) (new_line plain_spacing (name ∷ []) v manner.newline ∷ lines))
          ≡ cond b (insert_behind has_comment name (bare_value v) manner (map bare_line lines)) (new_line plain_spacing (name ∷ []) (bare_value v) manner.newline ∷ map bare_line lines)
      by true = last_bared has_comment comments_bared lines
      by false = refl

pub insert_bares : InsertBares
insert_bares name v manner lines =
    by (has_pair lines)
    ∙ ap (λ b. cond b (insert_behind has_pair name (bare_value v) manner (map bare_line lines)) (insert_first name (bare_value v) manner (map bare_line lines)))
    (sym (pair_bared lines))
  where
    by : (b : Bool)
        → map bare_line (cond b (insert_behind has_pair name v manner lines) (insert_first name v manner lines))
        ≡ cond b (insert_behind has_pair name (bare_value v) manner (map bare_line lines)) (insert_first name (bare_value v) manner (map bare_line lines))
    by true = last_bared name v manner has_pair pair_bared lines
    by false = first_bared name v manner lines

-- ---- rename

module _ (p : Address) (to : List ℕ) where
  part_bared : (here : Address) (part : Piece) → bare (rename_part p to here part) ≡ rename_part p to here (bare part)
  part_bared here part = by (same_address here p)
    where
      by : (b : Bool) → bare (cond b (fresh (spelled to)) part) ≡ cond b (fresh (spelled to)) (bare part)
      by true = refl
      by false = refl

  rest_bared : (enter : Address → Address) (ds : List Dotted) (here : Address) → map bare_dotted (rename_rest p to enter here ds) ≡ rename_rest p to enter here (map bare_dotted ds)
  rest_bared enter [] here = refl
  rest_bared enter (d ∷ ds) here =
      let next = child (enter here) (part_name d.part) in
      ap₂ (λ (x : Piece) (r : List Dotted). record { before_dot = bare d.before_dot; after_dot = bare d.after_dot; part = x } ∷ r) (part_bared next d.part) (rest_bared enter ds next)

  rename_key_bared : (enter : Address → Address) (at : Address) (k : Key) → bare_key (rename_key p to enter at k) ≡ rename_key p to enter at (bare_key k)
  rename_key_bared enter at k =
      let here = child at (part_name k.first) in
      ap₂ (λ (x : Piece) (r : List Dotted). record { first = x; rest = r }) (part_bared here k.first) (rest_bared enter k.rest here)

  assign_bared : (at : Address) (a : Assign) → bare_assign (rename_assign p to at a) ≡ rename_assign p to at (bare_assign a)
  assign_bared at a = ap (λ (k : Key). record { key = k; before_equals = bare a.before_equals; after_equals = bare a.after_equals }) (rename_key_bared (λ here. here) at a.key)

  in_pair : (at : Address) (a : Assign) (v : Value) → ((here : Address) → bare_value (rename_value p to here v) ≡ rename_value p to here (bare_value v))
      → bare_value (rename_value p to (below at (key_names a.key)) v) ≡ rename_value p to (below at (key_names (bare_key a.key))) (bare_value v)
  in_pair at a v within = within (below at (key_names a.key)) ∙ ap (λ k. rename_value p to (below at k) (bare_value v)) (sym (key_places_are_not_named a.key))

  mutual
    value_bared : (v : Value) (at : Address) → bare_value (rename_value p to at v) ≡ rename_value p to at (bare_value v)
    value_bared (Scalar kind text) at = refl
    value_bared (Array whole items) at = array_bared (rename_items p to at 0 items) ∙ ap array_of (items_bared items at 0)
    value_bared (Inline whole pairs) at = inline_bared (rename_pairs p to at pairs) ∙ ap inline_of (pairs_bared pairs at)

    items_bared : (items : Items) (at : Address) (i : ℕ) → bare_items (rename_items p to at i items) ≡ rename_items p to at i (bare_items items)
    items_bared (Close g) at i = refl
    items_bared (Last g v h) at i = ap (λ x. Last (bare_gap g) x (bare_gap h)) (value_bared v (element at i))
    items_bared (More g v h is) at i = ap₂ (λ x y. More (bare_gap g) x (bare_gap h) y) (value_bared v (element at i)) (items_bared is at (i + 1))

    pairs_bared : (pairs : Pairs) (at : Address) → bare_pairs (rename_pairs p to at pairs) ≡ rename_pairs p to at (bare_pairs pairs)
    pairs_bared (ClosePairs g) at = refl
    pairs_bared (LastPair g a v h) at = ap₂ (λ x y. LastPair (bare_gap g) x y (bare_gap h)) (assign_bared at a) (in_pair at a v (λ here. value_bared v here))
    pairs_bared (MorePairs g a v h ps) at =
        ap₂ (λ x y. MorePairs (bare_gap g) x y (bare_gap h) (bare_pairs (rename_pairs p to at ps))) (assign_bared at a) (in_pair at a v (λ here. value_bared v here))
        ∙ ap (λ y. MorePairs (bare_gap g) (rename_assign p to at (bare_assign a)) (rename_value p to (below at (key_names (bare_key a.key))) (bare_value v)) (bare_gap h) y) (pairs_bared ps at)

  header_bared : (xs : List Named) (h : Header) → bare_header (rename_header p to xs h) ≡ rename_header p to xs (bare_header h)
  header_bared xs h = ap (λ (k : Key). record { before = bare h.before; key = k; after = bare h.after }) (rename_key_bared (entered xs) [] h.key)

  expr_bared : (xs : List Named) (e : Expr) → bare_expr (rename_expr p to xs e) ≡ rename_expr p to xs (bare_expr e)
  expr_bared xs (BlankLine b) = refl
  expr_bared xs (KeyValLine ws k b) =
      ap₂ (λ (x : Assign) (y : Value). KeyValLine (bare ws) (record { assign = x; value = y }) (bare_blank b)) (assign_bared (section xs) k.assign) (in_pair (section xs) k.assign k.value (λ here. value_bared k.value here))
  expr_bared xs (TableLine ws h b) = ap (λ x. TableLine (bare ws) x (bare_blank b)) (header_bared xs h)
  expr_bared xs (ArrayTableLine ws h b) = ap (λ x. ArrayTableLine (bare ws) x (bare_blank b)) (header_bared xs h)

  rename_line_bared : (xs : List Named) (l : Line) → map bare_line (rename_line p to xs l) ≡ rename_line p to xs (bare_line l)
  rename_line_bared xs l = ap (λ (e : Expr). record { expr = e; newline = bare l.newline } ∷ []) (expr_bared xs l.expr)

pub rename_bares : RenameBares
rename_bares p to lines = from_bared (rename_line p to) (rename_line p to) (rename_line_bared p to) lines (root ∷ []) 0

-- ---- remove

left_bared : (p : Address) (b : Bool) (n : ℕ) (l : Line) → map bare_line (left_of_line p b n l) ≡ left_of_line p b n (bare_line l)
left_bared p false n l = ap (λ (e : Expr). record { expr = e; newline = bare l.newline } ∷ []) (emptied_bared (length (parent_of p) - n) l.expr)
  where
    emptied_bared : (parts : ℕ) (e : Expr) → bare_expr (emptied_expr parts e) ≡ emptied_expr parts (bare_expr e)
    emptied_bared parts (BlankLine b) = refl
    emptied_bared parts (KeyValLine ws pair tail) =
        ap (λ ds. KeyValLine (bare ws) (record {
          assign = record { key = record { first = bare pair.assign.key.first; rest = ds }; before_equals = fresh (0x20 ∷ []); after_equals = fresh (0x20 ∷ []) };
          value = empty_table;
        }) no_blank) (sym (take-map bare_dotted (parts - 1) pair.assign.key.rest))
    emptied_bared parts (TableLine ws header tail) = refl
    emptied_bared parts (ArrayTableLine ws header tail) = refl
left_bared p true n l = by (length l.newline.text == 0)
  where
    by : (b : Bool) → map bare_line (cond b (empty_line ∷ []) []) ≡ cond b (empty_line ∷ []) []
    by true = refl
    by false = refl

remove_line_bared : (p : Address) (b : Bool) (xs : List Named) (l : Line) → map bare_line (remove_line p b xs l) ≡ remove_line p b xs (bare_line l)
remove_line_bared p b xs l = by l.expr
  where
    n : ℕ
    n = length (section xs)

    by : (e : Expr) → ◌≡◌ {A = List Line}
        (map bare_line (elim e [
          | BlankLine b ↦ l ∷ []
          | KeyValLine ws pair tail ↦ cond (same_address (below (section xs) (key_names pair.assign.key)) p) (left_of_line p b n l) (l ∷ [])
          | TableLine ws header tail ↦ l ∷ []
          | ArrayTableLine ws header tail ↦ l ∷ []
        ]))
        (elim (bare_expr e) [
          | BlankLine b ↦ bare_line l ∷ []
          | KeyValLine ws pair tail ↦ cond (same_address (below (section xs) (key_names pair.assign.key)) p) (left_of_line p b n (bare_line l)) (bare_line l ∷ [])
          | TableLine ws header tail ↦ bare_line l ∷ []
          | ArrayTableLine ws header tail ↦ bare_line l ∷ []
        ])
    by (BlankLine _) = refl
    by (KeyValLine ws k _) =
        at_test (same_address (below (section xs) (key_names k.assign.key)) p)
        ∙ ap (λ ks. cond (same_address (below (section xs) ks) p) (left_of_line p b n (bare_line l)) (bare_line l ∷ [])) (sym (key_places_are_not_named k.assign.key))
      where
        at_test : (t : Bool) → map bare_line (cond t (left_of_line p b n l) (l ∷ [])) ≡ cond t (left_of_line p b n (bare_line l)) (bare_line l ∷ [])
        at_test true = left_bared p b n l
        at_test false = refl
    by (TableLine ws h _) = refl
    by (ArrayTableLine ws h _) = refl

left_lines_bared : (p : Address) (b : Bool) (lines : List Line) → bare_lines (lines_left p b lines) ≡ lines_left p b (bare_lines lines)
left_lines_bared p b lines = from_bared (remove_line p b) (remove_line p b) (remove_line_bared p b) lines (root ∷ []) 0

pub remove_bares : RemoveBares
remove_bares p lines =
    left_lines_bared p (leaves_parent p (standing lines)) lines
    ∙ ap (λ ss. lines_left p (leaves_parent p ss) (bare_lines lines)) (sym (lines_bare lines (root ∷ []) 0))
