-- The lines after a `rename` are in the forms.
use Rattle.std.proofs.Common.{◌≡◌, ℕ, ◌+◌, ◌≤◌, max, Bool, true, false, cond, List, [], ◌∷◌, ◌++◌, refl, sym, ap, ap₂, subst}
use Rattle.toml_scalar.specs.Names.{IsKeyPart}
use Rattle.toml_scalar.specs.Spelling.{spelled}
use Rattle.toml_scalar.proofs.Proved.{spelled_names}
use Rattle.toml_tree.specs.Bare.{fresh}
use Rattle.toml_tree.specs.Spells.{EachIs, IsDotted, IsKey, IsAssign, IsValue, AreItems, ArePairs, IsHeader, IsExpr, AreLines, depth, items_depth, pairs_depth, max_depth}
use Rattle.toml_tree.specs.Tree.{Piece, Dotted, Key, Assign, Value, Scalar, Array, Inline, Items, Close, Last, More, Pairs, ClosePairs, LastPair, MorePairs, Header, Expr, BlankLine, KeyValLine, TableLine, ArrayTableLine, Line}
use Rattle.toml_names.specs.model.Addresses.{Address, same_address, child, element, below}
use Rattle.toml_names.specs.mentions.Keys.{part_name, key_names}
use Rattle.toml_names.specs.mentions.Mentions.{Named, named_by, root, section, entered}
use Rattle.toml_editor.specs.RenameLaws.{RenameForms}
use Rattle.toml_working.specs.Lines.{lines_from}
use Rattle.toml_working.specs.Renaming.{rename_part, rename_rest, rename_key, rename_assign, rename_value, rename_items, rename_pairs, rename_header, rename_expr, rename_line}

module _ (p : Address) (to : List ℕ) where
  part_formed : (here : Address) (part : Piece) → IsKeyPart part.text → IsKeyPart (rename_part p to here part).text
  part_formed here part is = by (same_address here p)
    where
      by : (b : Bool) → IsKeyPart (cond b (fresh (spelled to)) part).text
      by true = (to, spelled_names to)
      by false = is

  rest_formed : (enter : Address → Address) (ds : List Dotted) (here : Address) → EachIs IsDotted ds → EachIs IsDotted (rename_rest p to enter here ds)
  rest_formed enter [] here is = tt
  rest_formed enter (d ∷ ds) here is =
      let next = child (enter here) (part_name d.part) in
      ((is.0.0, is.0.1, part_formed next d.part is.0.2), rest_formed enter ds next is.1)

  key_formed : (enter : Address → Address) (at : Address) (k : Key) → IsKey k → IsKey (rename_key p to enter at k)
  key_formed enter at k is = (part_formed (child at (part_name k.first)) k.first is.0, rest_formed enter k.rest (child at (part_name k.first)) is.1)

  assign_formed : (at : Address) (a : Assign) → IsAssign a → IsAssign (rename_assign p to at a)
  assign_formed at a is = (key_formed (λ here. here) at a.key is.0, is.1, is.2)

  mutual
    value_formed : (v : Value) (at : Address) → IsValue v → IsValue (rename_value p to at v)
    value_formed (Scalar kind text) at is = is
    value_formed (Array whole items) at is = (refl, items_formed items at 0 is.1)
    value_formed (Inline whole pairs) at is = (refl, pairs_formed pairs at is.1)

    items_formed : (items : Items) (at : Address) (i : ℕ) → AreItems items → AreItems (rename_items p to at i items)
    items_formed (Close g) at i is = is
    items_formed (Last g v h) at i is = (is.0, value_formed v (element at i) is.1, is.2)
    items_formed (More g v h more) at i is = (is.0, value_formed v (element at i) is.1, is.2, items_formed more at (i + 1) is.3)

    pairs_formed : (pairs : Pairs) (at : Address) → ArePairs pairs → ArePairs (rename_pairs p to at pairs)
    pairs_formed (ClosePairs g) at is = is
    pairs_formed (LastPair g a v h) at is = (is.0, assign_formed at a is.1, value_formed v (below at (key_names a.key)) is.2, is.3)
    pairs_formed (MorePairs g a v h ps) at is = (is.0, assign_formed at a is.1, value_formed v (below at (key_names a.key)) is.2, is.3, pairs_formed ps at is.4)

  mutual
    same_depth : (v : Value) (at : Address) → depth (rename_value p to at v) ≡ depth v
    same_depth (Scalar kind text) at = refl
    same_depth (Array whole items) at = ap (λ d. d + 1) (items_same items at 0)
    same_depth (Inline whole pairs) at = ap (λ d. d + 1) (pairs_same pairs at)

    items_same : (items : Items) (at : Address) (i : ℕ) → items_depth (rename_items p to at i items) ≡ items_depth items
    items_same (Close g) at i = refl
    items_same (Last g v h) at i = same_depth v (element at i)
    items_same (More g v h more) at i = ap₂ max (same_depth v (element at i)) (items_same more at (i + 1))

    pairs_same : (pairs : Pairs) (at : Address) → pairs_depth (rename_pairs p to at pairs) ≡ pairs_depth pairs
    pairs_same (ClosePairs g) at = refl
    pairs_same (LastPair g a v h) at = same_depth v (below at (key_names a.key))
    pairs_same (MorePairs g a v h ps) at = ap₂ max (same_depth v (below at (key_names a.key))) (pairs_same ps at)

  header_formed : (xs : List Named) (h : Header) → IsHeader h → IsHeader (rename_header p to xs h)
  header_formed xs h is = (is.0, key_formed (entered xs) [] h.key is.1, is.2)

  expr_formed : (xs : List Named) (e : Expr) → IsExpr e → IsExpr (rename_expr p to xs e)
  expr_formed xs (BlankLine b) is = is
  expr_formed xs (KeyValLine ws pair tail) is =
      let at = below (section xs) (key_names pair.assign.key) in
      (is.0, (assign_formed (section xs) pair.assign is.1.0, value_formed pair.value at is.1.1, subst (λ d. d ≤ max_depth) (sym (same_depth pair.value at)) is.1.2), is.2)
  expr_formed xs (TableLine ws h tail) is = (is.0, header_formed xs h is.1, is.2)
  expr_formed xs (ArrayTableLine ws h tail) is = (is.0, header_formed xs h is.1, is.2)

  lines_formed : (ls : List Line) (xs : List Named) (n : ℕ) → AreLines ls → AreLines (lines_from (rename_line p to) xs n ls)
  lines_formed [] xs n is = is
  lines_formed (l ∷ []) xs n is = (expr_formed xs l.expr is.0, is.1)
  lines_formed (l ∷ m ∷ ls) xs n is = (expr_formed xs l.expr is.0, is.1, lines_formed (m ∷ ls) (xs ++ named_by xs n l.expr) (n + 1) is.2)

pub rename_forms : RenameForms
rename_forms p to lines is = lines_formed p to lines (root ∷ []) 0 is
