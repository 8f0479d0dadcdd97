-- The lines after a `set` are in the forms.
use Rattle.std.proofs.Common.{ℕ, ◌+◌, Bool, true, false, cond, List, [], ◌∷◌, ◌++◌, refl}
use Rattle.toml_tree.specs.Spells.{IsValue, AreItems, ArePairs, IsExpr, AreLines}
use Rattle.toml_tree.specs.Tree.{Value, Scalar, Array, Inline, Items, Close, Last, More, Pairs, ClosePairs, LastPair, MorePairs, Expr, BlankLine, KeyValLine, TableLine, ArrayTableLine, Line}
use Rattle.toml_names.specs.model.Addresses.{Address, same_address, element, below}
use Rattle.toml_names.specs.mentions.Keys.{key_names}
use Rattle.toml_names.specs.mentions.Mentions.{Named, named_by, named_from, root, section}
use Rattle.toml_editor.specs.SetLaws.{SetForms}
use Rattle.toml_working.specs.Lines.{lines_from}
use Rattle.toml_working.specs.Setting.{set_within, set_items, set_pairs, set_value, set_expr, set_line}
use Rattle.toml_editor.proofs.written.Deep.{AllShort, pair_deep}
use Rattle.toml_editor.proofs.Each.{each_back}
use Rattle.toml_editor.proofs.written.Alike.{each_from}
use Rattle.toml_editor.proofs.written.Pairwise.{each_of_all}

module _ (p : Address) (new : Value) (good : IsValue new) where
  either : (b : Bool) (v : Value) → IsValue v → IsValue (cond b new v)
  either true v is = good
  either false v is = is

  mutual
    within_formed : (v : Value) (at : Address) → IsValue v → IsValue (set_within p new at v)
    within_formed (Scalar kind text) at is = is
    within_formed (Array whole items) at is = (refl, items_formed items at 0 is.1)
    within_formed (Inline whole pairs) at is = (refl, pairs_formed pairs at is.1)

    items_formed : (items : Items) (at : Address) (i : ℕ) → AreItems items → AreItems (set_items p new at i items)
    items_formed (Close g) at i is = is
    items_formed (Last g v h) at i is = (is.0, either (same_address (element at i) p) (set_within p new (element at i) v) (within_formed v (element at i) is.1), is.2)
    items_formed (More g v h more) at i is = (is.0, either (same_address (element at i) p) (set_within p new (element at i) v) (within_formed v (element at i) is.1), is.2, items_formed more at (i + 1) is.3)

    pairs_formed : (pairs : Pairs) (at : Address) → ArePairs pairs → ArePairs (set_pairs p new at pairs)
    pairs_formed (ClosePairs g) at is = is
    pairs_formed (LastPair g a v h) at is =
        let to = below at (key_names a.key) in
        (is.0, is.1, either (same_address to p) (set_within p new to v) (within_formed v to is.2), is.3)
    pairs_formed (MorePairs g a v h ps) at is =
        let to = below at (key_names a.key) in
        (is.0, is.1, either (same_address to p) (set_within p new to v) (within_formed v to is.2), is.3, pairs_formed ps at is.4)

  expr_formed : (e : Expr) (at : Address) (ys : List Named) (n : ℕ) → IsExpr e → AllShort (named_by ys n (set_expr p new at e)) → IsExpr (set_expr p new at e)
  expr_formed (BlankLine b) at ys n is short = is
  expr_formed (KeyValLine ws pair tail) at ys n is short =
      let to = below at (key_names pair.assign.key) in
      (is.0, (is.1.0, either (same_address to p) (set_within p new to pair.value) (within_formed pair.value to is.1.1), pair_deep n (section ys) pair.assign (set_value p new to pair.value) short), is.2)
  expr_formed (TableLine ws header tail) at ys n is short = is
  expr_formed (ArrayTableLine ws header tail) at ys n is short = is

  lines_formed : (ls : List Line) (xs ys : List Named) (n : ℕ) → AreLines ls → AllShort (named_from ys n (lines_from (set_line p new) xs n ls)) → AreLines (lines_from (set_line p new) xs n ls)
  lines_formed [] xs ys n is short = is
  lines_formed (l ∷ []) xs ys n is short = (expr_formed l.expr (section xs) ys n is.0 (each_back _ ys (named_by ys n (set_expr p new (section xs) l.expr)) short), is.1)
  lines_formed (l ∷ m ∷ ls) xs ys n is short =
      let more = ys ++ named_by ys n (set_expr p new (section xs) l.expr) in (
        expr_formed l.expr (section xs) ys n is.0 (each_back _ ys (named_by ys n (set_expr p new (section xs) l.expr)) (each_from _ (lines_from (set_line p new) (xs ++ named_by xs n l.expr) (n + 1) (m ∷ ls)) more (n + 1) short)),
        is.1,
        lines_formed (m ∷ ls) (xs ++ named_by xs n l.expr) more (n + 1) is.2 short,
      )

pub set_forms : SetForms
set_forms p new lines is good short = lines_formed p new good lines (root ∷ []) (root ∷ []) 0 is (each_of_all _ _ short)
