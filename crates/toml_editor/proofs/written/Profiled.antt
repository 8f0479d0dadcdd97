-- Edited lines are of the profile of which the lines were, and the new value.
use Rattle.std.proofs.Common.{ℕ, ◌+◌, ◌-◌, ◌==◌, Bool, true, false, cond, inl, inr, List, [], ◌∷◌, ◌++◌, length, refl, sym, subst}
use Rattle.toml_tree.specs.Profiles.{HasPair, HasNoLastComma, HasPlainTables, ItemsHavePlainTables, ArePlainPairs, ExprHasPlainTables}
use Rattle.toml_tree.specs.Spells.{EachIs}
use Rattle.toml_tree.specs.Tree.{Value, Scalar, Array, Inline, Items, Close, Last, More, Pairs, ClosePairs, LastPair, MorePairs, Expr, BlankLine, KeyValLine, TableLine, ArrayTableLine, Line}
use Rattle.toml_tree.specs.declared.profile.Profile.TheVariants.{One, Two}
use Rattle.toml_names.specs.mentions.Keys.{Key, key_names}
use Rattle.toml_names.specs.mentions.Mentions.{Named, named_by, root, section}
use Rattle.toml_names.specs.model.Addresses.{Address, same_address, element, below}
use Rattle.toml_editor.specs.InsertLaws.{InsertOfProfile}
use Rattle.toml_layout.specs.declared.tree.Brackets.TheVariants as brackets
use Rattle.toml_working.specs.Heading.{header_line}
use Rattle.toml_working.specs.Inserting.{line_put}
use Rattle.toml_layout.specs.Spacings.{Spacing}
use Rattle.toml_working.specs.Manners.{Manner}
use Rattle.toml_working.specs.Lines.{lines_from}
use Rattle.toml_editor.specs.RemoveLaws.{RemoveOfProfile}
use Rattle.toml_working.specs.Removing.{emptied_expr, empty_line, left_of_line, remove_line}
use Rattle.toml_working.specs.RemoveStanding.{leaves_parent}
use Rattle.toml_layout.specs.Holders.{parent_of}
use Rattle.toml_working.specs.Standing.{standing}
use Rattle.toml_editor.specs.RenameLaws.{RenameOfProfile}
use Rattle.toml_working.specs.Renaming.{rename_value, rename_items, rename_pairs, rename_expr, rename_line}
use Rattle.toml_editor.specs.SetLaws.{SetOfProfile}
use Rattle.toml_working.specs.Setting.{set_within, set_items, set_pairs, set_expr, set_line}
use Rattle.toml_editor.proofs.Each.{each_append}
use Rattle.toml_editor.proofs.written.AheadPlace.{behind_header, header_put}
use Rattle.toml_editor.proofs.written.HeaderFormed.{header_plain}
use Rattle.toml_editor.proofs.written.InsertedTables.{IsInserted, insert_in_place}
use Rattle.toml_editor.proofs.written.RemoveKept.{two_ways}

abbrev ArePlain : List Line → Type 0
ArePlain = EachIs (λ l. ExprHasPlainTables l.expr)

-- ---- set

module _ (p : Address) (new : Value) (plain : HasPlainTables new) where
  either : (b : Bool) (v : Value) → HasPlainTables v → HasPlainTables (cond b new v)
  either true v is = plain
  either false v is = is

  set_has_pair : (pairs : Pairs) (at : Address) → HasPair pairs → HasPair (set_pairs p new at pairs)
  set_has_pair (ClosePairs g) at is = is
  set_has_pair (LastPair g a v h) at is = is
  set_has_pair (MorePairs g a v h ps) at is = is

  set_no_last_comma : (pairs : Pairs) (at : Address) → HasNoLastComma pairs → HasNoLastComma (set_pairs p new at pairs)
  set_no_last_comma (ClosePairs g) at is = is
  set_no_last_comma (LastPair g a v h) at is = is
  set_no_last_comma (MorePairs g a v h ps) at is = (set_has_pair ps at is.0, set_no_last_comma ps at is.1)

  mutual
    set_plain : (v : Value) (at : Address) → HasPlainTables v → HasPlainTables (set_within p new at v)
    set_plain (Scalar kind text) at is = is
    set_plain (Array whole items) at is = set_items_plain items at 0 is
    set_plain (Inline whole pairs) at is = (set_no_last_comma pairs at is.0, set_pairs_plain pairs at is.1)

    set_items_plain : (items : Items) (at : Address) (i : ℕ) → ItemsHavePlainTables items → ItemsHavePlainTables (set_items p new at i items)
    set_items_plain (Close g) at i is = is
    set_items_plain (Last g v h) at i is = either (same_address (element at i) p) (set_within p new (element at i) v) (set_plain v (element at i) is)
    set_items_plain (More g v h more) at i is = (either (same_address (element at i) p) (set_within p new (element at i) v) (set_plain v (element at i) is.0), set_items_plain more at (i + 1) is.1)

    set_pairs_plain : (pairs : Pairs) (at : Address) → ArePlainPairs pairs → ArePlainPairs (set_pairs p new at pairs)
    set_pairs_plain (ClosePairs g) at is = is
    set_pairs_plain (LastPair g a v h) at is =
        let to = below at (key_names a.key) in
        (is.0, either (same_address to p) (set_within p new to v) (set_plain v to is.1), is.2)
    set_pairs_plain (MorePairs g a v h ps) at is =
        let to = below at (key_names a.key) in
        (is.0, either (same_address to p) (set_within p new to v) (set_plain v to is.1), is.2, set_pairs_plain ps at is.3)

  set_expr_plain : (e : Expr) (at : Address) → ExprHasPlainTables e → ExprHasPlainTables (set_expr p new at e)
  set_expr_plain (BlankLine b) at is = is
  set_expr_plain (KeyValLine ws pair tail) at is =
      let to = below at (key_names pair.assign.key) in
      either (same_address to p) (set_within p new to pair.value) (set_plain pair.value to is)
  set_expr_plain (TableLine ws header tail) at is = is
  set_expr_plain (ArrayTableLine ws header tail) at is = is

  set_lines_plain : (ls : List Line) (xs : List Named) (n : ℕ) → ArePlain ls → ArePlain (lines_from (set_line p new) xs n ls)
  set_lines_plain [] xs n is = tt
  set_lines_plain (l ∷ ls) xs n is = (set_expr_plain l.expr (section xs) is.0, set_lines_plain ls (xs ++ named_by xs n l.expr) (n + 1) is.1)

pub set_of_profile : SetOfProfile
set_of_profile One p new lines is good = set_lines_plain p new good lines (root ∷ []) 0 is
set_of_profile Two p new lines is good = tt

-- ---- insert

module _ (v : Value) (manner : Manner) (plain : HasPlainTables v) where
  behind_plain : (s : Spacing) (key : Key) (l : Line) (ls : List Line) → ArePlain (l ∷ ls) → ArePlain (line_put s key v manner l ls)
  behind_plain s key l [] is = (is.0, (plain, tt))
  behind_plain s key l (m ∷ ms) is = (is.0, (plain, is.1))

  at_plain : (s : Spacing) (key : Key) (front back : List Line) (l : Line) → ArePlain (front ++ l ∷ back) → ArePlain (front ++ line_put s key v manner l back)
  at_plain s key [] back l is = behind_plain s key l back is
  at_plain s key (m ∷ front) back l is = (is.0, at_plain s key front back l is.1)

  insert_plain : (q : Address) (name : List ℕ) (ls new : List Line) → IsInserted q name v manner ls new → ArePlain ls → ArePlain new
  insert_plain q name ls new (inl (inl (at_root, first))) is = subst ArePlain (sym first) (plain, is)
  insert_plain q name ls new (inl (inr put)) is =
      subst ArePlain (sym put.is) (at_plain put.spacing (put.first ∷ put.rest) put.front put.back put.line (subst ArePlain put.was is))
  insert_plain q name ls new (inr (implied, put)) is =
      subst ArePlain (sym (behind_header q name v manner ls new put))
      (at_plain put.spacing (name ∷ []) put.front put.back (header_line brackets.One q put.ws manner.newline)
      (header_plain brackets.One q manner.newline ls _ (header_put q name v manner ls new put) is))

pub insert_of_profile : InsertOfProfile
insert_of_profile One q name v manner lines there is good = insert_plain v manner good q name lines _ (insert_in_place q name v manner lines there) is
insert_of_profile Two q name v manner lines there is good = tt

-- ---- remove

emptied_plain : (parts : ℕ) (e : Expr) → ExprHasPlainTables e → ExprHasPlainTables (emptied_expr parts e)
emptied_plain parts (BlankLine b) is = tt
emptied_plain parts (KeyValLine ws pair tail) is = (tt, refl)
emptied_plain parts (TableLine ws header tail) is = tt
emptied_plain parts (ArrayTableLine ws header tail) is = tt

left_plain : (p : Address) (b : Bool) (n : ℕ) (l : Line) → ExprHasPlainTables l.expr → ArePlain (left_of_line p b n l)
left_plain p false n l is = (emptied_plain (length (parent_of p) - n) l.expr is, tt)
left_plain p true n l is = by (length l.newline.text == 0)
  where
    by : (b : Bool) → ArePlain (cond b (empty_line ∷ []) [])
    by true = (tt, tt)
    by false = tt

remove_plain : (p : Address) (b : Bool) (ls : List Line) (xs : List Named) (n : ℕ) → ArePlain ls → ArePlain (lines_from (remove_line p b) xs n ls)
remove_plain p b [] xs n is = tt
remove_plain p b (l ∷ ls) xs n is =
    each_append (λ m. ExprHasPlainTables m.expr) (remove_line p b xs l) (lines_from (remove_line p b) (xs ++ named_by xs n l.expr) (n + 1) ls)
    (elim (two_ways p b xs l) [
      | inl stays ↦ subst ArePlain (sym stays) (is.0, tt)
      | inr goes ↦ subst ArePlain (sym goes) (left_plain p b (length (section xs)) l is.0)
    ])
    (remove_plain p b ls (xs ++ named_by xs n l.expr) (n + 1) is.1)

pub remove_of_profile : RemoveOfProfile
remove_of_profile One p lines is = remove_plain p (leaves_parent p (standing lines)) lines (root ∷ []) 0 is
remove_of_profile Two p lines is = tt

-- ---- rename

module _ (p : Address) (to : List ℕ) where
  rename_has_pair : (pairs : Pairs) (at : Address) → HasPair pairs → HasPair (rename_pairs p to at pairs)
  rename_has_pair (ClosePairs g) at is = is
  rename_has_pair (LastPair g a v h) at is = is
  rename_has_pair (MorePairs g a v h ps) at is = is

  rename_no_last_comma : (pairs : Pairs) (at : Address) → HasNoLastComma pairs → HasNoLastComma (rename_pairs p to at pairs)
  rename_no_last_comma (ClosePairs g) at is = is
  rename_no_last_comma (LastPair g a v h) at is = is
  rename_no_last_comma (MorePairs g a v h ps) at is = (rename_has_pair ps at is.0, rename_no_last_comma ps at is.1)

  mutual
    rename_plain : (v : Value) (at : Address) → HasPlainTables v → HasPlainTables (rename_value p to at v)
    rename_plain (Scalar kind text) at is = is
    rename_plain (Array whole items) at is = rename_items_plain items at 0 is
    rename_plain (Inline whole pairs) at is = (rename_no_last_comma pairs at is.0, rename_pairs_plain pairs at is.1)

    rename_items_plain : (items : Items) (at : Address) (i : ℕ) → ItemsHavePlainTables items → ItemsHavePlainTables (rename_items p to at i items)
    rename_items_plain (Close g) at i is = is
    rename_items_plain (Last g v h) at i is = rename_plain v (element at i) is
    rename_items_plain (More g v h more) at i is = (rename_plain v (element at i) is.0, rename_items_plain more at (i + 1) is.1)

    rename_pairs_plain : (pairs : Pairs) (at : Address) → ArePlainPairs pairs → ArePlainPairs (rename_pairs p to at pairs)
    rename_pairs_plain (ClosePairs g) at is = is
    rename_pairs_plain (LastPair g a v h) at is = (is.0, rename_plain v (below at (key_names a.key)) is.1, is.2)
    rename_pairs_plain (MorePairs g a v h ps) at is = (is.0, rename_plain v (below at (key_names a.key)) is.1, is.2, rename_pairs_plain ps at is.3)

  rename_expr_plain : (xs : List Named) (e : Expr) → ExprHasPlainTables e → ExprHasPlainTables (rename_expr p to xs e)
  rename_expr_plain xs (BlankLine b) is = is
  rename_expr_plain xs (KeyValLine ws pair tail) is = rename_plain pair.value (below (section xs) (key_names pair.assign.key)) is
  rename_expr_plain xs (TableLine ws header tail) is = is
  rename_expr_plain xs (ArrayTableLine ws header tail) is = is

  rename_lines_plain : (ls : List Line) (xs : List Named) (n : ℕ) → ArePlain ls → ArePlain (lines_from (rename_line p to) xs n ls)
  rename_lines_plain [] xs n is = tt
  rename_lines_plain (l ∷ ls) xs n is = (rename_expr_plain xs l.expr is.0, rename_lines_plain ls (xs ++ named_by xs n l.expr) (n + 1) is.1)

pub rename_of_profile : RenameOfProfile
rename_of_profile One p to lines is = rename_lines_plain p to lines (root ∷ []) 0 is
rename_of_profile Two p to lines is = tt
