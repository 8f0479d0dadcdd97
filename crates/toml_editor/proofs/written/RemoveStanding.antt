-- The lines after the `remove` of a line, by what finds them.
use Rattle.std.proofs.Common.{◌≡◌, ℕ, ◌+◌, ◌==◌, Bool, true, false, cond, List, [], ◌∷◌, ◌++◌, length, refl, sym, ap, ap₂, subst, append-nil}
use Rattle.std.specs.Prelude.{flat_map}
use Rattle.toml_tree.specs.Tree.{Piece, Expr, BlankLine, KeyValLine, TableLine, ArrayTableLine, Line}
use Rattle.toml_names.specs.mentions.Alike.{AreAlike}
use Rattle.toml_names.specs.mentions.Keys.{key_names}
use Rattle.toml_names.specs.mentions.Mentions.{Named, named_by, root, section}
use Rattle.toml_names.specs.model.Addresses.{Address, same_address, below}
use Rattle.toml_names.proofs.Proved.{pairs_leave_alike}
use Rattle.toml_working.specs.Lines.{lines_from}
use Rattle.toml_working.specs.RemoveStanding.{empty_standing, left_standing, removed_one}
use Rattle.toml_working.specs.Removing.{empty_line, left_behind, lines_left, remove_line}
use Rattle.toml_working.specs.Standing.{Standing, line_stands, standing, standing_from}
use Rattle.toml_layout.specs.TreeOutlines.{line_outline}
use Rattle.toml_editor.proofs.written.Alike.{alike_self, alike_trans}
use Rattle.toml_editor.proofs.written.UnitsAlike.{base_alike, own_alike, step_alike}

module _ (p : Address) where
  -- the lines without the one of the value
  abbrev taken : List Standing → List Standing
  taken = flat_map (removed_one p true)

  -- behind alike lists a line stands alike
  pub stands_alike : (xs ys : List Named) → AreAlike xs ys → (l : Line) → line_stands ys l ≡ line_stands xs l
  stands_alike xs ys alike l =
      ap₂ (λ a b. record { address = a; base = b; outline = line_outline l }) (sym (own_alike xs ys alike l.expr)) (sym (base_alike xs ys alike l.expr))

  -- what the lines behind make, wherever they then stand
  abbrev Behind : List Named → ℕ → List Line → Type 0
  Behind xs n ls = (ys : List Named) (m : ℕ) → AreAlike xs ys
      → standing_from ys m (lines_from (remove_line p true) xs n ls) ≡ taken (standing_from xs n ls)

  one_stays : (xs ys : List Named) (n m : ℕ) → AreAlike xs ys → (l : Line) (ls : List Line) → Behind (xs ++ named_by xs n l.expr) (n + 1) ls
      → line_stands ys l ∷ standing_from (ys ++ named_by ys m l.expr) (m + 1) (lines_from (remove_line p true) (xs ++ named_by xs n l.expr) (n + 1) ls)
      ≡ line_stands xs l ∷ taken (standing_from (xs ++ named_by xs n l.expr) (n + 1) ls)
  one_stays xs ys n m alike l ls rest =
      ap₂ (λ s t. s ∷ t) (stands_alike xs ys alike l) (rest (ys ++ named_by ys m l.expr) (m + 1) (step_alike xs ys n m l.expr alike))

  one_goes : (xs ys : List Named) (n m : ℕ) → AreAlike xs ys → (ls : List Line) → Behind xs n ls → (b : Bool)
      → standing_from ys m (cond b (empty_line ∷ []) [] ++ lines_from (remove_line p true) xs n ls)
      ≡ cond b (empty_standing ∷ []) [] ++ taken (standing_from xs n ls)
  one_goes xs ys n m alike ls rest true = ap (λ r. empty_standing ∷ r) (rest (ys ++ []) (m + 1) (subst (AreAlike xs) (sym (append-nil ys)) alike))
  one_goes xs ys n m alike ls rest false = rest ys m alike

  one_removed : (xs ys : List Named) (n m : ℕ) → AreAlike xs ys → (e : Expr) (newline : Piece) (ls : List Line) → Behind (xs ++ named_by xs n e) (n + 1) ls
      → standing_from ys m (remove_line p true xs (record { expr = e; newline = newline }) ++ lines_from (remove_line p true) (xs ++ named_by xs n e) (n + 1) ls)
      ≡ removed_one p true (line_stands xs (record { expr = e; newline = newline })) ++ taken (standing_from (xs ++ named_by xs n e) (n + 1) ls)
  one_removed xs ys n m alike (BlankLine b) newline ls rest = one_stays xs ys n m alike (record { expr = BlankLine b; newline = newline }) ls rest
  one_removed xs ys n m alike (TableLine ws header tail) newline ls rest =
      one_stays xs ys n m alike (record { expr = TableLine ws header tail; newline = newline }) ls rest
  one_removed xs ys n m alike (ArrayTableLine ws header tail) newline ls rest =
      one_stays xs ys n m alike (record { expr = ArrayTableLine ws header tail; newline = newline }) ls rest
  one_removed xs ys n m alike (KeyValLine ws pair tail) newline ls rest = by (same_address (below (section xs) (key_names pair.assign.key)) p)
    where
      l : Line
      l = record { expr = KeyValLine ws pair tail; newline = newline }

      by : (b : Bool) → standing_from ys m (cond b (left_behind l) (l ∷ []) ++ lines_from (remove_line p true) (xs ++ named_by xs n l.expr) (n + 1) ls)
          ≡ cond b (left_standing (line_stands xs l)) (line_stands xs l ∷ []) ++ taken (standing_from (xs ++ named_by xs n l.expr) (n + 1) ls)
      by false = one_stays xs ys n m alike l ls rest
      by true =
          let over = xs ++ named_by xs n l.expr in
          one_goes over ys (n + 1) m (alike_trans over xs ys (pairs_leave_alike xs n (section xs) pair.assign pair.value) alike) ls rest
          (length newline.text == 0)

  all_removed : (ls : List Line) (xs : List Named) (n : ℕ) → Behind xs n ls
  all_removed [] xs n ys m alike = refl
  all_removed (l ∷ ls) xs n ys m alike = one_removed xs ys n m alike l.expr l.newline ls (all_removed ls (xs ++ named_by xs n l.expr) (n + 1))

pub taken_stands : (p : Address) (lines : List Line) → standing (lines_left p true lines) ≡ flat_map (removed_one p true) (standing lines)
taken_stands p lines = all_removed p lines (root ∷ []) 0 (root ∷ []) 0 (alike_self (root ∷ []))
