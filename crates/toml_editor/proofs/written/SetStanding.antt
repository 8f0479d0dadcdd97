-- The lines after a `set`, by what finds them.
use Rattle.std.proofs.Common.{◌≡◌, ℕ, ◌+◌, Some, None, List, [], ◌∷◌, ◌++◌, map, length, refl, sym, ap, ap₂}
use Rattle.toml_tree.specs.Tree.{Piece, Value, Expr, BlankLine, KeyValLine, TableLine, ArrayTableLine, Line}
use Rattle.toml_names.specs.mentions.Alike.{AreAlike}
use Rattle.toml_names.specs.mentions.Clear.{AreValuesAt, IsClear}
use Rattle.toml_names.specs.mentions.Keys.{key_names}
use Rattle.toml_names.specs.mentions.Mentions.{Named, named_by, named_from, root, section}
use Rattle.toml_names.specs.model.Addresses.{Address, below}
use Rattle.toml_names.proofs.Proved.{clear_of_root}
use Rattle.toml_working.specs.Lines.{lines_from}
use Rattle.toml_layout.specs.Outlines as outline
use Rattle.toml_working.specs.Setting.{set_expr, set_line}
use Rattle.toml_working.specs.Standing.{Standing, line_stands, standing_from, set_standing}
use Rattle.toml_editor.specs.StandingLaws.{SetStands}
use Rattle.toml_layout.specs.TreeOutlines.{assign_outline, line_of, line_outline, value_outline}
use Rattle.toml_editor.proofs.SetOutlined.{set_is_outlined}
use Rattle.toml_editor.proofs.written.Alike.{alike_self, each_from}
use Rattle.toml_editor.proofs.written.SetKept.{values_at}
use Rattle.toml_editor.proofs.written.SetNamed.{one_line}
use Rattle.toml_editor.proofs.written.UnitsAlike.{own_alike}

module _ (p : Address) (new : Value) where
  set_one : (xs ys : List Named) → AreAlike xs ys → (e : Expr) (newline : Piece)
      → line_stands ys (record { expr = set_expr p new (section xs) e; newline = newline })
      ≡ set_standing p (value_outline new) (line_stands xs (record { expr = e; newline = newline }))
  set_one xs ys alike (BlankLine b) newline = refl
  set_one xs ys alike (KeyValLine ws pair tail) newline =
      let names = key_names pair.assign.key in
      let at = below (section xs) names in
      let stands : Address → outline.ValueOutline → Standing = λ s v. record {
        address = Some (below s names);
        base = Some (length s);
        outline = line_of ws.text (outline.Pair (assign_outline pair.assign) v) tail newline;
      } in
      ap₂ stands (sym alike.sections) (set_is_outlined p new at pair.value)
  set_one xs ys alike (TableLine ws header tail) newline =
      let l : Line = record { expr = TableLine ws header tail; newline = newline } in
      ap (λ a. record { address = a; base = None; outline = line_outline l }) (sym (own_alike xs ys alike l.expr))
  set_one xs ys alike (ArrayTableLine ws header tail) newline =
      let l : Line = record { expr = ArrayTableLine ws header tail; newline = newline } in
      ap (λ a. record { address = a; base = None; outline = line_outline l }) (sym (own_alike xs ys alike l.expr))

  set_all : (ls : List Line) (xs ys : List Named) (n : ℕ) → AreAlike xs ys → IsClear p (section xs) → AreValuesAt p (named_from xs n ls)
      → standing_from ys n (lines_from (set_line p new) xs n ls) ≡ map (set_standing p (value_outline new)) (standing_from xs n ls)
  set_all [] xs ys n alike clear values = refl
  set_all (l ∷ ls) xs ys n alike clear values =
      let one = one_line p new xs ys n l.expr alike clear (each_from _ ls (xs ++ named_by xs n l.expr) (n + 1) values) in
      ap₂ (λ s t. s ∷ t) (set_one xs ys alike l.expr l.newline)
      (set_all ls (xs ++ named_by xs n l.expr) (ys ++ named_by ys n (set_expr p new (section xs) l.expr)) (n + 1) one.alike one.clear values)

pub set_stands : SetStands
set_stands p new lines apart there keeps =
    set_all p new lines (root ∷ []) (root ∷ []) 0 (alike_self (root ∷ [])) (clear_of_root p apart) (values_at p lines there keeps)
