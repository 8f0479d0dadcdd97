-- The units of lines, behind what was named before them.
use Rattle.std.proofs.Common.{◌≡◌, ◌+◌, ◌-◌, ◌==◌, ℕ, cond, Option, Some, List, [], ◌∷◌, ◌++◌, length, refl, ap, ap₂, ◌∙◌}
use Rattle.toml_tree.specs.Tree.{Expr, BlankLine, KeyValLine, TableLine, ArrayTableLine, Line}
use Rattle.toml_names.specs.model.Addresses.{Address, child, element, below}
use Rattle.toml_names.specs.mentions.Alike.{AreAlike}
use Rattle.toml_names.specs.mentions.Keys.{Key, key_names}
use Rattle.toml_names.specs.mentions.Mentions.{Named, named_by, entered, count_tables}
use Rattle.toml_names.specs.reader.Names.{header_end, own_address}
use Rattle.toml_units.specs.Units.{line_units, line_base, inside_line, units_from}
use Rattle.toml_units.specs.declared.unit.UnitKind.TheVariants as kinds
use Rattle.toml_tree.specs.Pieces.{expr_piece}
use Rattle.toml_editor.proofs.written.Alike.{alike_self, alike_sym, alike_trans}
use Rattle.toml_editor.proofs.written.Plain.{next_alike}

-- one line more behind alike lists, whatever its number
pub step_alike : (xs ys : List Named) (n m : ℕ) (e : Expr) → AreAlike xs ys → AreAlike (xs ++ named_by xs n e) (ys ++ named_by ys m e)
step_alike xs ys n m e alike =
    alike_trans (xs ++ named_by xs n e) (ys ++ named_by ys 0 e) (ys ++ named_by ys m e) (next_alike xs ys n e alike)
    (alike_sym (ys ++ named_by ys m e) (ys ++ named_by ys 0 e) (next_alike ys ys m e (alike_self ys)))

module _ (xs ys : List Named) (alike : AreAlike xs ys) where
  end_alike : (key : Key) (at : Address) → header_end xs at key ≡ header_end ys at key
  end_alike [] at = refl
  end_alike (n ∷ []) at = refl
  end_alike (n ∷ m ∷ more) at =
      ap (λ a. header_end xs a (m ∷ more)) (ap (λ k. cond (k == 0) (child at n) (element (child at n) (k - 1))) (alike.counts (child at n)))
      ∙ end_alike (m ∷ more) (entered ys (child at n))

  pub own_alike : (e : Expr) → own_address xs e ≡ own_address ys e
  own_alike (BlankLine b) = refl
  own_alike (KeyValLine ws k b) = ap (λ s. Some (below s (key_names k.assign.key))) alike.sections
  own_alike (TableLine ws h b) = ap Some (end_alike (key_names h.key) [])
  own_alike (ArrayTableLine ws h b) =
      let same = end_alike (key_names h.key) [] in
      ap (λ a. Some (element a (count_tables xs a))) same ∙ ap (λ k. Some (element (header_end ys [] (key_names h.key)) k)) (alike.counts (header_end ys [] (key_names h.key)))

  pub base_alike : (e : Expr) → line_base xs e ≡ line_base ys e
  base_alike (BlankLine b) = refl
  base_alike (KeyValLine ws k b) = ap (λ s. Some (length s)) alike.sections
  base_alike (TableLine ws h b) = refl
  base_alike (ArrayTableLine ws h b) = refl

  pub line_units_alike : (e : Expr) → line_units xs e ≡ line_units ys e
  line_units_alike e = ap₂ (λ (a : Option Address) (b : Option ℕ). record { kind = kinds.Line; piece = expr_piece e; address = a; base = b } ∷ inside_line a e) (own_alike e) (base_alike e)

-- behind alike lists lines have the same units
pub units_alike : (ls : List Line) (xs ys : List Named) (n m : ℕ) → AreAlike xs ys → units_from xs n ls ≡ units_from ys m ls
units_alike [] xs ys n m alike = refl
units_alike (l ∷ ls) xs ys n m alike =
    ap₂ (λ s t. s ++ t) (line_units_alike xs ys alike l.expr)
    (units_alike ls (xs ++ named_by xs n l.expr) (ys ++ named_by ys m l.expr) (n + 1) (m + 1) (step_alike xs ys n m l.expr alike))
