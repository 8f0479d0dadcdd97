-- The lines after an `insert` are in the forms.
use Rattle.std.proofs.Common.{ℕ, ◌≤◌, inl, inr, List, [], ◌∷◌, ◌++◌, refl, sym, subst}
use Rattle.toml_text.specs.Forms.{IsNewline}
use Rattle.toml_tree.specs.Spells.{IsValue, IsExpr, AreLines, depth, max_depth}
use Rattle.toml_tree.specs.Tree.{Value, Line}
use Rattle.toml_names.specs.mentions.Keys.{Key}
use Rattle.toml_names.specs.model.Addresses.{Address}
use Rattle.toml_layout.specs.declared.tree.Brackets.TheVariants.{One}
use Rattle.toml_working.specs.Heading.{header_line}
use Rattle.toml_working.specs.Inserting.{new_expr, new_line, line_put}
use Rattle.toml_working.specs.Manners.{Manner}
use Rattle.toml_layout.specs.Spacings.{Spacing, plain_spacing}
use Rattle.toml_editor.specs.InsertLaws.{InsertForms}
use Rattle.toml_editor.proofs.written.AheadPlace.{behind_header, header_put}
use Rattle.toml_editor.proofs.written.Formed.{line_before}
use Rattle.toml_editor.proofs.written.HeaderFormed.{header_forms, key_formed}
use Rattle.toml_editor.proofs.written.InsertedTables.{IsInserted, insert_in_place}
use Rattle.toml_editor.proofs.written.InsertSpaced.{IsSpacing, first_formed, plain_spaced}

module _ (v : Value) (manner : Manner) (newline : IsNewline manner.newline) (form : IsValue v) (shallow : depth v ≤ max_depth) where
  module _ (first : List ℕ) (rest : Key) where
    new_formed : (s : Spacing) → IsSpacing s → IsExpr (new_expr s (first ∷ rest) v)
    new_formed s is = (is.0, ((key_formed (first ∷ rest) (first, rest, refl), is.1, is.2), form, shallow), (tt, tt))

    module _ (s : Spacing) (spaced : IsSpacing s) where
      behind_formed : (l : Line) (ls : List Line) → AreLines (l ∷ ls) → AreLines (line_put s (first ∷ rest) v manner l ls)
      behind_formed l [] is = (is.0, newline, (new_formed s spaced, refl))
      behind_formed l (m ∷ ms) is = (is.0, is.1, (new_formed s spaced, newline, is.2))

      at_formed : (front back : List Line) (l : Line) → AreLines (front ++ l ∷ back) → AreLines (front ++ line_put s (first ∷ rest) v manner l back)
      at_formed [] back l is = behind_formed l back is
      at_formed (m ∷ front) back l is =
          let (own, ends, others) = first_formed m front back l is in
          line_before m (front ++ line_put s (first ∷ rest) v manner l back) own ends (at_formed front back l others)

  all_formed : (q : Address) (name : List ℕ) (ls new : List Line) → IsInserted q name v manner ls new → AreLines ls → AreLines new
  all_formed q name ls new (inl (inl (at_root, first))) is =
      subst AreLines (sym first) (line_before (new_line plain_spacing (name ∷ []) v manner.newline) ls (new_formed name [] plain_spacing plain_spaced) newline is)
  all_formed q name ls new (inl (inr put)) is =
      subst AreLines (sym put.is) (at_formed put.first put.rest put.spacing (put.spaced is) put.front put.back put.line (subst AreLines put.was is))
  all_formed q name ls new (inr (implied, put)) is =
      subst AreLines (sym (behind_header q name v manner ls new put))
      (at_formed name [] put.spacing (put.spaced is).1 put.front put.back (header_line One q put.ws manner.newline)
      (header_forms One q manner.newline ls _ (header_put q name v manner ls new put) is newline))

pub insert_forms : InsertForms
insert_forms q name v manner lines there is newline form shallow =
    all_formed v manner newline form shallow q name lines _ (insert_in_place q name v manner lines there) is
