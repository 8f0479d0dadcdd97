-- The lines after an `insert` ahead of longer headers, as a header line that is put in, and a line behind it.
use Rattle.std.proofs.Common.{◌≡◌, ◌∙◌, ℕ, List, [], ◌∷◌, ◌++◌, refl, ap}
use Rattle.toml_tree.specs.Tree.{Value, Line}
use Rattle.toml_names.specs.model.Addresses.{Address}
use Rattle.toml_layout.specs.declared.tree.Brackets.TheVariants.{One}
use Rattle.toml_working.specs.Heading.{header_line}
use Rattle.toml_working.specs.Inserting.{line_put, new_line}
use Rattle.toml_working.specs.Manners.{Manner}
use Rattle.toml_editor.proofs.written.HeaderPut.{IsHeaderPut}
pub use Rattle.toml_editor.proofs.written.ImpliedPlace.{IsPutAhead}
use Rattle.toml_editor.proofs.written.ImpliedPlace.{ahead_header}

module _ (q : Address) (name : List ℕ) (v : Value) (manner : Manner) (old new : List Line) (put : IsPutAhead q name v manner old new) where
  -- the lines with the header alone
  abbrev pub headed : List Line
  headed = put.front ++ header_line One q put.ws manner.newline ∷ put.back

  pub header_put : IsHeaderPut One q manner.newline old headed
  header_put = ahead_header q name v manner old new put

  -- the line is put in behind the header
  pub behind_header : new ≡ put.front ++ line_put put.spacing (name ∷ []) v manner (header_line One q put.ws manner.newline) put.back
  behind_header = put.is ∙ ap (λ r. put.front ++ r) (by put.back put.some)
    where
      by : (back : List Line) → ¬ (back ≡ []) → header_line One q put.ws manner.newline ∷ new_line put.spacing (name ∷ []) v manner.newline ∷ back
          ≡ line_put put.spacing (name ∷ []) v manner (header_line One q put.ws manner.newline) back
      by [] some = absurd (some refl)
      by (l ∷ back) some = refl
