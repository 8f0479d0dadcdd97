-- What was read keeps what its type says of it.
use Rattle.std.proofs.Common.{◌≡◌, take, Some, ap, ◌∙◌, sym, subst, inl, inr, ⊎_elim}
use Rattle.std.specs.Prelude.{IfSome}
use Rattle.toml_text.specs.Forms.{IsNewline}
use Rattle.toml_text.specs.Runs.{newline_len}
use Rattle.toml_text.proofs.Proved.{newlines_piece}
use Rattle.toml_tree.specs.declared.piece.Piece.{Piece}
use Rattle.toml_tree.specs.declared.profile.Profile.{Profile}
use Rattle.toml_tree.specs.declared.tree.Expr.{Expr}
use Rattle.toml_tree.specs.Reading.{Cursor, here}
use Rattle.toml_tree.specs.ReadingLines.{expr_at}
use Rattle.toml_tree.specs.Profiles.{IsExprOfProfile}
use Rattle.toml_tree.specs.Spells.{IsExpr, expr_parts}
use Rattle.toml_tree.specs.Tree as tree
use Rattle.toml_tree.specs.View.{piece, expr, IsLine}
use Rattle.toml_tree.proofs.SoundLines.{expr_sound}
use Rattle.toml_tree.proofs.Spans.{Spans}

pub line_formed : (profile : Profile) (e : Expr) (n : Piece) (c d : Cursor) → expr_at profile c ≡ Some (expr e, d) → piece n ≡ here (newline_len d.rest) d → ∥ IsLine e n ∥₁
line_formed profile e n c d read newline =
    let R : tree.Expr × Cursor → Type 0 = λ r. IsExpr r.0 × Spans (expr_parts r.0) c r.1 × IsExprOfProfile profile r.0 in
    let form : R (expr e, d) = subst (λ o. IfSome o R) read (expr_sound profile c) in
    let text : n.text.now ≡ take (newline_len d.rest) d.rest = ap (λ p. p.text) newline in
    ∣ (
      form.0,
      ⊎_elim
          (λ (none : newline_len d.rest ≡ 0). inl (text ∙ ap (λ k. take k d.rest) none))
          (λ (some : IsNewline (take (newline_len d.rest) d.rest)). inr (subst IsNewline (sym text) some))
          (newlines_piece d.rest).1,
    ) ∣₁
