-- The newline of a line by its length.
use Rattle.std.proofs.Common.{◌≡◌, inl, inr, [], ◌∷◌, length, sym, ap, ◌∙◌}
use Rattle.std.proofs.Math.Logic.{∥∥₁_elim}
use Rattle.std.proofs.Props.{props}
use Rattle.toml_tree.specs.View.{IsLine}
use Rattle.toml_tree.specs.declared.piece.Piece.{Piece}
use Rattle.toml_tree.specs.declared.tree.Expr.{Expr}

module _ (e : Expr) (p : Piece) where
  of_form : IsLine e p → length p.text.now ≡ 1 → 0x0A ∷ [] ≡ p.text.now
  of_form (form, inl none) one = let e : 0 ≡ 1 = sym (ap length none) ∙ one in cc
  of_form (form, inr (inl lf)) one = sym lf
  of_form (form, inr (inr crlf)) one = let e : 2 ≡ 1 = sym (ap length crlf) ∙ one in cc

  pub lf_is : ∥ IsLine e p ∥₁ → length p.text.now ≡ 1 → 0x0A ∷ [] ≡ p.text.now
  lf_is some one = ∥∥₁_elim some (hlevel props) (λ f. of_form f one)

  longest : IsLine e p → ¬ (p.text.now ≡ []) → ¬ (length p.text.now ≡ 1) → 0x0D ∷ 0x0A ∷ [] ≡ p.text.now
  longest (form, inl none) some more = absurd (some none)
  longest (form, inr (inl lf)) some more = absurd (more (ap length lf))
  longest (form, inr (inr crlf)) some more = sym crlf

  pub cr_lf_is : ∥ IsLine e p ∥₁ → ¬ (p.text.now ≡ []) → ¬ (length p.text.now ≡ 1) → 0x0D ∷ 0x0A ∷ [] ≡ p.text.now
  cr_lf_is known some more = ∥∥₁_elim known (hlevel props) (λ f. longest f some more)
