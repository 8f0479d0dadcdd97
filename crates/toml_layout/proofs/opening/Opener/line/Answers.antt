use Rattle.std.proofs.Common.{◌∙◌, [], ◌∷◌, ap, sym, refl}
use Rattle.std.specs.Prelude.{option_map}
use Rattle.toml_text.specs.Source.{text_of}
use Rattle.toml_tree.specs.Lines.{line}
use Rattle.toml_tree.specs.View.{piece, blank, keyval, header, expr}
use Rattle.toml_layout.specs.OpenOutlines.{leaf_text, expr as expr_outlined}
use Rattle.toml_layout.specs.Outlines as outline
use Rattle.toml_layout.specs.TreeOutlines.{assign_outline, value_outline, header_outline}
use Rattle.toml_layout.proofs.OpenedLine.{line_made, pair_stands}
use Rattle.toml_layout.proofs.opening.Opener.line.Goals as goal
use Rattle.toml_layout.proofs.opening.Opener.line.Goals.{in-Blank, in-KeyVal+in_ok-keyval-in-KeyVal, in-Std+in_ok-header-in-Std, in-Array+in_ok-header-in-Array}

pub returns : goal.returns
returns c lies =
    let l = line c.args.line.now in
    let now = c.args.self.texts in
    let newline = c.leaf-2.ensures ∙ ap (λ p. p.text) c.newline.ensures in
    elim c.match-expr.branch [
      | in-Blank w ↦
          line_made l _ [] _ outline.Nothing _ w.in-Blank.blank _ _ _ (ap expr (sym w.in-Blank.is) ∙ c.expr.ensures) (λ n. refl) (ap (λ t. leaf_text t.0) w.expr-is) (ap (λ t. expr_outlined t.1) w.expr-is)
          (c.blank.ensures.ws ∙ ap (λ t. t.2.ws.text.now) w.expr-is) (c.blank.ensures.comment ∙ ap (λ t. option_map (λ p. p.text.now) t.2.comment) w.expr-is) newline
      | in-KeyVal+in_ok-keyval-in-KeyVal w ↦
          let k = w.in-KeyVal in
          let is = ap expr (sym k.is) ∙ c.expr.ensures in
          let opened = w.in_ok-keyval-in-KeyVal.ensures (pair_stands (text_of now.source) l (piece k.ws) (keyval k.keyval) (blank k.tail) is lies) in
          line_made l _ k.ws.text.now _ (outline.Pair (assign_outline (keyval k.keyval).assign) (value_outline (keyval k.keyval).value)) _ k.tail _ _ _ is (λ n. refl)
          (ap (λ t. leaf_text t.0) w.expr-is ∙ w.leaf.ensures) (ap (λ t. expr_outlined t.1) w.expr-is ∙ ap (λ p. outline.Pair p.0 p.1) opened)
          (c.blank.ensures.ws ∙ ap (λ t. t.2.ws.text.now) w.expr-is) (c.blank.ensures.comment ∙ ap (λ t. option_map (λ p. p.text.now) t.2.comment) w.expr-is) newline
      | in-Std+in_ok-header-in-Std w ↦
          line_made l _ w.in-Std.ws.text.now _ (header_outline (0x5B ∷ []) (0x5D ∷ []) (header w.in-Std.header)) _ w.in-Std.tail _ _ _ (ap expr (sym w.in-Std.is) ∙ c.expr.ensures) (λ n. refl) (ap (λ t. leaf_text t.0) w.expr-is ∙ w.leaf-in-Std.ensures) (ap (λ t. expr_outlined t.1) w.expr-is ∙ w.in_ok-header-in-Std.ensures)
          (c.blank.ensures.ws ∙ ap (λ t. t.2.ws.text.now) w.expr-is) (c.blank.ensures.comment ∙ ap (λ t. option_map (λ p. p.text.now) t.2.comment) w.expr-is) newline
      | in-Array+in_ok-header-in-Array w ↦
          line_made l _ w.in-Array.ws.text.now _ (header_outline (0x5B ∷ 0x5B ∷ []) (0x5D ∷ 0x5D ∷ []) (header w.in-Array.header)) _ w.in-Array.tail _ _ _ (ap expr (sym w.in-Array.is) ∙ c.expr.ensures) (λ n. refl) (ap (λ t. leaf_text t.0) w.expr-is ∙ w.leaf-in-Array.ensures) (ap (λ t. expr_outlined t.1) w.expr-is ∙ w.in_ok-header-in-Array.ensures)
          (c.blank.ensures.ws ∙ ap (λ t. t.2.ws.text.now) w.expr-is) (c.blank.ensures.comment ∙ ap (λ t. option_map (λ p. p.text.now) t.2.comment) w.expr-is) newline
    ]
