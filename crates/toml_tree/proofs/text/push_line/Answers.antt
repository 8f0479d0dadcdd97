use Rattle.std.proofs.Common.{◌++◌, [], ◌∷◌, string_bytes, ap, sym, ◌∙◌}
use Rattle.std.proofs.Math.Logic.{∥∥₁_map}
use Rattle.toml_tree.specs.Spells.{expr_parts}
use Rattle.toml_tree.specs.Spells as parts
use Rattle.toml_tree.specs.View.{piece, expr}
use Rattle.toml_tree.proofs.Many.{append-nil}
use Rattle.toml_tree.proofs.Texts.{written_both}
use Rattle.toml_tree.proofs.text.push_line.Goals as goal

pub push_expr-requires : goal.push_expr-requires
push_expr-requires c = ∥∥₁_map c.args.l.now.form (λ form. form.0)

pub returns : goal.returns
returns c =
    let l = c.args.l.now in
    let behind = c.in_ok-push_str.ensures.bytes ∙ ap (λ text. string_bytes c.push_expr.new.out ++ text) (sym (append-nil l.newline.text.now)) in
    written_both (string_bytes c.args.out.now) (expr_parts (expr l.expr)) (parts.piece (piece l.newline) ∷ []) _ _ c.in_ok-push_expr.ensures behind
