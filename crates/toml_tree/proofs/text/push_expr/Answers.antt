use Rattle.std.proofs.Common.{◌≡◌, ℕ, List, ◌∷◌, ◌++◌, string_bytes, ap, sym, subst, ◌∙◌}
use Rattle.std.proofs.Math.Logic.{∥∥₁_map}
use Rattle.toml_tree.specs.Spells as parts
use Rattle.toml_tree.specs.Spells.{Part, joined, keyval_parts, header_parts, array_header_parts, blank_parts, expr_parts, IsExpr}
use Rattle.toml_tree.specs.Tree as tree
use Rattle.toml_tree.specs.View.{piece, keyval, header, blank, expr}
use Rattle.toml_tree.proofs.Texts.{written_then, written_both}
use Rattle.toml_tree.proofs.text.push_expr.Goals as goal

pub push_keyval-requires : goal.push_keyval-requires
push_keyval-requires c = ∥∥₁_map c.requires (λ form. (subst (λ e. IsExpr (expr e)) c.in-KeyVal.is form).1)

-- whitespace was written, some parts, and what stands behind them
written_around : (out : List ℕ) (ws : tree.Piece) (ps : List Part) (tail : tree.Blank) (first mid new : List ℕ) →
    first ≡ out ++ ws.text → mid ≡ first ++ joined ps → new ≡ mid ++ joined (blank_parts tail) → new ≡ out ++ joined (parts.piece ws ∷ (ps ++ blank_parts tail))
written_around out ws ps tail first mid new ws_is mid_is new_is =
    written_then out (parts.piece ws) (ps ++ blank_parts tail) first new ws_is (written_both first ps (blank_parts tail) mid new mid_is new_is)

pub returns-in_ok-push_blank-in-KeyVal : goal.returns-in_ok-push_blank-in-KeyVal
returns-in_ok-push_blank-in-KeyVal c =
    let out = string_bytes c.args.out.now in
    let k = c.in-KeyVal in
    written_around out (piece k.ws) (keyval_parts (keyval k.keyval)) (blank k.tail) _ _ _
    c.in_ok-push_str-in-KeyVal.ensures.bytes c.in_ok-push_keyval-in-KeyVal.ensures c.in_ok-push_blank-in-KeyVal.ensures
    ∙ ap (λ e. out ++ joined (expr_parts (expr e))) (sym k.is)

pub returns-in_ok-push_blank-in-Std : goal.returns-in_ok-push_blank-in-Std
returns-in_ok-push_blank-in-Std c =
    let out = string_bytes c.args.out.now in
    let t = c.in-Std in
    written_around out (piece t.ws) (header_parts (header t.header)) (blank t.tail) _ _ _
    c.in_ok-push_str-in-Std.ensures.bytes c.in_ok-push_header-in-Std.ensures c.in_ok-push_blank-in-Std.ensures
    ∙ ap (λ e. out ++ joined (expr_parts (expr e))) (sym t.is)

pub returns-in_ok-push_blank-in-Array : goal.returns-in_ok-push_blank-in-Array
returns-in_ok-push_blank-in-Array c =
    let out = string_bytes c.args.out.now in
    let t = c.in-Array in
    written_around out (piece t.ws) (array_header_parts (header t.header)) (blank t.tail) _ _ _
    c.in_ok-push_str-in-Array.ensures.bytes c.in_ok-push_array_header-in-Array.ensures c.in_ok-push_blank-in-Array.ensures
    ∙ ap (λ e. out ++ joined (expr_parts (expr e))) (sym t.is)
