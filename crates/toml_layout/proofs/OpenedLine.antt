-- A line that is opened.
use Rattle.std.proofs.Common.{◌≡◌, ◌∙◌, ℕ, List, [], ◌∷◌, ◌++◌, Option, Some, None, refl, ap, ap₂, sym, subst}
use Rattle.std.specs.Prelude.{option_map}
use Rattle.toml_tree.specs.declared.piece.Blank.{Blank}
use Rattle.toml_tree.specs.declared.piece.Piece.{Piece}
use Rattle.toml_tree.specs.Spells as parts
use Rattle.toml_tree.specs.Spells.{IsExpr, Part, blank_parts, expr_parts, keyval_parts}
use Rattle.toml_tree.specs.Tree as tree
use Rattle.toml_tree.specs.View.{blank, piece}
use Rattle.toml_layout.proofs.Lying.{lie_front, lie_next}
use Rattle.toml_layout.specs.Opening.{Lie, LineStands, PairStands}
use Rattle.toml_layout.specs.declared.tree.Leaf.{Leaf}
use Rattle.toml_layout.specs.OpenOutlines.{leaf_text}
use Rattle.toml_layout.specs.Outlines.{ExprOutline, LineOutline}
use Rattle.toml_layout.specs.TreeOutlines.{line_outline, line_of}

-- a line of these
abbrev pub outline_of : List ℕ → ExprOutline → List ℕ → Option Leaf → List ℕ → LineOutline
outline_of ws x tail c newline = record { ws = ws; expr = x; tail = tail; comment = option_map leaf_text c; newline = newline }

-- a comment that is opened
comment_is : (p : Option Piece) → option_map (λ q. q.text.now) p ≡ option_map (λ (q : tree.Piece). q.text) (option_map piece p)
comment_is None = refl
comment_is (Some q) = refl

-- what stands on it is opened, with the whitespace before it and the blank and the newline behind it
pub line_made : (l : tree.Line) (e : tree.Expr) (ws own_ws : List ℕ) (x own : ExprOutline) (tail : Blank) (blank_ws : List ℕ) (c : Option Leaf) (newline : List ℕ) → e ≡ l.expr
    → ((n : tree.Piece) → line_outline (record { expr = e; newline = n }) ≡ line_of ws x (blank tail) n) → own_ws ≡ ws → own ≡ x → blank_ws ≡ tail.ws.text.now
    → option_map leaf_text c ≡ option_map (λ p. p.text.now) tail.comment → newline ≡ l.newline.text → outline_of own_ws own blank_ws c newline ≡ line_outline l
line_made l e ws own_ws x own tail blank_ws c newline is outlined ws_is x_is tail_is c_is newline_is =
    ap₂ (λ w y. outline_of w y blank_ws c newline) ws_is x_is
    ∙ ap₂ (λ t m. all_of t m newline) tail_is (c_is ∙ comment_is tail.comment)
    ∙ ap (all_of tail.ws.text.now (option_map (λ (p : tree.Piece). p.text) (option_map piece tail.comment))) newline_is
    ∙ sym (outlined l.newline) ∙ ap (λ y. line_outline (record { expr = y; newline = l.newline })) is
  where
    all_of : List ℕ → Option (List ℕ) → List ℕ → LineOutline
    all_of t m n = record { ws = ws; expr = x; tail = t; comment = m; newline = n }

-- the pair of a line that stands in the text stands there too
pub pair_stands : (text : List ℕ) (l : tree.Line) (ws : tree.Piece) (k : tree.KeyVal) (tail : tree.Blank) → tree.KeyValLine ws k tail ≡ l.expr → LineStands text l → PairStands text k
pair_stands text l ws k tail is (form, lies) =
    let own : IsExpr (tree.KeyValLine ws k tail) = subst IsExpr (sym is) form in
    let newline : List Part = parts.piece l.newline ∷ [] in
    let whole = subst (λ e. Lie text (expr_parts e ++ newline)) (sym is) lies in
    let first = lie_front text whole.0 (parts.piece ws ∷ (keyval_parts k ++ blank_parts tail)) newline whole.1 in
    (own.1.1, (_, lie_front text _ (keyval_parts k) (blank_parts tail) (lie_next text whole.0 (parts.piece ws) (keyval_parts k ++ blank_parts tail) first)))
