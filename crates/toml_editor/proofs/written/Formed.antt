-- Lines in the forms, from the first on.
use Rattle.std.proofs.Common.{◌≡◌, ℕ, ◌==◌, false, inl, inr, List, [], ◌∷◌, length, ap}
use Rattle.toml_text.specs.Forms.{IsNewline}
use Rattle.toml_tree.specs.Spells.{IsExpr, AreLines}
use Rattle.toml_tree.specs.Tree.{Line}

-- a newline has a byte
pub newline_some : (bs : List ℕ) → IsNewline bs → (length bs == 0) ≡ false
newline_some bs (inl is) = ap (λ x. length x == 0) is
newline_some bs (inr is) = ap (λ x. length x == 0) is

-- a line with a newline before lines in the forms
pub line_before : (l : Line) (ls : List Line) → IsExpr l.expr → IsNewline l.newline.text → AreLines ls → AreLines (l ∷ ls)
line_before l [] e n is = absurd is
line_before l (m ∷ ms) e n is = (e, n, is)
