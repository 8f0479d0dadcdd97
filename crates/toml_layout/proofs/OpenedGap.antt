-- The parts of a gap that is opened.
use Rattle.std.proofs.Common.{◌≡◌, ◌+◌, ◌∙◌, ℕ, List, [], ◌∷◌, ◌++◌, Some, refl, ap, ap₂, sym, subst, arith, append_assoc, append-nil, length, slice_range}
use Rattle.std.specs.Prelude.{slice_get, unwrap_or}
use Rattle.toml_tree.proofs.Proved.{sizes_add, placed_back}
use Rattle.toml_tree.specs.Parts.{size}
use Rattle.toml_tree.specs.Spells.{Part, piece, Placed, all_parts, gap_line_parts, gap_parts}
use Rattle.toml_tree.specs.Tree.{GapLine, Gap}
use Rattle.toml_layout.proofs.GapSpelled.{gap_spelled}
use Rattle.toml_layout.proofs.Lying.{lie_slice}
use Rattle.toml_layout.specs.declared.tree.GapPart.{GapPart}
use Rattle.toml_layout.specs.Opening.{Lie}
use Rattle.toml_layout.specs.OpenOutlines.{part_read, parts_read}
use Rattle.toml_layout.specs.Parts.{PartOutline, Newline, Ws}
use Rattle.toml_layout.specs.TreeOutlines.{comment_part, gap_outline, lines_with, ws_part}

-- another part behind them
pub read_more : (ps : List GapPart) (p : GapPart) → parts_read (ps ++ p ∷ []) ≡ parts_read ps ++ part_read p
read_more [] p = append-nil (part_read p)
read_more (q ∷ ps) p = ap (λ r. part_read q ++ r) (read_more ps p) ∙ sym (append_assoc (part_read q) (parts_read ps) (part_read p))

-- whitespace that has a byte
pub ws_some : (text : List ℕ) → ¬ (text ≡ []) → ws_part text ≡ Ws text ∷ []
ws_some [] some = absurd (some refl)
ws_some (b ∷ bs) some = refl

-- from the first line's whitespace to the end of the last whitespace the text is that of the gap
pub gap_slice : (text : List ℕ) (g : Gap) (l : GapLine) (ls : List GapLine) (start end : ℕ) → g.lines ≡ l ∷ ls → start ≡ l.blank.ws.start → end ≡ g.ws.start + length g.ws.text
    → Lie text (gap_parts g) → slice_range text start end ≡ gap_spelled g
gap_slice text g l ls start end is from to (at, lies) =
    let lines = all_parts gap_line_parts g.lines in
    let last : List Part = piece g.ws ∷ [] in
    let first : l.blank.ws.start ≡ at = (subst (λ xs. Placed at (all_parts gap_line_parts xs ++ last)) is lies.placed).0 in
    let behind : g.ws.start ≡ at + size lines = (placed_back lines last at lies.placed).0 in
    let one : size last ≡ length g.ws.text = ap length (append-nil g.ws.text) in
    let whole : end ≡ at + size (gap_parts g) = omega (arith, to, behind, one, sizes_add lines last) in
    ap₂ (slice_range text) (from ∙ first) whole ∙ lie_slice text at (gap_parts g) lies

pub first_is : {A : Type 0} (x : A) (xs : List A) → Some x ≡ slice_get xs 0 → (rest : List A) × (xs ≡ x ∷ rest)
first_is x [] is = absurd (grind arith)
first_is x (y ∷ ys) is = (ys, ap (λ o. unwrap_or o x ∷ ys) (sym is))

-- one more line is opened
pub gap_line_on : (l : GapLine) (left rest : List GapLine) (old ws comment new all : List PartOutline) (end : List ℕ) → left ≡ l ∷ rest → ws ≡ old ++ ws_part l.blank.ws.text
    → comment ≡ ws ++ comment_part l.blank.comment → new ≡ comment ++ Newline l.newline.text ∷ [] → old ++ lines_with left end ≡ all → new ++ lines_with rest end ≡ all
gap_line_on l left rest old ws comment new all end is ws_is comment_is new_is so_far =
    let behind = lines_with rest end in
    let newline : List PartOutline = Newline l.newline.text ∷ [] in
    let c = comment_part l.blank.comment in
    ap (λ t. t ++ behind) new_is ∙ append_assoc comment newline behind
    ∙ ap (λ t. t ++ (newline ++ behind)) comment_is ∙ append_assoc ws c (newline ++ behind)
    ∙ ap (λ t. t ++ (c ++ (newline ++ behind))) ws_is ∙ append_assoc old (ws_part l.blank.ws.text) (c ++ (newline ++ behind))
    ∙ ap (λ ls. old ++ lines_with ls end) (sym is) ∙ so_far

-- all lines are opened, and the whitespace behind them
pub gap_ended : (g : Gap) (lines left : List GapLine) (old new : List PartOutline) → left ≡ [] → lines ≡ g.lines → new ≡ old ++ ws_part g.ws.text
    → old ++ lines_with left g.ws.text ≡ lines_with lines g.ws.text → new ≡ gap_outline g
gap_ended g lines left old new none is behind so_far =
    behind ∙ ap (λ ls. old ++ lines_with ls g.ws.text) (sym none) ∙ so_far ∙ ap (λ ls. lines_with ls g.ws.text) is
