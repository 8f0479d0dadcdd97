-- Lines do not begin with the mark, so a mark before them is the mark of the text.
use Rattle.std.proofs.Common.{◌≡◌, inl, inr, ℕ, ◌==◌, ◌&&◌, Bool, true, false, cond, List, [], ◌∷◌, ◌++◌, Option, Some, None, refl, sym, ap, ◌∙◌, subst, true≢false, eqb-true}
use Rattle.toml_text.specs.Bytes.{is_ws}
use Rattle.toml_text.specs.Forms.{IsWs, IsNewline, IsComment}
use Rattle.toml_scalar.specs.Names.{IsKeyPart}
use Rattle.toml_scalar.proofs.Proved.{part_first}
use Rattle.toml_scalar.specs.Scanning.{is_key_start}
use Rattle.toml_text.specs.Runs.{begins}
use Rattle.toml_tree.specs.Places.{LinesHaveNoMark}
use Rattle.toml_tree.specs.Spells.{Part, piece, joined, comment_parts, blank_parts, key_parts, equals_parts, assign_parts, keyval_parts, value_parts, header_parts, array_header_parts, expr_parts, line_parts, lines_parts, all_parts, dotted_parts, IsBlank, IsCommentOrNone, IsExpr, AreLines, mark_of}
use Rattle.toml_tree.specs.Tree.{Piece, Blank, Expr, BlankLine, KeyValLine, TableLine, ArrayTableLine, Line}
use Rattle.toml_tree.proofs.Texts.{joined_append}

-- the first byte is not that of the mark
abbrev IsPlain : List ℕ → Type 0
IsPlain [] = Unit {0}
IsPlain (b ∷ bs) = (b == 0xEF) ≡ false

other : (f : ℕ → Bool) (b : ℕ) → f 0xEF ≡ false → f b ≡ true → (b == 0xEF) ≡ false
other f b never is = by (b == 0xEF) refl
  where
    by : (t : Bool) → (b == 0xEF) ≡ t → t ≡ false
    by true same = absurd (true≢false (sym is ∙ ap f (eqb-true b 0xEF same) ∙ never))
    by false _ = refl

plain_append : (xs ys : List ℕ) → IsPlain xs → IsPlain ys → IsPlain (xs ++ ys)
plain_append [] ys p q = q
plain_append (x ∷ xs) ys p q = p

plain_parts : (xs ys : List Part) → IsPlain (joined xs) → IsPlain (joined ys) → IsPlain (joined (xs ++ ys))
plain_parts xs ys p q = subst IsPlain (sym (joined_append xs ys)) (plain_append (joined xs) (joined ys) p q)

ws_plain : (bs : List ℕ) → IsWs bs → IsPlain bs
ws_plain [] is = tt
ws_plain (b ∷ bs) is = other is_ws b refl is.0

newline_plain : (bs : List ℕ) → IsNewline bs → IsPlain bs
newline_plain bs (inl is) = subst IsPlain (sym is) refl
newline_plain bs (inr is) = subst IsPlain (sym is) refl

comment_plain : (bs : List ℕ) → IsComment bs → IsPlain bs
comment_plain [] is = absurd is
comment_plain (b ∷ bs) is = ap (λ x. x == 0xEF) is.0

blank_plain : (b : Blank) → IsBlank b → IsPlain (joined (blank_parts b))
blank_plain b is = plain_append b.ws.text (joined (comment_parts b.comment)) (ws_plain b.ws.text is.0) (by b.comment is.1)
  where
    by : (c : Option Piece) → IsCommentOrNone c → IsPlain (joined (comment_parts c))
    by None h = tt
    by (Some p) h = plain_append p.text [] (comment_plain p.text h) tt

-- there is a first byte, and it is not that of the mark
abbrev IsStart : List ℕ → Type 0
IsStart [] = ⊥
IsStart (b ∷ bs) = (b == 0xEF) ≡ false

start_plain : (bs : List ℕ) → IsStart bs → IsPlain bs
start_plain [] is = absurd is
start_plain (b ∷ bs) is = is

start_parts : (xs ys : List Part) → IsStart (joined xs) → IsStart (joined (xs ++ ys))
start_parts xs ys is = subst IsStart (sym (joined_append xs ys)) (by (joined xs) is)
  where
    by : (bs : List ℕ) → IsStart bs → IsStart (bs ++ joined ys)
    by [] h = absurd h
    by (b ∷ bs) h = h

key_start : (part rest : List ℕ) → IsKeyPart part → IsStart (part ++ rest)
key_start part rest is = by (part ++ rest) (part_first part rest is)
  where
    by : (bs : List ℕ) → begins is_key_start bs ≡ true → IsStart bs
    by [] h = absurd (true≢false (sym h))
    by (b ∷ bs) h = other is_key_start b refl h

expr_plain : (e : Expr) → IsExpr e → IsPlain (joined (expr_parts e))
expr_plain (BlankLine b) is = blank_plain b is
expr_plain (KeyValLine ws k b) is =
    plain_append ws.text (joined (keyval_parts k ++ blank_parts b)) (ws_plain ws.text is.0)
    (start_plain _ (start_parts (keyval_parts k) (blank_parts b) (start_parts (assign_parts k.assign) (value_parts k.value)
    (start_parts (key_parts k.assign.key) (equals_parts k.assign.before_equals k.assign.after_equals) (key_start k.assign.key.first.text (joined (all_parts dotted_parts k.assign.key.rest)) is.1.0.0.0)))))
expr_plain (TableLine ws h b) is = plain_append ws.text (joined (header_parts h ++ blank_parts b)) (ws_plain ws.text is.0) refl
expr_plain (ArrayTableLine ws h b) is = plain_append ws.text (joined (array_header_parts h ++ blank_parts b)) (ws_plain ws.text is.0) refl

lines_plain : (ls : List Line) → AreLines ls → IsPlain (joined (lines_parts ls))
lines_plain [] is = tt
lines_plain (l ∷ []) is =
    plain_parts (line_parts l) [] (plain_parts (expr_parts l.expr) (piece l.newline ∷ []) (expr_plain l.expr is.0) (subst (λ bs. IsPlain (bs ++ [])) (sym is.1) tt)) tt
lines_plain (l ∷ m ∷ ls) is =
    plain_parts (line_parts l) (lines_parts (m ∷ ls))
    (plain_parts (expr_parts l.expr) (piece l.newline ∷ []) (expr_plain l.expr is.0) (plain_append l.newline.text [] (newline_plain l.newline.text is.1) tt))
    (lines_plain (m ∷ ls) is.2)

no_mark : (bs : List ℕ) → IsPlain bs → mark_of bs ≡ []
no_mark [] is = refl
no_mark (a ∷ []) is = refl
no_mark (a ∷ b ∷ []) is = refl
no_mark (a ∷ b ∷ c ∷ bs) is = ap (λ t. cond (t && (b == 0xBB) && (c == 0xBF)) (a ∷ b ∷ c ∷ []) []) is

pub lines_unmarked : LinesHaveNoMark
lines_unmarked ls is = no_mark (joined (lines_parts ls)) (lines_plain ls is)

-- the mark of a text, before what has none
pub marked_again : (before rest : List ℕ) → mark_of rest ≡ [] → mark_of (mark_of before ++ rest) ≡ mark_of before
marked_again [] rest none = none
marked_again (a ∷ []) rest none = none
marked_again (a ∷ b ∷ []) rest none = none
marked_again (a ∷ b ∷ c ∷ bs) rest none = by ((a == 0xEF) && (b == 0xBB) && (c == 0xBF)) refl
  where
    by : (t : Bool) → ((a == 0xEF) && (b == 0xBB) && (c == 0xBF)) ≡ t → mark_of (cond t (a ∷ b ∷ c ∷ []) [] ++ rest) ≡ cond t (a ∷ b ∷ c ∷ []) []
    by true is = ap (λ t. cond t (a ∷ b ∷ c ∷ []) []) is
    by false is = none
