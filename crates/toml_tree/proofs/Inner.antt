-- What stands inside a tree that spells a text spells its own text at its own place.
use Rattle.std.proofs.Common.{◌≡◌, ℕ, ◌+◌, ◌≤◌, ◌<◌, List, [], ◌∷◌, ◌++◌, length, refl, sym, ap, subst, arith, inl, inr}
use Rattle.toml_scalar.specs.Tokens.{IsToken}
use Rattle.toml_scalar.specs.declared.kind.ScalarKind.{ScalarKind}
use Rattle.toml_scalar.proofs.Proved.{token_first}
use Rattle.toml_tree.specs.Inner.{SpellsItself, KeyValSpellsItself, ExprSpellsItself, IsKeyValOf, LinesInside, KeyValInside, ValueOfKeyVal, ValuesInside, KeyValsInside}
use Rattle.toml_tree.specs.Laws.{IsItemOf, IsPairOf}
use Rattle.toml_tree.specs.Parts.{size}
use Rattle.toml_tree.specs.Pieces.{ValuePieceIsText, ValueHasByte, ValueStartsThere, KeyValStartsThere, ExprStartsThere}
use Rattle.toml_tree.specs.Spells.{Part, piece, symbol, Placed, EachIs, assign_parts, blank_parts, gap_parts, value_parts, items_parts, pairs_parts, keyval_parts, expr_parts, line_parts, lines_parts, IsValue, AreItems, ArePairs, IsKeyVal, IsExpr, AreLines, depth, items_depth, pairs_depth, max_depth}
use Rattle.toml_tree.specs.Tree.{Value, Scalar, Array, Inline, Items, Close, Last, More, Pairs, ClosePairs, LastPair, MorePairs, Assign, KeyVal, Expr, BlankLine, KeyValLine, TableLine, ArrayTableLine, Line}
use Rattle.toml_tree.proofs.Parts.{placed_front, placed_back, placed_both}
use Rattle.toml_tree.proofs.Texts.{text_of_value}

-- ---- pieces

pub value_piece : ValuePieceIsText
value_piece = text_of_value

token_byte : (kind : ScalarKind) (bs : List ℕ) → IsToken kind bs → 0 < length bs
token_byte kind [] h = absurd (let first = token_first kind [] [] h in cc)
token_byte kind (b ∷ bs) h = omega arith

pub value_byte : ValueHasByte
value_byte (Scalar kind p) h = token_byte kind p.text h
value_byte (Array whole items) h = omega (arith, ap length h.0)
value_byte (Inline whole pairs) h = omega (arith, ap length h.0)

pub value_start : ValueStartsThere
value_start (Scalar kind p) at h = h.0
value_start (Array whole items) at h = h.0
value_start (Inline whole pairs) at h = h.0

pub keyval_start : KeyValStartsThere
keyval_start k at h = h.0

pub expr_starts : ExprStartsThere
expr_starts (BlankLine b) at h = h.0
expr_starts (KeyValLine ws k b) at h = h.0
expr_starts (TableLine ws h b) at k = k.0
expr_starts (ArrayTableLine ws h b) at k = k.0

-- ---- a form and a place give the text

itself : (v : Value) (at : ℕ) → IsValue v → depth v ≤ max_depth → Placed at (value_parts v) → SpellsItself v
itself v at form shallow placed = record { form = form; shallow = shallow; text_is = sym (value_piece v form); placed = subst (λ n. Placed n (value_parts v)) (sym (value_start v at placed)) placed }

keyval_itself : (k : KeyVal) (at : ℕ) → IsKeyVal k → Placed at (keyval_parts k) → KeyValSpellsItself k
keyval_itself k at form placed = record { form = form; text_is = refl; placed = subst (λ n. Placed n (keyval_parts k)) (sym (keyval_start k at placed)) placed }

expr_itself : (e : Expr) (at : ℕ) → IsExpr e → Placed at (expr_parts e) → ExprSpellsItself e
expr_itself e at form placed = record { form = form; text_is = refl; placed = subst (λ n. Placed n (expr_parts e)) (sym (expr_starts e at placed)) placed }

-- ---- inside

line_itself : (l : Line) (more : List Part) (at : ℕ) → IsExpr l.expr → Placed at (line_parts l ++ more) → ExprSpellsItself l.expr
line_itself l more at form placed = expr_itself l.expr at form (placed_front (expr_parts l.expr) (piece l.newline ∷ []) at (placed_front (line_parts l) more at placed))

lines_itself : (lines : List Line) (at : ℕ) → AreLines lines → Placed at (lines_parts lines) → EachIs (λ l. ExprSpellsItself l.expr) lines
lines_itself [] at form placed = tt
lines_itself (l ∷ []) at form placed = (line_itself l [] at form.0 placed, tt)
lines_itself (l ∷ m ∷ ls) at form placed =
    (line_itself l (lines_parts (m ∷ ls)) at form.0 placed, lines_itself (m ∷ ls) (at + size (line_parts l)) form.2 (placed_back (line_parts l) (lines_parts (m ∷ ls)) at placed))

pub lines_inside : LinesInside
lines_inside lines at text h = lines_itself lines at h.forms h.placed

pub keyval_inside : KeyValInside
keyval_inside ws k tail at text h = keyval_itself k (at + length ws.text) h.form.1 (placed_front (keyval_parts k) (blank_parts tail) (at + length ws.text) h.placed.1)

pub value_of_keyval : ValueOfKeyVal
value_of_keyval k at text h = itself k.value (at + size (assign_parts k.assign)) h.form.1 h.form.2 (placed_back (assign_parts k.assign) (value_parts k.value) at h.placed)

-- an item, before what stands behind it
item_itself : (w : Value) (items : Items) (at : ℕ) → AreItems items → items_depth items ≤ max_depth → Placed at (items_parts items) → IsItemOf w items → SpellsItself w
item_itself w (Close g) at form shallow placed h = absurd h
item_itself w (Last g v k) at form shallow placed h =
    let here = at + size (gap_parts g) in
    let more : List Part = gap_parts k ++ symbol (0x5D ∷ []) ∷ [] in
    subst SpellsItself (sym h) (itself v here form.1 shallow (placed_front (value_parts v) more here (placed_back (gap_parts g) (value_parts v ++ more) at placed)))
item_itself w (More g v k is) at form shallow placed (inl h) =
    let here = at + size (gap_parts g) in
    let more : List Part = gap_parts k ++ symbol (0x2C ∷ []) ∷ items_parts is in
    let low : depth v ≤ max_depth = omega arith in
    subst SpellsItself (sym h) (itself v here form.1 low (placed_front (value_parts v) more here (placed_back (gap_parts g) (value_parts v ++ more) at placed)))
item_itself w (More g v k is) at form shallow placed (inr h) =
    let here = at + size (gap_parts g) in
    let gap = here + size (value_parts v) in
    let more : List Part = gap_parts k ++ symbol (0x2C ∷ []) ∷ items_parts is in
    let low : items_depth is ≤ max_depth = omega arith in
    let behind = placed_back (gap_parts k) (symbol (0x2C ∷ []) ∷ items_parts is) gap (placed_back (value_parts v) more here (placed_back (gap_parts g) (value_parts v ++ more) at placed)) in
    item_itself w is _ form.3 low behind.1 h

-- a pair of an inline table, before what stands behind it
first : (k : KeyVal) (a : Assign) (v : Value) (more : List Part) (at : ℕ) → IsKeyVal (record { assign = a; value = v }) → Placed at (assign_parts a ++ (value_parts v ++ more)) → k ≡ record { assign = a; value = v } → KeyValSpellsItself k
first k a v more at form placed h =
    let front = placed_front (assign_parts a) (value_parts v ++ more) at placed in
    let back = placed_front (value_parts v) more (at + size (assign_parts a)) (placed_back (assign_parts a) (value_parts v ++ more) at placed) in
    subst KeyValSpellsItself (sym h) (keyval_itself (record { assign = a; value = v }) at form (placed_both (assign_parts a) (value_parts v) at front back))

pair_itself : (k : KeyVal) (pairs : Pairs) (at : ℕ) → ArePairs pairs → pairs_depth pairs ≤ max_depth → Placed at (pairs_parts pairs) → IsKeyValOf k pairs → KeyValSpellsItself k
pair_itself k (ClosePairs g) at form shallow placed h = absurd h
pair_itself k (LastPair g a v j) at form shallow placed h =
    let more : List Part = gap_parts j ++ symbol (0x7D ∷ []) ∷ [] in
    first k a v more (at + size (gap_parts g)) (form.1, form.2, shallow) (placed_back (gap_parts g) (assign_parts a ++ (value_parts v ++ more)) at placed) h
pair_itself k (MorePairs g a v j ps) at form shallow placed (inl h) =
    let more : List Part = gap_parts j ++ symbol (0x2C ∷ []) ∷ pairs_parts ps in
    let low : depth v ≤ max_depth = omega arith in
    first k a v more (at + size (gap_parts g)) (form.1, form.2, low) (placed_back (gap_parts g) (assign_parts a ++ (value_parts v ++ more)) at placed) h
pair_itself k (MorePairs g a v j ps) at form shallow placed (inr h) =
    let key = at + size (gap_parts g) in
    let val = key + size (assign_parts a) in
    let more : List Part = gap_parts j ++ symbol (0x2C ∷ []) ∷ pairs_parts ps in
    let low : pairs_depth ps ≤ max_depth = omega arith in
    let pair = placed_back (gap_parts g) (assign_parts a ++ (value_parts v ++ more)) at placed in
    let gap = placed_back (value_parts v) more val (placed_back (assign_parts a) (value_parts v ++ more) key pair) in
    pair_itself k ps _ form.4 low (placed_back (gap_parts j) (symbol (0x2C ∷ []) ∷ pairs_parts ps) (val + size (value_parts v)) gap).1 h

pub keyvals_inside : KeyValsInside
keyvals_inside (Scalar kind p) k at text h is = absurd is
keyvals_inside (Array whole items) k at text h is = absurd is
keyvals_inside (Inline whole pairs) k at text h is =
    let low : pairs_depth pairs ≤ max_depth = omega (arith, h.shallow) in
    pair_itself k pairs _ h.form.1 low h.placed.1.1 is

-- a value in an inline table is that of a pair
has_keyval : (w : Value) (pairs : Pairs) → IsPairOf w pairs → (k : KeyVal) × IsKeyValOf k pairs × (w ≡ k.value)
has_keyval w (ClosePairs g) h = absurd h
has_keyval w (LastPair g a v j) h = (record { assign = a; value = v }, refl, h)
has_keyval w (MorePairs g a v j ps) (inl h) = (record { assign = a; value = v }, inl refl, h)
has_keyval w (MorePairs g a v j ps) (inr h) = let r = has_keyval w ps h in (r.0, inr r.1, r.2)

pub values_inside : ValuesInside
values_inside (Scalar kind p) w at text h is = absurd is
values_inside (Array whole items) w at text h is =
    let low : items_depth items ≤ max_depth = omega (arith, h.shallow) in
    item_itself w items _ h.form.1 low h.placed.1.1 is
values_inside (Inline whole pairs) w at text h is =
    let r = has_keyval w pairs is in
    subst SpellsItself (sym r.2) (value_of_keyval r.0 _ _ (keyvals_inside (Inline whole pairs) r.0 at text h r.1))
