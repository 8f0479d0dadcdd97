-- What is in the forms and followed by what may follow it, the plain reader reads: headers, expressions and lines.
use Rattle.std.proofs.Common.{◌≡◌, ℕ, ◌+◌, ◌<◌, true, false, eqb, length-append, List, [], ◌∷◌, ◌++◌, length, drop, Some, sym, refl, ap, ◌∙◌, subst, arith, inl}
use Rattle.std.proofs.lemmas.Bool.{cond-true, cond-false}
use Rattle.std.proofs.lemmas.Bool.Decides.{nat_tests}
use Rattle.toml_text.specs.Bytes.{is_ws}
use Rattle.toml_text.specs.Forms.{IsWs}
use Rattle.toml_text.specs.Runs.{begins, is_byte, newline_len}
use Rattle.toml_scalar.specs.Scanning.{is_key_start}
use Rattle.toml_text.proofs.Proved.{begins_other}
use Rattle.toml_tree.specs.Profiles.{AreLinesOfProfile, IsValueOfProfile, IsExprOfProfile}
use Rattle.toml_tree.specs.Tree.{Piece, Blank, Header, KeyVal, Expr, BlankLine, KeyValLine, TableLine, ArrayTableLine, Line}
use Rattle.toml_tree.specs.Spells.{Part, piece, symbol, EachIs, all_parts, comment_parts, blank_parts, key_parts, keyval_parts, header_parts, array_header_parts, expr_parts, line_parts, lines_parts, IsBlank, IsHeader, IsKeyVal, IsExpr, AreLines, max_depth}
use Rattle.toml_tree.specs.Reading.{Cursor, ahead, all_of, blank_at, ◌>>=◌}
use Rattle.toml_tree.specs.ReadingLines.{named_at, header_at, array_header_at, header_line_at, keyval_line_at, expr_at, line_step, lines_at}
use Rattle.toml_tree.specs.declared.profile.Profile.{Profile}
use Rattle.toml_tree.specs.declared.step.Step.TheVariants.{Next, Done}
use Rattle.toml_tree.proofs.Profiled.{asked}
use Rattle.toml_tree.proofs.Spans.{Spans, spans_split}
use Rattle.toml_tree.proofs.Sound.{all_parts_push}
use Rattle.toml_tree.proofs.SoundLines.{IsEndedLine, AreLinesOf}
use Rattle.toml_tree.proofs.Complete.{piece_here, rest_of, symbol_begins, symbol_ahead, spans_length, run_complete, each_first, positive, comment_complete, comment_first, is_newline_byte, newline_front, newline_stops, StopsLine, line_stop, line_stops_comment, newline_not_ws, newline_not_start, blank_ends, blank_closes, ws_symbol, many_complete, as_long, start_not_ws, key_complete, key_first, symbol_ends}
use Rattle.toml_tree.proofs.CompleteValues.{keyval_complete, keyval_first}

-- headers
-- a key between whitespace, and `]`
abbrev named_parts : Header → List Part
named_parts h = piece h.before ∷ (key_parts h.key ++ (piece h.after ∷ symbol (0x5D ∷ []) ∷ []))

named_complete : (h : Header) (c d : Cursor) → IsHeader h → Spans (named_parts h) c d → named_at c ≡ Some (h, d)
unfolding named_at
named_complete h c d is s =
    let end = piece h.after ∷ symbol (0x5D ∷ []) ∷ [] in
    let i = spans_split (piece h.before ∷ []) (key_parts h.key ++ end) c d s in
    let j = spans_split (key_parts h.key) end i.0 d i.2 in
    let r = ws_symbol 0x5D h.after [] j.0 d refl is.2 j.2 in
    let before = run_complete is_ws h.before c i.0 is.0 i.1 (begins_other is_key_start is_ws i.0.rest start_not_ws (key_first h.key i.0 j.0 is.1 j.1)) in
    let key = key_complete h.key i.0 j.0 is.1 j.1 (symbol_ends 0x5D h.after [] j.0 d refl refl refl is.2 j.2) in
    rw before (rw key (rw r.read (cond-true _ _ _ (ap (begins (is_byte 0x5D)) r.first) ∙ ap (λ x. Some (h, x)) (r.step ∙ r.rest))))

start_no_bracket : (b : ℕ) → is_key_start b ≡ true → is_byte 0x5B b ≡ false
start_no_bracket b h = grind (arith, nat_tests)

ws_no_bracket : (b : ℕ) → is_ws b ≡ true → is_byte 0x5B b ≡ false
ws_no_bracket b h = grind (arith, nat_tests)

-- between the brackets no bracket comes first
named_first : (h : Header) (c d : Cursor) → IsHeader h → Spans (named_parts h) c d → begins (is_byte 0x5B) c.rest ≡ false
named_first h c d is s =
    let end = piece h.after ∷ symbol (0x5D ∷ []) ∷ [] in
    let i = spans_split (piece h.before ∷ []) (key_parts h.key ++ end) c d s in
    let j = spans_split (key_parts h.key) end i.0 d i.2 in
    let at_key = begins_other is_key_start (is_byte 0x5B) i.0.rest start_no_bracket (key_first h.key i.0 j.0 is.1 j.1) in
    ap (begins (is_byte 0x5B)) (rest_of (piece h.before) c i.0 i.1) ∙ each_first is_ws (is_byte 0x5B) h.before.text i.0.rest is.0 ws_no_bracket at_key

header_complete : (h : Header) (c d : Cursor) → IsHeader h → Spans (header_parts h) c d → header_at c ≡ Some (h, d)
unfolding header_at
header_complete h c d is s =
    let k = symbol_ahead 0x5B (named_parts h) c d s in
    cond-true _ _ _ (ap (begins (is_byte 0x5B)) k.1) ∙ ap named_at k.2 ∙ named_complete h k.0 d is k.3

array_header_complete : (h : Header) (c d : Cursor) → IsHeader h → Spans (array_header_parts h) c d → array_header_at c ≡ Some (h, d)
unfolding array_header_at
array_header_complete h c d is s =
    let k = symbol_ahead 0x5B (header_parts h ++ symbol (0x5D ∷ []) ∷ []) c d s in
    let i = spans_split (header_parts h) (symbol (0x5D ∷ []) ∷ []) k.0 d k.3 in
    let at_end = symbol_begins 0x5D i.0 d i.2 in
    let header : header_at (ahead 1 c) ≡ Some (h, i.0) = ap header_at k.2 ∙ header_complete h k.0 i.0 is i.1 in
    cond-true _ _ _ (ap (begins (is_byte 0x5B)) k.1) ∙ rw header (cond-true _ _ _ (ap (begins (is_byte 0x5D)) at_end.0) ∙ ap (λ x. Some (h, x)) at_end.1)

-- the second byte tells the headers apart
table_line_complete : (ws : Piece) (h : Header) (b : Blank) (c d : Cursor) → IsHeader h → IsBlank b → Spans (header_parts h ++ blank_parts b) c d → StopsLine d.rest → header_line_at ws c ≡ Some (TableLine ws h b, d)
unfolding header_line_at
table_line_complete ws h b c d is blank s e =
    let i = spans_split (header_parts h) (blank_parts b) c d s in
    let k = symbol_ahead 0x5B (named_parts h) c i.0 i.1 in
    cond-false _ _ _ (ap (λ l. begins (is_byte 0x5B) (drop 1 l)) k.1 ∙ named_first h k.0 i.0 is k.3)
    ∙ rw (header_complete h c i.0 is i.1) (rw (blank_ends b i.0 d blank i.2 e) refl)

array_table_line_complete : (ws : Piece) (h : Header) (b : Blank) (c d : Cursor) → IsHeader h → IsBlank b → Spans (array_header_parts h ++ blank_parts b) c d → StopsLine d.rest → header_line_at ws c ≡ Some (ArrayTableLine ws h b, d)
unfolding header_line_at
array_table_line_complete ws h b c d is blank s e =
    let i = spans_split (array_header_parts h) (blank_parts b) c d s in
    let k = symbol_ahead 0x5B (header_parts h ++ symbol (0x5D ∷ []) ∷ []) c i.0 i.1 in
    let j = spans_split (header_parts h) (symbol (0x5D ∷ []) ∷ []) k.0 i.0 k.3 in
    let l = symbol_ahead 0x5B (named_parts h) k.0 j.0 j.1 in
    cond-true _ _ _ (ap (λ l. begins (is_byte 0x5B) (drop 1 l)) k.1 ∙ ap (begins (is_byte 0x5B)) l.1)
    ∙ rw (array_header_complete h c i.0 is i.1) (rw (blank_ends b i.0 d blank i.2 e) refl)

-- expressions
keyval_line_complete : (p : Profile) (ws : Piece) (k : KeyVal) (b : Blank) (c d : Cursor) → IsKeyVal k → IsValueOfProfile p k.value → IsBlank b → Spans (keyval_parts k ++ blank_parts b) c d → StopsLine d.rest → keyval_line_at p ws c ≡ Some (KeyValLine ws k b, d)
unfolding keyval_line_at
keyval_line_complete p ws k b c d h plain blank s e =
    let i = spans_split (keyval_parts k) (blank_parts b) c d s in
    ap (λ o. o >>= λ r. let x = blank_at r.1 in Some (KeyValLine ws r.0 x.0, x.1)) (keyval_complete k p max_depth c i.0 h.0 h.1 h.2 plain i.1 (blank_closes b i.0 d blank i.2 e))
    ∙ rw (blank_ends b i.0 d blank i.2 e) refl

newline_no_bracket : (b : ℕ) → is_newline_byte b ≡ true → is_byte 0x5B b ≡ false
newline_no_bracket b h = grind (arith, nat_tests)

-- a header's line is read where `[` stands behind whitespace
header_line : (p : Profile) (ws : Piece) (ps : List Part) (x : Expr) (c m d : Cursor) → IsWs ws.text → Spans (piece ws ∷ []) c m → Spans (symbol (0x5B ∷ []) ∷ ps) m d → header_line_at ws m ≡ Some (x, d) → expr_at p c ≡ Some (x, d)
unfolding expr_at
header_line p ws ps x c m d h s t e =
    let k = symbol_ahead 0x5B ps m d t in
    rw (run_complete is_ws ws c m h s (ap (begins is_ws) k.1))
    (cond-false _ _ _ (ap (begins is_key_start) k.1) ∙ cond-true _ _ _ (ap (begins (is_byte 0x5B)) k.1) ∙ e)

pub expr_complete : (p : Profile) (x : Expr) (c d : Cursor) → IsExpr x → IsExprOfProfile p x → Spans (expr_parts x) c d → StopsLine d.rest → expr_at p c ≡ Some (x, d)
unfolding expr_at
expr_complete p (BlankLine b) c d h plain s e =
    let i = spans_split (piece b.ws ∷ []) (comment_parts b.comment) c d s in
    let r = run_complete is_ws b.ws c i.0 h.0 i.1 (comment_first is_ws b.comment i.0 d refl h.1 i.2 (line_stop is_ws d.rest newline_not_ws e)) in
    let no_key = comment_first is_key_start b.comment i.0 d refl h.1 i.2 (line_stop is_key_start d.rest newline_not_start e) in
    let no_header = comment_first (is_byte 0x5B) b.comment i.0 d refl h.1 i.2 (line_stop (is_byte 0x5B) d.rest newline_no_bracket e) in
    rw r (cond-false _ _ _ no_key ∙ cond-false _ _ _ no_header ∙ rw (comment_complete b.comment i.0 d h.1 i.2 (line_stops_comment b.comment d.rest e)) refl)
expr_complete p (KeyValLine ws k b) c d h plain s e =
    let i = spans_split (piece ws ∷ []) (keyval_parts k ++ blank_parts b) c d s in
    let j = spans_split (keyval_parts k) (blank_parts b) i.0 d i.2 in
    let at_key : begins is_key_start i.0.rest ≡ true = keyval_first k i.0 j.0 h.1.0 j.1 in
    rw (run_complete is_ws ws c i.0 h.0 i.1 (begins_other is_key_start is_ws i.0.rest start_not_ws at_key))
    (cond-true _ _ _ at_key ∙ keyval_line_complete p ws k b i.0 d h.1 plain h.2 i.2 e)
expr_complete p (TableLine ws t b) c d h plain s e =
    let i = spans_split (piece ws ∷ []) (header_parts t ++ blank_parts b) c d s in
    header_line p ws (named_parts t ++ blank_parts b) (TableLine ws t b) c i.0 d h.0 i.1 i.2 (table_line_complete ws t b i.0 d h.1 h.2 i.2 e)
expr_complete p (ArrayTableLine ws t b) c d h plain s e =
    let i = spans_split (piece ws ∷ []) (array_header_parts t ++ blank_parts b) c d s in
    header_line p ws ((header_parts t ++ symbol (0x5D ∷ []) ∷ []) ++ blank_parts b) (ArrayTableLine ws t b) c i.0 d h.0 i.1 i.2 (array_table_line_complete ws t b i.0 d h.1 h.2 i.2 e)

-- lines
line_next : (p : Profile) (l : Line) (c d : Cursor) → IsEndedLine p l → Spans (line_parts l) c d → line_step p c ≡ Some (Next l, d)
unfolding line_step
line_next p l c d h s =
    let i = spans_split (expr_parts l.expr) (piece l.newline ∷ []) c d s in
    let n = newline_front l.newline i.0 d h.1 i.2 in
    let r = expr_complete p l.expr c i.0 h.0 h.2 i.1 (newline_stops l.newline i.0 d h.1 i.2) in
    let q = piece_here l.newline i.0 d (newline_len i.0.rest) i.2 n.0 in
    rw r (cond-false _ _ _ (positive (newline_len i.0.rest) (omega (arith, n.0, n.1))) ∙ (λ t. Some (Next (record { expr = l.expr; newline = q.0 t }), q.1 t)))

line_last : (p : Profile) (l : Line) (c d : Cursor) → IsExpr l.expr → IsExprOfProfile p l.expr → l.newline.text ≡ [] → Spans (line_parts l) c d → d.rest ≡ [] → line_step p c ≡ Some (Done l, d)
unfolding line_step
line_last p l c d h plain empty s e =
    let i = spans_split (expr_parts l.expr) (piece l.newline ∷ []) c d s in
    let none : i.0.rest ≡ [] = rest_of (piece l.newline) i.0 d i.2 ∙ (λ t. empty t ++ e t) in
    let r = expr_complete p l.expr c i.0 h plain i.1 (inl none) in
    let zero_len : newline_len i.0.rest ≡ 0 = ap newline_len none in
    let q = piece_here l.newline i.0 d (newline_len i.0.rest) i.2 (zero_len ∙ sym (ap length empty)) in
    rw r (cond-true _ _ _ (ap (λ n. eqb n 0) zero_len) ∙ cond-true _ _ _ (ap (λ l. eqb (length l) 0) none) ∙ (λ t. Some (Done (record { expr = l.expr; newline = q.0 t }), q.1 t)))

line_grows : (p : Profile) (l : Line) (c d : Cursor) → IsEndedLine p l → Spans (line_parts l) c d → length d.rest < length c.rest
line_grows p l c d h s =
    let i = spans_split (expr_parts l.expr) (piece l.newline ∷ []) c d s in
    let n = newline_front l.newline i.0 d h.1 i.2 in
    omega (arith, spans_length (expr_parts l.expr) c i.0 i.1, ap length (rest_of (piece l.newline) i.0 d i.2), length-append l.newline.text d.rest, n.1)

-- the lines that a newline ends, and the last
abbrev Unended : Profile → List Line → Type 0
Unended p ls = (front : List Line) × (l : Line) × (ls ≡ front ++ l ∷ []) × EachIs (IsEndedLine p) front × IsExpr l.expr × (l.newline.text ≡ []) × IsExprOfProfile p l.expr

unended : (p : Profile) (ls : List Line) → AreLines ls → AreLinesOfProfile p ls → Unended p ls
unended p [] h plain = absurd h
unended p (l ∷ []) h plain = ([], l, refl, tt, h.0, h.1, asked p (λ k. k.0) plain)
unended p (l ∷ m ∷ ls) h plain =
    let k = unended p (m ∷ ls) h.2 (asked p (λ q. q.1) plain) in
    (l ∷ k.0, k.1, ap (λ x. l ∷ x) k.2, ((h.0, h.1, asked p (λ q. q.0) plain), k.3), k.4, k.5, k.6)

pub lines_complete : (p : Profile) (ls : List Line) (c d : Cursor) → AreLinesOf p ls → Spans (lines_parts ls) c d → d.rest ≡ [] → lines_at p c ≡ Some (ls, d)
unfolding lines_at
lines_complete p ls c d h s e =
    let k = unended p ls h.0 h.1 in
    let i = spans_split (all_parts line_parts k.0) (line_parts k.1) c d (subst (λ ps. Spans ps c d) (ap lines_parts k.2 ∙ all_parts_push line_parts k.0 k.1) s) in
    let all : all_of (line_step p) c ≡ Some (k.0, k.1, d) = many_complete (IsEndedLine p) line_parts (line_step p) (line_next p) k.0 k.1 c i.0 d (length c.rest + 1) k.3 i.1 (line_last p k.1 i.0 d k.4 k.6 k.5 i.2 e) (omega (arith, as_long (IsEndedLine p) line_parts (line_grows p) k.0 c i.0 k.3 i.1)) in
    rw all (ap (λ x. Some (x, d)) (sym k.2))
