-- What is in the forms and followed by what may follow it, the plain reader reads: pieces, what closes, loops and keys.
use Rattle.std.proofs.Common.{◌≡◌, ℕ, zero, suc, ◌+◌, ◌<◌, ◌≤◌, Bool, true, false, ◌||◌, eqb, eq-eqb, ◌==◌, length-append, List, [], ◌∷◌, ◌++◌, length, Option, Some, None, sym, refl, ap, ◌∙◌, subst, arith, ⊎_elim, ◌⊎◌, inl, inr}
use Rattle.std.proofs.lemmas.Bool.{eqb-true, ne_eqb, cond-true, cond-false}
use Rattle.std.proofs.lemmas.Bool.Decides.{nat_tests}
use Rattle.toml_text.specs.Bytes.{is_ws, is_comment}
use Rattle.toml_text.specs.Forms.{Each, IsWs, IsNewline, IsComment}
use Rattle.toml_text.specs.Runs.{run_len, begins, is_byte, newline_len, comment_len}
use Rattle.toml_text.proofs.Proved.{run_found, newline_found, comment_found, begins_other}
use Rattle.toml_scalar.proofs.Proved.{part_complete, part_first}
use Rattle.toml_scalar.specs.Names.{IsKeyPart}
use Rattle.toml_scalar.specs.Scanning.{key_part_len, is_key_start}
use Rattle.toml_scalar.specs.Tokens.{Closes}
use Rattle.toml_tree.specs.Tree.{Piece, Blank, Dotted, Key, Assign}
use Rattle.toml_tree.specs.Spells.{Part, piece, symbol, part_text, joined, EachIs, all_parts, comment_parts, blank_parts, dotted_parts, key_parts, equals_parts, assign_parts, IsCommentOrNone, IsBlank, IsDotted, IsKey, IsAssign}
use Rattle.toml_tree.specs.Reading.{Cursor, here, ahead, many, run_at, comment_at, blank_at, part_at, dotted_step, dotted_at, key_at, equals_at, assign_at}
use Rattle.toml_tree.specs.declared.step.Step.{Step}
use Rattle.toml_tree.specs.declared.step.Step.TheVariants.{Next, Done}
use Rattle.toml_tree.proofs.Spans.{Behind, Spans, spans_split, spans_joined, behind_ahead, behind_take}

-- a piece, where its length is known
pub piece_here : (t : Piece) (c d : Cursor) (n : ℕ) → Spans (piece t ∷ []) c d → n ≡ length t.text → (here n c ≡ t) × (ahead n c ≡ d)
piece_here t c d n s e =
    let b : Behind t.text c d = subst (λ x. Behind t.text c x) s.3 s.2 in
    (rw e (λ i. record { start = sym s.1 i; text = behind_take t.text c d b i }), rw e (sym (behind_ahead t.text c d b)))

behind_of : (p : Part) (c d : Cursor) → Spans (p ∷ []) c d → Behind (part_text p) c d
behind_of p c d s = subst (λ x. Behind (part_text p) c x) s.3 s.2

-- what stands in front
pub rest_of : (p : Part) (c d : Cursor) → Spans (p ∷ []) c d → c.rest ≡ part_text p ++ d.rest
rest_of p c d s = (behind_of p c d s).rest

-- a symbol at the end
pub symbol_begins : (b : ℕ) (c d : Cursor) → Spans (symbol (b ∷ []) ∷ []) c d → (c.rest ≡ b ∷ d.rest) × (ahead 1 c ≡ d)
symbol_begins b c d s = let k = behind_of (symbol (b ∷ [])) c d s in (k.rest, sym (behind_ahead (b ∷ []) c d k))

-- a symbol, and the parts behind it
pub symbol_ahead : (b : ℕ) (ps : List Part) (c d : Cursor) → Spans (symbol (b ∷ []) ∷ ps) c d → (m : Cursor) × (c.rest ≡ b ∷ m.rest) × (ahead 1 c ≡ m) × Spans ps m d
symbol_ahead b ps c d s = (s.0, s.2.rest, sym (behind_ahead (b ∷ []) c s.0 s.2), s.3)

-- how long the parts are
pub spans_length : (ps : List Part) (c d : Cursor) → Spans ps c d → length c.rest ≡ length (joined ps) + length d.rest
spans_length ps c d s = ap length (spans_joined ps c d s).rest ∙ length-append (joined ps) d.rest

-- runs
pub run_complete : (p : ℕ → Bool) (t : Piece) (c d : Cursor) → Each p t.text → Spans (piece t ∷ []) c d → begins p d.rest ≡ false → run_at p c ≡ (t, d)
unfolding run_at
run_complete p t c d h s e =
    let k = piece_here t c d (run_len p c.rest) s (ap (run_len p) (rest_of (piece t) c d s) ∙ run_found p t.text d.rest h e) in
    λ i. (k.0 i, k.1 i)

pub each_first : (p q : ℕ → Bool) (xs ys : List ℕ) → Each p xs → ((b : ℕ) → p b ≡ true → q b ≡ false) → begins q ys ≡ false → begins q (xs ++ ys) ≡ false
each_first p q [] ys h k e = e
each_first p q (x ∷ xs) ys h k e = k x h.0

pub positive : (n : ℕ) → 0 < n → eqb n 0 ≡ false
positive n h = ne_eqb n 0 (λ e. omega arith)

-- a comment or none, and what may follow it
abbrev pub StopsComment : Option Piece → List ℕ → Type 0
StopsComment None bs = begins (is_byte 0x23) bs ≡ false
StopsComment (Some p) bs = begins is_comment bs ≡ false

comment_absent : (bs : List ℕ) → begins (is_byte 0x23) bs ≡ false → comment_len bs ≡ 0
comment_absent [] e = refl
comment_absent (b ∷ bs) e = cond-false _ _ _ e

comment_begins : (bs ys : List ℕ) → IsComment bs → (begins (is_byte 0x23) (bs ++ ys) ≡ true) × (0 < length bs)
comment_begins [] ys h = absurd h
comment_begins (b ∷ bs) ys h = (eq-eqb b 0x23 h.0, omega arith)

pub comment_complete : (o : Option Piece) (c d : Cursor) → IsCommentOrNone o → Spans (comment_parts o) c d → StopsComment o d.rest → comment_at c ≡ (o, d)
unfolding comment_at
comment_complete None c d h s e =
    let none : comment_len c.rest ≡ 0 = comment_absent c.rest (ap (λ x. begins (is_byte 0x23) x.rest) s ∙ e) in
    cond-true _ _ _ (ap (λ n. eqb n 0) none) ∙ (λ i. (None, s i))
comment_complete (Some p) c d h s e =
    let found : comment_len c.rest ≡ length p.text = ap comment_len (rest_of (piece p) c d s) ∙ comment_found p.text d.rest h e in
    let k = piece_here p c d (comment_len c.rest) s found in
    cond-false _ _ _ (positive (comment_len c.rest) (omega (arith, found, comment_begins p.text [] h))) ∙ (λ i. (Some (k.0 i), k.1 i))

-- what stands in front of a comment or none
pub comment_first : (q : ℕ → Bool) (o : Option Piece) (c d : Cursor) → q 0x23 ≡ false → IsCommentOrNone o → Spans (comment_parts o) c d → begins q d.rest ≡ false → begins q c.rest ≡ false
comment_first q None c d hash h s e = subst (λ x. begins q x.rest ≡ false) (sym s) e
comment_first q (Some p) c d hash h s e = begins_other (is_byte 0x23) q c.rest (λ b e. rw (eqb-true b 0x23 e) hash) (ap (begins (is_byte 0x23)) (rest_of (piece p) c d s) ∙ (comment_begins p.text d.rest h).0)

pub blank_complete : (b : Blank) (c d : Cursor) → IsBlank b → Spans (blank_parts b) c d → begins is_ws d.rest ≡ false → StopsComment b.comment d.rest → blank_at c ≡ (b, d)
unfolding blank_at
blank_complete b c d h s ws e =
    let k = spans_split (piece b.ws ∷ []) (comment_parts b.comment) c d s in
    let r = run_complete is_ws b.ws c k.0 h.0 k.1 (comment_first is_ws b.comment k.0 d refl h.1 k.2 ws) in
    let m = comment_complete b.comment k.0 d h.1 k.2 e in
    rw r (λ i. (record { ws = b.ws; comment = (m i).0 }, (m i).1))

pub blank_first : (q : ℕ → Bool) (b : Blank) (c d : Cursor) → ((x : ℕ) → is_ws x ≡ true → q x ≡ false) → q 0x23 ≡ false → IsBlank b → Spans (blank_parts b) c d → begins q d.rest ≡ false → begins q c.rest ≡ false
blank_first q b c d ws hash h s e =
    let k = spans_split (piece b.ws ∷ []) (comment_parts b.comment) c d s in
    ap (begins q) (rest_of (piece b.ws) c k.0 k.1) ∙ each_first is_ws q b.ws.text k.0.rest h.0 ws (comment_first q b.comment k.0 d hash h.1 k.2 e)

-- newlines
abbrev pub is_newline_byte : ℕ → Bool
is_newline_byte b = b == 0x0A || b == 0x0D

pub newline_front : (t : Piece) (c d : Cursor) → IsNewline t.text → Spans (piece t ∷ []) c d → (newline_len c.rest ≡ length t.text) × (0 < length t.text) × (begins is_newline_byte c.rest ≡ true)
newline_front t c d h s =
    let found : newline_len c.rest ≡ length t.text = ap newline_len (rest_of (piece t) c d s) ∙ newline_found t.text d.rest h in
    ⊎_elim
    (λ (e : t.text ≡ 0x0A ∷ []). (found, omega (arith, ap length e), ap (begins is_newline_byte) (rest_of (piece t) c d s ∙ ap (λ l. l ++ d.rest) e)))
    (λ (e : t.text ≡ 0x0D ∷ 0x0A ∷ []). (found, omega (arith, ap length e), ap (begins is_newline_byte) (rest_of (piece t) c d s ∙ ap (λ l. l ++ d.rest) e)))
    h

-- what may follow a line: a newline, or nothing
abbrev pub StopsLine : List ℕ → Type 0
StopsLine bs = (bs ≡ []) ⊎ ((begins is_newline_byte bs ≡ true) × Closes bs)

pub line_stop : (q : ℕ → Bool) (bs : List ℕ) → ((b : ℕ) → is_newline_byte b ≡ true → q b ≡ false) → StopsLine bs → begins q bs ≡ false
line_stop q bs h (inl e) = ap (begins q) e
line_stop q bs h (inr e) = begins_other is_newline_byte q bs h e.0

pub line_stops_comment : (o : Option Piece) (bs : List ℕ) → StopsLine bs → StopsComment o bs
line_stops_comment None bs e = line_stop (is_byte 0x23) bs (λ b h. grind (arith, nat_tests)) e
line_stops_comment (Some p) bs e = line_stop is_comment bs (λ b h. grind (arith, nat_tests)) e

pub newline_not_ws : (x : ℕ) → is_newline_byte x ≡ true → is_ws x ≡ false
newline_not_ws x h = grind (arith, nat_tests)

pub newline_not_start : (x : ℕ) → is_newline_byte x ≡ true → is_key_start x ≡ false
newline_not_start x h = grind (arith, nat_tests)

pub blank_ends : (b : Blank) (c d : Cursor) → IsBlank b → Spans (blank_parts b) c d → StopsLine d.rest → blank_at c ≡ (b, d)
blank_ends b c d h s e = blank_complete b c d h s (line_stop is_ws d.rest newline_not_ws e) (line_stops_comment b.comment d.rest e)

-- whitespace before what closes
pub ws_closes : (ws rest : List ℕ) → IsWs ws → Closes rest → Closes (ws ++ rest)
ws_closes [] rest h closes = closes
ws_closes (b ∷ ws) rest h closes = inl (h.0, ws_closes ws rest h.1 closes)

-- a comment or none before the end of a line closes
comment_closes : (o : Option Piece) (c d : Cursor) → IsCommentOrNone o → Spans (comment_parts o) c d → StopsLine d.rest → Closes c.rest
comment_closes None c d h s e = subst (λ x. Closes x.rest) (sym s) (⊎_elim (λ (none : d.rest ≡ []). subst Closes (sym none) tt) (λ (k : (begins is_newline_byte d.rest ≡ true) × Closes d.rest). k.1) e)
comment_closes (Some p) c d h s e = subst Closes (sym (rest_of (piece p) c d s)) (closes p.text h)
  where
    closes : (bs : List ℕ) → IsComment bs → Closes (bs ++ d.rest)
    closes [] h = absurd h
    closes (b ∷ bs) h = inr (inr (inr (inl h.0)))

pub blank_closes : (b : Blank) (c d : Cursor) → IsBlank b → Spans (blank_parts b) c d → StopsLine d.rest → Closes c.rest
blank_closes b c d h s e =
    let k = spans_split (piece b.ws ∷ []) (comment_parts b.comment) c d s in
    subst Closes (sym (rest_of (piece b.ws) c k.0 k.1)) (ws_closes b.ws.text k.0.rest h.0 (comment_closes b.comment k.0 d h.1 k.2 e))

newline_closes : (t : Piece) (c d : Cursor) → IsNewline t.text → Spans (piece t ∷ []) c d → Closes c.rest
newline_closes t c d h s = ⊎_elim
    (λ (e : t.text ≡ 0x0A ∷ []). subst Closes (sym (rest_of (piece t) c d s ∙ ap (λ l. l ++ d.rest) e)) (inr (inl refl)))
    (λ (e : t.text ≡ 0x0D ∷ 0x0A ∷ []). subst Closes (sym (rest_of (piece t) c d s ∙ ap (λ l. l ++ d.rest) e)) (inr (inr (inl (refl, (d.rest, refl))))))
    h

pub newline_stops : (t : Piece) (c d : Cursor) → IsNewline t.text → Spans (piece t ∷ []) c d → StopsLine c.rest
newline_stops t c d h s = inr ((newline_front t c d h s).2, newline_closes t c d h s)

-- whitespace and symbols
-- what a symbol follows: what is read up to there, and the parts behind it
pub record UpTo (b : ℕ) (ps : List Part) (Read : Cursor → Type 0) (c d : Cursor) : Type 0 where
  pub before : Cursor
  pub behind : Cursor
  pub read : Read before
  pub first : before.rest ≡ b ∷ behind.rest
  pub step : ahead 1 before ≡ behind
  pub rest : Spans ps behind d
  pub shorter : length behind.rest < length c.rest

pub ws_symbol : (b : ℕ) (w : Piece) (ps : List Part) (c d : Cursor) → is_ws b ≡ false → IsWs w.text → Spans (piece w ∷ symbol (b ∷ []) ∷ ps) c d → UpTo b ps (λ m. run_at is_ws c ≡ (w, m)) c d
ws_symbol b w ps c d other h s =
    let i = spans_split (piece w ∷ []) (symbol (b ∷ []) ∷ ps) c d s in
    let j = symbol_ahead b ps i.0 d i.2 in
    record {
      before = i.0;
      behind = j.0;
      read = run_complete is_ws w c i.0 h i.1 (ap (begins is_ws) j.1 ∙ other);
      first = j.1;
      step = j.2;
      rest = j.3;
      shorter = omega (arith, spans_length (piece w ∷ []) c i.0 i.1, ap length j.1);
    }

-- what stands in front of whitespace and a symbol
pub before_symbol : (q : ℕ → Bool) (b : ℕ) (w : Piece) (ps : List Part) (c d : Cursor) → ((x : ℕ) → is_ws x ≡ true → q x ≡ false) → q b ≡ false → IsWs w.text → Spans (piece w ∷ symbol (b ∷ []) ∷ ps) c d → begins q c.rest ≡ false
before_symbol q b w ps c d apart other h s =
    let i = spans_split (piece w ∷ []) (symbol (b ∷ []) ∷ ps) c d s in
    ap (begins q) (rest_of (piece w) c i.0 i.1) ∙ each_first is_ws q w.text i.0.rest h apart (ap (begins q) (symbol_ahead b ps i.0 d i.2).1 ∙ other)

-- loops
module _ {A B : Type 0} (P : A → Type 0) (f : A → List Part) (step : Cursor → Option (Step A B × Cursor)) (next : (a : A) (c d : Cursor) → P a → Spans (f a) c d → step c ≡ Some (Next a, d)) where
  pub many_complete : (xs : List A) (b : B) (c m d : Cursor) (fuel : ℕ) → EachIs P xs → Spans (all_parts f xs) c m → step m ≡ Some (Done b, d) → length xs < fuel → many step fuel c ≡ Some (xs, b, d)
  many_complete xs b c m d zero h s e l = absurd (omega arith)
  many_complete [] b c m d (suc fuel) h s e l = rw (ap step s ∙ e) refl
  many_complete (a ∷ xs) b c m d (suc fuel) h s e l =
      let k = spans_split (f a) (all_parts f xs) c m s in
      rw (next a c k.0 h.0 k.1, many_complete xs b k.0 m d fuel h.1 k.2 e (omega arith)) refl

module _ {A : Type 0} (P : A → Type 0) (f : A → List Part) (grows : (a : A) (c d : Cursor) → P a → Spans (f a) c d → length d.rest < length c.rest) where
  pub as_long : (xs : List A) (c d : Cursor) → EachIs P xs → Spans (all_parts f xs) c d → length xs + length d.rest ≤ length c.rest
  as_long [] c d h s = omega (arith, ap (λ x. length x.rest) s)
  as_long (a ∷ xs) c d h s =
      let k = spans_split (f a) (all_parts f xs) c d s in
      omega (arith, as_long xs k.0 d h.1 k.2, grows a c k.0 h.0 k.1)

-- keys
part_complete_at : (p : Piece) (c d : Cursor) → IsKeyPart p.text → Spans (piece p ∷ []) c d → begins is_key_start d.rest ≡ false → part_at c ≡ Some (p, d)
unfolding part_at
part_complete_at p c d h s e =
    let found : key_part_len c.rest ≡ Some (length p.text) = ap key_part_len (rest_of (piece p) c d s) ∙ part_complete p.text d.rest h e in
    let q = piece_here p c d (length p.text) s refl in
    rw found (λ i. Some (q.0 i, q.1 i))

part_first_at : (p : Piece) (c d : Cursor) → IsKeyPart p.text → Spans (piece p ∷ []) c d → begins is_key_start c.rest ≡ true
part_first_at p c d h s = ap (begins is_key_start) (rest_of (piece p) c d s) ∙ part_first p.text d.rest h

pub start_not_ws : (x : ℕ) → is_key_start x ≡ true → is_ws x ≡ false
start_not_ws x h = grind (arith, nat_tests)

pub ws_not_start : (x : ℕ) → is_ws x ≡ true → is_key_start x ≡ false
ws_not_start x h = grind (arith, nat_tests)

-- what stands in front of the parts of a key behind its first
dotted_first : (q : ℕ → Bool) (ds : List Dotted) (c d : Cursor) → ((x : ℕ) → is_ws x ≡ true → q x ≡ false) → q 0x2E ≡ false → EachIs IsDotted ds → Spans (all_parts dotted_parts ds) c d → begins q d.rest ≡ false → begins q c.rest ≡ false
dotted_first q [] c d apart dot h s e = subst (λ x. begins q x.rest ≡ false) (sym s) e
dotted_first q (x ∷ xs) c d apart dot h s e =
    let i = spans_split (dotted_parts x) (all_parts dotted_parts xs) c d s in
    before_symbol q 0x2E x.before_dot (piece x.after_dot ∷ piece x.part ∷ []) c i.0 apart dot h.0.0 i.1

-- behind the key comes no dot, with or without whitespace before it
abbrev EndsKey : Cursor → Type 0
EndsKey d = (begins is_key_start d.rest ≡ false) × (begins (is_byte 0x2E) (run_at is_ws d).1.rest ≡ false)

dotted_next : (x : Dotted) (c d : Cursor) → IsDotted x → Spans (dotted_parts x) c d → begins is_key_start d.rest ≡ false → dotted_step c ≡ Some (Next x, d)
unfolding dotted_step
dotted_next x c d h s e =
    let dot = ws_symbol 0x2E x.before_dot (piece x.after_dot ∷ piece x.part ∷ []) c d refl h.0 s in
    let k = spans_split (piece x.after_dot ∷ []) (piece x.part ∷ []) dot.behind d dot.rest in
    let after = run_complete is_ws x.after_dot dot.behind k.0 h.1 k.1 (begins_other is_key_start is_ws k.0.rest start_not_ws (part_first_at x.part k.0 d h.2 k.2)) in
    let part = part_complete_at x.part k.0 d h.2 k.2 e in
    rw dot.read (cond-true _ _ _ (ap (begins (is_byte 0x2E)) dot.first) ∙ rw dot.step (rw after (rw part refl)))

dotted_done : (d : Cursor) → EndsKey d → dotted_step d ≡ Some (Done tt, d)
unfolding dotted_step
dotted_done d e = cond-false _ _ _ e.1

dotted_grows : (x : Dotted) (c d : Cursor) → IsDotted x → Spans (dotted_parts x) c d → length d.rest < length c.rest
dotted_grows x c d h s =
    let dot = ws_symbol 0x2E x.before_dot (piece x.after_dot ∷ piece x.part ∷ []) c d refl h.0 s in
    omega (arith, dot.shorter, spans_length (piece x.after_dot ∷ piece x.part ∷ []) dot.behind d dot.rest)

-- each part is followed by the next one's whitespace and dot, or by what ends the key
dotted_many : (xs : List Dotted) (c d : Cursor) (fuel : ℕ) → EachIs IsDotted xs → Spans (all_parts dotted_parts xs) c d → EndsKey d → length xs < fuel → many dotted_step fuel c ≡ Some (xs, tt, d)
dotted_many xs c d zero h s e l = absurd (omega arith)
dotted_many [] c d (suc fuel) h s e l = rw (ap dotted_step s ∙ dotted_done d e) refl
dotted_many (x ∷ xs) c d (suc fuel) h s e l =
    let k = spans_split (dotted_parts x) (all_parts dotted_parts xs) c d s in
    let behind = dotted_first is_key_start xs k.0 d ws_not_start refl h.1 k.2 e.0 in
    rw (dotted_next x c k.0 h.0 k.1 behind, dotted_many xs k.0 d fuel h.1 k.2 e (omega arith)) refl

pub key_complete : (k : Key) (c d : Cursor) → IsKey k → Spans (key_parts k) c d → EndsKey d → key_at c ≡ Some (k, d)
unfolding key_at dotted_at
key_complete k c d h s e =
    let i = spans_split (piece k.first ∷ []) (all_parts dotted_parts k.rest) c d s in
    let r1 = part_complete_at k.first c i.0 h.0 i.1 (dotted_first is_key_start k.rest i.0 d ws_not_start refl h.1 i.2 e.0) in
    let r2 = dotted_many k.rest i.0 d (length i.0.rest + 1) h.1 i.2 e (omega (arith, as_long IsDotted dotted_parts dotted_grows k.rest i.0 d h.1 i.2)) in
    rw r1 (rw r2 refl)

pub key_first : (k : Key) (c d : Cursor) → IsKey k → Spans (key_parts k) c d → begins is_key_start c.rest ≡ true
key_first k c d h s =
    let i = spans_split (piece k.first ∷ []) (all_parts dotted_parts k.rest) c d s in
    part_first_at k.first c i.0 h.0 i.1

equals_complete : (b a : Piece) (c d : Cursor) → IsWs b.text → IsWs a.text → Spans (piece b ∷ symbol (0x3D ∷ []) ∷ piece a ∷ []) c d → begins is_ws d.rest ≡ false → equals_at c ≡ Some ((b, a), d)
unfolding equals_at
equals_complete b a c d hb ha s e =
    let equals = ws_symbol 0x3D b (piece a ∷ []) c d refl hb s in
    let after = run_complete is_ws a equals.behind d ha equals.rest e in
    rw equals.read (cond-true _ _ _ (ap (begins (is_byte 0x3D)) equals.first) ∙ rw equals.step (rw after refl))

-- whitespace and a symbol end a key
pub symbol_ends : (b : ℕ) (w : Piece) (ps : List Part) (c d : Cursor) → is_ws b ≡ false → is_key_start b ≡ false → is_byte 0x2E b ≡ false → IsWs w.text → Spans (piece w ∷ symbol (b ∷ []) ∷ ps) c d → EndsKey c
symbol_ends b w ps c d no_ws no_start no_dot h s =
    let k = ws_symbol b w ps c d no_ws h s in
    (before_symbol is_key_start b w ps c d ws_not_start no_start h s, ap (λ x. begins (is_byte 0x2E) x.1.rest) k.read ∙ ap (begins (is_byte 0x2E)) k.first ∙ no_dot)

pub assign_complete : (a : Assign) (c d : Cursor) → IsAssign a → Spans (assign_parts a) c d → begins is_ws d.rest ≡ false → assign_at c ≡ Some (a, d)
unfolding assign_at
assign_complete a c d h s e =
    let i = spans_split (key_parts a.key) (equals_parts a.before_equals a.after_equals) c d s in
    let r1 = key_complete a.key c i.0 h.0 i.1 (symbol_ends 0x3D a.before_equals (piece a.after_equals ∷ []) i.0 d refl refl refl h.1 i.2) in
    let r2 = equals_complete a.before_equals a.after_equals i.0 d h.1 h.2 i.2 e in
    rw r1 (rw r2 refl)

pub assign_first : (a : Assign) (c d : Cursor) → IsAssign a → Spans (assign_parts a) c d → begins is_key_start c.rest ≡ true
assign_first a c d h s =
    let i = spans_split (key_parts a.key) (equals_parts a.before_equals a.after_equals) c d s in
    key_first a.key c i.0 h.0 i.1
