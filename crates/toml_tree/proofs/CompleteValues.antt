-- What is in the forms and followed by what may follow it, the plain reader reads: gaps, arrays, inline tables and values.
use Rattle.std.proofs.Common.{◌≡◌, ℕ, zero, suc, ◌+◌, ◌-◌, ◌<◌, ◌≤◌, Bool, true, false, ◌||◌, ◌==◌, length-append, List, [], ◌∷◌, ◌++◌, length, take, Option, Some, None, sym, refl, ap, ◌∙◌, subst, arith, append_assoc, inl, inr}
use Rattle.std.proofs.lemmas.Bool.{or_parts, or_left, and_left, cond-true, cond-false}
use Rattle.std.proofs.lemmas.Bool.Decides.{nat_tests}
use Rattle.toml_text.specs.Bytes.{is_ws}
use Rattle.toml_text.specs.Forms.{IsWs}
use Rattle.toml_text.specs.Runs.{begins, is_byte, newline_len}
use Rattle.toml_scalar.specs.Scanning.{scan_at, is_key_start, is_scalar_start}
use Rattle.toml_scalar.specs.Tokens.{IsToken, Closes}
use Rattle.toml_scalar.specs.declared.kind.ScalarKind.{ScalarKind}
use Rattle.toml_text.proofs.Proved.{begins_other, begins_more}
use Rattle.toml_scalar.proofs.Proved.{scan_complete, token_first}
use Rattle.toml_tree.specs.Tree.{Piece, Blank, Assign, GapLine, Gap, Value, Scalar, Array, Inline, Items, Close, Last, More, Pairs, ClosePairs, LastPair, MorePairs, KeyVal}
use Rattle.toml_tree.specs.Profiles.{IsPlainGap, ItemsHavePlainTables, ArePlainPairs, Asks, IsValueOfProfile}
use Rattle.toml_tree.specs.Spells.{Part, piece, symbol, begin, joined, EachIs, all_parts, blank_parts, gap_line_parts, gap_parts, assign_parts, value_parts, items_parts, pairs_parts, keyval_parts, IsGapLine, IsGap, IsAssign, IsValue, AreItems, ArePairs, depth, items_depth, pairs_depth}
use Rattle.toml_tree.specs.Reading.{Cursor, ahead, up_to, many}
use Rattle.toml_tree.specs.ReadingValues.{scalar_at, gap_step, gap_at, Element, before_end, after_element, item_step, items_at, array_at, keyval_at, Member, pairs_before_end, pair_gap_at, after_member, pair_at, pair_step, pairs_at, may_end, inline_at, value_at}
use Rattle.toml_tree.specs.declared.profile.Profile.{Profile}
use Rattle.toml_tree.specs.declared.profile.Profile.TheVariants.{One, Two}
use Rattle.toml_tree.specs.declared.step.Step.TheVariants.{Next, Done}
use Rattle.toml_tree.proofs.Profiled.{asked, may_end_so}
use Rattle.toml_tree.proofs.Spans.{Spans, spans_split, spans_joined, behind_take}
use Rattle.toml_tree.proofs.Complete.{piece_here, rest_of, symbol_begins, symbol_ahead, spans_length, run_complete, each_first, positive, blank_complete, blank_first, is_newline_byte, newline_front, newline_stops, blank_ends, ws_closes, blank_closes, UpTo, many_complete, as_long, assign_complete, assign_first}

-- gaps
abbrev pub is_gap_byte : ℕ → Bool
is_gap_byte b = is_ws b || b == 0x23 || b == 0x0A || b == 0x0D

begins_less : (p q : ℕ → Bool) (bs : List ℕ) → ((b : ℕ) → q b ≡ false → p b ≡ false) → begins q bs ≡ false → begins p bs ≡ false
begins_less p q [] h e = refl
begins_less p q (b ∷ bs) h e = h b e

newline_absent : (bs : List ℕ) → begins is_gap_byte bs ≡ false → newline_len bs ≡ 0
newline_absent [] e = refl
newline_absent (b ∷ bs) e =
    let p = or_parts (is_ws b || b == 0x23 || b == 0x0A) (b == 0x0D) e in
    let o = or_parts (is_ws b || b == 0x23) (b == 0x0A) p.0 in
    cond-false _ _ _ o.1 ∙ cond-false _ _ _ (and_left _ _ p.1)

other_no_ws : (b : ℕ) → is_gap_byte b ≡ false → is_ws b ≡ false
other_no_ws b h = grind (arith, nat_tests)

other_no_hash : (b : ℕ) → is_gap_byte b ≡ false → is_byte 0x23 b ≡ false
other_no_hash b h = grind (arith, nat_tests)

ws_in_gap : (b : ℕ) → is_ws b ≡ true → is_gap_byte b ≡ true
ws_in_gap b h = grind (arith, nat_tests)

newline_in_gap : (b : ℕ) → is_newline_byte b ≡ true → is_gap_byte b ≡ true
newline_in_gap b h = grind (arith, nat_tests)

gap_next : (l : GapLine) (c d : Cursor) → IsGapLine l → Spans (gap_line_parts l) c d → gap_step c ≡ Some (Next l, d)
unfolding gap_step
gap_next l c d h s =
    let k = spans_split (blank_parts l.blank) (piece l.newline ∷ []) c d s in
    let n = newline_front l.newline k.0 d h.1 k.2 in
    let blank = blank_ends l.blank c k.0 h.0 k.1 (newline_stops l.newline k.0 d h.1 k.2) in
    let q = piece_here l.newline k.0 d (newline_len k.0.rest) k.2 n.0 in
    rw blank (cond-false _ _ _ (positive (newline_len k.0.rest) (omega (arith, n.0, n.1))) ∙ (λ i. Some (Next (record { blank = l.blank; newline = q.0 i }), q.1 i)))

gap_done : (w : Piece) (c d : Cursor) → IsWs w.text → Spans (piece w ∷ []) c d → begins is_gap_byte d.rest ≡ false → gap_step c ≡ Some (Done w, d)
unfolding gap_step
gap_done w c d h s e =
    let only : Blank = record { ws = w; comment = None } in
    let blank = blank_complete only c d (h, tt) s (begins_less is_ws is_gap_byte d.rest other_no_ws e) (begins_less (is_byte 0x23) is_gap_byte d.rest other_no_hash e) in
    rw blank (rw (newline_absent d.rest e) refl)

gap_line_grows : (l : GapLine) (c d : Cursor) → IsGapLine l → Spans (gap_line_parts l) c d → length d.rest < length c.rest
gap_line_grows l c d h s =
    let k = spans_split (blank_parts l.blank) (piece l.newline ∷ []) c d s in
    let n = newline_front l.newline k.0 d h.1 k.2 in
    omega (arith, spans_length (blank_parts l.blank) c k.0 k.1, ap length (rest_of (piece l.newline) k.0 d k.2), length-append l.newline.text d.rest, n.1)

pub gap_complete : (g : Gap) (c d : Cursor) → IsGap g → Spans (gap_parts g) c d → begins is_gap_byte d.rest ≡ false → gap_at c ≡ Some (g, d)
unfolding gap_at
gap_complete g c d h s e =
    let k = spans_split (all_parts gap_line_parts g.lines) (piece g.ws ∷ []) c d s in
    rw (many_complete IsGapLine gap_line_parts gap_step gap_next g.lines g.ws c k.0 d (length c.rest + 1) h.0 k.1 (gap_done g.ws k.0 d h.1 k.2 e) (omega (arith, as_long IsGapLine gap_line_parts gap_line_grows g.lines c k.0 h.0 k.1))) refl

-- a gap, by its first line
gap_more : (l : GapLine) (ls : List GapLine) (w : Piece) (c d : Cursor) → Spans (all_parts gap_line_parts (l ∷ ls) ++ piece w ∷ []) c d → (m : Cursor) × Spans (gap_line_parts l) c m × Spans (all_parts gap_line_parts ls ++ piece w ∷ []) m d
gap_more l ls w c d s = spans_split (gap_line_parts l) (all_parts gap_line_parts ls ++ piece w ∷ []) c d (subst (λ ps. Spans ps c d) (append_assoc (gap_line_parts l) (all_parts gap_line_parts ls) (piece w ∷ [])) s)

-- what stands in front of a gap
pub gap_first : (q : ℕ → Bool) (g : Gap) (c d : Cursor) → ((x : ℕ) → is_gap_byte x ≡ true → q x ≡ false) → IsGap g → Spans (gap_parts g) c d → begins q d.rest ≡ false → begins q c.rest ≡ false
gap_first q g c d apart h s e = front g.lines h.0 s
  where
    front : (ls : List GapLine) → EachIs IsGapLine ls → Spans (all_parts gap_line_parts ls ++ piece g.ws ∷ []) c d → begins q c.rest ≡ false
    front [] hs s = ap (begins q) (rest_of (piece g.ws) c d s) ∙ each_first is_ws q g.ws.text d.rest h.1 (λ x k. apart x (ws_in_gap x k)) e
    front (l ∷ ls) hs s =
        let k = gap_more l ls g.ws c d s in
        let j = spans_split (blank_parts l.blank) (piece l.newline ∷ []) c k.0 k.1 in
        let n = newline_front l.newline j.0 k.0 hs.0.1 j.2 in
        blank_first q l.blank c j.0 (λ x k. apart x (ws_in_gap x k)) (apart 0x23 refl) hs.0.0 j.1 (begins_other is_newline_byte q j.0.rest (λ x k. apart x (newline_in_gap x k)) n.2)

-- a gap before what closes
pub gap_closes : (g : Gap) (c d : Cursor) → IsGap g → Spans (gap_parts g) c d → Closes d.rest → Closes c.rest
gap_closes g c d h s closes = front g.lines h.0 s
  where
    front : (ls : List GapLine) → EachIs IsGapLine ls → Spans (all_parts gap_line_parts ls ++ piece g.ws ∷ []) c d → Closes c.rest
    front [] hs s = subst Closes (sym (rest_of (piece g.ws) c d s)) (ws_closes g.ws.text d.rest h.1 closes)
    front (l ∷ ls) hs s =
        let k = gap_more l ls g.ws c d s in
        let j = spans_split (blank_parts l.blank) (piece l.newline ∷ []) c k.0 k.1 in
        blank_closes l.blank c j.0 hs.0.0 j.1 (newline_stops l.newline j.0 k.0 hs.0.1 j.2)

-- the first byte of a value
abbrev pub is_value_start : ℕ → Bool
is_value_start b = is_scalar_start b || b == 0x5B || b == 0x7B

scalar_starts : (b : ℕ) → is_scalar_start b ≡ true → is_value_start b ≡ true
scalar_starts b h = or_left (is_scalar_start b || b == 0x5B) (b == 0x7B) (or_left (is_scalar_start b) (b == 0x5B) h)

scalar_no_array : (b : ℕ) → is_scalar_start b ≡ true → is_byte 0x5B b ≡ false
scalar_no_array b h = grind (arith, nat_tests)

scalar_no_inline : (b : ℕ) → is_scalar_start b ≡ true → is_byte 0x7B b ≡ false
scalar_no_inline b h = grind (arith, nat_tests)

value_no_gap : (b : ℕ) → is_value_start b ≡ true → is_gap_byte b ≡ false
value_no_gap b h = grind (arith, nat_tests)

value_no_end : (b : ℕ) → is_value_start b ≡ true → is_byte 0x5D b ≡ false
value_no_end b h = grind (arith, nat_tests)

pub value_no_ws : (b : ℕ) → is_value_start b ≡ true → is_ws b ≡ false
value_no_ws b h = grind (arith, nat_tests)

scalar_first : (k : ScalarKind) (p : Piece) (c d : Cursor) → IsToken k p.text → Spans (piece p ∷ []) c d → begins is_scalar_start c.rest ≡ true
scalar_first k p c d h s = ap (begins is_scalar_start) (rest_of (piece p) c d s) ∙ token_first k p.text d.rest h

-- the place of a piece is where its first part stands
begin_here : (p : Piece) (ps : List Part) (c d : Cursor) → Spans (begin p ∷ ps) c d → (p.start ≡ c.at) × Spans ps c d
begin_here p ps c d s =
    let at : s.0.at ≡ c.at = omega (arith, s.2.at) in
    let same : s.0 ≡ c = λ i. record { at = at i; rest = sym s.2.rest i } in
    (s.1, subst (λ x. Spans ps x d) same s.3)

-- behind the bracket at the front of an array or an inline table
opened : (b : ℕ) (p : Piece) (ps : List Part) (c d : Cursor) → Spans (begin p ∷ symbol (b ∷ []) ∷ ps) c d → (m : Cursor) × (c.rest ≡ b ∷ m.rest) × (ahead 1 c ≡ m) × Spans ps m d
opened b p ps c d s = symbol_ahead b ps c d (begin_here p (symbol (b ∷ []) ∷ ps) c d s).1

pub value_first : (v : Value) (c d : Cursor) → IsValue v → Spans (value_parts v) c d → begins is_value_start c.rest ≡ true
value_first (Scalar k p) c d h s = begins_more is_scalar_start is_value_start c.rest scalar_starts (scalar_first k p c d h s)
value_first (Array whole is) c d h s = ap (begins is_value_start) (s.2.rest ∙ s.3.2.rest)
value_first (Inline whole ps) c d h s = ap (begins is_value_start) (s.2.rest ∙ s.3.2.rest)

-- A value that nests at most so deep is read, where something follows that closes it.
abbrev pub ReadsValue : Profile → ℕ → Value → Type 0
ReadsValue p n v = (c d : Cursor) → Spans (value_parts v) c d → Closes d.rest → value_at p n c ≡ Some (v, d)

scalar_complete : (k : ScalarKind) (p : Piece) (c d : Cursor) → IsToken k p.text → Spans (piece p ∷ []) c d → Closes d.rest → scalar_at c ≡ Some (Scalar k p, d)
unfolding scalar_at
scalar_complete k p c d h s closes =
    let found : scan_at c.rest ≡ Some (length p.text, k) = ap scan_at (rest_of (piece p) c d s) ∙ scan_complete k p.text d.rest h closes in
    let q = piece_here p c d (length p.text) s refl in
    rw found (λ i. Some (Scalar k (q.0 i), q.1 i))

-- the piece of an array or an inline table
whole_complete : (whole : Piece) (ps : List Part) (c d : Cursor) → whole.text ≡ joined ps → Spans (begin whole ∷ ps) c d → up_to d c ≡ whole
whole_complete whole ps c d text s =
    let k = begin_here whole ps c d s in
    let b = spans_joined ps c d k.1 in
    let len : d.at - c.at ≡ length (joined ps) = omega (arith, b.at) in
    λ i. record { start = sym k.0 i; text = (ap (λ n. take n c.rest) len ∙ behind_take (joined ps) c d b ∙ sym text) i }

-- items of an array
-- what closes behind an element or a pair
comma_closes : (rest : List ℕ) → Closes (0x2C ∷ rest)
comma_closes rest = inr (inr (inr (inr (inl refl))))

array_closes : (rest : List ℕ) → Closes (0x5D ∷ rest)
array_closes rest = inr (inr (inr (inr (inr (inl refl)))))

inline_closes : (rest : List ℕ) → Closes (0x7D ∷ rest)
inline_closes rest = inr (inr (inr (inr (inr (inr refl)))))

-- an element is read, up to the symbol behind it
element_reads : (p : Profile) (n : ℕ) (e : Element) (b : ℕ) (ps : List Part) (c d : Cursor) → IsGap e.before → IsValue e.value → IsGap e.after → ReadsValue p n e.value → is_gap_byte b ≡ false → ((rest : List ℕ) → Closes (b ∷ rest)) → Spans (gap_parts e.before ++ (value_parts e.value ++ (gap_parts e.after ++ symbol (b ∷ []) ∷ ps))) c d →
    UpTo b ps (λ m. item_step (value_at p n) c ≡ after_element e m) c d
unfolding item_step
element_reads p n e b ps c d before is_value after reads no_gap closes s =
    let i = spans_split (gap_parts e.before) (value_parts e.value ++ (gap_parts e.after ++ symbol (b ∷ []) ∷ ps)) c d s in
    let j = spans_split (value_parts e.value) (gap_parts e.after ++ symbol (b ∷ []) ∷ ps) i.0 d i.2 in
    let k = spans_split (gap_parts e.after) (symbol (b ∷ []) ∷ ps) j.0 d j.2 in
    let l = symbol_ahead b ps k.0 d k.2 in
    let start = value_first e.value i.0 j.0 is_value j.1 in
    let e1 = gap_complete e.before c i.0 before i.1 (begins_other is_value_start is_gap_byte i.0.rest value_no_gap start) in
    let e2 : begins (is_byte 0x5D) i.0.rest ≡ false = begins_other is_value_start (is_byte 0x5D) i.0.rest value_no_end start in
    let e3 = reads i.0 j.0 j.1 (gap_closes e.after j.0 k.0 after k.1 (subst Closes (sym l.1) (closes l.0.rest))) in
    let e4 = gap_complete e.after j.0 k.0 after k.1 (ap (begins is_gap_byte) l.1 ∙ no_gap) in
    record {
      before = k.0;
      behind = l.0;
      read = rw e1 (cond-false _ _ _ e2 ∙ rw e3 (rw e4 refl));
      first = l.1;
      step = l.2;
      rest = l.3;
      shorter = omega (arith, spans_length (gap_parts e.before) c i.0 i.1, spans_length (value_parts e.value) i.0 j.0 j.1, spans_length (gap_parts e.after) j.0 k.0 k.1, ap length l.1);
    }

element_next : (value : Cursor → Option (Value × Cursor)) (e : Element) (ps : List Part) (c d : Cursor) (r : UpTo 0x2C ps (λ m. item_step value c ≡ after_element e m) c d) → item_step value c ≡ Some (Next e, r.behind)
unfolding after_element
element_next value e ps c d r = r.read ∙ cond-true _ _ _ (ap (begins (is_byte 0x2C)) r.first) ∙ ap (λ x. Some (Next e, x)) r.step

element_last : (value : Cursor → Option (Value × Cursor)) (e : Element) (c d : Cursor) → UpTo 0x5D [] (λ m. item_step value c ≡ after_element e m) c d → item_step value c ≡ Some (Done (Last e.before e.value e.after), d)
unfolding after_element
element_last value e c d r = r.read ∙ cond-false _ _ _ (ap (begins (is_byte 0x2C)) r.first) ∙ cond-true _ _ _ (ap (begins (is_byte 0x5D)) r.first) ∙ ap (λ x. Some (Done (Last e.before e.value e.after), x)) (r.step ∙ r.rest)

close_reads : (value : Cursor → Option (Value × Cursor)) (g : Gap) (c d : Cursor) → IsGap g → Spans (gap_parts g ++ symbol (0x5D ∷ []) ∷ []) c d → item_step value c ≡ Some (Done (Close g), d)
unfolding item_step
close_reads value g c d h s =
    let i = spans_split (gap_parts g) (symbol (0x5D ∷ []) ∷ []) c d s in
    let at_symbol = symbol_begins 0x5D i.0 d i.2 in
    rw (gap_complete g c i.0 h i.1 (ap (begins is_gap_byte) at_symbol.0)) (cond-true _ _ _ (ap (begins (is_byte 0x5D)) at_symbol.0) ∙ ap (λ x. Some (Done (Close g), x)) at_symbol.1)

-- the elements that a comma follows, and the end
abbrev front : Items → List Element
front (Close g) = []
front (Last g v h) = []
front (More g v h is) = record { before = g; value = v; after = h } ∷ front is

abbrev final : Items → Items
final (Close g) = Close g
final (Last g v h) = Last g v h
final (More g v h is) = final is

front_final : (is : Items) → before_end (front is) (final is) ≡ is
front_final (Close g) = refl
front_final (Last g v h) = refl
front_final (More g v h is) = ap (λ r. More g v h r) (front_final is)

-- the loop reads the items
abbrev ReadsItems : Profile → ℕ → Items → Type 0
ReadsItems p n is = (fuel : ℕ) (c d : Cursor) → Spans (items_parts is) c d → length c.rest < fuel → many (item_step (value_at p n)) fuel c ≡ Some (front is, final is, d)

items_read : (is : Items) (p : Profile) (n : ℕ) (c d : Cursor) → Spans (items_parts is) c d → ReadsItems p n is → items_at (value_at p n) c ≡ Some (is, d)
unfolding items_at
items_read is p n c d s reads = rw (reads (length c.rest + 1) c d s (omega arith)) (ap (λ r. Some (r, d)) (front_final is))

array_reads : (whole : Piece) (is : Items) (p : Profile) (n : ℕ) (c d : Cursor) → whole.text ≡ joined (symbol (0x5B ∷ []) ∷ items_parts is) → Spans (value_parts (Array whole is)) c d → ReadsItems p n is → value_at p (suc n) c ≡ Some (Array whole is, d)
unfolding array_at
array_reads whole is p n c d text s reads =
    let k = opened 0x5B whole (items_parts is) c d s in
    let bracket : begins (is_byte 0x5B) c.rest ≡ true = ap (begins (is_byte 0x5B)) k.1 in
    let inside : items_at (value_at p n) (ahead 1 c) ≡ Some (is, d) = ap (items_at (value_at p n)) k.2 ∙ items_read is p n k.0 d k.3 reads in
    cond-true _ _ _ bracket ∙ cond-true _ _ _ bracket ∙ rw inside (ap (λ p. Some (Array p is, d)) (whole_complete whole (symbol (0x5B ∷ []) ∷ items_parts is) c d text s))

-- pairs
keyval_reads : (k : KeyVal) (p : Profile) (n : ℕ) (c m d : Cursor) → IsAssign k.assign → IsValue k.value → ReadsValue p n k.value → Spans (assign_parts k.assign) c m → Spans (value_parts k.value) m d → Closes d.rest → keyval_at (value_at p n) c ≡ Some (k, d)
unfolding keyval_at
keyval_reads k p n c m d assigns is_value reads s t closes =
    let e1 = assign_complete k.assign c m assigns s (begins_other is_value_start is_ws m.rest value_no_ws (value_first k.value m d is_value t)) in
    rw e1 (rw (reads m d t closes) refl)

start_no_end : (b : ℕ) → is_key_start b ≡ true → is_byte 0x7D b ≡ false
start_no_end b h = grind (arith, nat_tests)

start_no_gap : (b : ℕ) → is_key_start b ≡ true → is_gap_byte b ≡ false
start_no_gap b h = grind (arith, nat_tests)

-- the gap of a pair
pair_gap_complete : (p : Profile) (g : Gap) (c d : Cursor) → IsGap g → Asks p (IsPlainGap g) → Spans (gap_parts g) c d → begins is_gap_byte d.rest ≡ false → pair_gap_at p c ≡ Some (g, d)
unfolding pair_gap_at
pair_gap_complete One g c d h plain s e =
    let only : Spans (piece g.ws ∷ []) c d = subst (λ ls. Spans (all_parts gap_line_parts ls ++ piece g.ws ∷ []) c d) plain s in
    rw (run_complete is_ws g.ws c d h.1 only (begins_less is_ws is_gap_byte d.rest other_no_ws e)) (λ i. Some (record { lines = sym plain i; ws = g.ws }, d))
pair_gap_complete Two g c d h plain s e = gap_complete g c d h s e

-- what is known of a pair before it is read
record Known (p : Profile) (n : ℕ) (m : Member) : Type 0 where
  pub before : IsGap m.before
  pub assigns : IsAssign m.pair.assign
  pub is_value : IsValue m.pair.value
  pub after : IsGap m.after
  pub plain_before : Asks p (IsPlainGap m.before)
  pub plain_after : Asks p (IsPlainGap m.after)
  pub reads : ReadsValue p n m.pair.value

-- a pair of an inline table is read, up to the symbol behind it
member_reads : (p : Profile) (n : ℕ) (m : Member) (b : ℕ) (ps : List Part) (c d : Cursor) → Known p n m → is_gap_byte b ≡ false → ((rest : List ℕ) → Closes (b ∷ rest)) → Spans (gap_parts m.before ++ (assign_parts m.pair.assign ++ (value_parts m.pair.value ++ (gap_parts m.after ++ symbol (b ∷ []) ∷ ps)))) c d →
    UpTo b ps (λ x. pair_step p (value_at p n) c ≡ after_member m x) c d
unfolding pair_step pair_at
member_reads p n m b ps c d known no_gap closes s =
    let i = spans_split (gap_parts m.before) (assign_parts m.pair.assign ++ (value_parts m.pair.value ++ (gap_parts m.after ++ symbol (b ∷ []) ∷ ps))) c d s in
    let j = spans_split (assign_parts m.pair.assign) (value_parts m.pair.value ++ (gap_parts m.after ++ symbol (b ∷ []) ∷ ps)) i.0 d i.2 in
    let k = spans_split (value_parts m.pair.value) (gap_parts m.after ++ symbol (b ∷ []) ∷ ps) j.0 d j.2 in
    let r = gap_symbol p m.after b ps k.0 d known.after known.plain_after no_gap k.2 in
    let start = assign_first m.pair.assign i.0 j.0 known.assigns j.1 in
    let e1 = pair_gap_complete p m.before c i.0 known.before known.plain_before i.1 (begins_other is_key_start is_gap_byte i.0.rest start_no_gap start) in
    let e2 : begins (is_byte 0x7D) i.0.rest ≡ false = begins_other is_key_start (is_byte 0x7D) i.0.rest start_no_end start in
    let e3 = keyval_reads m.pair p n i.0 j.0 k.0 known.assigns known.is_value known.reads j.1 k.1 (gap_symbol_closes m.after b ps k.0 d known.after closes k.2) in
    record {
      before = r.before;
      behind = r.behind;
      read = rw e1 (cond-false _ _ _ e2 ∙ rw e3 (rw r.read refl));
      first = r.first;
      step = r.step;
      rest = r.rest;
      shorter = omega (arith, spans_length (gap_parts m.before) c i.0 i.1, spans_length (assign_parts m.pair.assign) i.0 j.0 j.1, spans_length (value_parts m.pair.value) j.0 k.0 k.1, r.shorter);
    }
  where
    -- the gap before a symbol
    gap_symbol : (p : Profile) (g : Gap) (b : ℕ) (ps : List Part) (c d : Cursor) → IsGap g → Asks p (IsPlainGap g) → is_gap_byte b ≡ false → Spans (gap_parts g ++ symbol (b ∷ []) ∷ ps) c d → UpTo b ps (λ x. pair_gap_at p c ≡ Some (g, x)) c d
    gap_symbol p g b ps c d h plain no_gap s =
        let i = spans_split (gap_parts g) (symbol (b ∷ []) ∷ ps) c d s in
        let j = symbol_ahead b ps i.0 d i.2 in
        record {
          before = i.0;
          behind = j.0;
          read = pair_gap_complete p g c i.0 h plain i.1 (ap (begins is_gap_byte) j.1 ∙ no_gap);
          first = j.1;
          step = j.2;
          rest = j.3;
          shorter = omega (arith, spans_length (gap_parts g) c i.0 i.1, ap length j.1);
        }

    gap_symbol_closes : (g : Gap) (b : ℕ) (ps : List Part) (c d : Cursor) → IsGap g → ((rest : List ℕ) → Closes (b ∷ rest)) → Spans (gap_parts g ++ symbol (b ∷ []) ∷ ps) c d → Closes c.rest
    gap_symbol_closes g b ps c d h closes s =
        let i = spans_split (gap_parts g) (symbol (b ∷ []) ∷ ps) c d s in
        let j = symbol_ahead b ps i.0 d i.2 in
        gap_closes g c i.0 h i.1 (subst Closes (sym j.1) (closes j.0.rest))

member_next : (p : Profile) (value : Cursor → Option (Value × Cursor)) (m : Member) (ps : List Part) (c d : Cursor) (r : UpTo 0x2C ps (λ x. pair_step p value c ≡ after_member m x) c d) → pair_step p value c ≡ Some (Next m, r.behind)
unfolding after_member
member_next p value m ps c d r = r.read ∙ cond-true _ _ _ (ap (begins (is_byte 0x2C)) r.first) ∙ ap (λ x. Some (Next m, x)) r.step

member_last : (p : Profile) (value : Cursor → Option (Value × Cursor)) (m : Member) (c d : Cursor) → UpTo 0x7D [] (λ x. pair_step p value c ≡ after_member m x) c d → pair_step p value c ≡ Some (Done (LastPair m.before m.pair.assign m.pair.value m.after), d)
unfolding after_member
member_last p value m c d r =
    r.read
    ∙ cond-false _ _ _ (ap (begins (is_byte 0x2C)) r.first)
    ∙ cond-true _ _ _ (ap (begins (is_byte 0x7D)) r.first)
    ∙ ap (λ x. Some (Done (LastPair m.before m.pair.assign m.pair.value m.after), x)) (r.step ∙ r.rest)

pairs_close : (p : Profile) (value : Cursor → Option (Value × Cursor)) (g : Gap) (c d : Cursor) → IsGap g → Asks p (IsPlainGap g) → Spans (gap_parts g ++ symbol (0x7D ∷ []) ∷ []) c d → pair_step p value c ≡ Some (Done (ClosePairs g), d)
unfolding pair_step
pairs_close p value g c d h plain s =
    let i = spans_split (gap_parts g) (symbol (0x7D ∷ []) ∷ []) c d s in
    let at_symbol = symbol_begins 0x7D i.0 d i.2 in
    rw (pair_gap_complete p g c i.0 h plain i.1 (ap (begins is_gap_byte) at_symbol.0)) (cond-true _ _ _ (ap (begins (is_byte 0x7D)) at_symbol.0) ∙ ap (λ x. Some (Done (ClosePairs g), x)) at_symbol.1)

abbrev member : Gap → Assign → Value → Gap → Member
member g a v h = record { before = g; pair = record { assign = a; value = v }; after = h }

-- the pairs that a comma follows, and the end
abbrev front_pairs : Pairs → List Member
front_pairs (ClosePairs g) = []
front_pairs (LastPair g a v h) = []
front_pairs (MorePairs g a v h ps) = member g a v h ∷ front_pairs ps

abbrev final_pairs : Pairs → Pairs
final_pairs (ClosePairs g) = ClosePairs g
final_pairs (LastPair g a v h) = LastPair g a v h
final_pairs (MorePairs g a v h ps) = final_pairs ps

front_final_pairs : (ps : Pairs) → pairs_before_end (front_pairs ps) (final_pairs ps) ≡ ps
front_final_pairs (ClosePairs g) = refl
front_final_pairs (LastPair g a v h) = refl
front_final_pairs (MorePairs g a v h ps) = ap (λ r. MorePairs g a v h r) (front_final_pairs ps)

-- the loop reads the pairs
abbrev ReadsPairs : Profile → ℕ → Pairs → Type 0
ReadsPairs p n ps = (fuel : ℕ) (c d : Cursor) → Spans (pairs_parts ps) c d → length c.rest < fuel → many (pair_step p (value_at p n)) fuel c ≡ Some (front_pairs ps, final_pairs ps, d)

pairs_read : (ps : Pairs) (p : Profile) (n : ℕ) (c d : Cursor) → Spans (pairs_parts ps) c d → ReadsPairs p n ps → pairs_at p (value_at p n) c ≡ Some (ps, d)
unfolding pairs_at
pairs_read ps p n c d s reads = rw (reads (length c.rest + 1) c d s (omega arith)) (ap (λ r. Some (r, d)) (front_final_pairs ps))

inline_reads : (whole : Piece) (ps : Pairs) (p : Profile) (n : ℕ) (c d : Cursor) → whole.text ≡ joined (symbol (0x7B ∷ []) ∷ pairs_parts ps) → Spans (value_parts (Inline whole ps)) c d → may_end p ps ≡ true → ReadsPairs p n ps → value_at p (suc n) c ≡ Some (Inline whole ps, d)
unfolding inline_at
inline_reads whole ps p n c d text s ends reads =
    let k = opened 0x7B whole (pairs_parts ps) c d s in
    let brace : begins (is_byte 0x7B) c.rest ≡ true = ap (begins (is_byte 0x7B)) k.1 in
    let inside : pairs_at p (value_at p n) (ahead 1 c) ≡ Some (ps, d) = ap (pairs_at p (value_at p n)) k.2 ∙ pairs_read ps p n k.0 d k.3 reads in
    cond-false _ _ _ (ap (begins (is_byte 0x5B)) k.1)
    ∙ cond-true _ _ _ brace
    ∙ cond-true _ _ _ brace
    ∙ rw inside (cond-true _ _ _ ends ∙ ap (λ w. Some (Inline w ps, d)) (whole_complete whole (symbol (0x7B ∷ []) ∷ pairs_parts ps) c d text s))

-- values
shallow : (v : Value) → depth v ≤ 0 → ⊥
shallow (Scalar k p) l = omega arith
shallow (Array whole is) l = omega arith
shallow (Inline whole ps) l = omega arith

scalar_reads : (k : ScalarKind) (t : Piece) (p : Profile) (n : ℕ) (c d : Cursor) → IsToken k t.text → Spans (piece t ∷ []) c d → Closes d.rest → value_at p (suc n) c ≡ Some (Scalar k t, d)
scalar_reads k t p n c d h s closes =
    let first = scalar_first k t c d h s in
    cond-false _ _ _ (begins_other is_scalar_start (is_byte 0x5B) c.rest scalar_no_array first)
    ∙ cond-false _ _ _ (begins_other is_scalar_start (is_byte 0x7B) c.rest scalar_no_inline first)
    ∙ scalar_complete k t c d h s closes

mutual
  pub value_complete : (v : Value) (p : Profile) (n : ℕ) → IsValue v → depth v ≤ n → IsValueOfProfile p v → ReadsValue p n v
  value_complete v p zero h l plain c d s closes = absurd (shallow v l)
  value_complete (Scalar k t) p (suc n) h l plain c d s closes = scalar_reads k t p n c d h s closes
  value_complete (Array whole is) p (suc n) h l plain c d s closes = array_reads whole is p n c d h.0 s (items_complete is p n h.1 (omega arith) plain)
  value_complete (Inline whole ps) p (suc n) h l plain c d s closes =
      inline_reads whole ps p n c d h.0 s (may_end_so p ps (asked p (λ k. k.0) plain)) (pairs_complete ps p n h.1 (omega arith) (asked p (λ k. k.1) plain))

  items_complete : (is : Items) (p : Profile) (n : ℕ) → AreItems is → items_depth is ≤ n → Asks p (ItemsHavePlainTables is) → ReadsItems p n is
  items_complete is p n h l plain zero c d s f = absurd (omega arith)
  items_complete (Close g) p n h l plain (suc fuel) c d s f = rw (close_reads (value_at p n) g c d h s) refl
  items_complete (Last g v k) p n h l plain (suc fuel) c d s f =
      let e : Element = record { before = g; value = v; after = k } in
      let r = element_reads p n e 0x5D [] c d h.0 h.1 h.2 (value_complete v p n h.1 l plain) refl array_closes s in
      rw (element_last (value_at p n) e c d r) refl
  items_complete (More g v k is) p n h l plain (suc fuel) c d s f =
      let e : Element = record { before = g; value = v; after = k } in
      let r = element_reads p n e 0x2C (items_parts is) c d h.0 h.1 h.2 (value_complete v p n h.1 (omega arith) (asked p (λ q. q.0) plain)) refl comma_closes s in
      rw (element_next (value_at p n) e (items_parts is) c d r, items_complete is p n h.3 (omega arith) (asked p (λ q. q.1) plain) fuel r.behind d r.rest (omega (arith, r.shorter))) refl

  pairs_complete : (ps : Pairs) (p : Profile) (n : ℕ) → ArePairs ps → pairs_depth ps ≤ n → Asks p (ArePlainPairs ps) → ReadsPairs p n ps
  pairs_complete ps p n h l plain zero c d s f = absurd (omega arith)
  pairs_complete (ClosePairs g) p n h l plain (suc fuel) c d s f = rw (pairs_close p (value_at p n) g c d h plain s) refl
  pairs_complete (LastPair g a v k) p n h l plain (suc fuel) c d s f =
      let m = member g a v k in
      let known : Known p n m = record { before = h.0; assigns = h.1; is_value = h.2; after = h.3; plain_before = asked p (λ q. q.0) plain; plain_after = asked p (λ q. q.2) plain; reads = value_complete v p n h.2 l (asked p (λ q. q.1) plain) } in
      rw (member_last p (value_at p n) m c d (member_reads p n m 0x7D [] c d known refl inline_closes s)) refl
  pairs_complete (MorePairs g a v k ps) p n h l plain (suc fuel) c d s f =
      let m = member g a v k in
      let known : Known p n m = record { before = h.0; assigns = h.1; is_value = h.2; after = h.3; plain_before = asked p (λ q. q.0) plain; plain_after = asked p (λ q. q.2) plain; reads = value_complete v p n h.2 (omega arith) (asked p (λ q. q.1) plain) } in
      let r = member_reads p n m 0x2C (pairs_parts ps) c d known refl comma_closes s in
      rw (member_next p (value_at p n) m (pairs_parts ps) c d r, pairs_complete ps p n h.4 (omega arith) (asked p (λ q. q.3) plain) fuel r.behind d r.rest (omega (arith, r.shorter))) refl

pub keyval_complete : (k : KeyVal) (p : Profile) (n : ℕ) (c d : Cursor) → IsAssign k.assign → IsValue k.value → depth k.value ≤ n → IsValueOfProfile p k.value → Spans (keyval_parts k) c d → Closes d.rest → keyval_at (value_at p n) c ≡ Some (k, d)
keyval_complete k p n c d assigns is_value l plain s closes =
    let i = spans_split (assign_parts k.assign) (value_parts k.value) c d s in
    keyval_reads k p n c i.0 d assigns is_value (value_complete k.value p n is_value l plain) i.1 i.2 closes

pub keyval_first : (k : KeyVal) (c d : Cursor) → IsAssign k.assign → Spans (keyval_parts k) c d → begins is_key_start c.rest ≡ true
keyval_first k c d assigns s =
    let i = spans_split (assign_parts k.assign) (value_parts k.value) c d s in
    assign_first k.assign c i.0 assigns i.1
