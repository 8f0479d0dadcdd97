-- What the plain reader reads is in the forms, and stands where it was read: gaps, values and pairs.
use Rattle.std.proofs.Common.{◌≡◌, ℕ, zero, suc, ◌+◌, ◌-◌, ◌≤◌, true, eqb, List, [], ◌∷◌, ◌++◌, length, take, Option, Some, None, refl, ap, ◌∙◌, subst, arith, append_assoc}
use Rattle.std.specs.Prelude.{IfSome}
use Rattle.std.proofs.lemmas.Bool.{eqb-false}
use Rattle.toml_text.specs.Bytes.{is_ws}
use Rattle.toml_text.specs.Forms.{IsWs}
use Rattle.toml_text.specs.Runs.{begins, is_byte, newline_len}
use Rattle.toml_text.proofs.Proved.{newlines_piece}
use Rattle.toml_scalar.proofs.Proved.{scan_sound}
use Rattle.toml_scalar.specs.Scanning.{scan_at}
use Rattle.toml_scalar.specs.Tokens.{IsToken}
use Rattle.toml_tree.specs.Profiles.{IsPlainGap, HasPlainTables, ItemsHavePlainTables, ArePlainPairs, Asks, IsValueOfProfile}
use Rattle.toml_tree.specs.Tree.{Piece, Value, Items, Pairs, KeyVal}
use Rattle.toml_tree.specs.Spells.{Part, piece, symbol, begin, joined, EachIs, all_parts, comment_parts, blank_parts, assign_parts, gap_line_parts, gap_parts, value_parts, items_parts, pairs_parts, keyval_parts, IsAssign, IsGapLine, IsGap, IsValue, AreItems, ArePairs, depth, items_depth, pairs_depth}
use Rattle.toml_tree.specs.Reading.{Cursor, here, ahead, up_to, all_of, blank_at, assign_at}
use Rattle.toml_tree.specs.ReadingValues.{Element, Member, scalar_at, gap_end, gap_step, gap_at, before_end, after_element, item_step, items_at, array_at, keyval_at, pairs_before_end, pair_gap_at, after_member, pair_at, pair_step, pairs_at, may_end, inline_at, value_at}
use Rattle.toml_tree.specs.declared.profile.Profile.{Profile}
use Rattle.toml_tree.specs.declared.profile.Profile.TheVariants.{One, Two}
use Rattle.toml_tree.proofs.Spans.{Spans, spans_append, spans_joined, behind_take}
use Rattle.toml_tree.proofs.Profiled.{asked_both, asked_three, asked_four, asks_nothing, ends_well}
use Rattle.toml_tree.proofs.Sound.{sound_bind, sound_map, sound_cond, if_some, spans_here, spans_symbol, run_sound, symbol_then, newline_form, blank_sound, StepIs, many_sound, assign_sound}

-- gaps
-- the whitespace at the end of a gap
abbrev IsGapEnd : Piece → Cursor → Type 0
IsGapEnd w d = IsWs w.text

abbrev gap_end_parts : Piece → List Part
gap_end_parts w = piece w ∷ []

gap_step_sound : (c : Cursor) → IfSome (gap_step c) (StepIs IsGapLine gap_line_parts IsGapEnd gap_end_parts c)
unfolding gap_step
gap_step_sound c =
    let b = blank_sound c in
    let m = (blank_at c).1 in
    let n = newline_len m.rest in
    sound_cond (eqb n 0) _ _ _
    (λ e. end_sound (blank_at c).0.comment (blank_at c).0.ws m b.0.0 b.1)
    (λ e. ((b.0, newline_form m.rest (eqb-false n 0 e)), spans_append (blank_parts (blank_at c).0) (piece (here n m) ∷ []) c m (ahead n m) b.1 (spans_here n m (newlines_piece m.rest).0)))
  where
    end_sound : (o : Option Piece) (w : Piece) (m : Cursor) → IsWs w.text → Spans (piece w ∷ comment_parts o) c m → IfSome (gap_end o w m) (StepIs IsGapLine gap_line_parts IsGapEnd gap_end_parts c)
    end_sound None w m f s = (f, s)
    end_sound (Some p) w m f s = tt

pub gap_sound : (c : Cursor) → IfSome (gap_at c) (λ r. IsGap r.0 × Spans (gap_parts r.0) c r.1)
unfolding gap_at
gap_sound c = sound_bind (all_of gap_step c) _ _ _ (many_sound IsGapLine gap_line_parts IsGapEnd gap_end_parts gap_step gap_step_sound (length c.rest + 1) c) (λ r k. ((k.0, k.1), k.2))

-- the gap of a pair
pair_gap_sound : (p : Profile) (c : Cursor) → IfSome (pair_gap_at p c) (λ r. IsGap r.0 × Spans (gap_parts r.0) c r.1 × Asks p (IsPlainGap r.0))
unfolding pair_gap_at
pair_gap_sound One c = let w = run_sound is_ws c in ((tt, w.0), w.1, refl)
pair_gap_sound Two c = sound_map (gap_at c) _ _ (gap_sound c) (λ r k. (k.0, k.1, tt))

-- values
abbrev pub ValueIs : Profile → ℕ → Cursor → Value × Cursor → Type 0
ValueIs p n c r = IsValue r.0 × (depth r.0 ≤ n) × Spans (value_parts r.0) c r.1 × IsValueOfProfile p r.0

abbrev pub KeyValIs : Profile → ℕ → Cursor → KeyVal × Cursor → Type 0
KeyValIs p n c r = IsAssign r.0.assign × IsValue r.0.value × (depth r.0.value ≤ n) × Spans (keyval_parts r.0) c r.1 × IsValueOfProfile p r.0.value

scalar_sound : (p : Profile) (n : ℕ) (c : Cursor) → IfSome (scalar_at c) (ValueIs p (suc n) c)
unfolding scalar_at
scalar_sound p n c = sound_bind (scan_at c.rest) _ (λ r. (r.0 ≤ length c.rest) × IsToken r.1 (take r.0 c.rest)) _
    (if_some (scan_at c.rest) _ (λ r h. scan_sound c.rest r.0 r.1 h))
    (λ r h. (h.1, omega arith, spans_here r.0 c h.0, asks_nothing p))

-- the piece up to where the parts end is the text of them
pub up_to_text : (ps : List Part) (c d : Cursor) → Spans ps c d → (up_to d c).text ≡ joined ps
up_to_text ps c d s =
    let b = spans_joined ps c d s in
    let len : d.at - c.at ≡ length (joined ps) = omega (arith, b.at) in
    ap (λ n. take n c.rest) len ∙ behind_take (joined ps) c d b

-- a piece that begins where the parts do
pub spans_begin : (last : Cursor) (ps : List Part) (c d : Cursor) → Spans ps c d → Spans (begin (up_to last c) ∷ ps) c d
spans_begin last ps c d s = (c, refl, record { rest = refl; at = omega arith }, s)

append_two : (a b ps qs : List Part) → (a ++ (b ++ ps)) ++ qs ≡ a ++ (b ++ (ps ++ qs))
append_two a b ps qs = append_assoc a (b ++ ps) qs ∙ ap (λ l. a ++ l) (append_assoc b ps qs)

-- arrays
abbrev IsElement : Profile → ℕ → Element → Type 0
IsElement p n e = IsGap e.before × IsValue e.value × (depth e.value ≤ n) × IsGap e.after × Asks p (HasPlainTables e.value)

-- an element and what stands behind it
abbrev element_then : Element → List Part → List Part
element_then e ps = gap_parts e.before ++ (value_parts e.value ++ (gap_parts e.after ++ ps))

abbrev element_parts : Element → List Part
element_parts e = element_then e (symbol (0x2C ∷ []) ∷ [])

abbrev AreItemsOf : Profile → ℕ → Items → Type 0
AreItemsOf p n is = AreItems is × (items_depth is ≤ n) × Asks p (ItemsHavePlainTables is)

abbrev IsEnd : Profile → ℕ → Items → Cursor → Type 0
IsEnd p n is d = AreItemsOf p n is

before_end_form : (p : Profile) (n : ℕ) (es : List Element) (end : Items) → EachIs (IsElement p n) es → AreItemsOf p n end → AreItemsOf p n (before_end es end)
before_end_form p n [] end h k = k
before_end_form p n (e ∷ es) end h k = let r = before_end_form p n es end h.1 k in ((h.0.0, h.0.1, h.0.3, r.0), omega (arith, h.0.2, r.1), asked_both p _ _ h.0.4 r.2)

element_append : (e : Element) (ps qs : List Part) → element_then e ps ++ qs ≡ element_then e (ps ++ qs)
element_append e ps qs =
    append_assoc (gap_parts e.before) (value_parts e.value ++ (gap_parts e.after ++ ps)) qs
    ∙ ap (λ l. gap_parts e.before ++ l) (append_two (value_parts e.value) (gap_parts e.after) ps qs)

before_end_parts : (es : List Element) (end : Items) → all_parts element_parts es ++ items_parts end ≡ items_parts (before_end es end)
before_end_parts [] end = refl
before_end_parts (e ∷ es) end =
    append_assoc (element_parts e) (all_parts element_parts es) (items_parts end)
    ∙ ap (λ l. element_parts e ++ l) (before_end_parts es end)
    ∙ element_append e (symbol (0x2C ∷ []) ∷ []) (items_parts (before_end es end))

-- inline tables
abbrev IsMember : Profile → ℕ → Member → Type 0
IsMember p n m = IsGap m.before × IsAssign m.pair.assign × IsValue m.pair.value × (depth m.pair.value ≤ n) × IsGap m.after
    × Asks p (IsPlainGap m.before) × Asks p (HasPlainTables m.pair.value) × Asks p (IsPlainGap m.after)

-- a pair of an inline table, and what stands behind it
abbrev member_then : Member → List Part → List Part
member_then m ps = gap_parts m.before ++ (assign_parts m.pair.assign ++ (value_parts m.pair.value ++ (gap_parts m.after ++ ps)))

abbrev member_parts : Member → List Part
member_parts m = member_then m (symbol (0x2C ∷ []) ∷ [])

abbrev ArePairsOf : Profile → ℕ → Pairs → Type 0
ArePairsOf p n ps = ArePairs ps × (pairs_depth ps ≤ n) × Asks p (ArePlainPairs ps)

abbrev IsLastOfPairs : Profile → ℕ → Pairs → Cursor → Type 0
IsLastOfPairs p n ps d = ArePairsOf p n ps

pairs_before_end_form : (p : Profile) (n : ℕ) (ms : List Member) (end : Pairs) → EachIs (IsMember p n) ms → ArePairsOf p n end → ArePairsOf p n (pairs_before_end ms end)
pairs_before_end_form p n [] end h k = k
pairs_before_end_form p n (m ∷ ms) end h k =
    let r = pairs_before_end_form p n ms end h.1 k in
    ((h.0.0, h.0.1, h.0.2, h.0.4, r.0), omega (arith, h.0.3, r.1), asked_four p _ _ _ _ h.0.5 h.0.6 h.0.7 r.2)

member_append : (m : Member) (ps qs : List Part) → member_then m ps ++ qs ≡ member_then m (ps ++ qs)
member_append m ps qs =
    append_assoc (gap_parts m.before) (assign_parts m.pair.assign ++ (value_parts m.pair.value ++ (gap_parts m.after ++ ps))) qs
    ∙ ap (λ l. gap_parts m.before ++ l) (append_two (assign_parts m.pair.assign) (value_parts m.pair.value) (gap_parts m.after ++ ps) qs
    ∙ ap (λ l. assign_parts m.pair.assign ++ (value_parts m.pair.value ++ l)) (append_assoc (gap_parts m.after) ps qs))

pairs_before_end_parts : (ms : List Member) (end : Pairs) → all_parts member_parts ms ++ pairs_parts end ≡ pairs_parts (pairs_before_end ms end)
pairs_before_end_parts [] end = refl
pairs_before_end_parts (m ∷ ms) end =
    append_assoc (member_parts m) (all_parts member_parts ms) (pairs_parts end)
    ∙ ap (λ l. member_parts m ++ l) (pairs_before_end_parts ms end)
    ∙ member_append m (symbol (0x2C ∷ []) ∷ []) (pairs_parts (pairs_before_end ms end))

-- what values of depth n are read by
module _ (p : Profile) (n : ℕ) (value : (c : Cursor) → IfSome (value_at p n c) (ValueIs p n c)) where
  after_element_sound : (e : Element) (c m : Cursor) → IsElement p n e → ((b : ℕ) → begins (is_byte b) m.rest ≡ true → Spans (element_then e (symbol (b ∷ []) ∷ [])) c (ahead 1 m)) → IfSome (after_element e m) (StepIs (IsElement p n) element_parts (IsEnd p n) items_parts c)
  unfolding after_element
  after_element_sound e c m h whole = sound_cond (begins (is_byte 0x2C) m.rest) _ _ _
      (λ is. (h, whole 0x2C is))
      (λ _. sound_cond (begins (is_byte 0x5D) m.rest) _ _ _ (λ is. (((h.0, h.1, h.3), h.2, h.4), whole 0x5D is)) (λ _. tt))

  item_step_sound : (c : Cursor) → IfSome (item_step (value_at p n) c) (StepIs (IsElement p n) element_parts (IsEnd p n) items_parts c)
  unfolding item_step
  item_step_sound c = sound_bind (gap_at c) _ _ _ (gap_sound c) (λ g gs. sound_cond (begins (is_byte 0x5D) g.1.rest) _ _ _
      (λ is. ((gs.0, omega arith, asks_nothing p), spans_append (gap_parts g.0) (symbol (0x5D ∷ []) ∷ []) c g.1 (ahead 1 g.1) gs.1 (spans_symbol 0x5D g.1 is)))
      (λ _. sound_bind (value_at p n g.1) _ _ _ (value g.1) (λ v vs. sound_bind (gap_at v.1) _ _ _ (gap_sound v.1) (λ h hs.
      after_element_sound (record { before = g.0; value = v.0; after = h.0 }) c h.1 (gs.0, vs.0, vs.1, hs.0, vs.3) (λ b is.
      let mark : List Part = symbol (b ∷ []) ∷ [] in
      spans_append (gap_parts g.0) (value_parts v.0 ++ (gap_parts h.0 ++ mark)) c g.1 (ahead 1 h.1) gs.1
      (spans_append (value_parts v.0) (gap_parts h.0 ++ mark) g.1 v.1 (ahead 1 h.1) vs.2
      (spans_append (gap_parts h.0) mark v.1 h.1 (ahead 1 h.1) hs.1 (spans_symbol b h.1 is))))))))

  items_sound : (c : Cursor) → IfSome (items_at (value_at p n) c) (λ r. AreItemsOf p n r.0 × Spans (items_parts r.0) c r.1)
  unfolding items_at
  items_sound c = sound_bind (all_of (item_step (value_at p n)) c) _ _ _
      (many_sound (IsElement p n) element_parts (IsEnd p n) items_parts (item_step (value_at p n)) item_step_sound (length c.rest + 1) c)
      (λ r k. (before_end_form p n r.0 r.1 k.0 k.1, subst (λ ps. Spans ps c r.2) (before_end_parts r.0 r.1) k.2))

  pub array_sound : (c : Cursor) → IfSome (array_at (value_at p n) c) (ValueIs p (suc n) c)
  unfolding array_at
  array_sound c = sound_cond (begins (is_byte 0x5B) c.rest) _ _ _
      (λ e. sound_bind (items_at (value_at p n) (ahead 1 c)) _ _ _ (items_sound (ahead 1 c)) (λ r k.
      let parts : List Part = symbol (0x5B ∷ []) ∷ items_parts r.0 in
      let s = symbol_then 0x5B (items_parts r.0) c r.1 e k.1 in
      ((up_to_text parts c r.1 s, k.0.0), omega (arith, k.0.1), spans_begin r.1 parts c r.1 s, k.0.2)))
      (λ _. tt)

  keyval_from : (c : Cursor) → IfSome (keyval_at (value_at p n) c) (KeyValIs p n c)
  unfolding keyval_at
  keyval_from c = sound_bind (assign_at c) _ _ _ (assign_sound c) (λ a assigned. sound_bind (value_at p n a.1) _ _ _ (value a.1) (λ v vs. (
    assigned.0,
    vs.0,
    vs.1,
    spans_append (assign_parts a.0) (value_parts v.0) c a.1 v.1 assigned.1 vs.2,
    vs.3,
  )))

  after_member_sound : (m : Member) (c d : Cursor) → IsMember p n m → ((b : ℕ) → begins (is_byte b) d.rest ≡ true → Spans (member_then m (symbol (b ∷ []) ∷ [])) c (ahead 1 d)) → IfSome (after_member m d) (StepIs (IsMember p n) member_parts (IsLastOfPairs p n) pairs_parts c)
  unfolding after_member
  after_member_sound m c d h whole = sound_cond (begins (is_byte 0x2C) d.rest) _ _ _
      (λ is. (h, whole 0x2C is))
      (λ _. sound_cond (begins (is_byte 0x7D) d.rest) _ _ _
      (λ is. (((h.0, h.1, h.2, h.4), h.3, asked_three p _ _ _ h.5 h.6 h.7), whole 0x7D is))
      (λ _. tt))

  pair_step_sound : (c : Cursor) → IfSome (pair_step p (value_at p n) c) (StepIs (IsMember p n) member_parts (IsLastOfPairs p n) pairs_parts c)
  unfolding pair_step pair_at
  pair_step_sound c = sound_bind (pair_gap_at p c) _ _ _ (pair_gap_sound p c) (λ g gs. sound_cond (begins (is_byte 0x7D) g.1.rest) _ _ _
      (λ is. ((gs.0, omega arith, gs.2), spans_append (gap_parts g.0) (symbol (0x7D ∷ []) ∷ []) c g.1 (ahead 1 g.1) gs.1 (spans_symbol 0x7D g.1 is)))
      (λ _. sound_bind (keyval_at (value_at p n) g.1) _ _ _ (keyval_from g.1) (λ k ks. sound_bind (pair_gap_at p k.1) _ _ _ (pair_gap_sound p k.1) (λ h hs.
      after_member_sound (record { before = g.0; pair = k.0; after = h.0 }) c h.1 (gs.0, ks.0, ks.1, ks.2, hs.0, gs.2, ks.4, hs.2) (λ b is.
      let mark : List Part = symbol (b ∷ []) ∷ [] in
      spans_append (gap_parts g.0) (assign_parts k.0.assign ++ (value_parts k.0.value ++ (gap_parts h.0 ++ mark))) c g.1 (ahead 1 h.1) gs.1
      (subst (λ ps. Spans ps g.1 (ahead 1 h.1)) (append_assoc (assign_parts k.0.assign) (value_parts k.0.value) (gap_parts h.0 ++ mark))
      (spans_append (keyval_parts k.0) (gap_parts h.0 ++ mark) g.1 k.1 (ahead 1 h.1) ks.3
      (spans_append (gap_parts h.0) mark k.1 h.1 (ahead 1 h.1) hs.1 (spans_symbol b h.1 is)))))))))

  pairs_sound : (c : Cursor) → IfSome (pairs_at p (value_at p n) c) (λ r. ArePairsOf p n r.0 × Spans (pairs_parts r.0) c r.1)
  unfolding pairs_at
  pairs_sound c = sound_bind (all_of (pair_step p (value_at p n)) c) _ _ _
      (many_sound (IsMember p n) member_parts (IsLastOfPairs p n) pairs_parts (pair_step p (value_at p n)) pair_step_sound (length c.rest + 1) c)
      (λ r k. (pairs_before_end_form p n r.0 r.1 k.0 k.1, subst (λ ps. Spans ps c r.2) (pairs_before_end_parts r.0 r.1) k.2))

  pub inline_sound : (c : Cursor) → IfSome (inline_at p (value_at p n) c) (ValueIs p (suc n) c)
  unfolding inline_at
  inline_sound c = sound_cond (begins (is_byte 0x7B) c.rest) _ _ _
      (λ e. sound_bind (pairs_at p (value_at p n) (ahead 1 c)) _ _ _ (pairs_sound (ahead 1 c)) (λ r k. sound_cond (may_end p r.0) _ _ _
      (λ ends.
      let parts : List Part = symbol (0x7B ∷ []) ∷ pairs_parts r.0 in
      let s = symbol_then 0x7B (pairs_parts r.0) c r.1 e k.1 in
      ((up_to_text parts c r.1 s, k.0.0), omega (arith, k.0.1), spans_begin r.1 parts c r.1 s, asked_both p _ _ (ends_well p r.0 ends) k.0.2))
      (λ _. tt)))
      (λ _. tt)

pub value_sound : (p : Profile) (n : ℕ) (c : Cursor) → IfSome (value_at p n c) (ValueIs p n c)
value_sound p zero c = tt
value_sound p (suc n) c = sound_cond (begins (is_byte 0x5B) c.rest) _ _ _
    (λ _. array_sound p n (λ d. value_sound p n d) c)
    (λ _. sound_cond (begins (is_byte 0x7B) c.rest) _ _ _ (λ _. inline_sound p n (λ d. value_sound p n d) c) (λ _. scalar_sound p n c))

pub keyval_sound : (p : Profile) (n : ℕ) (c : Cursor) → IfSome (keyval_at (value_at p n) c) (KeyValIs p n c)
keyval_sound p n c = keyval_from p n (value_sound p n) c
