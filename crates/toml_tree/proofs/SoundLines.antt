-- What the plain reader reads is in the forms, and stands where it was read: headers, expressions and lines.
use Rattle.std.proofs.Common.{◌≡◌, ℕ, zero, suc, ◌+◌, eqb, List, [], ◌∷◌, ◌++◌, length, take, drop, sym, refl, ap, ◌∙◌, subst}
use Rattle.std.specs.Prelude.{IfSome}
use Rattle.std.proofs.Math.Seq.{take-nil}
use Rattle.std.proofs.lemmas.Bool.{eqb-true, eqb-false}
use Rattle.std.proofs.lemmas.List.{nil_from_length}
use Rattle.toml_text.specs.Bytes.{is_ws}
use Rattle.toml_text.specs.Forms.{IsNewline}
use Rattle.toml_text.specs.Runs.{begins, is_byte, newline_len}
use Rattle.toml_text.proofs.Proved.{newlines_piece}
use Rattle.toml_scalar.specs.Scanning.{is_key_start}
use Rattle.toml_tree.specs.Profiles.{AreLinesOfProfile, IsExprOfProfile}
use Rattle.toml_tree.specs.Tree.{Header, Expr, Line}
use Rattle.toml_tree.specs.Spells.{Part, piece, symbol, EachIs, comment_parts, blank_parts, key_parts, keyval_parts, header_parts, array_header_parts, expr_parts, line_parts, lines_parts, max_depth, IsHeader, IsExpr, AreLines}
use Rattle.toml_tree.specs.Reading.{Cursor, here, ahead, all_of, run_at, comment_at, blank_at, key_at}
use Rattle.toml_tree.specs.ReadingValues.{keyval_at, value_at}
use Rattle.toml_tree.specs.declared.profile.Profile.{Profile}
use Rattle.toml_tree.specs.ReadingLines.{named_at, header_at, array_header_at, header_line_at, keyval_line_at, expr_at, line_step, lines_at}
use Rattle.toml_tree.proofs.Profiled.{asked_both, asks_nothing}
use Rattle.toml_tree.proofs.Spans.{Spans, spans_append}
use Rattle.toml_tree.proofs.Sound.{sound_bind, sound_map, sound_cond, spans_here, spans_symbol, run_sound, run_then, symbol_then, comment_sound, blank_sound, newline_form, StepIs, many_sound, all_parts_push, key_sound}
use Rattle.toml_tree.proofs.SoundValues.{keyval_sound}

-- headers
-- a header without its first bracket
abbrev named_parts : Header → List Part
named_parts h = piece h.before ∷ (key_parts h.key ++ (piece h.after ∷ symbol (0x5D ∷ []) ∷ []))

named_sound : (c : Cursor) → IfSome (named_at c) (λ r. IsHeader r.0 × Spans (named_parts r.0) c r.1)
unfolding named_at
named_sound c =
    let b = (run_at is_ws c).1 in
    sound_bind (key_at b) _ _ _ (key_sound b) (λ k ks.
    let a = run_at is_ws k.1 in
    let last : List Part = symbol (0x5D ∷ []) ∷ [] in
    sound_cond (begins (is_byte 0x5D) a.1.rest) _ _ _
    (λ e. (
      ((run_sound is_ws c).0, ks.0, (run_sound is_ws k.1).0),
      run_then is_ws (key_parts k.0 ++ (piece a.0 ∷ last)) c (ahead 1 a.1)
          (spans_append (key_parts k.0) (piece a.0 ∷ last) b k.1 (ahead 1 a.1) ks.1
          (run_then is_ws last k.1 (ahead 1 a.1) (spans_symbol 0x5D a.1 e))),
    ))
    (λ _. tt))

header_sound : (c : Cursor) → IfSome (header_at c) (λ r. IsHeader r.0 × Spans (header_parts r.0) c r.1)
unfolding header_at
header_sound c = sound_cond (begins (is_byte 0x5B) c.rest) _ _ _
    (λ e. sound_map (named_at (ahead 1 c)) _ _ (named_sound (ahead 1 c)) (λ h hs. (hs.0, symbol_then 0x5B (named_parts h.0) c h.1 e hs.1)))
    (λ _. tt)

array_header_sound : (c : Cursor) → IfSome (array_header_at c) (λ r. IsHeader r.0 × Spans (array_header_parts r.0) c r.1)
unfolding array_header_at
array_header_sound c = sound_cond (begins (is_byte 0x5B) c.rest) _ _ _
    (λ first. sound_bind (header_at (ahead 1 c)) _ _ _ (header_sound (ahead 1 c)) (λ h hs.
    let last : List Part = symbol (0x5D ∷ []) ∷ [] in
    sound_cond (begins (is_byte 0x5D) h.1.rest) _ _ _
    (λ e. (hs.0, symbol_then 0x5B (header_parts h.0 ++ last) c (ahead 1 h.1) first (spans_append (header_parts h.0) last (ahead 1 c) h.1 (ahead 1 h.1) hs.1 (spans_symbol 0x5D h.1 e))))
    (λ _. tt)))
    (λ _. tt)

-- expressions
abbrev ExprIs : Profile → Cursor → Expr × Cursor → Type 0
ExprIs p c r = IsExpr r.0 × Spans (expr_parts r.0) c r.1 × IsExprOfProfile p r.0

-- what stands behind whitespace, and a blank behind it
then_blank : (ps : List Part) (c d : Cursor) → Spans ps (run_at is_ws c).1 d → Spans (piece (run_at is_ws c).0 ∷ (ps ++ blank_parts (blank_at d).0)) c (blank_at d).1
then_blank ps c d s = run_then is_ws (ps ++ blank_parts (blank_at d).0) c (blank_at d).1 (spans_append ps (blank_parts (blank_at d).0) (run_at is_ws c).1 d (blank_at d).1 s (blank_sound d).1)

header_line_sound : (p : Profile) (c : Cursor) → IfSome (header_line_at (run_at is_ws c).0 (run_at is_ws c).1) (ExprIs p c)
unfolding header_line_at
header_line_sound p c =
    let w = (run_sound is_ws c).0 in
    let m = (run_at is_ws c).1 in
    sound_cond (begins (is_byte 0x5B) (drop 1 m.rest)) _ _ _
    (λ _. sound_bind (array_header_at m) _ _ _ (array_header_sound m) (λ h hs. ((w, hs.0, (blank_sound h.1).0), then_blank (array_header_parts h.0) c h.1 hs.1, asks_nothing p)))
    (λ _. sound_bind (header_at m) _ _ _ (header_sound m) (λ h hs. ((w, hs.0, (blank_sound h.1).0), then_blank (header_parts h.0) c h.1 hs.1, asks_nothing p)))

keyval_line_sound : (p : Profile) (c : Cursor) → IfSome (keyval_line_at p (run_at is_ws c).0 (run_at is_ws c).1) (ExprIs p c)
unfolding keyval_line_at
keyval_line_sound p c =
    let w = (run_sound is_ws c).0 in
    let m = (run_at is_ws c).1 in
    sound_bind (keyval_at (value_at p max_depth) m) _ _ _ (keyval_sound p max_depth m) (λ k ks. ((w, (ks.0, ks.1, ks.2), (blank_sound k.1).0), then_blank (keyval_parts k.0) c k.1 ks.3, ks.4))

pub expr_sound : (p : Profile) (c : Cursor) → IfSome (expr_at p c) (λ r. IsExpr r.0 × Spans (expr_parts r.0) c r.1 × IsExprOfProfile p r.0)
unfolding expr_at
expr_sound p c =
    let m = (run_at is_ws c).1 in
    sound_cond (begins is_key_start m.rest) _ _ _
    (λ _. keyval_line_sound p c)
    (λ _. sound_cond (begins (is_byte 0x5B) m.rest) _ _ _
    (λ _. header_line_sound p c)
    (λ _.
    let r = comment_sound m in
    (((run_sound is_ws c).0, r.0), run_then is_ws (comment_parts (comment_at m).0) c (comment_at m).1 r.1, asks_nothing p)))

-- lines
abbrev pub IsEndedLine : Profile → Line → Type 0
IsEndedLine p l = IsExpr l.expr × IsNewline l.newline.text × IsExprOfProfile p l.expr

abbrev pub IsLastLine : Profile → Line → Cursor → Type 0
IsLastLine p l d = IsExpr l.expr × (l.newline.text ≡ []) × (d.rest ≡ []) × IsExprOfProfile p l.expr

pub line_step_sound : (p : Profile) (c : Cursor) → IfSome (line_step p c) (StepIs (IsEndedLine p) line_parts (IsLastLine p) line_parts c)
unfolding line_step
line_step_sound p c = sound_bind (expr_at p c) _ _ _ (expr_sound p c) (λ e es.
    let n = newline_len e.1.rest in
    let parts = spans_append (expr_parts e.0) (piece (here n e.1) ∷ []) c e.1 (ahead n e.1) es.1 (spans_here n e.1 (newlines_piece e.1.rest).0) in
    sound_cond (eqb n 0) _ _ _
    (λ z. sound_cond (eqb (length e.1.rest) 0) _ _ _
    (λ y.
    let none : e.1.rest ≡ [] = nil_from_length _ (eqb-true _ _ y) in
    ((es.0, ap (take n) none ∙ take-nil n, ap (drop n) none ∙ drop-nil n, es.2), parts))
    (λ _. tt))
    (λ z. ((es.0, newline_form e.1.rest (eqb-false n 0 z), es.2), parts)))
  where
    drop-nil : (n : ℕ) → ◌≡◌ {A = List ℕ} (drop n []) []
    drop-nil zero = refl
    drop-nil (suc n) = refl

abbrev pub AreLinesOf : Profile → List Line → Type 0
AreLinesOf p ls = AreLines ls × AreLinesOfProfile p ls

ended_lines : (p : Profile) (ls : List Line) (l : Line) (d : Cursor) → EachIs (IsEndedLine p) ls → IsLastLine p l d → AreLinesOf p (ls ++ l ∷ [])
ended_lines p [] l d h k = ((k.0, k.1), asked_both p _ _ k.3 (asks_nothing p))
ended_lines p (m ∷ []) l d h k = ((h.0.0, h.0.1, (k.0, k.1)), asked_both p _ _ h.0.2 (asked_both p _ _ k.3 (asks_nothing p)))
ended_lines p (m ∷ o ∷ ls) l d h k = let r = ended_lines p (o ∷ ls) l d h.1 k in ((h.0.0, h.0.1, r.0), asked_both p _ _ h.0.2 r.1)

pub lines_sound : (p : Profile) (c : Cursor) → IfSome (lines_at p c) (λ r. AreLinesOf p r.0 × Spans (lines_parts r.0) c r.1 × (r.1.rest ≡ []))
unfolding lines_at
lines_sound p c = sound_bind (all_of (line_step p) c) _ _ _ (many_sound (IsEndedLine p) line_parts (IsLastLine p) line_parts (line_step p) (line_step_sound p) (length c.rest + 1) c) (λ r k.
    (ended_lines p r.0 r.1 r.2 k.0 k.1, subst (λ l. Spans l c r.2) (sym (all_parts_push line_parts r.0 r.1)) k.2, k.1.2))
