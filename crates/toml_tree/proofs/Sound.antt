-- What the plain reader reads is in the forms, and stands where it was read: here pieces, loops and keys.
use Rattle.std.proofs.Common.{◌≡◌, ℕ, zero, suc, ◌+◌, ◌<◌, ◌≤◌, Bool, true, false, cond, eqb, List, [], ◌∷◌, ◌++◌, length, take, Option, Some, None, sym, refl, ap, ◌∙◌, subst, arith, append_assoc, ⊎_elim}
use Rattle.std.specs.Prelude.{IfSome}
use Rattle.std.proofs.lemmas.Bool.{false≢true, eqb-true, eqb-false}
use Rattle.std.proofs.lemmas.List.{append-nil, take-append-drop, length-take-le}
use Rattle.toml_text.specs.Bytes.{is_ws}
use Rattle.toml_text.specs.Forms.{Each, IsWs, IsNewline, IsComment}
use Rattle.toml_text.specs.Runs.{run_len, begins, is_byte, newline_len, comment_len}
use Rattle.toml_text.proofs.Proved.{run_piece, newlines_piece, comments_piece}
use Rattle.toml_scalar.proofs.Proved.{part_sound}
use Rattle.toml_scalar.specs.Names.{IsKeyPart}
use Rattle.toml_scalar.specs.Scanning.{key_part_len}
use Rattle.toml_tree.specs.Tree.{Piece}
use Rattle.toml_tree.specs.Spells.{Part, piece, symbol, EachIs, all_parts, comment_parts, blank_parts, dotted_parts, key_parts, equals_parts, assign_parts, IsCommentOrNone, IsBlank, IsDotted, IsKey, IsAssign}
use Rattle.toml_tree.specs.Reading.{Cursor, ◌>>=◌, here, ahead, many, all_of, run_at, comment_at, blank_at, part_at, dotted_step, dotted_at, key_at, equals_at, assign_at}
use Rattle.toml_tree.specs.declared.step.Step.{Step}
use Rattle.toml_tree.specs.declared.step.Step.TheVariants.{Next, Done}
use Rattle.toml_tree.proofs.Spans.{Behind, Spans, spans_append}

-- combinators
pub sound_bind : {A B : Type 0} (o : Option A) (f : A → Option B) (R : A → Type 0) (S : B → Type 0) → IfSome o R → ((a : A) → R a → IfSome (f a) S) → IfSome (o >>= f) S
sound_bind None f R S h k = tt
sound_bind (Some a) f R S h k = k a h

pub sound_map : {A : Type 0} (o : Option A) (R S : A → Type 0) → IfSome o R → ((a : A) → R a → S a) → IfSome o S
sound_map None R S h k = tt
sound_map (Some a) R S h k = k a h

pub sound_cond : {A : Type 0} (b : Bool) (x y : Option A) (R : A → Type 0) → (b ≡ true → IfSome x R) → (b ≡ false → IfSome y R) → IfSome (cond b x y) R
sound_cond true x y R h k = h refl
sound_cond false x y R h k = k refl

-- pieces
pub begins_some : (x : ℕ) (bs : List ℕ) → begins (is_byte x) bs ≡ true → (r : List ℕ) × (bs ≡ x ∷ r)
begins_some x [] h = absurd (false≢true h)
begins_some x (b ∷ bs) h = (bs, rw (eqb-true b x h) refl)

pub behind_front : (n : ℕ) (c : Cursor) → n ≤ length c.rest → Behind (take n c.rest) c (ahead n c)
behind_front n c h = record { rest = sym (take-append-drop n c.rest); at = omega (arith, length-take-le n c.rest h) }

pub spans_here : (n : ℕ) (c : Cursor) → n ≤ length c.rest → Spans (piece (here n c) ∷ []) c (ahead n c)
spans_here n c h = (ahead n c, refl, behind_front n c h, refl)

pub spans_symbol : (b : ℕ) (c : Cursor) → begins (is_byte b) c.rest ≡ true → Spans (symbol (b ∷ []) ∷ []) c (ahead 1 c)
spans_symbol b c e =
    let k = begins_some b c.rest e in
    let front : take 1 c.rest ≡ b ∷ [] = rw k.1 refl in
    let r = behind_front 1 c (omega (arith, ap length k.1)) in
    (ahead 1 c, tt, subst (λ l. Behind l c (ahead 1 c)) front r, refl)

pub run_sound : (p : ℕ → Bool) (c : Cursor) → Each p (run_at p c).0.text × Spans (piece (run_at p c).0 ∷ []) c (run_at p c).1
unfolding run_at
run_sound p c = let k = run_piece p c.rest in (k.1, spans_here (run_len p c.rest) c k.0)

pub newline_form : (bs : List ℕ) → (newline_len bs ≡ 0 → ⊥) → IsNewline (take (newline_len bs) bs)
newline_form bs h = ⊎_elim (λ (z : newline_len bs ≡ 0). absurd (h z)) (λ (k : IsNewline (take (newline_len bs) bs)). k) (newlines_piece bs).1

-- a run, and what stands behind it
pub run_then : (p : ℕ → Bool) (ps : List Part) (c d : Cursor) → Spans ps (run_at p c).1 d → Spans (piece (run_at p c).0 ∷ ps) c d
run_then p ps c d h = spans_append (piece (run_at p c).0 ∷ []) ps c (run_at p c).1 d (run_sound p c).1 h

-- a symbol, and what stands behind it
pub symbol_then : (b : ℕ) (ps : List Part) (c d : Cursor) → begins (is_byte b) c.rest ≡ true → Spans ps (ahead 1 c) d → Spans (symbol (b ∷ []) ∷ ps) c d
symbol_then b ps c d e h = spans_append (symbol (b ∷ []) ∷ []) ps c (ahead 1 c) d (spans_symbol b c e) h

-- a comment or none stands between two places
abbrev pub IsCommentAt : Cursor → Option Piece × Cursor → Type 0
IsCommentAt c r = IsCommentOrNone r.0 × Spans (comment_parts r.0) c r.1

pub comment_sound : (c : Cursor) → IsCommentAt c (comment_at c)
unfolding comment_at
comment_sound c =
    let n = comment_len c.rest in
    let k = comments_piece c.rest in
    elim (eqb n 0) as (λ t. eqb n 0 ≡ t → IsCommentAt c (cond t (None, c) (Some (here n c), ahead n c))) [
      | true ↦ λ e. (tt, refl)
      | false ↦ λ e. (⊎_elim (λ (z : n ≡ 0). absurd (eqb-false n 0 e z)) (λ (h : IsComment (take n c.rest)). h) k.1, spans_here n c k.0)
    ] refl

pub blank_sound : (c : Cursor) → IsBlank (blank_at c).0 × Spans (blank_parts (blank_at c).0) c (blank_at c).1
unfolding blank_at
blank_sound c =
    let m = (run_at is_ws c).1 in
    let k = comment_sound m in
    (((run_sound is_ws c).0, k.0), run_then is_ws (comment_parts (comment_at m).0) c (comment_at m).1 k.1)

-- loops
-- what a step of a loop has read
abbrev pub StepIs : {A B : Type 0} → (A → Type 0) → (A → List Part) → (B → Cursor → Type 0) → (B → List Part) → Cursor → Step A B × Cursor → Type 0
StepIs P f Q g c r = elim r.0 [ Next a ↦ P a × Spans (f a) c r.1 | Done b ↦ Q b r.1 × Spans (g b) c r.1 ]

module _ {A B : Type 0} (P : A → Type 0) (f : A → List Part) (Q : B → Cursor → Type 0) (g : B → List Part) (step : Cursor → Option (Step A B × Cursor)) (sound : (c : Cursor) → IfSome (step c) (StepIs P f Q g c)) where
  abbrev pub ManyIs : Cursor → List A × B × Cursor → Type 0
  ManyIs c r = EachIs P r.0 × Q r.1 r.2 × Spans (all_parts f r.0 ++ g r.1) c r.2

  abbrev more : ℕ → Step A B → Cursor → Option (List A × B × Cursor)
  more fuel s m = elim s [
    | Next a ↦ many step fuel m >>= λ r. Some (a ∷ r.0, r.1, r.2)
    | Done b ↦ Some ([], b, m)
  ]

  pub many_sound : (fuel : ℕ) (c : Cursor) → IfSome (many step fuel c) (ManyIs c)
  many_sound zero c = tt
  many_sound (suc fuel) c = sound_bind (step c) _ (StepIs P f Q g c) (ManyIs c) (sound c) (λ r. after (λ m. many_sound fuel m) c r.0 r.1)
    where
      after : ((m : Cursor) → IfSome (many step fuel m) (ManyIs m)) → (c : Cursor) (s : Step A B) (m : Cursor) → StepIs P f Q g c (s, m) → IfSome (more fuel s m) (ManyIs c)
      after again c (Next a) m h = sound_bind (many step fuel m) _ (ManyIs m) (ManyIs c) (again m) (λ r k. ((h.0, k.0), k.1, rw append_assoc (spans_append (f a) (all_parts f r.0 ++ g r.1) c m r.2 h.1 k.2)))
      after again c (Done b) m h = (tt, h.0, h.1)

-- an option, by what it is
pub if_some : {A : Type 0} (o : Option A) (R : A → Type 0) → ((a : A) → o ≡ Some a → R a) → IfSome o R
if_some None R h = tt
if_some (Some a) R h = h a refl

pub all_parts_push : {A : Type 0} (f : A → List Part) (xs : List A) (x : A) → all_parts f (xs ++ x ∷ []) ≡ all_parts f xs ++ f x
all_parts_push f [] x = append-nil (f x)
all_parts_push f (y ∷ xs) x = ap (λ l. f y ++ l) (all_parts_push f xs x) ∙ sym (append_assoc (f y) (all_parts f xs) (f x))

-- keys
part_sound_at : (c : Cursor) → IfSome (part_at c) (λ r. IsKeyPart r.0.text × Spans (piece r.0 ∷ []) c r.1)
unfolding part_at
part_sound_at c = sound_bind (key_part_len c.rest) _ (λ n. (n ≤ length c.rest) × (0 < n) × IsKeyPart (take n c.rest)) _ (if_some (key_part_len c.rest) _ (λ n h. part_sound c.rest n h)) (λ n h. (h.2, spans_here n c h.0))

abbrev pub EndsKey : Unit {0} → Cursor → Type 0
EndsKey u c = Unit {0}

abbrev pub no_parts : Unit {0} → List Part
no_parts u = []

dotted_step_sound : (c : Cursor) → IfSome (dotted_step c) (StepIs IsDotted dotted_parts EndsKey no_parts c)
unfolding dotted_step
dotted_step_sound c =
    let m = (run_at is_ws c).1 in
    let a = (run_at is_ws (ahead 1 m)).0 in
    let n = (run_at is_ws (ahead 1 m)).1 in
    sound_cond (begins (is_byte 0x2E) m.rest) _ _ _
    (λ e. sound_bind (part_at n) _ _ _ (part_sound_at n) (λ p ps. (
      ((run_sound is_ws c).0, (run_sound is_ws (ahead 1 m)).0, ps.0),
      run_then is_ws (symbol (0x2E ∷ []) ∷ piece a ∷ piece p.0 ∷ []) c p.1
          (symbol_then 0x2E (piece a ∷ piece p.0 ∷ []) m p.1 e
          (run_then is_ws (piece p.0 ∷ []) (ahead 1 m) p.1 ps.1)),
    )))
    (λ _. (tt, refl))

dotted_sound : (c : Cursor) → IfSome (dotted_at c) (λ r. EachIs IsDotted r.0 × Spans (all_parts dotted_parts r.0) c r.1)
unfolding dotted_at
dotted_sound c = sound_bind (all_of dotted_step c) _ _ _ (many_sound IsDotted dotted_parts EndsKey no_parts dotted_step dotted_step_sound (length c.rest + 1) c) (λ r k. (k.0, subst (λ ps. Spans ps c r.2) (append-nil (all_parts dotted_parts r.0)) k.2))

pub key_sound : (c : Cursor) → IfSome (key_at c) (λ r. IsKey r.0 × Spans (key_parts r.0) c r.1)
unfolding key_at
key_sound c = sound_bind (part_at c) _ _ _ (part_sound_at c) (λ p ps. sound_bind (dotted_at p.1) _ _ _ (dotted_sound p.1) (λ r rs. (
  (ps.0, rs.0),
  spans_append (piece p.0 ∷ []) (all_parts dotted_parts r.0) c p.1 r.1 ps.1 rs.1,
)))

equals_sound : (c : Cursor) → IfSome (equals_at c) (λ r. IsWs r.0.0.text × IsWs r.0.1.text × Spans (equals_parts r.0.0 r.0.1) c r.1)
unfolding equals_at
equals_sound c =
    let m = (run_at is_ws c).1 in
    let a = run_sound is_ws (ahead 1 m) in
    let after = (run_at is_ws (ahead 1 m)).0 in
    let d = (run_at is_ws (ahead 1 m)).1 in
    sound_cond (begins (is_byte 0x3D) m.rest) _ _ _
    (λ e. ((run_sound is_ws c).0, a.0, run_then is_ws (symbol (0x3D ∷ []) ∷ piece after ∷ []) c d (symbol_then 0x3D (piece after ∷ []) m d e a.1)))
    (λ _. tt)

pub assign_sound : (c : Cursor) → IfSome (assign_at c) (λ r. IsAssign r.0 × Spans (assign_parts r.0) c r.1)
unfolding assign_at
assign_sound c = sound_bind (key_at c) _ _ _ (key_sound c) (λ k ks. sound_bind (equals_at k.1) _ _ _ (equals_sound k.1) (λ e es. (
  (ks.0, es.0, es.1),
  spans_append (key_parts k.0) (equals_parts e.0.0 e.0.1) c k.1 e.1 ks.1 es.2,
)))
