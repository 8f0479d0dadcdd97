-- What the plain reader reads is spelled so.
use Rattle.std.proofs.Common.{◌≡◌, ℕ, zero, suc, ◌+◌, ◌<◌, ◌^◌, Bool, true, false, cond, eqb, ◌&&◌, List, [], ◌∷◌, ◌++◌, length, take, drop, Option, Some, None, Result, Ok, Err, sym, refl, ap, ◌∙◌, subst, arith, add-one, append_assoc, inl, inr}
use Rattle.std.specs.Prelude.{IfOk, nat_lt, ◌==◌}
use Rattle.std.specs.Str.Parse.{digits_value}
use Rattle.std.proofs.lemmas.Bool.{false≢true, eqb-true, eqb-false, and_parts}
use Rattle.std.proofs.lemmas.Bool.Decides.{nat_tests}
use Rattle.std.proofs.lemmas.List.{take-append-drop}
use Rattle.toml_text.specs.Bytes.{is_digit, is_leading_digit, is_ws}
use Rattle.toml_text.specs.Runs.{run_len, begins, is_byte}
use Rattle.toml_text.proofs.Proved.{run_piece}
use Rattle.toml_scalar.specs.Names.{IsName}
use Rattle.toml_scalar.specs.Scanning.{key_part_len}
use Rattle.toml_scalar.specs.Values.{name_of}
use Rattle.toml_scalar.proofs.Proved.{name_meant}
use Rattle.toml_places.specs.declared.place.PlaceStep.{PlaceStep}
use Rattle.toml_places.specs.Laws.{FoundIsSpelled}
use Rattle.toml_places.specs.Places.{IsNumeral, IsNumber, SpellsStep, SpellsSteps, SpellsPlace}
use Rattle.toml_places.specs.Reading.{Cursor, Reading, ◌>>=◌, found, ahead, byte_at, behind_ws, part_at, numeral_len, number_at, from_end_at, index_at, bracketed_at, dotted_at, step_at, steps_at, end_at, named_at, place_at, read_steps}

-- combinators
pub sound_bind : {A B : Type 0} (o : Result A ℕ) (f : A → Result B ℕ) (R : A → Type 0) (S : B → Type 0) → IfOk o R → ((a : A) → R a → IfOk (f a) S) → IfOk (o >>= f) S
sound_bind (Ok a) f R S h k = k a h
sound_bind (Err at) f R S h k = tt

pub sound_cond : {A : Type 0} (b : Bool) (x y : Result A ℕ) (S : A → Type 0) → (b ≡ true → IfOk x S) → (b ≡ false → IfOk y S) → IfOk (cond b x y) S
sound_cond true x y S h k = h refl
sound_cond false x y S h k = k refl

pub sound_found : {A : Type 0} (at : ℕ) (o : Option A) → IfOk (found at o) (λ a. o ≡ Some a)
sound_found at None = tt
sound_found at (Some a) = refl

pub begins_is : (x : ℕ) (bs : List ℕ) → begins (is_byte x) bs ≡ true → bs ≡ x ∷ drop 1 bs
begins_is x [] h = absurd (false≢true h)
begins_is x (b ∷ bs) h = rw (eqb-true b x h) refl

pub empty_is : (bs : List ℕ) → (length bs == 0) ≡ true → bs ≡ []
empty_is [] h = refl
empty_is (b ∷ bs) h = absurd (let e = eqb-true (length (b ∷ bs)) 0 h in omega arith)

-- pieces
pub byte_sound : (x : ℕ) (c : Cursor) → IfOk (byte_at x c) (λ r. c.rest ≡ x ∷ r.1.rest)
unfolding byte_at
byte_sound x c = sound_cond (begins (is_byte x) c.rest) _ _ _ (λ e. begins_is x c.rest e) (λ e. tt)

abbrev pub PartIs : Cursor → List ℕ × Cursor → Type 0
PartIs c r = (part : List ℕ) × IsName part r.0 × (c.rest ≡ part ++ r.1.rest)

pub part_sound_at : (c : Cursor) → IfOk (part_at c) (PartIs c)
unfolding part_at
part_sound_at c =
    sound_bind (found c.at (key_part_len c.rest)) _ (λ n. key_part_len c.rest ≡ Some n) (PartIs c) (sound_found c.at (key_part_len c.rest)) (λ n len.
    sound_bind (found c.at (name_of (take n c.rest))) _ (λ name. name_of (take n c.rest) ≡ Some name) (PartIs c) (sound_found c.at (name_of (take n c.rest))) (λ name is.
    (take n c.rest, name_meant (take n c.rest) name is, sym (take-append-drop n c.rest))))

-- numbers
leading : (b : ℕ) → eqb b 0x30 ≡ false → is_digit b ≡ true → is_leading_digit b ≡ true
leading b other digit = grind (arith, nat_tests)

run_numeral : (b : ℕ) (bs : List ℕ) → eqb b 0x30 ≡ false → 0 < run_len is_digit (b ∷ bs) → IsNumeral (take (run_len is_digit (b ∷ bs)) (b ∷ bs))
run_numeral b bs other some = elim (is_digit b) as (λ t. is_digit b ≡ t → 0 < cond t (run_len is_digit bs + 1) 0 → IsNumeral (take (cond t (run_len is_digit bs + 1) 0) (b ∷ bs))) [
  | true ↦ λ digit more. rw add-one (inr (leading b other digit, (run_piece is_digit bs).1))
  | false ↦ λ none more. absurd (omega arith)
] refl some

pub numeral_form : (bs : List ℕ) → 0 < numeral_len bs → IsNumeral (take (numeral_len bs) bs)
numeral_form [] some = absurd (omega arith)
numeral_form (b ∷ bs) some = elim (eqb b 0x30) as (λ t. eqb b 0x30 ≡ t → 0 < cond t 1 (run_len is_digit (b ∷ bs)) → IsNumeral (take (cond t 1 (run_len is_digit (b ∷ bs))) (b ∷ bs))) [
  | true ↦ λ zero more. inl (eqb-true b 0x30 zero, refl)
  | false ↦ λ other more. run_numeral b bs other more
] refl some

abbrev pub NumberIs : Cursor → ℕ × Cursor → Type 0
NumberIs c r = (digits : List ℕ) × IsNumber digits r.0 × (c.rest ≡ digits ++ r.1.rest)

below : (m n : ℕ) → nat_lt m n ≡ true → m < n
below m n h = grind (arith, nat_tests)

pub number_sound : (c : Cursor) → IfOk (number_at c) (NumberIs c)
unfolding number_at
number_sound c =
    let n = numeral_len c.rest in
    let value = digits_value 10 (take n c.rest) in
    sound_cond (nat_lt 0 n && nat_lt value (2 ^ 64)) _ _ (NumberIs c)
    (λ e.
    let both = and_parts (nat_lt 0 n) (nat_lt value (2 ^ 64)) e in
    (take n c.rest, record { numeral = numeral_form c.rest (below 0 n both.0); value = refl; limit = below value (2 ^ 64) both.1 }, sym (take-append-drop n c.rest)))
    (λ e. tt)

-- what stands between brackets
abbrev pub InnerIs : Cursor → PlaceStep × Cursor → Type 0
InnerIs c r = (text : List ℕ) × SpellsStep r.0 (0x5B ∷ (text ++ 0x5D ∷ [])) × (c.rest ≡ text ++ r.1.rest)

-- behind `[-`
abbrev pub FromEndIs : Cursor → PlaceStep × Cursor → Type 0
FromEndIs c r = (digits : List ℕ) × SpellsStep r.0 (0x5B ∷ 0x2D ∷ (digits ++ 0x5D ∷ [])) × (c.rest ≡ digits ++ r.1.rest)

pub from_end_sound : (c : Cursor) → IfOk (from_end_at c) (FromEndIs c)
unfolding from_end_at
from_end_sound c =
    sound_bind (number_at c) _ (NumberIs c) (FromEndIs c) (number_sound c) (λ r is.
    sound_cond (r.0 == 0) _ _ (FromEndIs c) (λ e. tt) (λ e. (is.0, (is.0, is.1, positive r.0 e, refl), is.2)))
  where
    positive : (n : ℕ) → (n == 0) ≡ false → 0 < n
    positive n e = let other = eqb-false n 0 e in omega arith

pub index_sound : (c : Cursor) → IfOk (index_at c) (InnerIs c)
unfolding index_at
index_sound c =
    sound_cond (begins (is_byte 0x2B) c.rest) _ _ (InnerIs c)
    (λ e. (0x2B ∷ [], refl, begins_is 0x2B c.rest e))
    (λ _. sound_cond (begins (is_byte 0x2D) c.rest) _ _ (InnerIs c)
    (λ e. minus e (from_end_at (ahead 1 c)) (from_end_sound (ahead 1 c)))
    (λ _. sound_bind (number_at c) _ (NumberIs c) (InnerIs c) (number_sound c) (λ r is. (is.0, (is.0, is.1, refl), is.2))))
  where
    minus : begins (is_byte 0x2D) c.rest ≡ true → (o : Reading PlaceStep) → IfOk o (FromEndIs (ahead 1 c)) → IfOk o (InnerIs c)
    minus e (Err at) h = tt
    minus e (Ok r) h = (0x2D ∷ h.0, h.1, begins_is 0x2D c.rest e ∙ ap (λ l. 0x2D ∷ l) h.2)

-- a step, whose first bracket was read
abbrev pub OpenedIs : Cursor → PlaceStep × Cursor → Type 0
OpenedIs c r = (text : List ℕ) × SpellsStep r.0 (0x5B ∷ text) × (c.rest ≡ text ++ r.1.rest)

pub bracketed_sound : (c : Cursor) → IfOk (bracketed_at c) (OpenedIs c)
unfolding bracketed_at
bracketed_sound c =
    sound_bind (index_at c) _ (InnerIs c) (OpenedIs c) (index_sound c) (λ r is.
    sound_bind (byte_at 0x5D r.1) _ (λ closed. r.1.rest ≡ 0x5D ∷ closed.1.rest) (OpenedIs c) (byte_sound 0x5D r.1) (λ closed end.
    (is.0 ++ 0x5D ∷ [], is.1, is.2 ∙ ap (λ l. is.0 ++ l) end ∙ sym (append_assoc is.0 (0x5D ∷ []) closed.1.rest))))

abbrev pub StepIs : Cursor → PlaceStep × Cursor → Type 0
StepIs c r = (text : List ℕ) × SpellsStep r.0 text × (c.rest ≡ text ++ r.1.rest)

-- whitespace, a dot, whitespace and a part, and what stands behind them
regrouped : (before after part rest : List ℕ) → (before ++ 0x2E ∷ (after ++ part)) ++ rest ≡ before ++ 0x2E ∷ (after ++ (part ++ rest))
regrouped before after part rest = append_assoc before (0x2E ∷ (after ++ part)) rest ∙ ap (λ l. before ++ 0x2E ∷ l) (append_assoc after part rest)

pub ws_sound : (c : Cursor) → c.rest ≡ take (run_len is_ws c.rest) c.rest ++ (behind_ws c).rest
unfolding behind_ws
ws_sound c = sym (take-append-drop (run_len is_ws c.rest) c.rest)

pub dotted_sound : (c : Cursor) → IfOk (dotted_at c) (StepIs c)
unfolding dotted_at
dotted_sound c =
    let b = behind_ws c in
    let bw = take (run_len is_ws c.rest) c.rest in
    sound_bind (byte_at 0x2E b) _ (λ dot. b.rest ≡ 0x2E ∷ dot.1.rest) (StepIs c) (byte_sound 0x2E b) (λ dot here.
    let aw = take (run_len is_ws dot.1.rest) dot.1.rest in
    sound_bind (part_at (behind_ws dot.1)) _ (PartIs (behind_ws dot.1)) (StepIs c) (part_sound_at (behind_ws dot.1)) (λ r is. (
      bw ++ 0x2E ∷ (aw ++ is.0),
      (bw, aw, is.0, (run_piece is_ws c.rest).1, (run_piece is_ws dot.1.rest).1, is.1, refl),
      ws_sound c ∙ ap (λ l. bw ++ l) (here ∙ ap (λ l. 0x2E ∷ l) (ws_sound dot.1 ∙ ap (λ l. aw ++ l) is.2)) ∙ sym (regrouped bw aw is.0 r.1.rest),
    )))

pub step_sound : (c : Cursor) → IfOk (step_at c) (StepIs c)
unfolding step_at
step_sound c =
    sound_cond (begins (is_byte 0x5B) c.rest) _ _ (StepIs c) (λ e. opened e (bracketed_at (ahead 1 c)) (bracketed_sound (ahead 1 c))) (λ _. dotted_sound c)
  where
    opened : begins (is_byte 0x5B) c.rest ≡ true → (o : Reading PlaceStep) → IfOk o (OpenedIs (ahead 1 c)) → IfOk o (StepIs c)
    opened e (Err at) h = tt
    opened e (Ok r) h = (0x5B ∷ h.0, h.1, begins_is 0x5B c.rest e ∙ ap (λ l. 0x5B ∷ l) h.2)

pub steps_sound : (fuel : ℕ) (c : Cursor) → IfOk (steps_at fuel c) (λ steps. SpellsSteps steps c.rest)
steps_sound zero c = sound_cond (length c.rest == 0) _ _ (λ steps. SpellsSteps steps c.rest) (λ e. empty_is c.rest e) (λ _. tt)
steps_sound (suc fuel) c =
    sound_cond (length c.rest == 0) _ _ (λ steps. SpellsSteps steps c.rest) (λ e. empty_is c.rest e) (λ _.
    sound_bind (step_at c) _ (StepIs c) (λ steps. SpellsSteps steps c.rest) (step_sound c) (λ r is.
    sound_bind (steps_at fuel r.1) _ (λ steps. SpellsSteps steps r.1.rest) (λ steps. SpellsSteps steps c.rest) (steps_sound fuel r.1) (λ steps more.
    (is.0, r.1.rest, is.1, more, is.2))))

pub end_sound : (c : Cursor) → IfOk (end_at c) (λ steps. (steps ≡ []) × (c.rest ≡ []))
unfolding end_at
end_sound c = sound_cond (length c.rest == 0) _ _ (λ steps. (steps ≡ []) × (c.rest ≡ [])) (λ e. (refl, empty_is c.rest e)) (λ _. tt)

pub named_sound : (c : Cursor) → IfOk (named_at c) (λ steps. SpellsPlace steps c.rest)
unfolding named_at
named_sound c =
    sound_bind (part_at c) _ (PartIs c) (λ steps. SpellsPlace steps c.rest) (part_sound_at c) (λ r is.
    sound_bind (steps_at (length r.1.rest) r.1) _ (λ steps. SpellsSteps steps r.1.rest) (λ steps. SpellsPlace steps c.rest) (steps_sound (length r.1.rest) r.1) (λ steps more.
    (is.0, r.1.rest, is.1, more, is.2)))

pub place_sound : (c : Cursor) → IfOk (place_at c) (λ steps. SpellsPlace steps c.rest)
unfolding place_at
place_sound c =
    sound_cond (begins (is_byte 0x2E) c.rest) _ _ (λ steps. SpellsPlace steps c.rest) (λ e. root e (end_at (ahead 1 c)) (end_sound (ahead 1 c))) (λ _. named_sound c)
  where
    root : begins (is_byte 0x2E) c.rest ≡ true → (o : Result (List PlaceStep) ℕ) → IfOk o (λ steps. (steps ≡ []) × (drop 1 c.rest ≡ [])) → IfOk o (λ steps. SpellsPlace steps c.rest)
    root e (Err at) h = tt
    root e (Ok steps) h = subst (λ s. SpellsPlace s c.rest) (sym h.0) (begins_is 0x2E c.rest e ∙ ap (λ l. 0x2E ∷ l) h.1)

pub found_is_spelled : FoundIsSpelled
unfolding read_steps
found_is_spelled bytes steps read = subst (λ o. IfOk o (λ s. SpellsPlace s bytes)) read (place_sound (record { at = 0; rest = bytes }))
