-- What stands before the byte at which the plain reader refuses a text can go on to be a place.
use Rattle.std.proofs.Common.{◌≡◌, ℕ, zero, suc, ◌+◌, ◌<◌, ◌^◌, ◌&&◌, Bool, true, false, cond, List, [], ◌∷◌, ◌++◌, length, length-append, take, Option, Some, None, Result, Ok, Err, sym, refl, ap, ◌∙◌, subst, arith, append_assoc, inl, inr}
use Rattle.std.specs.Prelude.{IfOk, IfErr, nat_lt, ◌==◌}
use Rattle.std.specs.Str.Parse.{digits_value}
use Rattle.std.proofs.lemmas.List.{append-nil}
use Rattle.std.proofs.Math.Seq.{take-append_seam}
use Rattle.toml_text.specs.Bytes.{is_ws}
use Rattle.toml_text.specs.Runs.{run_len, begins, is_byte}
use Rattle.toml_text.proofs.Proved.{run_piece}
use Rattle.toml_scalar.specs.Names.{IsName}
use Rattle.toml_scalar.specs.Scanning.{key_part_len}
use Rattle.toml_scalar.specs.Values.{name_of}
use Rattle.toml_places.specs.declared.place.PlaceStep.{PlaceStep}
use Rattle.toml_places.specs.declared.place.PlaceStep.TheVariants.{Name, Index, FromEnd}
use Rattle.toml_places.specs.Laws.{FrontGoesOn}
use Rattle.toml_places.specs.Places.{IsNumber, SpellsStep, SpellsSteps, SpellsPlace}
use Rattle.toml_places.specs.Reading.{Cursor, Reading, ◌>>=◌, found, ahead, byte_at, behind_ws, part_at, numeral_len, number_at, from_end_at, index_at, bracketed_at, dotted_at, step_at, steps_at, end_at, named_at, place_at, read_steps}
use Rattle.toml_places.proofs.Sound.{PartIs, NumberIs, InnerIs, StepIs, begins_is, byte_sound, part_sound_at, number_sound, index_sound, step_sound, ws_sound}
use Rattle.toml_places.proofs.Within.{Within, end, byte_within, index_within, part_within, step_within, ws_within}

-- so many bytes stand before a place, and with more behind them they are of the form
record Goes (Form : List ℕ → Type 0) (c : Cursor) (at : ℕ) : Type 0 where
  front : List ℕ
  rest : List ℕ
  more : List ℕ
  is : c.rest ≡ front ++ rest
  place : at ≡ c.at + length front
  goes : Form (front ++ more)

-- where it is refused it could have gone on
abbrev GoesOn : {A : Type 0} → (List ℕ → Type 0) → Cursor → Result A ℕ → Type 0
GoesOn Form c o = IfErr o (Goes Form c)

goes_bind : {A B : Type 0} (Form : List ℕ → Type 0) (c : Cursor) (o : Result A ℕ) (f : A → Result B ℕ) (R : A → Type 0) → IfOk o R → GoesOn Form c o → ((a : A) → R a → GoesOn Form c (f a)) → GoesOn Form c (o >>= f)
goes_bind Form c (Ok a) f R is goes more = more a is
goes_bind Form c (Err at) f R is goes more = goes

goes_cond : {A : Type 0} (Form : List ℕ → Type 0) (c : Cursor) (b : Bool) (x y : Result A ℕ) → (b ≡ true → GoesOn Form c x) → (b ≡ false → GoesOn Form c y) → GoesOn Form c (cond b x y)
goes_cond Form c true x y h k = h refl
goes_cond Form c false x y h k = k refl

goes_found : {A : Type 0} (Form : List ℕ → Type 0) (c : Cursor) (o : Option A) → Goes Form c c.at → GoesOn Form c (found c.at o)
goes_found Form c None here = here
goes_found Form c (Some a) here = tt

any_found : {A : Type 0} (at : ℕ) (o : Option A) → IfOk (found at o) (λ a. Unit {0})
any_found at None = tt
any_found at (Some a) = tt

-- at the place itself
here : (Form : List ℕ → Type 0) (c : Cursor) (more : List ℕ) → Form more → Goes Form c c.at
here Form c more form = record { front = []; rest = c.rest; more = more; is = refl; place = omega arith; goes = form }

-- behind bytes that stand there
behind : {A : Type 0} (Inner Form : List ℕ → Type 0) (c d : Cursor) (bytes : List ℕ) → c.rest ≡ bytes ++ d.rest → d.at ≡ c.at + length bytes → ((text : List ℕ) → Inner text → Form (bytes ++ text)) → (o : Result A ℕ) → GoesOn Inner d o → GoesOn Form c o
behind Inner Form c d bytes is place wider (Ok a) goes = tt
behind Inner Form c d bytes is place wider (Err at) goes = record {
  front = bytes ++ goes.front;
  rest = goes.rest;
  more = goes.more;
  is = is ∙ ap (λ l. bytes ++ l) goes.is ∙ sym (append_assoc bytes goes.front goes.rest);
  place = omega (arith, goes.place, length-append bytes goes.front);
  goes = subst Form (sym (append_assoc bytes goes.front goes.more)) (wider (goes.front ++ goes.more) goes.goes);
}

-- of another form, with this behind it
wider : {A : Type 0} (Inner Form : List ℕ → Type 0) (c : Cursor) (last : List ℕ) → ((text : List ℕ) → Inner text → Form (text ++ last)) → (o : Result A ℕ) → GoesOn Inner c o → GoesOn Form c o
wider Inner Form c last wide (Ok a) goes = tt
wider Inner Form c last wide (Err at) goes = record {
  front = goes.front;
  rest = goes.rest;
  more = goes.more ++ last;
  is = goes.is;
  place = goes.place;
  goes = subst Form (append_assoc goes.front goes.more last) (wide (goes.front ++ goes.more) goes.goes);
}

weaken : {A : Type 0} (Inner Form : List ℕ → Type 0) (c : Cursor) → ((text : List ℕ) → Inner text → Form text) → (o : Result A ℕ) → GoesOn Inner c o → GoesOn Form c o
weaken Inner Form c wide (Ok a) goes = tt
weaken Inner Form c wide (Err at) goes = record { front = goes.front; rest = goes.rest; more = goes.more; is = goes.is; place = goes.place; goes = wide (goes.front ++ goes.more) goes.goes }

goes_map : {A B : Type 0} (Form : List ℕ → Type 0) (c : Cursor) (o : Result A ℕ) (f : A → B) → GoesOn Form c o → GoesOn Form c (o >>= λ a. Ok (f a))
goes_map Form c (Ok a) f goes = tt
goes_map Form c (Err at) f goes = goes

-- what was read, and that it ends in the same text
both : {A : Type 0} (c : Cursor) (o : Reading A) (R : A × Cursor → Type 0) → IfOk o R → Within (end c) o → IfOk o (λ r. R r × (end r.1 ≡ end c))
both c (Ok r) R is same = (is, same)
both c (Err at) R is same = tt

at_is : (c d : Cursor) (text : List ℕ) → c.rest ≡ text ++ d.rest → end d ≡ end c → d.at ≡ c.at + length text
at_is c d text is same = omega (arith, ap length is ∙ length-append text d.rest)

-- pieces
byte_goes : (x : ℕ) (c : Cursor) → GoesOn (λ text. text ≡ x ∷ []) c (byte_at x c)
unfolding byte_at
byte_goes x c = goes_cond (λ text. text ≡ x ∷ []) c (begins (is_byte x) c.rest) _ _ (λ _. tt) (λ _. here (λ text. text ≡ x ∷ []) c (x ∷ []) refl)

abbrev AnyPart : List ℕ → Type 0
AnyPart text = (name : List ℕ) × IsName text name

-- `a` is a key part, and `1` a number
a_name : IsName (0x61 ∷ []) (0x61 ∷ [])
a_name = inl ((refl, tt), refl)

a_part : AnyPart (0x61 ∷ [])
a_part = (0x61 ∷ [], a_name)

part_goes : (c : Cursor) → GoesOn AnyPart c (part_at c)
unfolding part_at
part_goes c =
    goes_bind AnyPart c (found c.at (key_part_len c.rest)) _ (λ _. Unit {0}) (any_found c.at (key_part_len c.rest)) (goes_found AnyPart c (key_part_len c.rest) (here AnyPart c (0x61 ∷ []) a_part)) (λ n _.
    goes_bind AnyPart c (found c.at (name_of (take n c.rest))) _ (λ _. Unit {0}) (any_found c.at (name_of (take n c.rest))) (goes_found AnyPart c (name_of (take n c.rest)) (here AnyPart c (0x61 ∷ []) a_part)) (λ name _. tt))

abbrev AnyNumber : List ℕ → Type 0
AnyNumber text = (n : ℕ) × IsNumber text n × (0 < n)

a_number : AnyNumber (0x31 ∷ [])
a_number = (1, record { numeral = inr (refl, tt); value = refl; limit = omega arith }, omega arith)

number_goes : (c : Cursor) → GoesOn AnyNumber c (number_at c)
unfolding number_at
number_goes c =
    let n = numeral_len c.rest in
    goes_cond AnyNumber c (nat_lt 0 n && nat_lt (digits_value 10 (take n c.rest)) (2 ^ 64)) (Ok (digits_value 10 (take n c.rest), ahead n c)) (Err c.at) (λ _. tt) (λ _. here AnyNumber c (0x31 ∷ []) a_number)

from_end_goes : (c : Cursor) → GoesOn AnyNumber c (from_end_at c)
unfolding from_end_at
from_end_goes c =
    goes_bind AnyNumber c (number_at c) _ (NumberIs c) (number_sound c) (number_goes c) (λ r is.
    goes_cond AnyNumber c (r.0 == 0) _ _ (λ _. here AnyNumber c (0x31 ∷ []) a_number) (λ _. tt))

-- brackets
abbrev AnyInner : List ℕ → Type 0
AnyInner text = (s : PlaceStep) × SpellsStep s (0x5B ∷ (text ++ 0x5D ∷ []))

index_goes : (c : Cursor) → GoesOn AnyInner c (index_at c)
unfolding index_at
index_goes c =
    goes_cond AnyInner c (begins (is_byte 0x2B) c.rest) _ _ (λ _. tt) (λ _.
    goes_cond AnyInner c (begins (is_byte 0x2D) c.rest) _ _
    (λ e. behind AnyNumber AnyInner c (ahead 1 c) (0x2D ∷ []) (begins_is 0x2D c.rest e) refl (λ text n. (FromEnd n.0, (text, n.1, n.2, refl))) (from_end_at (ahead 1 c)) (from_end_goes (ahead 1 c)))
    (λ _. goes_bind AnyInner c (number_at c) _ (NumberIs c) (number_sound c)
    (weaken AnyNumber AnyInner c (λ text n. (Index n.0, (text, n.1, refl))) (number_at c) (number_goes c)) (λ r is. tt)))

abbrev AnyOpened : List ℕ → Type 0
AnyOpened text = (s : PlaceStep) × SpellsStep s (0x5B ∷ text)

bracketed_goes : (c : Cursor) → GoesOn AnyOpened c (bracketed_at c)
unfolding bracketed_at
bracketed_goes c =
    goes_bind AnyOpened c (index_at c) _ (λ r. InnerIs c r × (end r.1 ≡ end c)) (both c (index_at c) (InnerIs c) (index_sound c) (index_within c))
    (wider AnyInner AnyOpened c (0x5D ∷ []) (λ text s. s) (index_at c) (index_goes c)) (λ r is.
    goes_bind AnyOpened c (byte_at 0x5D r.1) _ (λ closed. r.1.rest ≡ 0x5D ∷ closed.1.rest) (byte_sound 0x5D r.1)
    (behind (λ text. text ≡ 0x5D ∷ []) AnyOpened c r.1 is.0.0 is.0.2 (at_is c r.1 is.0.0 is.0.2 is.1)
    (λ text e. subst (λ t. AnyOpened (is.0.0 ++ t)) (sym e) (r.0, is.0.1)) (byte_at 0x5D r.1) (byte_goes 0x5D r.1)) (λ closed _. tt))

-- steps
abbrev AnyStep : List ℕ → Type 0
AnyStep text = (s : PlaceStep) × SpellsStep s text

dotted_goes : (c : Cursor) → GoesOn AnyStep c (dotted_at c)
unfolding dotted_at
dotted_goes c =
    let b = behind_ws c in
    let bw = take (run_len is_ws c.rest) c.rest in
    let ws = (run_piece is_ws c.rest).1 in
    goes_bind AnyStep c (byte_at 0x2E b) _ (λ dot. (b.rest ≡ 0x2E ∷ dot.1.rest) × (end dot.1 ≡ end b)) (both b (byte_at 0x2E b) (λ dot. b.rest ≡ 0x2E ∷ dot.1.rest) (byte_sound 0x2E b) (byte_within 0x2E b))
    (behind (λ text. text ≡ 0x2E ∷ 0x61 ∷ []) AnyStep c b bw (ws_sound c) (at_is c b bw (ws_sound c) (ws_within c))
    (λ text e. subst (λ t. AnyStep (bw ++ t)) (sym e) (Name (0x61 ∷ []), (bw, [], 0x61 ∷ [], ws, tt, a_name, refl)))
    (byte_at 0x2E b)
    (wider (λ text. text ≡ 0x2E ∷ []) (λ text. text ≡ 0x2E ∷ 0x61 ∷ []) b (0x61 ∷ []) (λ text e. ap (λ t. t ++ 0x61 ∷ []) e) (byte_at 0x2E b) (byte_goes 0x2E b))) (λ dot is.
    let d = behind_ws dot.1 in
    let aw = take (run_len is_ws dot.1.rest) dot.1.rest in
    let whole : c.rest ≡ (bw ++ 0x2E ∷ aw) ++ d.rest = ws_sound c ∙ ap (λ l. bw ++ l) (is.0 ∙ ap (λ l. 0x2E ∷ l) (ws_sound dot.1)) ∙ sym (append_assoc bw (0x2E ∷ aw) d.rest) in
    goes_map AnyStep c (part_at d) (λ r. (Name r.0, r.1))
    (behind AnyPart AnyStep c d (bw ++ 0x2E ∷ aw) whole (at_is c d (bw ++ 0x2E ∷ aw) whole (ws_within dot.1 ∙ is.1 ∙ ws_within c))
    (λ text n. (Name n.0, (bw, aw, text, ws, (run_piece is_ws dot.1.rest).1, n.1, append_assoc bw (0x2E ∷ aw) text))) (part_at d) (part_goes d)))

step_goes : (c : Cursor) → GoesOn AnyStep c (step_at c)
unfolding step_at
step_goes c =
    goes_cond AnyStep c (begins (is_byte 0x5B) c.rest) _ _
    (λ e. behind AnyOpened AnyStep c (ahead 1 c) (0x5B ∷ []) (begins_is 0x5B c.rest e) refl (λ text s. s) (bracketed_at (ahead 1 c)) (bracketed_goes (ahead 1 c)))
    (λ _. dotted_goes c)

abbrev AnySteps : List ℕ → Type 0
AnySteps text = (steps : List PlaceStep) × SpellsSteps steps text

steps_goes : (fuel : ℕ) (c : Cursor) → GoesOn AnySteps c (steps_at fuel c)
steps_goes zero c = goes_cond AnySteps c (length c.rest == 0) _ _ (λ _. tt) (λ _. here AnySteps c [] ([], refl))
steps_goes (suc fuel) c =
    goes_cond AnySteps c (length c.rest == 0) _ _ (λ _. tt) (λ _.
    goes_bind AnySteps c (step_at c) _ (λ r. StepIs c r × (end r.1 ≡ end c)) (both c (step_at c) (StepIs c) (step_sound c) (step_within c))
    (weaken AnyStep AnySteps c (λ text s. (s.0 ∷ [], (text, [], s.1, refl, sym (append-nil text)))) (step_at c) (step_goes c)) (λ r is.
    goes_map AnySteps c (steps_at fuel r.1) (λ steps. r.0 ∷ steps)
    (behind AnySteps AnySteps c r.1 is.0.0 is.0.2 (at_is c r.1 is.0.0 is.0.2 is.1) (λ text more. (r.0 ∷ more.0, (is.0.0, text, is.0.1, more.1, refl))) (steps_at fuel r.1) (steps_goes fuel r.1))))

-- places
abbrev AnyPlace : List ℕ → Type 0
AnyPlace text = (steps : List PlaceStep) × SpellsPlace steps text

named_goes : (c : Cursor) → GoesOn AnyPlace c (named_at c)
unfolding named_at
named_goes c =
    goes_bind AnyPlace c (part_at c) _ (λ r. PartIs c r × (end r.1 ≡ end c)) (both c (part_at c) (PartIs c) (part_sound_at c) (part_within c))
    (weaken AnyPart AnyPlace c (λ text n. (Name n.0 ∷ [], (text, [], n.1, refl, sym (append-nil text)))) (part_at c) (part_goes c)) (λ r is.
    goes_map AnyPlace c (steps_at (length r.1.rest) r.1) (λ steps. Name r.0 ∷ steps)
    (behind AnySteps AnyPlace c r.1 is.0.0 is.0.2 (at_is c r.1 is.0.0 is.0.2 is.1) (λ text more. (Name r.0 ∷ more.0, (is.0.0, text, is.0.1, more.1, refl))) (steps_at (length r.1.rest) r.1) (steps_goes (length r.1.rest) r.1)))

end_goes : (c : Cursor) → GoesOn (λ text. text ≡ []) c (end_at c)
unfolding end_at
end_goes c = goes_cond (λ text. text ≡ []) c (length c.rest == 0) _ _ (λ _. tt) (λ _. here (λ text. text ≡ []) c [] refl)

place_goes : (c : Cursor) → GoesOn AnyPlace c (place_at c)
unfolding place_at
place_goes c =
    goes_cond AnyPlace c (begins (is_byte 0x2E) c.rest) _ _
    (λ e. behind (λ text. text ≡ []) AnyPlace c (ahead 1 c) (0x2E ∷ []) (begins_is 0x2E c.rest e) refl (λ text none. ([], ap (λ t. 0x2E ∷ t) none)) (end_at (ahead 1 c)) (end_goes (ahead 1 c)))
    (λ _. named_goes c)

pub front_goes_on : FrontGoesOn
unfolding read_steps
front_goes_on bytes at refused =
    let goes : Goes AnyPlace (record { at = 0; rest = bytes }) at = subst (GoesOn AnyPlace (record { at = 0; rest = bytes })) refused (place_goes (record { at = 0; rest = bytes })) in
    let count : at ≡ length goes.front = let place = goes.place in omega arith in
    let front : take at bytes ≡ goes.front = ap (λ n. take n bytes) count ∙ ap (take (length goes.front)) goes.is ∙ take-append_seam goes.front goes.rest in
    (goes.more, goes.goes.0, subst (λ t. SpellsPlace goes.goes.0 (t ++ goes.more)) (sym front) goes.goes.1)
