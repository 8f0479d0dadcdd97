-- What the plain scan of a scalar finds is a token, and no token there is longer.
use Rattle.std.proofs.Common.{◌≡◌, ℕ, ◌+◌, ◌≤◌, true, false, cond, ◌&&◌, List, [], ◌∷◌, ◌++◌, length, take, drop, Option, Some, None, option_map, ⊎_elim, refl, sym, ap, ◌∙◌, subst, arith, length-append, length-drop}
use Rattle.std.proofs.lemmas.Bool.{false≢true, and_parts, cond-true, cond-false}
use Rattle.std.proofs.lemmas.Option.{none-some, same_Some}
use Rattle.toml_text.specs.Runs.{run_len, begins}
use Rattle.toml_text.specs.Forms.{Each}
use Rattle.toml_text.proofs.Proved.{run_piece, begins_other, begins_more}
use Rattle.toml_scalar.specs.ScanLaws.{ScanIsLongest}
use Rattle.toml_scalar.specs.Runs.{is_value_byte}
use Rattle.toml_scalar.specs.Booleans.{is_bool}
use Rattle.toml_scalar.specs.FloatRuns.{is_float}
use Rattle.toml_scalar.specs.IntegerRuns.{is_integer}
use Rattle.toml_scalar.specs.MomentRuns.{is_date_shape, moment_kind}
use Rattle.toml_scalar.specs.MomentLaws.{IsSpaced}
use Rattle.toml_scalar.specs.Scanning.{is_mark, goes_on, value_len, kind_of, scan_at}
use Rattle.toml_scalar.specs.Strings.{IsString}
use Rattle.toml_scalar.specs.declared.strings.kind.StringKind.{StringKind}
use Rattle.toml_scalar.specs.StringRuns.{string_len}
use Rattle.toml_scalar.specs.Tokens.{IsToken}
use Rattle.toml_scalar.specs.declared.kind.ScalarKind.{ScalarKind}
use Rattle.toml_scalar.specs.declared.kind.ScalarKind.TheVariants as kinds
use Rattle.toml_scalar.proofs.Booleans.{bool_sound, bool_run, bool_some}
use Rattle.toml_scalar.proofs.Digits.{either}
use Rattle.toml_scalar.proofs.Floats.{float_sound, float_run, float_some}
use Rattle.toml_scalar.proofs.Integers.{integer_sound, integer_run, integer_some}
use Rattle.toml_scalar.proofs.Moments.{moment_sound, moment_run}
use Rattle.toml_scalar.proofs.Scanned.{run_len-append, spaced_len, moment_some, value_no_mark, string_first, mark_is}
use Rattle.toml_scalar.proofs.StringLaws.{string_sound, string_longest}

pub option_map_some : {A B : Type 0} (f : A → B) (o : Option A) (y : B) → option_map f o ≡ Some y → (x : A) × (o ≡ Some x) × (f x ≡ y)
option_map_some f None y h = absurd (none-some y h)
option_map_some f (Some x) y h = (x, refl, same_Some (f x) y h)

pub kind_sound : (run : List ℕ) (k : ScalarKind) → kind_of run ≡ Some k → IsToken k run
unfolding kind_of
kind_sound run k h = ⊎_elim
    (λ (b : (is_bool run ≡ true) × (Some kinds.Bool ≡ Some k)). subst (λ (x : ScalarKind). IsToken x run) (same_Some _ _ b.1) (bool_sound run b.0))
    (λ (not_bool : (is_bool run ≡ false) × (cond (is_integer run) (Some kinds.Integer) (cond (is_float run) (Some kinds.Float) (option_map kinds.Moment (moment_kind run))) ≡ Some k)). ⊎_elim
    (λ (i : (is_integer run ≡ true) × (Some kinds.Integer ≡ Some k)). subst (λ (x : ScalarKind). IsToken x run) (same_Some _ _ i.1) (integer_sound run i.0))
    (λ (not_integer : (is_integer run ≡ false) × (cond (is_float run) (Some kinds.Float) (option_map kinds.Moment (moment_kind run)) ≡ Some k)). ⊎_elim
    (λ (f : (is_float run ≡ true) × (Some kinds.Float ≡ Some k)). subst (λ (x : ScalarKind). IsToken x run) (same_Some _ _ f.1) (float_sound run f.0))
    (λ (m : (is_float run ≡ false) × (option_map kinds.Moment (moment_kind run) ≡ Some k)).
    let found = option_map_some kinds.Moment (moment_kind run) k m.1 in
    subst (λ (x : ScalarKind). IsToken x run) found.2 (moment_sound run found.0 found.1))
    (either (is_float run) _ _ _ not_integer.1))
    (either (is_integer run) _ _ _ not_bool.1))
    (either (is_bool run) _ _ _ h)

goes_on_two : (bs : List ℕ) → goes_on bs ≡ true → 2 ≤ length bs
goes_on_two [] h = absurd (false≢true h)
goes_on_two (s ∷ []) h = absurd (false≢true h)
goes_on_two (s ∷ d ∷ bs) h = omega arith

value_len-le : (bs : List ℕ) → value_len bs ≤ length bs
value_len-le bs =
    let n = run_len is_value_byte bs in
    let within : n ≤ length bs = (run_piece is_value_byte bs).0 in
    elim (is_date_shape (take n bs) && goes_on (drop n bs)) as (λ t. (is_date_shape (take n bs) && goes_on (drop n bs)) ≡ t → cond t (n + 1 + run_len is_value_byte (drop (n + 1) bs)) n ≤ length bs) [
      | true ↦ λ e.
          let two : 2 ≤ length (drop n bs) = goes_on_two (drop n bs) (and_parts (is_date_shape (take n bs)) (goes_on (drop n bs)) e).1 in
          omega (arith, two, length-drop n bs, (run_piece is_value_byte (drop (n + 1) bs)).0, length-drop (n + 1) bs)
      | false ↦ λ e. within
    ] refl

pub scan_sound : (bs : List ℕ) (n : ℕ) (k : ScalarKind) → scan_at bs ≡ Some (n, k) → (n ≤ length bs) × IsToken k (take n bs)
unfolding scan_at
scan_sound bs n k h = ⊎_elim
    (λ (s : (begins is_mark bs ≡ true) × (option_map (λ (m : ℕ). (m, kinds.Text)) (string_len bs) ≡ Some (n, k))).
    let found = option_map_some (λ (m : ℕ). (m, kinds.Text)) (string_len bs) (n, k) s.1 in
    let len : found.0 ≡ n = ap (λ (p : ℕ × ScalarKind). p.0) found.2 in
    let kind : kinds.Text ≡ k = ap (λ (p : ℕ × ScalarKind). p.1) found.2 in
    let sound = string_sound bs n (found.1 ∙ ap Some len) in
    (sound.0, subst (λ (x : ScalarKind). IsToken x (take n bs)) kind sound.1))
    (λ (r : (begins is_mark bs ≡ false) × (option_map (λ (x : ScalarKind). (value_len bs, x)) (kind_of (take (value_len bs) bs)) ≡ Some (n, k))).
    let found = option_map_some (λ (x : ScalarKind). (value_len bs, x)) (kind_of (take (value_len bs) bs)) (n, k) r.1 in
    let len : value_len bs ≡ n = ap (λ (p : ℕ × ScalarKind). p.0) found.2 in
    let kind : found.0 ≡ k = ap (λ (p : ℕ × ScalarKind). p.1) found.2 in (
      subst (λ (m : ℕ). m ≤ length bs) len (value_len-le bs),
      subst (λ (m : ℕ). IsToken k (take m bs)) len (kind_sound (take (value_len bs) bs) k (found.1 ∙ ap Some kind)),
    ))
    (either (begins is_mark bs) _ _ _ h)

-- the run that is judged is no shorter than a run at the front
value_len-from : (bs : List ℕ) → run_len is_value_byte bs ≤ value_len bs
value_len-from bs =
    let n = run_len is_value_byte bs in
    elim (is_date_shape (take n bs) && goes_on (drop n bs)) as (λ t. n ≤ cond t (n + 1 + run_len is_value_byte (drop (n + 1) bs)) n) [ true ↦ omega arith | false ↦ omega arith ]

plain_longest : (t r : List ℕ) → Each is_value_byte t → length t ≤ value_len (t ++ r)
plain_longest t r h = omega (arith, value_len-from (t ++ r), run_len-append is_value_byte t r h)

spaced_longest : (t r : List ℕ) → IsSpaced t → length t ≤ value_len (t ++ r)
spaced_longest t r (date, rest, is, shape, ten, each, others, digit) =
    let len : value_len (t ++ r) ≡ length date + 1 + run_len is_value_byte (rest ++ r) = ap (λ x. value_len (x ++ r)) is ∙ spaced_len date rest r shape each digit in
    omega (arith, len, run_len-append is_value_byte rest r others, ap length is, length-append date (0x20 ∷ rest))

-- what the scan answers behind a run
run_answer : (bs : List ℕ) (n : ℕ) (k : ScalarKind) → begins is_mark bs ≡ false → scan_at bs ≡ Some (n, k) → value_len bs ≡ n
unfolding scan_at
run_answer bs n k first h =
    let found = option_map_some (λ (x : ScalarKind). (value_len bs, x)) (kind_of (take (value_len bs) bs)) (n, k) (sym (cond-false _ _ _ first) ∙ h) in
    ap (λ (p : ℕ × ScalarKind). p.0) found.2

text_answer : (bs : List ℕ) (n : ℕ) (k : ScalarKind) → begins is_mark bs ≡ true → scan_at bs ≡ Some (n, k) → string_len bs ≡ Some n
unfolding scan_at
text_answer bs n k first h =
    let found = option_map_some (λ (m : ℕ). (m, kinds.Text)) (string_len bs) (n, k) (sym (cond-true _ _ _ first) ∙ h) in
    found.1 ∙ ap Some (ap (λ (p : ℕ × ScalarKind). p.0) found.2)

module _ (k : ScalarKind) (t r : List ℕ) (n : ℕ) (found : scan_at (t ++ r) ≡ Some (n, k)) where
  string : (kind : StringKind) → IsString kind t → length t ≤ n
  string kind is = string_longest kind t r n is (text_answer (t ++ r) n k (begins_more _ is_mark (t ++ r) (mark_is kind) (string_first kind t r is)) found)

  -- what the scan answers behind a byte of a run
  run : begins is_value_byte (t ++ r) ≡ true → length t ≤ value_len (t ++ r) → length t ≤ n
  run value within = omega (arith, within, run_answer (t ++ r) n k (begins_other is_value_byte is_mark (t ++ r) value_no_mark value) found)

  -- no token at the front is longer than what the scan finds
  pub scan_longest : (j : ScalarKind) → IsToken j t → length t ≤ n
  scan_longest kinds.Text is = string is.0 is.1
  scan_longest kinds.Integer is = run (integer_some t r is) (plain_longest t r (integer_run t is))
  scan_longest kinds.Float is = run (float_some t r is) (plain_longest t r (float_run t is))
  scan_longest kinds.Bool is = run (bool_some t r is) (plain_longest t r (bool_run t is))
  scan_longest (kinds.Moment m) is = run (moment_some t r m is) (⊎_elim (λ (e : Each is_value_byte t). plain_longest t r e) (λ (s : IsSpaced t). spaced_longest t r s) (moment_run t m is))

pub scan_is_longest : ScanIsLongest
scan_is_longest token rest n found kind is = scan_longest found token rest n is kind
