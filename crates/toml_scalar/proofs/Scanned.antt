-- The plain scan of a scalar finds just the tokens.
use Rattle.std.proofs.Common.{◌≡◌, ℕ, ◌+◌, Bool, true, false, cond, ◌||◌, ◌&&◌, eqb, List, [], ◌∷◌, ◌++◌, length, take, drop, Some, option_map, ◌⊎◌, inl, inr, ⊎_elim, refl, sym, ap, ◌∙◌, arith, append_assoc, length-append}
use Rattle.std.proofs.lemmas.Bool.{false≢true, and_parts, and_from, cond-true, cond-false}
use Rattle.std.proofs.lemmas.Bool.Decides.{nat_tests}
use Rattle.std.proofs.Math.Seq.{take-append_seam, drop-append_seam, drop-append-add}
use Rattle.toml_text.specs.Bytes.{is_digit, is_ws}
use Rattle.toml_text.specs.Forms.{Each}
use Rattle.toml_text.specs.Runs.{run_len, begins, is_byte}
use Rattle.toml_text.proofs.Proved.{run_found, begins_other, begins_more}
use Rattle.toml_scalar.specs.Runs.{is_value_byte}
use Rattle.toml_scalar.specs.Booleans.{is_bool}
use Rattle.toml_scalar.specs.FloatRuns.{is_float}
use Rattle.toml_scalar.specs.IntegerRuns.{is_integer, is_integer_form}
use Rattle.toml_scalar.specs.Moments.{IsMoment}
use Rattle.toml_scalar.specs.MomentRuns.{is_date_shape, moment_kind}
use Rattle.toml_scalar.specs.MomentLaws.{BeginsYear, BeginsHour, IsSpaced}
use Rattle.toml_scalar.specs.Scanning.{is_mark, goes_on, value_len, kind_of, scan_at, is_scalar_start}
use Rattle.toml_scalar.specs.ScanLaws.{TokenBegins}
use Rattle.toml_scalar.specs.Strings.{IsString, quote_of}
use Rattle.toml_scalar.specs.declared.strings.kind.StringKind.{StringKind}
use Rattle.toml_scalar.specs.declared.strings.kind.StringKind.TheVariants.{Basic, MultiLineBasic, Literal, MultiLineLiteral}
use Rattle.toml_scalar.specs.Tokens.{IsToken, Closes}
use Rattle.toml_scalar.specs.declared.kind.MomentKind.{MomentKind}
use Rattle.toml_scalar.specs.declared.kind.ScalarKind.{ScalarKind}
use Rattle.toml_scalar.specs.declared.kind.ScalarKind.TheVariants as kinds
use Rattle.toml_scalar.proofs.Apart.{integer_no_float, bool_no_integer, bool_no_float, date_no_bool, date_no_float, date_no_integer, time_no_bool, time_no_float, time_no_integer}
use Rattle.toml_scalar.proofs.Booleans.{bool_complete, bool_run, bool_some}
use Rattle.toml_scalar.proofs.Floats.{float_complete, float_run, float_some}
use Rattle.toml_scalar.proofs.Integers.{integer_complete, integer_run, integer_some}
use Rattle.toml_scalar.proofs.Moments.{moment_complete, moment_first, moment_run}
use Rattle.toml_scalar.proofs.StringLaws.{string_found, string_begins}

-- what closes
abbrev is_closer : ℕ → Bool
is_closer b = is_ws b || eqb b 0x0A || eqb b 0x0D || eqb b 0x23 || eqb b 0x2C || eqb b 0x5D || eqb b 0x7D

closes_first : (b : ℕ) (bs : List ℕ) → Closes (b ∷ bs) → is_closer b ≡ true
closes_first b bs (inl k) = grind (arith, nat_tests)
closes_first b bs (inr (inl e)) = rw e refl
closes_first b bs (inr (inr (inl e))) = rw e.0 refl
closes_first b bs (inr (inr (inr (inl e)))) = rw e refl
closes_first b bs (inr (inr (inr (inr (inl e))))) = rw e refl
closes_first b bs (inr (inr (inr (inr (inr (inl e)))))) = rw e refl
closes_first b bs (inr (inr (inr (inr (inr (inr e)))))) = rw e refl

pub closes_stops : (q : ℕ → Bool) (bs : List ℕ) → ((b : ℕ) → is_closer b ≡ true → q b ≡ false) → Closes bs → begins q bs ≡ false
closes_stops q [] apart h = refl
closes_stops q (b ∷ bs) apart h = apart b (closes_first b bs h)

closer_no_value : (b : ℕ) → is_closer b ≡ true → is_value_byte b ≡ false
closer_no_value b h = grind (arith, nat_tests)

closer_no_digit : (b : ℕ) → is_closer b ≡ true → is_digit b ≡ false
closer_no_digit b h = grind (arith, nat_tests)

closer_no_mark : (k : StringKind) (b : ℕ) → is_closer b ≡ true → is_byte (quote_of k) b ≡ false
closer_no_mark Basic b h = grind (arith, nat_tests)
closer_no_mark MultiLineBasic b h = grind (arith, nat_tests)
closer_no_mark Literal b h = grind (arith, nat_tests)
closer_no_mark MultiLineLiteral b h = grind (arith, nat_tests)

no_space : (s : ℕ) (d : Bool) → eqb s 0x20 ≡ false → (eqb s 0x20 && d) ≡ false
no_space s d e = rw e refl

no_digit : (s : Bool) (d : Bool) → d ≡ false → (s && d) ≡ false
no_digit true d e = e
no_digit false d e = refl

closed_ends : (r : List ℕ) → Closes r → goes_on r ≡ false
closed_ends [] h = refl
closed_ends (s ∷ []) h = refl
closed_ends (s ∷ d ∷ bs) (inl k) = no_digit (eqb s 0x20) (is_digit d) (closer_no_digit d (closes_first d bs k.1))
closed_ends (s ∷ d ∷ bs) (inr (inl e)) = no_space s (is_digit d) (rw e refl)
closed_ends (s ∷ d ∷ bs) (inr (inr (inl e))) = no_space s (is_digit d) (rw e.0 refl)
closed_ends (s ∷ d ∷ bs) (inr (inr (inr (inl e)))) = no_space s (is_digit d) (rw e refl)
closed_ends (s ∷ d ∷ bs) (inr (inr (inr (inr (inl e))))) = no_space s (is_digit d) (rw e refl)
closed_ends (s ∷ d ∷ bs) (inr (inr (inr (inr (inr (inl e)))))) = no_space s (is_digit d) (rw e refl)
closed_ends (s ∷ d ∷ bs) (inr (inr (inr (inr (inr (inr e)))))) = no_space s (is_digit d) (rw e refl)

-- the length of a run
pub run_len-append : (p : ℕ → Bool) (xs ys : List ℕ) → Each p xs → run_len p (xs ++ ys) ≡ length xs + run_len p ys
run_len-append p [] ys h = omega arith
run_len-append p (x ∷ xs) ys h =
    let first : cond (p x) (run_len p (xs ++ ys) + 1) 0 ≡ run_len p (xs ++ ys) + 1 = cond-true _ _ _ h.0 in
    omega (arith, first, run_len-append p xs ys h.1)

-- a run that is not of a date before a space and a digit
value_len_plain : (bs : List ℕ) (n : ℕ) → run_len is_value_byte bs ≡ n → (is_date_shape (take n bs) && goes_on (drop n bs)) ≡ false → value_len bs ≡ n
value_len_plain bs n e f = rw e (cond-false _ _ _ f)

value_len_spaced : (bs : List ℕ) (n : ℕ) → run_len is_value_byte bs ≡ n → is_date_shape (take n bs) ≡ true → goes_on (drop n bs) ≡ true → value_len bs ≡ n + 1 + run_len is_value_byte (drop (n + 1) bs)
value_len_spaced bs n e s g = rw e (cond-true _ _ _ (and_from (is_date_shape (take n bs)) (goes_on (drop n bs)) s g))

run_value : (t r : List ℕ) → Each is_value_byte t → Closes r → value_len (t ++ r) ≡ length t
run_value t r h closes =
    let n = run_found is_value_byte t r h (closes_stops is_value_byte r closer_no_value closes) in
    value_len_plain (t ++ r) (length t) n (no_digit (is_date_shape (take (length t) (t ++ r))) _ (ap goes_on (drop-append_seam t r) ∙ closed_ends r closes))

-- a spaced run and what follows, regrouped
pub spaced : (date rest r : List ℕ) → (date ++ 0x20 ∷ rest) ++ r ≡ date ++ (0x20 ∷ (rest ++ r))
spaced date rest r = append_assoc date (0x20 ∷ rest) r

digit_goes_on : (rest r : List ℕ) → begins is_digit rest ≡ true → goes_on (0x20 ∷ (rest ++ r)) ≡ true
digit_goes_on [] r h = absurd (false≢true h)
digit_goes_on (d ∷ rest) r h = h

drop_one : (date : List ℕ) (s : ℕ) (rest : List ℕ) → drop (length date + 1) (date ++ s ∷ rest) ≡ rest
drop_one date s rest = drop-append-add date (s ∷ rest) 1

pub spaced_len : (date rest r : List ℕ) → is_date_shape date ≡ true → Each is_value_byte date → begins is_digit rest ≡ true → value_len ((date ++ 0x20 ∷ rest) ++ r) ≡ length date + 1 + run_len is_value_byte (rest ++ r)
spaced_len date rest r shape each digit =
    let bs = date ++ (0x20 ∷ (rest ++ r)) in
    let n : run_len is_value_byte bs ≡ length date = run_found is_value_byte date (0x20 ∷ (rest ++ r)) each refl in
    ap value_len (spaced date rest r)
    ∙ value_len_spaced bs (length date) n (ap is_date_shape (take-append_seam date (0x20 ∷ (rest ++ r))) ∙ shape) (ap goes_on (drop-append_seam date (0x20 ∷ (rest ++ r))) ∙ digit_goes_on rest r digit)
    ∙ ap (λ xs. length date + 1 + run_len is_value_byte xs) (drop_one date 0x20 (rest ++ r))

run_spaced : (t r : List ℕ) → IsSpaced t → Closes r → value_len (t ++ r) ≡ length t
run_spaced t r (date, rest, is, shape, ten, each, others, digit) closes =
    let n = run_found is_value_byte rest r others (closes_stops is_value_byte r closer_no_value closes) in
    ap (λ x. value_len (x ++ r)) is ∙ spaced_len date rest r shape each digit ∙ omega (arith, n, ap length is, length-append date (0x20 ∷ rest))

-- the kinds of runs
other_way : (a b : Bool) → (a ≡ true → b ≡ false) → b ≡ true → a ≡ false
other_way true b h e = absurd (false≢true (sym (h refl) ∙ e))
other_way false b h e = refl

no_integer : (bs : List ℕ) → is_integer_form bs ≡ false → is_integer bs ≡ false
no_integer bs e = rw e refl

kind_bool : (bs : List ℕ) → is_bool bs ≡ true → kind_of bs ≡ Some kinds.Bool
unfolding kind_of
kind_bool bs e = cond-true _ _ _ e

kind_integer : (bs : List ℕ) → is_integer bs ≡ true → kind_of bs ≡ Some kinds.Integer
unfolding kind_of
kind_integer bs e =
    let form = (and_parts _ _ e).0 in
    cond-false _ _ _ (other_way (is_bool bs) (is_integer_form bs) (bool_no_integer bs) form) ∙ cond-true _ _ _ e

kind_float : (bs : List ℕ) → is_float bs ≡ true → kind_of bs ≡ Some kinds.Float
unfolding kind_of
kind_float bs e =
    cond-false _ _ _ (other_way (is_bool bs) (is_float bs) (bool_no_float bs) e)
    ∙ cond-false _ _ _ (no_integer bs (other_way (is_integer_form bs) (is_float bs) (integer_no_float bs) e))
    ∙ cond-true _ _ _ e

kind_moment : (bs : List ℕ) (k : MomentKind) → is_bool bs ≡ false → is_integer_form bs ≡ false → is_float bs ≡ false → moment_kind bs ≡ Some k → kind_of bs ≡ Some (kinds.Moment k)
unfolding kind_of
kind_moment bs k b i f e = cond-false _ _ _ b ∙ cond-false _ _ _ (no_integer bs i) ∙ cond-false _ _ _ f ∙ ap (option_map kinds.Moment) e

moment_found : (bs : List ℕ) (k : MomentKind) → IsMoment k bs → kind_of bs ≡ Some (kinds.Moment k)
moment_found bs k h = first (moment_first bs k h)
  where
    e : moment_kind bs ≡ Some k
    e = moment_complete bs k h

    first : BeginsYear bs ⊎ BeginsHour bs → kind_of bs ≡ Some (kinds.Moment k)
    first (inl (b1, b2, b3, b4, r, is, h1, h2, h3, h4)) = kind_moment bs k (ap is_bool is ∙ date_no_bool b1 b2 b3 b4 r h1 h2 h3 h4) (ap is_integer_form is ∙ date_no_integer b1 b2 b3 b4 r h1 h2 h3 h4) (ap is_float is ∙ date_no_float b1 b2 b3 b4 r h1 h2 h3 h4) e
    first (inr (b1, b2, r, is, h1, h2)) = kind_moment bs k (ap is_bool is ∙ time_no_bool b1 b2 r h1 h2) (ap is_integer_form is ∙ time_no_integer b1 b2 r h1 h2) (ap is_float is ∙ time_no_float b1 b2 r h1 h2) e

-- what the bytes of runs and marks begin
pub value_no_mark : (b : ℕ) → is_value_byte b ≡ true → is_mark b ≡ false
value_no_mark b h = grind (arith, nat_tests)

value_no_ws : (b : ℕ) → is_value_byte b ≡ true → is_ws b ≡ false
value_no_ws b h = grind (arith, nat_tests)

digit_value : (b : ℕ) → is_digit b ≡ true → is_value_byte b ≡ true
digit_value b h = grind (arith, nat_tests)

pub moment_some : (bs rest : List ℕ) (k : MomentKind) → IsMoment k bs → begins is_value_byte (bs ++ rest) ≡ true
moment_some bs rest k h = first (moment_first bs k h)
  where
    first : BeginsYear bs ⊎ BeginsHour bs → begins is_value_byte (bs ++ rest) ≡ true
    first (inl (b1, b2, b3, b4, r, is, h1, h2, h3, h4)) = ap (λ x. begins is_value_byte (x ++ rest)) is ∙ digit_value b1 h1
    first (inr (b1, b2, r, is, h1, h2)) = ap (λ x. begins is_value_byte (x ++ rest)) is ∙ digit_value b1 h1

pub string_first : (k : StringKind) (t rest : List ℕ) → IsString k t → begins (is_byte (quote_of k)) (t ++ rest) ≡ true
string_first k t rest h = first t (string_begins k t h)
  where
    first : (t : List ℕ) → begins (is_byte (quote_of k)) t ≡ true → begins (is_byte (quote_of k)) (t ++ rest) ≡ true
    first [] e = absurd (false≢true e)
    first (b ∷ bs) e = e

pub mark_is : (k : StringKind) (b : ℕ) → is_byte (quote_of k) b ≡ true → is_mark b ≡ true
mark_is Basic b h = rw h refl
mark_is MultiLineBasic b h = rw h refl
mark_is Literal b h = no_matter (eqb b 0x22) (eqb b 0x27) h
  where
    no_matter : (x y : Bool) → y ≡ true → (x || y) ≡ true
    no_matter true y e = refl
    no_matter false y e = e
mark_is MultiLineLiteral b h = no_matter (eqb b 0x22) (eqb b 0x27) h
  where
    no_matter : (x y : Bool) → y ≡ true → (x || y) ≡ true
    no_matter true y e = refl
    no_matter false y e = e

-- what a token begins with
pub token_starts : (k : ScalarKind) (t rest : List ℕ) → IsToken k t → (begins is_mark (t ++ rest) ≡ true) ⊎ (begins is_value_byte (t ++ rest) ≡ true)
token_starts kinds.Text t rest h = inl (begins_more (is_byte (quote_of h.0)) is_mark (t ++ rest) (mark_is h.0) (string_first h.0 t rest h.1))
token_starts kinds.Integer t rest h = inr (integer_some t rest h)
token_starts kinds.Float t rest h = inr (float_some t rest h)
token_starts kinds.Bool t rest h = inr (bool_some t rest h)
token_starts (kinds.Moment k) t rest h = inr (moment_some t rest k h)

mark_starts : (b : ℕ) → is_mark b ≡ true → is_scalar_start b ≡ true
mark_starts b h = grind (arith, nat_tests)

value_starts : (b : ℕ) → is_value_byte b ≡ true → is_scalar_start b ≡ true
value_starts b h = grind (arith, nat_tests)

pub token_first : TokenBegins
token_first k t rest h = ⊎_elim (λ e. begins_more is_mark is_scalar_start (t ++ rest) mark_starts e) (λ e. begins_more is_value_byte is_scalar_start (t ++ rest) value_starts e) (token_starts k t rest h)

-- a run that is a token of a kind
run_complete : (t r : List ℕ) (k : ScalarKind) → begins is_value_byte (t ++ r) ≡ true → value_len (t ++ r) ≡ length t → kind_of t ≡ Some k → scan_at (t ++ r) ≡ Some (length t, k)
unfolding scan_at
run_complete t r k first len kind =
    cond-false _ _ _ (begins_other is_value_byte is_mark (t ++ r) value_no_mark first)
    ∙ ap (λ n. option_map (λ (x : ScalarKind). (n, x)) (kind_of (take n (t ++ r)))) len
    ∙ ap (λ run. option_map (λ (x : ScalarKind). (length t, x)) (kind_of run)) (take-append_seam t r)
    ∙ ap (option_map (λ (x : ScalarKind). (length t, x))) kind

text_complete : (k : StringKind) (t r : List ℕ) → IsString k t → Closes r → scan_at (t ++ r) ≡ Some (length t, kinds.Text)
unfolding scan_at
text_complete k t r h closes =
    cond-true _ _ _ (begins_more (is_byte (quote_of k)) is_mark (t ++ r) (mark_is k) (string_first k t r h))
    ∙ ap (option_map (λ (n : ℕ). (n, kinds.Text))) (string_found k t r h (closes_stops (is_byte (quote_of k)) r (closer_no_mark k) closes))

-- a token that something closes is found, with its kind
pub scan_complete : (k : ScalarKind) (t r : List ℕ) → IsToken k t → Closes r → scan_at (t ++ r) ≡ Some (length t, k)
scan_complete kinds.Text t r h closes = text_complete h.0 t r h.1 closes
scan_complete kinds.Integer t r h closes = run_complete t r kinds.Integer (integer_some t r h) (run_value t r (integer_run t h) closes) (kind_integer t (integer_complete t h))
scan_complete kinds.Float t r h closes = run_complete t r kinds.Float (float_some t r h) (run_value t r (float_run t h) closes) (kind_float t (float_complete t h))
scan_complete kinds.Bool t r h closes = run_complete t r kinds.Bool (bool_some t r h) (run_value t r (bool_run t h) closes) (kind_bool t (bool_complete t h))
scan_complete (kinds.Moment k) t r h closes = run_complete t r (kinds.Moment k) (moment_some t r k h) (⊎_elim (λ each. run_value t r each closes) (λ is. run_spaced t r is closes) (moment_run t k h)) (moment_found t k h)
