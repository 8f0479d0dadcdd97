-- The plain functions tell which runs are dates and times, and of which kind; and what such a run begins with and is made of.
use Rattle.std.proofs.Common.{◌≡◌, ℕ, ◌+◌, ◌<◌, true, false, cond, ◌||◌, eqb, ltb, List, [], ◌∷◌, ◌++◌, length, map, get_or, take, drop, Option, None, Some, IsSome, refl, sym, ap, ◌∙◌, subst, append_assoc, arith, ◌⊎◌, inl, inr, ⊎_elim}
use Rattle.std.proofs.lemmas.Bool.{false≢true, eqb-true, false_from_ne_true, or_cases, cond-true, cond-false, ltb-true}
use Rattle.std.proofs.lemmas.Bool.Decides.{nat_tests}
use Rattle.std.proofs.lemmas.List.{append-nil, map-append, take-append-drop, take_more}
use Rattle.toml_text.specs.Bytes.{is_digit}
use Rattle.toml_text.specs.Forms.{Each}
use Rattle.toml_text.specs.Runs.{begins}
use Rattle.toml_scalar.specs.Runs.{is_value_byte}
use Rattle.toml_scalar.specs.Moments.{IsDate, IsTime, IsDelimiter, IsDateTime, IsMoment, moment_byte}
use Rattle.toml_scalar.specs.MomentRuns.{is_date, after_time, is_whole, is_time, is_offset, is_delimiter, zone_kind, kind_behind_date, moment_kind}
use Rattle.toml_scalar.specs.MomentLaws.{BeginsYear, IsSpaced, MomentIsForm, FormIsMoment, OneMomentKind, MomentBegins, MomentIsRun, SpaceIsApart}
use Rattle.toml_scalar.specs.declared.kind.MomentKind.{MomentKind}
use Rattle.toml_scalar.specs.declared.kind.MomentKind.TheVariants.{Offset, Local, Date, Time}
use Rattle.toml_scalar.proofs.Dates.{either, each_append, each_at, date_sound, date_complete, date_shape, date_len, date_run, date_cut, date_third}
use Rattle.toml_scalar.proofs.Times.{time_front, time_sound, time_end, time_run, time_first, time_bytes, offset_sound, offset_complete, offset_run, offset_stops}

-- `time-delim`
delimiter_sound : (t : ℕ) → is_delimiter t ≡ true → IsDelimiter t
delimiter_sound t h = ⊎_elim
    (λ (k : (eqb t 0x54 || eqb t 0x74) ≡ true). ⊎_elim (λ e. inl (eqb-true t 0x54 e)) (λ e. inr (inl (eqb-true t 0x74 e))) (or_cases _ _ k))
    (λ (e : eqb t 0x20 ≡ true). inr (inr (eqb-true t 0x20 e)))
    (or_cases _ _ h)

delimiter_complete : (t : ℕ) → IsDelimiter t → is_delimiter t ≡ true
delimiter_complete t (inl e) = rw e refl
delimiter_complete t (inr (inl e)) = rw e refl
delimiter_complete t (inr (inr e)) = rw e refl

-- what is found is a date or a time of that kind
zone_sound : (date : List ℕ) (t : ℕ) (bs : List ℕ) (k : MomentKind) (o : Option (List ℕ)) → IsDate date → IsDelimiter t → after_time bs ≡ o → zone_kind o ≡ Some k → IsMoment k (date ++ t ∷ bs)
zone_sound date t bs k None is between e h = absurd (cc)
zone_sound date t bs k (Some []) is between e h =
    let kind : Local ≡ k = cc in
    let front = time_front bs [] e in
    let whole : IsTime bs = subst IsTime (sym (front.split ∙ append-nil front.time)) front.is in
    subst (λ k. IsMoment k (date ++ t ∷ bs)) kind (date, t, bs, refl, is, between, whole)
zone_sound date t bs k (Some (b ∷ rest)) is between e h = ⊎_elim
    (λ (c : (is_offset (b ∷ rest) ≡ true) × (Some Offset ≡ Some k)).
    let chosen = c.1 in
    let kind : Offset ≡ k = cc in
    let front = time_front bs (b ∷ rest) e in
    let local : IsDateTime (date ++ t ∷ front.time) = (date, t, front.time, refl, is, between, front.is) in
    let split : date ++ t ∷ bs ≡ (date ++ t ∷ front.time) ++ b ∷ rest = ap (λ xs. date ++ t ∷ xs) front.split ∙ sym (append_assoc date (t ∷ front.time) (b ∷ rest)) in
    subst (λ k. IsMoment k (date ++ t ∷ bs)) kind (date ++ t ∷ front.time, b ∷ rest, split, local, offset_sound (b ∷ rest) c.0))
    (λ (c : (is_offset (b ∷ rest) ≡ false) × (None ≡ Some k)). absurd (let e = c.1 in cc))
    (either (is_offset (b ∷ rest)) (Some Offset) None (Some k) h)

behind_sound : (date bs : List ℕ) (k : MomentKind) → IsDate date → kind_behind_date bs ≡ Some k → IsMoment k (date ++ bs)
behind_sound date [] k is h =
    let kind : Date ≡ k = cc in
    subst (λ k. IsMoment k (date ++ [])) kind (subst IsDate (sym (append-nil date)) is)
behind_sound date (t ∷ bs) k is h = ⊎_elim
    (λ (c : (is_delimiter t ≡ true) × (zone_kind (after_time bs) ≡ Some k)). zone_sound date t bs k (after_time bs) is (delimiter_sound t c.0) refl c.1)
    (λ (c : (is_delimiter t ≡ false) × (None ≡ Some k)). absurd (let e = c.1 in cc))
    (either (is_delimiter t) (zone_kind (after_time bs)) None (Some k) h)

pub moment_sound : MomentIsForm
moment_sound bs k h = ⊎_elim
    (λ (c : (is_date (take 10 bs) ≡ true) × (kind_behind_date (drop 10 bs) ≡ Some k)).
    subst (IsMoment k) (take-append-drop 10 bs) (behind_sound (take 10 bs) (drop 10 bs) k (date_sound (take 10 bs) c.0) c.1))
    (λ (c : (is_date (take 10 bs) ≡ false) × (cond (is_time bs) (Some Time) None ≡ Some k)). ⊎_elim
    (λ (d : (is_time bs ≡ true) × (Some Time ≡ Some k)).
    let chosen = d.1 in
    let kind : Time ≡ k = cc in
    let front = time_sound bs d.0 in
    subst (λ k. IsMoment k bs) kind (subst IsTime (sym (front.split ∙ append-nil front.time)) front.is))
    (λ (d : (is_time bs ≡ false) × (None ≡ Some k)). absurd (let e = d.1 in cc))
    (either (is_time bs) (Some Time) None (Some k) c.1))
    (either (is_date (take 10 bs)) (kind_behind_date (drop 10 bs)) (cond (is_time bs) (Some Time) None) (Some k) h)

-- a date or a time of a kind is found
behind_found : (date rest : List ℕ) → IsDate date → moment_kind (date ++ rest) ≡ kind_behind_date rest
behind_found date rest is =
    let cut = date_cut date rest is in
    cond-true _ _ _ (ap is_date cut.0 ∙ date_complete date is) ∙ ap kind_behind_date cut.1

time_no_date : (bs : List ℕ) → IsTime bs → is_date (take 10 bs) ≡ false
time_no_date (h1 ∷ h2 ∷ colon ∷ m1 ∷ m2 ∷ colon2 ∷ s1 ∷ s2 ∷ f) h = false_from_ne_true _ (λ date.
    let front = take 10 (h1 ∷ h2 ∷ colon ∷ m1 ∷ m2 ∷ colon2 ∷ s1 ∷ s2 ∷ f) in
    let digit = date_third front (date_sound front date) in
    false≢true (subst (λ b. is_digit b ≡ true) h.1 digit))
time_no_date _ h = absurd h

pub moment_complete : FormIsMoment
moment_complete bs Offset (local, offset, split, (date, t, time, parts, is, between, clock), zone) =
    let stops = offset_stops offset zone in
    let whole : bs ≡ date ++ t ∷ (time ++ offset) = split ∙ ap (λ xs. xs ++ offset) parts ∙ append_assoc date (t ∷ time) offset in
    let kind : zone_kind (Some offset) ≡ Some Offset = subst (λ xs. zone_kind (Some xs) ≡ Some Offset) (sym stops.is) (cond-true _ _ _ (subst (λ xs. is_offset xs ≡ true) stops.is (offset_complete offset zone))) in
    ap moment_kind whole
    ∙ behind_found date (t ∷ (time ++ offset)) is
    ∙ cond-true _ _ _ (delimiter_complete t between)
    ∙ ap zone_kind (time_end time offset clock stops.point stops.digit)
    ∙ kind
moment_complete bs Local (date, t, time, parts, is, between, clock) =
    ap moment_kind parts
    ∙ behind_found date (t ∷ time) is
    ∙ cond-true _ _ _ (delimiter_complete t between)
    ∙ ap (λ xs. zone_kind (after_time xs)) (sym (append-nil time))
    ∙ ap zone_kind (time_end time [] clock refl refl)
moment_complete bs Date is = ap moment_kind (sym (append-nil bs)) ∙ behind_found bs [] is
moment_complete bs Time is =
    cond-false _ _ _ (time_no_date bs is)
    ∙ cond-true _ _ _ (ap is_time (sym (append-nil bs)) ∙ ap is_whole (time_end bs [] is refl refl))

pub moment_once : OneMomentKind
moment_once bs j k is also =
    let first = moment_complete bs j is in
    let second = moment_complete bs k also in
    cc

date_begins : (bs date rest : List ℕ) → bs ≡ date ++ rest → IsDate date → BeginsYear bs
date_begins bs (y1 ∷ y2 ∷ y3 ∷ y4 ∷ dash ∷ m1 ∷ m2 ∷ hyphen ∷ d1 ∷ d2 ∷ []) rest e h =
    let r = m1 ∷ m2 ∷ hyphen ∷ d1 ∷ d2 ∷ rest in
    let split : bs ≡ y1 ∷ y2 ∷ y3 ∷ y4 ∷ 0x2D ∷ r = e ∙ ap (λ b. y1 ∷ y2 ∷ y3 ∷ y4 ∷ b ∷ r) h.1 in
    (y1, y2, y3, y4, r, split, h.0.0, h.0.1.0, h.0.1.1.0, h.0.1.1.1.0)
date_begins bs _ rest e h = absurd h

pub moment_first : MomentBegins
moment_first bs Offset (local, offset, split, (date, t, time, parts, is, between, clock), zone) =
    inl (date_begins bs date (t ∷ (time ++ offset)) (split ∙ ap (λ xs. xs ++ offset) parts ∙ append_assoc date (t ∷ time) offset) is)
moment_first bs Local (date, t, time, parts, is, between, clock) = inl (date_begins bs date (t ∷ time) parts is)
moment_first bs Date is = inl (date_begins bs bs [] (sym (append-nil bs)) is)
moment_first bs Time is =
    let begin = time_bytes bs is in
    inr (begin.b1, begin.b2, begin.rest, begin.is, begin.first, begin.second)

behind_run : (bs date : List ℕ) (t : ℕ) (rest : List ℕ) → bs ≡ date ++ t ∷ rest → IsDate date → IsDelimiter t → Each is_value_byte rest → begins is_digit rest ≡ true → Each is_value_byte bs ⊎ IsSpaced bs
behind_run bs date t rest e is (inl upper) each some = inl (subst (Each is_value_byte) (sym e) (each_append is_value_byte date (t ∷ rest) (date_run date is) (rw upper refl, each)))
behind_run bs date t rest e is (inr (inl lower)) each some = inl (subst (Each is_value_byte) (sym e) (each_append is_value_byte date (t ∷ rest) (date_run date is) (rw lower refl, each)))
behind_run bs date t rest e is (inr (inr space)) each some =
    inr (date, rest, e ∙ ap (λ b. date ++ b ∷ rest) space, date_shape date is, date_len date is, date_run date is, each, some)

pub moment_run : MomentIsRun
moment_run bs Offset (local, offset, split, (date, t, time, parts, is, between, clock), zone) =
    behind_run bs date t (time ++ offset) (split ∙ ap (λ xs. xs ++ offset) parts ∙ append_assoc date (t ∷ time) offset) is between
    (each_append is_value_byte time offset (time_run time clock) (offset_run offset zone))
    (time_first time offset clock)
moment_run bs Local (date, t, time, parts, is, between, clock) =
    behind_run bs date t time parts is between (time_run time clock) (subst (λ xs. begins is_digit xs ≡ true) (append-nil time) (time_first time [] clock))
moment_run bs Date is = inl (date_run bs is)
moment_run bs Time is = inl (time_run bs is)

-- a space is no byte of a value
pub space_apart : SpaceIsApart
space_apart [] rest h = false≢true h.0
space_apart (b ∷ bs) rest h = space_apart bs rest h.1

-- the bytes of a date or a time are ASCII, as those of its datum
ascii_of_value : (b : ℕ) → is_value_byte b ≡ true → ltb b 128 ≡ true
ascii_of_value b h = grind (arith, nat_tests)

each_ascii : (bs : List ℕ) → Each is_value_byte bs → Each (λ b. ltb b 128) bs
each_ascii [] h = tt
each_ascii (b ∷ bs) h = (ascii_of_value b h.0, each_ascii bs h.1)

run_ascii : (bs : List ℕ) → Each is_value_byte bs ⊎ IsSpaced bs → Each (λ b. ltb b 128) bs
run_ascii bs (inl each) = each_ascii bs each
run_ascii bs (inr (date, rest, split, shape, len, front, back, some)) =
    subst (Each (λ b. ltb b 128)) (sym split) (each_append (λ b. ltb b 128) date (0x20 ∷ rest) (each_ascii date front) (refl, each_ascii rest back))

some_ascii : (bs : List ℕ) (o : Option MomentKind) → moment_kind bs ≡ o → IsSome o → Each (λ b. ltb b 128) bs
some_ascii bs None e h = absurd (false≢true h)
some_ascii bs (Some k) e h = run_ascii bs (moment_run bs k (moment_sound bs k e))

byte_ascii : (b : ℕ) → b < 128 → moment_byte b < 128
byte_ascii b h = grind (arith, nat_tests)

pub text_ascii : (bs : List ℕ) (i : ℕ) → IsSome (moment_kind bs) → i < length bs → moment_byte (get_or bs i 0) < 128
text_ascii bs i h k = byte_ascii _ (ltb-true _ _ (each_at (λ b. ltb b 128) bs i (some_ascii bs (moment_kind bs) refl h) k))

-- the text grows by a byte
pub text_step : (bs : List ℕ) (i : ℕ) (old new : List ℕ) (b : ℕ) → IsSome (moment_kind bs) → i < length bs → old ≡ map moment_byte (take i bs) → b ≡ moment_byte (get_or bs i 0) → (b < 128 → new ≡ old ++ b ∷ []) → new ≡ map moment_byte (take (i + 1) bs)
text_step bs i old new b some below so_far is pushed =
    let ascii : b < 128 = rw is (text_ascii bs i some below) in
    let one : b ∷ [] ≡ map moment_byte (get_or bs i 0 ∷ []) = ap (λ x. x ∷ []) is in
    pushed ascii
    ∙ ap (λ xs. xs ++ b ∷ []) so_far
    ∙ ap (λ xs. map moment_byte (take i bs) ++ xs) one
    ∙ sym (map-append moment_byte (take i bs) (get_or bs i 0 ∷ []))
    ∙ ap (map moment_byte) (sym (take_more bs i 0 below))
