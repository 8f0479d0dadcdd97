-- The plain functions tell which runs are times and offsets, and where a time ends.
use Rattle.std.proofs.Common.{◌≡◌, ℕ, ◌+◌, Bool, true, false, cond, ◌||◌, ◌&&◌, eqb, List, [], ◌∷◌, ◌++◌, length, take, drop, Option, None, Some, refl, ap, sym, ◌∙◌, subst, add-one, ◌⊎◌, inl, inr, ⊎_elim}
use Rattle.std.proofs.lemmas.Bool.{false≢true, eqb-true, eq-eqb, and_parts, and_from, and_left, or_cases, cond-true, cond-false}
use Rattle.std.proofs.lemmas.List.{take-append-drop}
use Rattle.toml_text.specs.Bytes.{is_digit}
use Rattle.toml_text.specs.Forms.{Each}
use Rattle.toml_text.specs.Runs.{run_len, begins}
use Rattle.toml_text.proofs.Proved.{run_found, run_piece}
use Rattle.toml_scalar.specs.Runs.{is_value_byte}
use Rattle.toml_scalar.specs.Moments.{AreTwoDigits, IsSecondFraction, IsTime, IsOffset}
use Rattle.toml_scalar.specs.MomentRuns.{are_digits_to, is_hour_minute, after_fraction, after_time, is_whole, is_time, is_offset}
use Rattle.toml_scalar.proofs.Dates.{either, two_sound, two_complete, PassesMost, value_passes, passes_at, two_each}

-- `time-hour ":" time-minute`
hours_sound : (h1 h2 colon m1 m2 : ℕ) → is_hour_minute h1 h2 colon m1 m2 ≡ true → AreTwoDigits 0 23 h1 h2 × (colon ≡ 0x3A) × AreTwoDigits 0 59 m1 m2
hours_sound h1 h2 colon m1 m2 h =
    let t = and_parts _ _ h in
    let s = and_parts _ _ t.0 in
    (two_sound 23 h1 h2 s.0, eqb-true _ _ s.1, two_sound 59 m1 m2 t.1)

hours_complete : (h1 h2 colon m1 m2 : ℕ) → AreTwoDigits 0 23 h1 h2 → colon ≡ 0x3A → AreTwoDigits 0 59 m1 m2 → is_hour_minute h1 h2 colon m1 m2 ≡ true
hours_complete h1 h2 colon m1 m2 hour is minute = and_from _ _ (and_from _ _ (two_complete 23 h1 h2 hour) (eq-eqb _ _ is)) (two_complete 59 m1 m2 minute)

-- `time-secfrac`
fraction_of : (b : ℕ) (bs : List ℕ) → b ≡ 0x2E → begins is_digit bs ≡ true → IsSecondFraction (b ∷ take (run_len is_digit bs) bs)
fraction_of b [] is some = absurd (false≢true some)
fraction_of b (d ∷ ds) is some =
    let n : run_len is_digit (d ∷ ds) ≡ run_len is_digit ds + 1 = cond-true _ _ _ some in
    let P : ℕ → Type 0 = λ k. IsSecondFraction (b ∷ take k (d ∷ ds)) in
    subst P (sym n) (rw add-one (is, (some, (run_piece is_digit ds).1)))

-- the fraction at the front, or nothing
record FractionFront (bs : List ℕ) (rest : List ℕ) : Type 0 where
  fraction : List ℕ
  split : bs ≡ fraction ++ rest
  is : (fraction ≡ []) ⊎ IsSecondFraction fraction

fraction_front : (bs : List ℕ) → FractionFront bs (after_fraction bs)
fraction_front [] = record { fraction = []; split = refl; is = inl refl }
fraction_front (b ∷ bs) =
    let test : Bool = eqb b 0x2E && begins is_digit bs in
    elim test as (λ t. test ≡ t → FractionFront (b ∷ bs) (cond t (drop (run_len is_digit bs) bs) (b ∷ bs))) [
      | true ↦ λ e. let t = and_parts _ _ e in
          record {
            fraction = b ∷ take (run_len is_digit bs) bs;
            split = ap (λ xs. b ∷ xs) (sym (take-append-drop (run_len is_digit bs) bs));
            is = inr (fraction_of b bs (eqb-true _ _ t.0) t.1);
          }
      | false ↦ λ e. record { fraction = []; split = refl; is = inl refl }
    ] refl

after_none : (bs : List ℕ) → begins (λ b. eqb b 0x2E) bs ≡ false → after_fraction bs ≡ bs
after_none [] stop = refl
after_none (b ∷ bs) stop = cond-false _ _ _ (and_left _ _ stop)

drop_all : (xs ys : List ℕ) → drop (length xs) (xs ++ ys) ≡ ys
drop_all [] ys = refl
drop_all (x ∷ xs) ys = drop_all xs ys

-- a time's fraction ends where no digit follows, and where none is there no point does
fraction_end : (f rest : List ℕ) → (f ≡ []) ⊎ IsSecondFraction f → begins (λ b. eqb b 0x2E) rest ≡ false → begins is_digit rest ≡ false → after_fraction (f ++ rest) ≡ rest
fraction_end [] rest is point digit = after_none rest point
fraction_end (p ∷ []) rest is point digit = absurd (⊎_elim (λ (e : p ∷ [] ≡ []). cc) (λ (e : ⊥). e) is)
fraction_end (p ∷ d ∷ ds) rest (inl e) point digit = absurd (cc)
fraction_end (p ∷ d ∷ ds) rest (inr is) point digit =
    cond-true _ _ _ (and_from _ _ (eq-eqb _ _ is.0) is.1.0)
    ∙ ap (λ n. drop n (d ∷ ds ++ rest)) (run_found is_digit (d ∷ ds) rest is.1 digit)
    ∙ drop_all (d ∷ ds) rest

-- `partial-time`
pub record TimeFront (bs : List ℕ) (rest : List ℕ) : Type 0 where
  pub time : List ℕ
  pub split : bs ≡ time ++ rest
  pub is : IsTime time

pub time_front : (bs rest : List ℕ) → after_time bs ≡ Some rest → TimeFront bs rest
time_front (h1 ∷ h2 ∷ colon ∷ m1 ∷ m2 ∷ colon2 ∷ s1 ∷ s2 ∷ bs) rest h = ⊎_elim
    (λ (k : ((is_hour_minute h1 h2 colon m1 m2 && eqb colon2 0x3A && are_digits_to 60 s1 s2) ≡ true) × (Some (after_fraction bs) ≡ Some rest)).
    let t = and_parts _ _ k.0 in
    let s = and_parts _ _ t.0 in
    let hours = hours_sound h1 h2 colon m1 m2 s.0 in
    let e : after_fraction bs ≡ rest = cc in
    let f = fraction_front bs in
    record {
      time = h1 ∷ h2 ∷ colon ∷ m1 ∷ m2 ∷ colon2 ∷ s1 ∷ s2 ∷ f.fraction;
      split = ap (λ xs. h1 ∷ h2 ∷ colon ∷ m1 ∷ m2 ∷ colon2 ∷ s1 ∷ s2 ∷ xs) (f.split ∙ ap (λ xs. f.fraction ++ xs) e);
      is = (hours.0, hours.1, hours.2, eqb-true _ _ s.1, two_sound 60 s1 s2 t.1, f.is);
    })
    (λ (k : ((is_hour_minute h1 h2 colon m1 m2 && eqb colon2 0x3A && are_digits_to 60 s1 s2) ≡ false) × (None ≡ Some rest)). absurd (let e = k.1 in cc))
    (either (is_hour_minute h1 h2 colon m1 m2 && eqb colon2 0x3A && are_digits_to 60 s1 s2) (Some (after_fraction bs)) None (Some rest) h)
time_front _ rest h = absurd (cc)

pub time_end : (time rest : List ℕ) → IsTime time → begins (λ b. eqb b 0x2E) rest ≡ false → begins is_digit rest ≡ false → after_time (time ++ rest) ≡ Some rest
time_end (h1 ∷ h2 ∷ colon ∷ m1 ∷ m2 ∷ colon2 ∷ s1 ∷ s2 ∷ f) rest h point digit =
    cond-true _ _ _ (and_from _ _ (and_from _ _ (hours_complete h1 h2 colon m1 m2 h.0 h.1 h.2) (eq-eqb _ _ h.3)) (two_complete 60 s1 s2 h.4))
    ∙ ap (λ xs. Some xs) (fraction_end f rest h.5 point digit)
time_end _ rest h point digit = absurd h

pub time_first : (bs rest : List ℕ) → IsTime bs → begins is_digit (bs ++ rest) ≡ true
time_first (h1 ∷ h2 ∷ colon ∷ m1 ∷ m2 ∷ colon2 ∷ s1 ∷ s2 ∷ f) rest h = h.0.0
time_first _ rest h = absurd h

pub record TimeBytes (bs : List ℕ) : Type 0 where
  pub b1 : ℕ
  pub b2 : ℕ
  pub rest : List ℕ
  pub is : bs ≡ b1 ∷ b2 ∷ 0x3A ∷ rest
  pub first : is_digit b1 ≡ true
  pub second : is_digit b2 ≡ true

pub time_bytes : (bs : List ℕ) → IsTime bs → TimeBytes bs
time_bytes (h1 ∷ h2 ∷ colon ∷ m1 ∷ m2 ∷ colon2 ∷ s1 ∷ s2 ∷ f) h = record {
  b1 = h1;
  b2 = h2;
  rest = m1 ∷ m2 ∷ colon2 ∷ s1 ∷ s2 ∷ f;
  is = ap (λ b. h1 ∷ h2 ∷ b ∷ m1 ∷ m2 ∷ colon2 ∷ s1 ∷ s2 ∷ f) h.1;
  first = h.0.0;
  second = h.0.1;
}
time_bytes _ h = absurd h

whole_none : (o : Option (List ℕ)) → is_whole o ≡ true → o ≡ Some []
whole_none None h = absurd (false≢true h)
whole_none (Some []) h = refl
whole_none (Some (b ∷ bs)) h = absurd (false≢true h)

pub time_sound : (bs : List ℕ) → is_time bs ≡ true → TimeFront bs []
time_sound bs h = time_front bs [] (whole_none (after_time bs) h)

-- `time-offset`
sign_sound : (b : ℕ) → (eqb b 0x2B || eqb b 0x2D) ≡ true → (b ≡ 0x2B) ⊎ (b ≡ 0x2D)
sign_sound b h = ⊎_elim (λ e. inl (eqb-true b 0x2B e)) (λ e. inr (eqb-true b 0x2D e)) (or_cases _ _ h)

zulu_sound : (b : ℕ) → (eqb b 0x5A || eqb b 0x7A) ≡ true → (b ≡ 0x5A) ⊎ (b ≡ 0x7A)
zulu_sound b h = ⊎_elim (λ e. inl (eqb-true b 0x5A e)) (λ e. inr (eqb-true b 0x7A e)) (or_cases _ _ h)

pub offset_sound : (bs : List ℕ) → is_offset bs ≡ true → IsOffset bs
offset_sound (z ∷ []) h = zulu_sound z h
offset_sound (sign ∷ h1 ∷ h2 ∷ colon ∷ m1 ∷ m2 ∷ []) h =
    let t = and_parts _ _ h in
    let hours = hours_sound h1 h2 colon m1 m2 t.1 in
    (sign_sound sign t.0, hours.0, hours.1, hours.2)
offset_sound _ h = absurd (false≢true h)

pub offset_complete : (bs : List ℕ) → IsOffset bs → is_offset bs ≡ true
offset_complete (z ∷ []) h = ⊎_elim (λ (e : z ≡ 0x5A). rw e refl) (λ (e : z ≡ 0x7A). rw e refl) h
offset_complete (sign ∷ h1 ∷ h2 ∷ colon ∷ m1 ∷ m2 ∷ []) h =
    let signed : (eqb sign 0x2B || eqb sign 0x2D) ≡ true = ⊎_elim (λ (e : sign ≡ 0x2B). rw e refl) (λ (e : sign ≡ 0x2D). rw e refl) h.0 in
    and_from _ _ signed (hours_complete h1 h2 colon m1 m2 h.1 h.2 h.3)
offset_complete _ h = absurd h

-- what an offset begins with does not go on with a fraction
pub record OffsetStops (bs : List ℕ) : Type 0 where
  pub first : ℕ
  pub rest : List ℕ
  pub is : bs ≡ first ∷ rest
  pub point : begins (λ b. eqb b 0x2E) bs ≡ false
  pub digit : begins is_digit bs ≡ false

pub offset_stops : (bs : List ℕ) → IsOffset bs → OffsetStops bs
offset_stops (z ∷ []) h = record {
  first = z;
  rest = [];
  is = refl;
  point = ⊎_elim (λ (e : z ≡ 0x5A). rw e refl) (λ (e : z ≡ 0x7A). rw e refl) h;
  digit = ⊎_elim (λ (e : z ≡ 0x5A). rw e refl) (λ (e : z ≡ 0x7A). rw e refl) h;
}
offset_stops (sign ∷ h1 ∷ h2 ∷ colon ∷ m1 ∷ m2 ∷ []) h = record {
  first = sign;
  rest = h1 ∷ h2 ∷ colon ∷ m1 ∷ m2 ∷ [];
  is = refl;
  point = ⊎_elim (λ (e : sign ≡ 0x2B). rw e refl) (λ (e : sign ≡ 0x2D). rw e refl) h.0;
  digit = ⊎_elim (λ (e : sign ≡ 0x2B). rw e refl) (λ (e : sign ≡ 0x2D). rw e refl) h.0;
}
offset_stops _ h = absurd h

module _ (p : ℕ → Bool) (passes : PassesMost p) where
  hours_each : (h1 h2 colon m1 m2 : ℕ) (bs : List ℕ) → AreTwoDigits 0 23 h1 h2 → colon ≡ 0x3A → AreTwoDigits 0 59 m1 m2 → Each p bs → Each p (h1 ∷ h2 ∷ colon ∷ m1 ∷ m2 ∷ bs)
  hours_each h1 h2 colon m1 m2 bs hour is minute e =
      two_each p passes h1 h2 (colon ∷ m1 ∷ m2 ∷ bs) hour.0 hour.1 (passes_at p passes colon 0x3A is passes.colon, two_each p passes m1 m2 bs minute.0 minute.1 e)

  digits_each : (bs : List ℕ) → Each is_digit bs → Each p bs
  digits_each [] h = tt
  digits_each (b ∷ bs) h = (passes.digit b h.0, digits_each bs h.1)

  fraction_each : (bs : List ℕ) → (bs ≡ []) ⊎ IsSecondFraction bs → Each p bs
  fraction_each [] is = tt
  fraction_each (b ∷ []) is = absurd (⊎_elim (λ (e : b ∷ [] ≡ []). cc) (λ (e : ⊥). e) is)
  fraction_each (b ∷ d ∷ ds) (inl e) = absurd (cc)
  fraction_each (b ∷ d ∷ ds) (inr is) = (passes_at p passes b 0x2E is.0 passes.point, digits_each (d ∷ ds) is.1)

  pub time_each : (bs : List ℕ) → IsTime bs → Each p bs
  time_each (h1 ∷ h2 ∷ colon ∷ m1 ∷ m2 ∷ colon2 ∷ s1 ∷ s2 ∷ f) h =
      hours_each h1 h2 colon m1 m2 (colon2 ∷ s1 ∷ s2 ∷ f) h.0 h.1 h.2 (passes_at p passes colon2 0x3A h.3 passes.colon, two_each p passes s1 s2 f h.4.0 h.4.1 (fraction_each f h.5))
  time_each _ h = absurd h

  pub numeric_each : (sign h1 h2 colon m1 m2 : ℕ) → IsOffset (sign ∷ h1 ∷ h2 ∷ colon ∷ m1 ∷ m2 ∷ []) → Each p (sign ∷ h1 ∷ h2 ∷ colon ∷ m1 ∷ m2 ∷ [])
  numeric_each sign h1 h2 colon m1 m2 h = (
    ⊎_elim (λ (e : sign ≡ 0x2B). passes_at p passes sign 0x2B e passes.plus) (λ (e : sign ≡ 0x2D). passes_at p passes sign 0x2D e passes.dash) h.0,
    hours_each h1 h2 colon m1 m2 [] h.1 h.2 h.3 tt,
  )

pub time_run : (bs : List ℕ) → IsTime bs → Each is_value_byte bs
time_run bs h = time_each is_value_byte value_passes bs h

pub offset_run : (bs : List ℕ) → IsOffset bs → Each is_value_byte bs
offset_run (z ∷ []) h = (⊎_elim (λ (e : z ≡ 0x5A). rw e refl) (λ (e : z ≡ 0x7A). rw e refl) h, tt)
offset_run (sign ∷ h1 ∷ h2 ∷ colon ∷ m1 ∷ m2 ∷ []) h = numeric_each is_value_byte value_passes sign h1 h2 colon m1 m2 h
offset_run _ h = absurd h
