-- The plain functions tell which runs are dates.
use Rattle.std.proofs.Common.{◌≡◌, ℕ, zero, suc, ◌+◌, ◌*◌, ◌<◌, Bool, true, false, cond, ◌&&◌, List, [], ◌∷◌, ◌++◌, length, get_or, take, drop, refl, arith, ◌⊎◌, inl, inr}
use Rattle.std.proofs.lemmas.Bool.{false≢true, eqb-true, eq-eqb, leb-true, le-leb, and_parts, and_from}
use Rattle.std.proofs.lemmas.Bool.Decides.{nat_tests}
use Rattle.toml_text.specs.Bytes.{is_digit}
use Rattle.toml_text.specs.Forms.{Each}
use Rattle.toml_scalar.specs.Runs.{is_value_byte}
use Rattle.toml_scalar.specs.Moments.{two_digits, AreTwoDigits, IsDate}
use Rattle.toml_scalar.specs.MomentRuns.{are_digits_to, is_date_shape, is_day, is_date}

pub either : {A : Type 0} (b : Bool) (x y z : A) → cond b x y ≡ z → ((b ≡ true) × (x ≡ z)) ⊎ ((b ≡ false) × (y ≡ z))
either true x y z h = inl (refl, h)
either false x y z h = inr (refl, h)

and_true : (a b : Bool) → a ≡ true → (a && b) ≡ b
and_true true b h = refl
and_true false b h = absurd (false≢true h)

-- `2DIGIT`
pub two_sound : (high a b : ℕ) → are_digits_to high a b ≡ true → AreTwoDigits 0 high a b
two_sound high a b h =
    let t = and_parts _ _ h in
    let d = and_parts _ _ t.0 in
    (d.0, d.1, omega arith, leb-true _ _ t.1)

pub two_complete : (high a b : ℕ) → AreTwoDigits 0 high a b → are_digits_to high a b ≡ true
two_complete high a b h = and_from _ _ (and_from _ _ h.0 h.1) (le-leb _ _ h.3)

-- a test that passes each byte of dates, times and numeric offsets but a delimiter
pub record PassesMost (p : ℕ → Bool) : Type 0 where
  pub digit : (b : ℕ) → is_digit b ≡ true → p b ≡ true
  pub dash : p 0x2D ≡ true
  pub colon : p 0x3A ≡ true
  pub point : p 0x2E ≡ true
  pub plus : p 0x2B ≡ true

digit_of_value : (b : ℕ) → is_digit b ≡ true → is_value_byte b ≡ true
digit_of_value b h = grind (arith, nat_tests)

pub value_passes : PassesMost is_value_byte
value_passes = record { digit = digit_of_value; dash = refl; colon = refl; point = refl; plus = refl }

pub each_append : (p : ℕ → Bool) (xs ys : List ℕ) → Each p xs → Each p ys → Each p (xs ++ ys)
each_append p [] ys h k = k
each_append p (x ∷ xs) ys h k = (h.0, each_append p xs ys h.1 k)

pub each_at : (p : ℕ → Bool) (bs : List ℕ) (i : ℕ) → Each p bs → i < length bs → p (get_or bs i 0) ≡ true
each_at p [] i h k = absurd (omega arith)
each_at p (b ∷ bs) zero h k = h.0
each_at p (b ∷ bs) (suc i) h k = each_at p bs i h.1 (omega arith)

-- `full-date`
pub date_sound : (bs : List ℕ) → is_date bs ≡ true → IsDate bs
date_sound (y1 ∷ y2 ∷ y3 ∷ y4 ∷ dash ∷ m1 ∷ m2 ∷ hyphen ∷ d1 ∷ d2 ∷ []) h =
    let t = and_parts _ _ h in
    let days = and_parts _ _ t.0 in
    let hyphens = and_parts _ _ days.0 in
    let months = and_parts _ _ hyphens.0 in
    let dashes = and_parts _ _ months.0 in
    let years = and_parts _ _ dashes.0 in
    let first = and_parts _ _ years.0 in
    let last = and_parts _ _ years.1 in
    let month = and_parts _ _ months.1 in
    let day = and_parts _ _ days.1 in
    let high = and_parts _ _ t.1 in
    let low = and_parts _ _ high.0 in
    let named = and_parts _ _ low.0 in (
      (first.0, (first.1, (last.0, (last.1, tt)))),
      eqb-true _ _ dashes.1,
      (month.0, month.1, leb-true _ _ named.0, leb-true _ _ named.1),
      eqb-true _ _ hyphens.1,
      (day.0, day.1, leb-true _ _ low.1, leb-true _ _ high.1),
    )
date_sound _ h = absurd (false≢true h)

pub date_complete : (bs : List ℕ) → IsDate bs → is_date bs ≡ true
date_complete (y1 ∷ y2 ∷ y3 ∷ y4 ∷ dash ∷ m1 ∷ m2 ∷ hyphen ∷ d1 ∷ d2 ∷ []) h =
    and_from _ _
    (and_from _ _
    (and_from _ _
    (and_from _ _
    (and_from _ _
    (and_from _ _ (and_from _ _ h.0.0 h.0.1.0) (and_from _ _ h.0.1.1.0 h.0.1.1.1.0))
    (eq-eqb _ _ h.1))
    (and_from _ _ h.2.0 h.2.1))
    (eq-eqb _ _ h.3))
    (and_from _ _ h.4.0 h.4.1))
    (and_from _ _ (and_from _ _ (and_from _ _ (le-leb _ _ h.2.2) (le-leb _ _ h.2.3)) (le-leb _ _ h.4.2)) (le-leb _ _ h.4.3))
date_complete _ h = absurd h

pub date_shape : (bs : List ℕ) → IsDate bs → is_date_shape bs ≡ true
date_shape (y1 ∷ y2 ∷ y3 ∷ y4 ∷ dash ∷ m1 ∷ m2 ∷ hyphen ∷ d1 ∷ d2 ∷ []) h =
    (and_parts _ _ (date_complete (y1 ∷ y2 ∷ y3 ∷ y4 ∷ dash ∷ m1 ∷ m2 ∷ hyphen ∷ d1 ∷ d2 ∷ []) h)).0
date_shape _ h = absurd h

pub date_len : (bs : List ℕ) → IsDate bs → length bs ≡ 10
date_len (y1 ∷ y2 ∷ y3 ∷ y4 ∷ dash ∷ m1 ∷ m2 ∷ hyphen ∷ d1 ∷ d2 ∷ []) h = refl
date_len _ h = absurd h

module _ (p : ℕ → Bool) (passes : PassesMost p) where
  pub passes_at : (b x : ℕ) → b ≡ x → p x ≡ true → p b ≡ true
  passes_at b x e h = rw e h

  pub two_each : (a b : ℕ) (bs : List ℕ) → is_digit a ≡ true → is_digit b ≡ true → Each p bs → Each p (a ∷ b ∷ bs)
  two_each a b bs h k e = (passes.digit a h, (passes.digit b k, e))

  pub date_each : (bs : List ℕ) → IsDate bs → Each p bs
  date_each (y1 ∷ y2 ∷ y3 ∷ y4 ∷ dash ∷ m1 ∷ m2 ∷ hyphen ∷ d1 ∷ d2 ∷ []) h =
      let day : Each p (hyphen ∷ d1 ∷ d2 ∷ []) = (passes_at hyphen 0x2D h.3 passes.dash, two_each d1 d2 [] h.4.0 h.4.1 tt) in
      let month : Each p (dash ∷ m1 ∷ m2 ∷ hyphen ∷ d1 ∷ d2 ∷ []) = (passes_at dash 0x2D h.1 passes.dash, two_each m1 m2 (hyphen ∷ d1 ∷ d2 ∷ []) h.2.0 h.2.1 day) in
      let tail = dash ∷ m1 ∷ m2 ∷ hyphen ∷ d1 ∷ d2 ∷ [] in
      two_each y1 y2 (y3 ∷ y4 ∷ tail) h.0.0 h.0.1.0 (two_each y3 y4 tail h.0.1.1.0 h.0.1.1.1.0 month)
  date_each _ h = absurd h

pub date_run : (bs : List ℕ) → IsDate bs → Each is_value_byte bs
date_run bs h = date_each is_value_byte value_passes bs h

-- a date and what follows it
pub date_cut : (date rest : List ℕ) → IsDate date → (take 10 (date ++ rest) ≡ date) × (drop 10 (date ++ rest) ≡ rest)
date_cut (y1 ∷ y2 ∷ y3 ∷ y4 ∷ dash ∷ m1 ∷ m2 ∷ hyphen ∷ d1 ∷ d2 ∷ []) rest h = (refl, refl)
date_cut _ rest h = absurd h

-- the third byte of a date is a digit, and that of a time is none
pub date_third : (bs : List ℕ) → IsDate bs → is_digit (get_or bs 2 0) ≡ true
date_third (y1 ∷ y2 ∷ y3 ∷ y4 ∷ dash ∷ m1 ∷ m2 ∷ hyphen ∷ d1 ∷ d2 ∷ []) h = h.0.1.1.0
date_third _ h = absurd h

-- the digits of a shape, by their places
pub record ShapeDigits (bs : List ℕ) : Type 0 where
  pub y1 : is_digit (get_or bs 0 0) ≡ true
  pub y2 : is_digit (get_or bs 1 0) ≡ true
  pub y3 : is_digit (get_or bs 2 0) ≡ true
  pub y4 : is_digit (get_or bs 3 0) ≡ true
  pub m1 : is_digit (get_or bs 5 0) ≡ true
  pub m2 : is_digit (get_or bs 6 0) ≡ true
  pub d1 : is_digit (get_or bs 8 0) ≡ true
  pub d2 : is_digit (get_or bs 9 0) ≡ true
  pub date : is_date bs ≡ is_day (two_digits (get_or bs 0 0) (get_or bs 1 0) * 100 + two_digits (get_or bs 2 0) (get_or bs 3 0)) (two_digits (get_or bs 5 0) (get_or bs 6 0)) (two_digits (get_or bs 8 0) (get_or bs 9 0))

pub shape_digits : (bs : List ℕ) → is_date_shape bs ≡ true → ShapeDigits bs
shape_digits (y1 ∷ y2 ∷ y3 ∷ y4 ∷ dash ∷ m1 ∷ m2 ∷ hyphen ∷ d1 ∷ d2 ∷ []) h =
    let days = and_parts _ _ h in
    let months = and_parts _ _ (and_parts _ _ days.0).0 in
    let years = and_parts _ _ (and_parts _ _ months.0).0 in
    let first = and_parts _ _ years.0 in
    let last = and_parts _ _ years.1 in
    let month = and_parts _ _ months.1 in
    let day = and_parts _ _ days.1 in
    record {
      y1 = first.0;
      y2 = first.1;
      y3 = last.0;
      y4 = last.1;
      m1 = month.0;
      m2 = month.1;
      d1 = day.0;
      d2 = day.1;
      date = and_true _ _ h;
    }
shape_digits _ h = absurd (false≢true h)
