-- The loop over the steps behind the first, against the plain reader.
use Rattle.std.proofs.Common.{◌≡◌, ℕ, zero, suc, ◌<◌, ◌≤◌, false, List, [], ◌∷◌, ◌++◌, length, length-append, Result, Ok, Err, sym, refl, ap, ◌∙◌, subst, arith, append_assoc}
use Rattle.std.specs.Prelude.{IfOk, ◌==◌}
use Rattle.std.proofs.lemmas.Bool.{cond-false}
use Rattle.toml_places.specs.declared.fault.PlaceFault.{PlaceFault}
use Rattle.toml_places.specs.declared.fault.PlaceFault.TheVariants.{BadPlace, NoMemory}
use Rattle.toml_places.specs.declared.place.PlaceStep.{PlaceStep}
use Rattle.toml_places.specs.declared.place.PlaceStep.TheVariants.{Name}
use Rattle.toml_places.specs.Reading.{Cursor, ◌>>=◌, part_at, step_at, steps_at, named_at}
use Rattle.toml_places.specs.Reads.{Reads, Tells}
use Rattle.toml_places.proofs.Sound.{StepIs, step_sound}
use Rattle.toml_places.proofs.Complete.{step_some}

-- the steps that were read, and those behind them
abbrev pub behind : List PlaceStep → Result (List PlaceStep) ℕ → Result (List PlaceStep) ℕ
behind front read = read >>= λ steps. Ok (front ++ steps)

-- the whole is what was read, and what is read from here on
pub record Loop (front : List PlaceStep) (now : Cursor) (whole : Result (List PlaceStep) ℕ) : Type 0 where
  pub fuel : ℕ
  pub enough : length now.rest ≤ fuel
  pub same : whole ≡ behind front (steps_at fuel now)

pub loop_start : (c now : Cursor) (name : List ℕ) → part_at c ≡ Ok (name, now) → Loop (Name name ∷ []) now (named_at c)
unfolding named_at
loop_start c now name read = record { fuel = length now.rest; enough = omega arith; same = rw read refl }

behind_step : (front : List PlaceStep) (s : PlaceStep) (o : Result (List PlaceStep) ℕ) → behind front (o >>= λ steps. Ok (s ∷ steps)) ≡ behind (front ++ s ∷ []) o
behind_step front s (Ok steps) = ap Ok (sym (append_assoc front (s ∷ []) steps))
behind_step front s (Err at) = refl

-- a step takes a byte or more
pub step_takes : (now next : Cursor) (s : PlaceStep) → step_at now ≡ Ok (s, next) → length next.rest < length now.rest
step_takes now next s read =
    let is : StepIs now (s, next) = subst (λ o. IfOk o (StepIs now)) read (step_sound now) in
    omega (arith, step_some s is.0 is.1, ap length is.2 ∙ length-append is.0 next.rest)

next_at : (fuel : ℕ) (front : List PlaceStep) (now next : Cursor) (whole : Result (List PlaceStep) ℕ) (s : PlaceStep) → length now.rest ≤ fuel → whole ≡ behind front (steps_at fuel now) → (length now.rest == 0) ≡ false → step_at now ≡ Ok (s, next) → Loop (front ++ s ∷ []) next whole
next_at zero front now next whole s enough same more read = absurd (let less = step_takes now next s read in omega arith)
next_at (suc fuel) front now next whole s enough same more read = record {
  fuel = fuel;
  enough = let less = step_takes now next s read in omega arith;
  same = same ∙ ap (behind front) (cond-false _ _ _ more ∙ rw read refl) ∙ behind_step front s (steps_at fuel next);
}

pub loop_next : (front : List PlaceStep) (now next : Cursor) (whole : Result (List PlaceStep) ℕ) (s : PlaceStep) → Loop front now whole → (length now.rest == 0) ≡ false → step_at now ≡ Ok (s, next) → Loop (front ++ s ∷ []) next whole
loop_next front now next whole s loop more read = next_at loop.fuel front now next whole s loop.enough loop.same more read

-- a first part that is refused too
pub first_fails : {X Y : Type 0} (view : X → List ℕ) (views : Y → List PlaceStep) (c new : Cursor) (e : PlaceFault) → Reads view new (Err e) (part_at c) → Tells views (Err e) (named_at c)
unfolding named_at
first_fails view views c new (BadPlace at) read = rw read refl
first_fails view views c new NoMemory read = tt
