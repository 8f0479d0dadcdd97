-- How many units were walked past.
use Rattle.std.proofs.Common.{◌≡◌, ℕ, ◌+◌, ◌<◌, List, [], ◌∷◌, ◌++◌, length, Option, Some, None, IsSome, true≢false, Result, refl, sym, ap, subst, ◌∙◌, arith}
use Rattle.std.specs.Prelude.{min, OnOk}
use Rattle.std.proofs.lemmas.Result.{on_ok_weaker}
use Rattle.toml_tree.specs.declared.profile.Profile.{Profile}
use Rattle.toml_units.specs.declared.cursor.UnitCursor.{UnitCursor}
use Rattle.toml_units.specs.Cursors.{Goes, Moves, Walks, current}
use Rattle.std.proofs.lemmas.List.{length-map, length_push}
use Rattle.toml_units.specs.Lined.{LinedUnit}
use Rattle.toml_checker.specs.Traces.{Met, lined_of}
use Rattle.toml_checker.specs.Walking.{GoesOn, IsFew}

pub as_long : (ms : List Met) → length (lined_of ms) ≡ length ms
as_long ms = length-map ms (λ (m : Met). m.lined)

pub one_more : (ms : List Met) (m : Met) (p q : ℕ) → (IsFew (lined_of ms) → p ≡ length ms) → q ≡ min (p + 1) 18446744073709551615 → IsFew (lined_of (ms ++ m ∷ [])) → q ≡ length (ms ++ m ∷ [])
one_more ms m p q h is few =
    let long = length_push ms m in
    let a = as_long (ms ++ m ∷ []) in
    let b = as_long ms in
    let low : length ms + 1 < 18446744073709551616 = omega (arith, few, a, long) in
    let before = h (omega (arith, low, b)) in
    is ∙ omega (arith, before, low, long)

pub some_of : {A : Type 0} (o : Option A) → IsSome o → (x : A) × (o ≡ Some x)
some_of None h = absurd (true≢false (sym h))
some_of (Some x) h = (x, refl)

-- a cursor that steps goes on
pub goes_on : {E : Type 0} (old : UnitCursor) (passed : ℕ) (new : UnitCursor) (now : ℕ) → Goes old → IsSome (current old) → now ≡ min (passed + 1) 18446744073709551615 → (r : Result (Unit {0}) E)
    → ((profile : Profile) (text : List ℕ) (past : List LinedUnit) → Walks profile text old past → OnOk r (Moves profile text past old new)) → OnOk r (GoesOn old passed new now)
goes_on old passed new now (profile, text, past, walks) some is r h =
    let x = some_of (current old) some in
    on_ok_weaker r (λ moves. record { goes = (profile, text, past ++ x.0 ∷ [], moves.walks x.0 x.1); less = moves.less; count = omega (arith, is) }) (h profile text past walks)

pub goes_on_from : {E : Type 0} (mid : UnitCursor) (mid_passed : ℕ) (old : UnitCursor) (passed : ℕ) (new : UnitCursor) (now : ℕ) → mid ≡ old → mid_passed ≡ passed → Goes old → IsSome (current old) → now ≡ min (mid_passed + 1) 18446744073709551615 → (r : Result (Unit {0}) E)
    → ((profile : Profile) (text : List ℕ) (past : List LinedUnit) → Walks profile text mid past → OnOk r (Moves profile text past mid new)) → OnOk r (GoesOn old passed new now)
goes_on_from mid mid_passed old passed new now same count goes some is r h =
    goes_on old passed new now goes some (is ∙ ap (λ n. min (n + 1) 18446744073709551615) count) r (subst (λ (u : UnitCursor). (profile : Profile) (text : List ℕ) (past : List LinedUnit) → Walks profile text u past → OnOk r (Moves profile text past u new)) same h)
