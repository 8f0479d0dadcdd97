-- What lies in two units that are alike, by places.
use Rattle.std.proofs.Common.{◌≡◌, ℕ, zero, suc, ◌+◌, ◌<◌, ◌≤◌, List, [], ◌∷◌, ◌++◌, length, map, Some, refl, sym, ap, ◌∙◌, arith}
use Rattle.std.specs.Prelude.{slice_get}
use Rattle.std.proofs.lemmas.Bool.Decides.{nat_tests}
use Rattle.std.proofs.lemmas.Option.{same_Some}
use Rattle.toml_tree.specs.Spells.{EachIs}
use Rattle.toml_units.specs.Alike.{Relative, unit_in}
use Rattle.toml_units.specs.Blocks.{end, LiesIn, StandsBehind, Block}
use Rattle.toml_units.specs.Places.{count_inside, size}
use Rattle.toml_units.specs.Twins.{UnitsAreTwins}
use Rattle.toml_units.specs.Units.{TextUnit, units}
use Rattle.toml_units.proofs.Alike.{units_are_alike}

counted : (u : TextUnit) (inner outer : List TextUnit) → EachIs (LiesIn u) inner → EachIs (StandsBehind u) outer → count_inside u (inner ++ outer) ≡ length inner
counted u [] [] within behind = refl
counted u [] (w ∷ ws) within behind = let high : end u < end w = behind.0.1 in grind (arith, nat_tests)
counted u (w ∷ inner) outer within behind = let low : end w ≤ end u = within.0.1 in let rest = counted u inner outer within.1 behind in grind (arith, nat_tests)

-- a list at one of its places
record Split (us : List TextUnit) (i : ℕ) (u : TextUnit) : Type 0 where
  front : List TextUnit
  back : List TextUnit
  is : us ≡ front ++ u ∷ back
  size_is : size us i ≡ count_inside u back
  behind : (m : ℕ) → slice_get us (i + suc m) ≡ slice_get back m

split : (us : List TextUnit) (i : ℕ) (u : TextUnit) → slice_get us i ≡ Some u → Split us i u
split [] i u is = cc
split (x ∷ us) zero u is =
    let e : x ≡ u = same_Some x u is in
    record { front = []; back = us; is = ap (λ (y : TextUnit). y ∷ us) e; size_is = ap (λ (y : TextUnit). count_inside y us) e; behind = λ m. let f : 0 + suc m ≡ suc m = omega arith in ap (slice_get (x ∷ us)) f }
split (x ∷ us) (suc i) u is =
    let s = split us i u is in
    record { front = x ∷ s.front; back = s.back; is = ap (λ vs. x ∷ vs) s.is; size_is = s.size_is; behind = λ m. (let f : suc i + suc m ≡ suc (i + suc m) = omega arith in ap (slice_get (x ∷ us)) f) ∙ s.behind m }

length_map : (u : TextUnit) (rs : List Relative) → length (map (unit_in u) rs) ≡ length rs
length_map u [] = refl
length_map u (r ∷ rs) = ap suc (length_map u rs)

block_size : (u : TextUnit) (us : List TextUnit) (b : Block u us) (rs : List Relative) → b.inner ≡ map (unit_in u) rs → count_inside u us ≡ length rs
block_size u us b rs is = ap (count_inside u) b.is ∙ counted u b.inner b.outer b.within b.behind ∙ ap length is ∙ length_map u rs

behind_is : (u : TextUnit) (us : List TextUnit) (b : Block u us) (rs : List Relative) → b.inner ≡ map (unit_in u) rs → us ≡ map (unit_in u) rs ++ b.outer
behind_is u us b rs is = b.is ∙ ap (λ vs. vs ++ b.outer) is

same_relative : (u w : TextUnit) (rs : List Relative) (x y : List TextUnit) (m : ℕ) → m < length rs → (r : Relative) × (slice_get (map (unit_in u) rs ++ x) m ≡ Some (unit_in u r)) × (slice_get (map (unit_in w) rs ++ y) m ≡ Some (unit_in w r))
same_relative u w [] x y m h = absurd (omega arith)
same_relative u w (r ∷ rs) x y zero h = (r, refl, refl)
same_relative u w (r ∷ rs) x y (suc m) h = same_relative u w rs x y m (omega arith)

pub units_are_twins : UnitsAreTwins
units_are_twins d e text other h j i k u w is are kind same =
    let s = split (units d.lines) i u is in
    let t = split (units e.lines) k w are in
    let a = units_are_alike d e text other h j s.front s.back u s.is t.front t.back w t.is kind same in
    let first = block_size u s.back a.first a.units a.in_first in
    let second = block_size w t.back a.second a.units a.in_second in (
      s.size_is ∙ first ∙ sym second ∙ sym t.size_is,
      λ m low.
          let r = same_relative u w a.units a.first.outer a.second.outer m (omega (arith, low, s.size_is, first)) in
          record {
            relative = r.0;
            first = s.behind m ∙ ap (λ vs. slice_get vs m) (behind_is u s.back a.first a.units a.in_first) ∙ r.1;
            second = t.behind m ∙ ap (λ vs. slice_get vs m) (behind_is w t.back a.second a.units a.in_second) ∙ r.2;
          },
    )
