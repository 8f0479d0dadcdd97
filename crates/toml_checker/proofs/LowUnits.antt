-- An index in the address of a unit is below the length of its text, and that below the limit.
use Rattle.std.proofs.Common.{◌≡◌, ℕ, zero, suc, ◌≤◌, ◌^◌, List, [], ◌∷◌, length, Option, Some, None, IsSome, is_some, true≢false, refl, sym, ap, subst, ◌∙◌, arith}
use Rattle.std.specs.Prelude.{IfSome}
use Rattle.toml_tree.specs.Spells.{EachIs}
use Rattle.toml_names.specs.model.Addresses.{Address}
use Rattle.toml_names.specs.model.Data.{Kinds, IsFact, IsDataOf, fact_at}
use Rattle.toml_names.specs.model.Indices.{IsLow}
use Rattle.toml_names.specs.mentions.Mentions.{Kind, Named, named}
use Rattle.toml_names.proofs.Proved.{lines_join, first_is_data, indices_are_low}
use Rattle.toml_units.specs.Units.{TextUnit, units}
use Rattle.toml_units.proofs.Proved.{units_are_named}
use Rattle.toml_checker.specs.Laws.{UnitsAreLow}
use Rattle.toml_checker.proofs.Each.{each_weaker}
use Rattle.toml_checker.proofs.Sent.{lower}

fact_low : (n : ℕ) (ms : List Named) → EachIs (λ (m : Named). IsLow n m.address) ms → (a : Address) (k : Kind) → IsFact ms a k → IsLow n a
fact_low n [] h a k (j, m, there, is, p) = absurd (omega (arith, there))
fact_low n (x ∷ ms) h a k (zero, m, there, is, p) = subst (IsLow n) (ap (λ (y : Named). y.address) is ∙ p.0) h.0
fact_low n (x ∷ ms) h a k (suc j, m, there, is, p) = fact_low n ms h.1 a k (j, m, omega (arith, there), is, p)

no_kind : {P : Type 0} (o : Option Kind) → o ≡ None → IsSome o → P
no_kind o none some = absurd (true≢false (sym some ∙ ap is_some none))

some_low : (n : ℕ) (ms : List Named) → EachIs (λ (m : Named). IsLow n m.address) ms → (kinds : Kinds) → IsDataOf ms kinds → (a : Address) → IsSome (kinds a) → IsLow n a
some_low n ms h kinds are a some = by (kinds a) refl some
  where
    by : (o : Option Kind) → kinds a ≡ o → IsSome o → IsLow n a
    by None is none = no_kind None refl none
    by (Some k) is there = fact_low n ms h a k ((are a k).0 is)

pub units_are_low : UnitsAreLow
units_are_low profile text doc = each_weaker (λ (u : TextUnit). IfSome u.address (λ a. IsSome (fact_at (named doc.1.lines) a))) (λ (u : TextUnit). IfSome u.address (IsLow (2 ^ 63))) (λ u h. by u.address h) (units doc.1.lines) (units_are_named doc.1 text doc.2 (fact_at (named doc.1.lines)) are)
  where
    are : IsDataOf (named doc.1.lines) (fact_at (named doc.1.lines))
    are = first_is_data (named doc.1.lines) (lines_join doc.1.lines doc.3.0)

    long : length text ≤ 2 ^ 63
    long = let fits = doc.0.fits in omega (arith, fits)

    by : (o : Option Address) → IfSome o (λ a. IsSome (fact_at (named doc.1.lines) a)) → IfSome o (IsLow (2 ^ 63))
    by None h = tt
    by (Some a) h = lower (length text) (2 ^ 63) long a (some_low (length text) (named doc.1.lines) (indices_are_low doc.1 text doc.2) (fact_at (named doc.1.lines)) are a h)
