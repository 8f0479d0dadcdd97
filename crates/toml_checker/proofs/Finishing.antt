-- Texts that were walked through to the end.
use Rattle.std.proofs.Common.{◌≡◌, ◌++◌, inl, inr, ℕ, List, Option, None, refl, sym, subst}
use Rattle.std.proofs.lemmas.Option.{none-some}
use Rattle.toml_units.specs.declared.cursor.UnitCursor.{UnitCursor}
use Rattle.toml_units.specs.Cursors.{current}
use Rattle.toml_units.specs.Lined.{LinedUnit}
use Rattle.toml_checker.specs.Traces.{MayBe, Met, lined_of}
use Rattle.toml_checker.specs.Walking.{GoneTo}

module _ {Holds : List Met → Type 0} {old : UnitCursor} {old_passed : ℕ} {ms : List Met} {now : UnitCursor} {passed : ℕ} (h : GoneTo Holds old old_passed ms None now passed) where
  pub at_end : current now ≡ None
  at_end = elim h.goes.stops [ inl e ↦ e | inr w ↦ absurd (none-some w.0 w.1) ]

  -- they are all units of the text
  pub all_of : MayBe (current old) (lined_of ms) (lined_of (ms ++ h.more))
  all_of = let past = lined_of (ms ++ h.more) in h.goes.back past (subst (λ (o : Option LinedUnit). MayBe o past past) (sym at_end) refl)
