use Rattle.std.proofs.Common.{◌≡◌, ℕ, Some, ◌<◌}
use Rattle.std.specs.Prelude.{slice_get}
use Rattle.toml_scalar.specs.declared.scalar.Scalar.{Scalar as Token}
use Rattle.toml_names.specs.declared.model.datum.Datum.{Datum, Scalar}
use Rattle.toml_working.proofs.flat.are_scalars.Given as goal

abbrev pub invariant-loop-item : goal.invariant-loop-item
invariant-loop-item l = (i : ℕ) → i < l.item-index → (d : Datum) → slice_get l.items i ≡ Some d → (s : Token) × (d ≡ Scalar s)
