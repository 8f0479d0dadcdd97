use Rattle.std.proofs.Common.{◌≡◌, ◌↔◌, ◌<◌, ℕ, vec_len}
use Rattle.toml_units.specs.View.{all_units}
use Rattle.toml_checker.specs.Marks.{IsFree, IsSet, stops}
use Rattle.toml_checker.proofs.Reach.{Reached}
use Rattle.toml_checker.proofs.outer.free.Given as goal

abbrev pub invariant-loop-index : goal.invariant-loop-index
invariant-loop-index l = record {
  len : vec_len l.free ≡ l.index;
  reached : Reached (stops (all_units l.units)) l.marks l.index l.reach;
  held : (k : ℕ) → k < l.index → IsSet l.free.items k ↔ IsFree (stops (all_units l.units)) l.marks k;
}
