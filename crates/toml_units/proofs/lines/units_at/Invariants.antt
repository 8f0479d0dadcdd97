use Rattle.std.proofs.Common.{◌≡◌, ◌≤◌, ℕ, Option, map}
use Rattle.std.specs.Prelude.{slice_index_or}
use Rattle.toml_tree.specs.Lines.{line}
use Rattle.toml_names.specs.model.Addresses.{Address}
use Rattle.toml_units.specs.View.{all_units}
use Rattle.toml_units.proofs.AllLines.{IsTaken}
use Rattle.toml_units.proofs.lines.units_at.Given as goal

abbrev pub invariant-loop-number : goal.invariant-loop-number
invariant-loop-number l = record {
  taken : IsTaken (map line l.line-items) l.number (all_units l.all.items);
  left : (k : ℕ) (d : Option Address) → l.number ≤ k → slice_index_or l.left.items k d ≡ slice_index_or l.fn.own.items k d;
}
