use Rattle.std.proofs.Common.{◌≡◌, ◌≤◌, ◌-◌, ◌^◌, map}
use Rattle.std.specs.Prelude.{min}
use Rattle.toml_explain.specs.Shown.{column_behind, shown_line, shown_span}
use Rattle.toml_explain.proofs.glyph.columns_of.Given as goal

-- what is left comes to the same column
abbrev pub invariant-loop-start : goal.invariant-loop-start
invariant-loop-start l = record {
  few : l.all ≤ 2 ^ 64 - 1;
  left : min (column_behind l.all (map (shown_span l.line) l.start-iterator)) (2 ^ 64 - 1) ≡ min (column_behind 0 (shown_line l.line)) (2 ^ 64 - 1);
}
