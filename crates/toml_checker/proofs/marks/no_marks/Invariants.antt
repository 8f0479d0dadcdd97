use Rattle.std.proofs.Common.{◌≡◌, ℕ, false, get_or, vec_len}
use Rattle.toml_checker.proofs.marks.no_marks.Given as goal

abbrev pub invariant-loop : goal.invariant-loop
invariant-loop l = record {
  len : vec_len l.marks ≡ l.counter;
  none : (i : ℕ) → get_or l.marks.items i false ≡ false;
}
