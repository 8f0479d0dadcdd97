use Rattle.std.proofs.Common.{subst, sym, ap, ◌∙◌}
use Rattle.toml_edits.specs.Runs.{AreRuns, without}
use Rattle.toml_edits.proofs.Falling.{without_runs}
use Rattle.toml_edits.proofs.shifts.Runs.drop_at.Goals as goal

pub invariant_of-self : goal.invariant_of-self
invariant_of-self c = subst AreRuns (sym (c.in_ok-self-inside.ensures ∙ ap (without c.args.index) c.deref.ensures.value)) (without_runs c.args.index c.self.inside.runs.items c.self.invariant)
