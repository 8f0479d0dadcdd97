use Rattle.std.proofs.Common.{subst, sym, ap, ◌∙◌}
use Rattle.toml_edits.specs.Runs.{AreRuns, with_lost}
use Rattle.toml_edits.proofs.Falling.{lost_runs}
use Rattle.toml_edits.proofs.shifts.Runs.lose_at.Goals as goal

pub invariant_of-self : goal.invariant_of-self
invariant_of-self c = subst AreRuns (sym ((rw c.in-Some.is at c.in_ok-runs.ensures) ∙ ap (with_lost c.args.index) c.deref.ensures.value)) (lost_runs c.args.index c.self.inside.runs.items c.self.invariant)
