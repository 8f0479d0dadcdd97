use Rattle.std.proofs.Common.{sym, ◌∙◌}
use Rattle.toml_checker.proofs.Owing.{parent_of}
use Rattle.toml_checker.proofs.debts.parent.Goals as goal

pub returns-in_ok-copied-in-Some : goal.returns-in_ok-copied-in-Some
returns-in_ok-copied-in-Some c = parent_of c.args.at.now c.in-Some.steps.now c.in-Some.field-0-0.now c.in_ok-copied-in-Some.field-0 (sym c.steps.ensures ∙ c.in-Some.ensures.cases.0) c.in_ok-copied-in-Some.ensures
