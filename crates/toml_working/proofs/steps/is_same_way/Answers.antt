use Rattle.std.proofs.Common.{◌∙◌}
use Rattle.toml_working.proofs.HeaderSteps.{same_begun}
use Rattle.toml_working.proofs.steps.is_same_way.Goals as goal

pub returns-then-one-other : goal.returns-then-one-other
returns-then-one-other c = c.begins.ensures ∙ same_begun c.args.one.now c.args.other.now c.if-one-other.true
