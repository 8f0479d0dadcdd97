use Rattle.std.proofs.Common.{arith, sym, ◌∙◌}
use Rattle.toml_names.specs.declared.model.address.Step.TheVariants.{Index}
use Rattle.toml_mentions.proofs.Ways.{off, step_end, step_off, step_on}
use Rattle.toml_mentions.proofs.way.indexed.Goals as goal

pub returns-in_default : goal.returns-in_default
returns-in_default c = λ at h. off c.args.target.now at (Index c.args.index) (sym c.in_default.is ∙ h)

pub returns-then-depth-target : goal.returns-then-depth-target
returns-then-depth-target c = λ at h. step_end c.args.target.now at (Index c.args.index) c.in-Some.depth (sym c.in-Some.is ∙ h) (omega arith)

pub returns-then-is_index : goal.returns-then-is_index
returns-then-is_index c = λ at h.
    step_on c.args.target.now at (Index c.args.index) c.in-Some.depth (sym c.in-Some.is ∙ h) c.index-target-depth.result (omega arith) c.index-target-depth.is
    (sym c.is_index.ensures ∙ c.if-is_index.true)

pub returns-else-is_index : goal.returns-else-is_index
returns-else-is_index c = λ at h.
    step_off c.args.target.now at (Index c.args.index) c.in-Some.depth (sym c.in-Some.is ∙ h) c.index-target-depth.result (omega arith) c.index-target-depth.is
    (sym c.is_index.ensures ∙ c.if-is_index.false)
