use Rattle.std.proofs.Common.{arith, sym, ◌∙◌}
use Rattle.toml_names.specs.declared.model.address.Step.TheVariants.{Name}
use Rattle.toml_names.specs.mentions.Keys.{spelled_name}
use Rattle.toml_mentions.proofs.Ways.{off, step_end, step_off, step_on}
use Rattle.toml_mentions.proofs.way.named.Goals as goal

pub returns-in_default : goal.returns-in_default
returns-in_default c = λ at h. off c.args.target.now at (Name (spelled_name c.args.part.now)) (sym c.in_default.is ∙ h)

pub returns-then-depth-target : goal.returns-then-depth-target
returns-then-depth-target c = λ at h. step_end c.args.target.now at (Name (spelled_name c.args.part.now)) c.in-Some.depth (sym c.in-Some.is ∙ h) (omega arith)

pub returns-then-branch : goal.returns-then-branch
returns-then-branch c = λ at h.
    step_on c.args.target.now at (Name (spelled_name c.args.part.now)) c.in-Some.depth (sym c.in-Some.is ∙ h) c.index-target-depth.result (omega arith) c.index-target-depth.is
    (sym c.in_ok-is_name.ensures ∙ c.if-branch.true)

pub returns-else-branch : goal.returns-else-branch
returns-else-branch c = λ at h.
    step_off c.args.target.now at (Name (spelled_name c.args.part.now)) c.in-Some.depth (sym c.in-Some.is ∙ h) c.index-target-depth.result (omega arith) c.index-target-depth.is
    (sym c.in_ok-is_name.ensures ∙ c.if-branch.false)
