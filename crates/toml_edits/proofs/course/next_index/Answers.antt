use Rattle.toml_edits.proofs.Ways.{by_name}
use Rattle.toml_edits.proofs.course.next_index.Goals as goal

pub returns-in-Name : goal.returns-in-Name
returns-in-Name c = by_name c.args.parent.now c.in_ok-step.step.now c.in-Name.field-0 c.in_ok-step.field-0-1.now c.args.steps.now c.in_ok-step.ensures c.in-Name.is
