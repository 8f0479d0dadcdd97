use Rattle.toml_working.proofs.Alone.{holder_of_line}
use Rattle.toml_working.proofs.working.Tree.near_value.Goals as goal

pub returns-in-Some-KeyVal : goal.returns-in-Some-KeyVal
returns-in-Some-KeyVal c = holder_of_line c.args.at.now c.args.before.units.now c.args.self.now.slots.items _ c.line_in.result c.line_in.ensures.finds
