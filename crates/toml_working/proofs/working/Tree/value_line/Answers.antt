use Rattle.toml_working.proofs.Alone.{value_of_any}
use Rattle.toml_working.proofs.working.Tree.value_line.Goals as goal

pub returns : goal.returns
returns c = value_of_any c.args.at.now c.args.before.units.now c.args.self.now.slots.items c.sought_value.result c.sought_value.ensures
