use Rattle.std.proofs.Common.{◌∙◌, sym}
use Rattle.toml_working.proofs.Alone.{line_holds_none, near_holds_none}
use Rattle.toml_working.proofs.working.Tree.is_table.Goals as goal

pub returns-in-Some-Tables : goal.returns-in-Some-Tables
returns-in-Some-Tables c is_some = line_holds_none c.args.at.now c.args.before.units.now c.args.self.now.slots.items _ c.line_in.result c.line_in.ensures.finds (sym c.is_some.ensures ∙ is_some)

pub returns-else-is_empty : goal.returns-else-is_empty
returns-else-is_empty c is_some =
    near_holds_none c.args.at.now c.args.before.units.now c.args.self.now.slots.items c.near_table.result c.near_table.ensures.finds (sym c.is_some-else-is_empty.ensures ∙ is_some)
