use Rattle.std.proofs.Common.{subst}
use Rattle.toml_working.specs.Seeing.{FindsLine}
use Rattle.toml_working.specs.declared.lines.Sought.TheVariants.{Header}
use Rattle.toml_working.proofs.working.Tree.header_in.Goals as goal

pub returns-in-None-clause-header : goal.returns-in-None-clause-header
returns-in-None-clause-header c =
    subst (FindsLine Header c.args.at.now c.args.before.units.now c.args.self.now.slots.items c.args.slot) c.in-None.is c.line_in.ensures.finds
