use Rattle.toml_working.specs.declared.lines.Sought.TheVariants.{Holder}
use Rattle.toml_working.proofs.Alone.{none_so_far}
use Rattle.std.proofs.Common.{◌<◌, length, arith}
use Rattle.toml_working.proofs.working.Tree.sought_value.Goals as goal

pub loop-slot-preserved : goal.loop-slot-preserved
loop-slot-preserved c lines =
    let low : c.loop-slot.slot < length c.args.self.now.slots.items = omega arith in
    none_so_far Holder c.args.at.now c.args.before.units.now c.args.self.now.slots.items c.loop-slot.slot c.line_in.result lines low c.line_in.ensures.finds c.in_default.is (c.loop-slot.invariant lines)
