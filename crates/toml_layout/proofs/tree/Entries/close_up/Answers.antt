use Rattle.toml_layout.specs.Items.{gap_parts, items_of}
use Rattle.toml_layout.proofs.TakenParts.{closes_up}
use Rattle.toml_layout.proofs.tree.Entries.close_up.Goals as goal

pub returns : goal.returns
returns c =
    closes_up c.args.self.now (items_of c.leave.new.self) c.args.index (gap_parts c.args.before.now) (gap_parts c.args.after.now) (gap_parts c.in_ok-before.before)
    (gap_parts c.in_ok-after.after) c.deref.result.now c.deref-2.result.now c.in_ok-above.above c.in_ok-behind.behind c.parts_of.result c.parts_of-2.result c.has.result c.in_ok-left.left
    c.in_ok-above.ensures c.in_ok-before.ensures c.in_ok-after.ensures c.in_ok-behind.ensures c.parts_of.ensures c.deref.ensures.value c.deref-2.ensures.value c.parts_of-2.ensures
    c.has.ensures c.in_ok-left.ensures c.leave.ensures
