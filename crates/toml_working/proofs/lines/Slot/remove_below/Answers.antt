use Rattle.std.proofs.Common.{◌∙◌, sym}
use Rattle.toml_layout.specs.KnownLines.{lines_known}
use Rattle.toml_working.specs.Starting.{read_of}
use Rattle.toml_working.proofs.BelowOut.{slot_without}
use Rattle.toml_working.proofs.lines.Slot.remove_below.Goals as goal

pub returns-then-is_met-clause-slot : goal.returns-then-is_met-clause-slot
returns-then-is_met-clause-slot c =
    (slot_without c.args.texts (read_of c.args.before) c.args.at.now c.args.parent.now.address c.args.parent.now.stays c.args.self.now
    (sym (c.is_below.ensures (lines_known c.args.before.known.now)) ∙ c.if-is_below.false)).0

pub returns-then-is_met-clause-stays : goal.returns-then-is_met-clause-stays
returns-then-is_met-clause-stays c =
    (slot_without c.args.texts (read_of c.args.before) c.args.at.now c.args.parent.now.address c.args.parent.now.stays c.args.self.now
    (sym (c.is_below.ensures (lines_known c.args.before.known.now)) ∙ c.if-is_below.false)).1

pub returns-else-is_met-clause-slot : goal.returns-else-is_met-clause-slot
returns-else-is_met-clause-slot c =
    (slot_without c.args.texts (read_of c.args.before) c.args.at.now c.args.parent.now.address c.args.parent.now.stays c.args.self.now
    (sym (c.is_below.ensures (lines_known c.args.before.known.now)) ∙ c.if-is_below.false)).0

pub returns-else-is_met-clause-stays : goal.returns-else-is_met-clause-stays
returns-else-is_met-clause-stays c =
    (slot_without c.args.texts (read_of c.args.before) c.args.at.now c.args.parent.now.address c.args.parent.now.stays c.args.self.now
    (sym (c.is_below.ensures (lines_known c.args.before.known.now)) ∙ c.if-is_below.false)).1
