use Rattle.std.proofs.lemmas.Result.{on_ok_weaker}
use Rattle.toml_working.specs.Starting.{read_of}
use Rattle.toml_working.proofs.Removed.{slot_leaves, slot_stays}
use Rattle.toml_working.proofs.lines.Slot.remove.Goals as goal

pub returns-in-Lines-clause-slot : goal.returns-in-Lines-clause-slot
returns-in-Lines-clause-slot c =
    on_ok_weaker c.remove_from.result
    (λ leaves.
    slot_leaves c.args.texts (read_of c.args.before) c.args.at.now c.args.parent.now.address c.args.parent.now.stays c.remove_from.new.parent.stays
    c.args.self.now c.open.new.self c.in-Lines.lines c.remove_from.new.lines c.in_ok-open.ensures c.in-Lines.is leaves)
    c.remove_from.ensures.lines

pub returns-in-Lines-clause-stays : goal.returns-in-Lines-clause-stays
returns-in-Lines-clause-stays c =
    on_ok_weaker c.remove_from.result
    (λ leaves.
    slot_stays c.args.texts (read_of c.args.before) c.args.at.now c.args.parent.now.address c.args.parent.now.stays c.remove_from.new.parent.stays
    c.args.self.now c.open.new.self c.in-Lines.lines c.remove_from.new.lines c.in_ok-open.ensures c.in-Lines.is leaves)
    c.remove_from.ensures.lines
