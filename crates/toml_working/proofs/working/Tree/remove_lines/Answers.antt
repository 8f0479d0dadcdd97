use Rattle.std.proofs.lemmas.Result.{on_ok_weaker}
use Rattle.toml_working.specs.Starting.{read_of}
use Rattle.toml_working.proofs.BelowOut.{all_left}
use Rattle.toml_working.proofs.working.Tree.remove_lines.Goals as goal

pub returns-clause-lines : goal.returns-clause-lines
returns-clause-lines c =
    on_ok_weaker c.remove_in_slots.result
    (all_left c.args.at.now c.in_ok-parent.parent.address c.args.self.now.texts (read_of c.args.before) c.args.flat c.args.first c.in_ok-parent.parent.stays
    c.args.self.now.slots.items c.remove_in_slots.new.slots.items c.in_ok-parent.ensures.address c.in_ok-parent.ensures.stays)
    c.remove_in_slots.ensures
