use Rattle.std.proofs.lemmas.Result.{on_ok_weaker}
use Rattle.toml_working.specs.Starting.{read_of}
use Rattle.toml_working.proofs.Turned.{slot_turns}
use Rattle.toml_working.proofs.lines.Slot.end_in.Goals as goal

pub returns-in-Lines : goal.returns-in-Lines
returns-in-Lines c =
    on_ok_weaker c.end_one.result
    (slot_turns c.args.texts (read_of c.args.before) _ c.args.index c.args.self.now c.open.new.self c.in-Lines.lines c.end_one.new.lines
    c.in_ok-open.ensures c.in-Lines.is) c.end_one.ensures
