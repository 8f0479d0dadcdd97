use Rattle.std.proofs.lemmas.Result.{IfOk-weaker}
use Rattle.toml_working.proofs.Turned.{slot_turns}
use Rattle.toml_working.specs.Starting.{read_of}
use Rattle.toml_working.proofs.lines.Slot.change.Goals as goal

pub returns-in-Lines : goal.returns-in-Lines
returns-in-Lines c =
    IfOk-weaker c.change_one.result _ _ (λ done changed.
    slot_turns c.args.texts (read_of c.args.before) _ c.args.index c.args.self.now c.open.new.self c.in-Lines.lines c.change_one.new.lines
    c.in_ok-open.ensures c.in-Lines.is changed) c.change_one.ensures
