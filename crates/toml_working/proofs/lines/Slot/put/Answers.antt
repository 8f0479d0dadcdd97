use Rattle.toml_working.specs.Starting.{read_of}
use Rattle.toml_working.proofs.Put.{slot_put}
use Rattle.toml_working.proofs.lines.Slot.put.Goals as goal

pub returns-in_ok-put_in-in-Lines-clause-put : goal.returns-in_ok-put_in-in-Lines-clause-put
returns-in_ok-put_in-in-Lines-clause-put c =
    slot_put (read_of c.args.before) c.args.index c.args.line c.args.self.now c.open.new.self c.in-Lines.lines c.put_in.new.lines
    c.in_ok-open.ensures c.in-Lines.is c.in_ok-put_in-in-Lines.ensures
