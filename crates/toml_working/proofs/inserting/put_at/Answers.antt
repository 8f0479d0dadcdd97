use Rattle.std.proofs.Common.{refl}
use Rattle.std.proofs.lemmas.Result.{on_ok_weaker}
use Rattle.toml_working.specs.Starting.{read_of}
use Rattle.toml_working.proofs.Put.{at_put, at_put_there, no_slot_put, no_slot_there}
use Rattle.toml_working.proofs.inserting.put_at.Goals as goal

pub returns-in-Some-clause-put : goal.returns-in-Some-clause-put
returns-in-Some-clause-put c =
    on_ok_weaker c.put.result
    (at_put (read_of c.args.before) c.args.at c.args.line c.args.slots.now.items _ c.in-Some.slot.now c.put.new.self
    c.in-Some.ensures.item.3.0 c.in-Some.ensures.value refl) c.put.ensures.put

pub returns-in-None-clause-put : goal.returns-in-None-clause-put
returns-in-None-clause-put c = no_slot_put (read_of c.args.before) c.args.at c.args.line c.args.slots.now.items _ c.in-None.ensures.item.3

pub returns-in-Some-clause-there : goal.returns-in-Some-clause-there
returns-in-Some-clause-there c =
    on_ok_weaker c.put.result
    (at_put_there (read_of c.args.before) c.args.at c.args.line c.args.slots.now.items _ c.in-Some.slot.now c.put.new.self
    c.in-Some.ensures.item.3.0 c.in-Some.ensures.value refl) c.put.ensures.put

pub returns-in-None-clause-there : goal.returns-in-None-clause-there
returns-in-None-clause-there c = no_slot_there (read_of c.args.before) c.args.at c.args.line c.args.slots.now.items _ c.in-None.ensures.item.3
