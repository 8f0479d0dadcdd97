use Rattle.std.proofs.Common.{refl}
use Rattle.std.proofs.lemmas.Result.{on_ok_weaker}
use Rattle.toml_layout.specs.OpenOutlines.{leaf_text}
use Rattle.toml_working.specs.Starting.{read_of}
use Rattle.toml_working.proofs.Put.{at_ended, no_slot_ended}
use Rattle.toml_working.proofs.inserting.end_at.Goals as goal

pub returns-in-Some : goal.returns-in-Some
returns-in-Some c =
    on_ok_weaker c.end_in.result
    (at_ended (leaf_text c.args.newline) c.args.texts (read_of c.args.before) c.args.at c.args.slots.now.items _ c.in-Some.slot.now c.end_in.new.self
    c.in-Some.ensures.item.3.0 c.in-Some.ensures.value refl) c.end_in.ensures

pub returns-in-None : goal.returns-in-None
returns-in-None c = no_slot_ended (leaf_text c.args.newline) c.args.texts (read_of c.args.before) c.args.at c.args.slots.now.items c.in-None.ensures.item.3
