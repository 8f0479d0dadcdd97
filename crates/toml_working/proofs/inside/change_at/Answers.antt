use Rattle.std.proofs.Common.{refl}
use Rattle.std.proofs.lemmas.Result.{IfOk-weaker}
use Rattle.toml_working.proofs.Changed.{at_changed, no_slot_changed}
use Rattle.toml_working.specs.Starting.{read_of}
use Rattle.toml_working.proofs.inside.change_at.Goals as goal

pub returns-in-Some : goal.returns-in-Some
returns-in-Some c =
    IfOk-weaker c.change.result _ _ (λ done changed.
    at_changed c.args.texts (read_of c.args.before) c.args.place c.args.at.now c.args.change c.args.slots.now.items _ c.in-Some.slot.now c.change.new.self done
    c.in-Some.ensures.item.3.0 c.in-Some.ensures.value refl changed) c.change.ensures

pub returns-in-None : goal.returns-in-None
returns-in-None c =
    no_slot_changed c.args.texts (read_of c.args.before) c.args.place c.args.at.now c.args.change c.args.slots.now.items _ c.in-None.ensures.item.3
