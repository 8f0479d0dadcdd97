use Rattle.toml_working.proofs.Turned.{if_one_turns, none_turns}
use Rattle.toml_working.proofs.renaming.rename_in_slot.Goals as goal

pub returns-in-Some : goal.returns-in-Some
returns-in-Some c =
    if_one_turns c.rename.result _ c.args.index c.args.slots.now.items c.in-Some.slot.now c.rename.new.self c.in-Some.ensures.item.3.0
    c.in-Some.ensures.value
    c.rename.ensures

pub returns-in-None : goal.returns-in-None
returns-in-None c = none_turns _ c.args.index c.args.slots.now.items c.in-None.ensures.item.3
