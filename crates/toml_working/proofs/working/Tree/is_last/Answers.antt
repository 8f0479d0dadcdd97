use Rattle.toml_working.proofs.Got.{item_found}
use Rattle.toml_working.proofs.Put.{last_slot, no_last_slot}
use Rattle.toml_working.proofs.working.Tree.is_last.Goals as goal

pub returns-in-Some : goal.returns-in-Some
returns-in-Some c =
    last_slot c.args.self.now.slots.items c.args.at c.in-Some.slot.now c.is_last.result
    (item_found _ _ c.args.at.slot c.get.result _ c.deref.ensures.value c.get.ensures.lookup c.in-Some.is) c.is_last.ensures

pub returns-in-None : goal.returns-in-None
returns-in-None c =
    no_last_slot c.args.self.now.slots.items c.args.at
    (item_found _ _ c.args.at.slot c.get.result _ c.deref.ensures.value c.get.ensures.lookup c.in-None.is)
