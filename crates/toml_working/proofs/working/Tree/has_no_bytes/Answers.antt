use Rattle.std.proofs.Common.{false}
use Rattle.toml_working.proofs.Got.{item_found}
use Rattle.toml_working.proofs.NoBytes.{no_slot_told, slot_told}
use Rattle.toml_working.proofs.working.Tree.has_no_bytes.Goals as goal

pub returns-in-Some : goal.returns-in-Some
returns-in-Some c =
    slot_told c.args.self.now.slots.items c.args.at c.in-Some.slot.now c.has_no_bytes.result
    (item_found _ _ c.args.at.slot c.get.result _ c.deref.ensures.value c.get.ensures.lookup c.in-Some.is) c.has_no_bytes.ensures

pub returns-in-None : goal.returns-in-None
returns-in-None c =
    no_slot_told c.args.self.now.slots.items c.args.at false
    (item_found _ _ c.args.at.slot c.get.result _ c.deref.ensures.value c.get.ensures.lookup c.in-None.is)
