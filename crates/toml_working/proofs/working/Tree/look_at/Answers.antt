use Rattle.std.proofs.lemmas.Result.{IfOk-weaker}
use Rattle.toml_working.specs.Looking.{LooksAt, SlotLooks}
use Rattle.toml_working.specs.Starting.{read_of}
use Rattle.toml_working.proofs.Got.{item_found}
use Rattle.toml_working.proofs.Looked.{no_place_looks, place_looks}
use Rattle.toml_working.proofs.working.Tree.look_at.Goals as goal

pub returns-in-Some : goal.returns-in-Some
returns-in-Some c =
    let read = read_of c.args.before in
    let slots = c.args.self.now.slots.items in
    let there = item_found _ _ c.args.at.slot c.get.result _ c.deref.ensures.value c.get.ensures.lookup c.in-Some.is in
    IfOk-weaker c.look.result (SlotLooks read.lines c.in-Some.slot.now c.args.at.index) (LooksAt read slots c.args.at)
    (λ look. place_looks read slots c.args.at c.in-Some.slot.now look there) c.look.ensures

pub returns-in-None : goal.returns-in-None
returns-in-None c =
    no_place_looks (read_of c.args.before) c.args.self.now.slots.items c.args.at _
    (item_found _ _ c.args.at.slot c.get.result _ c.deref.ensures.value c.get.ensures.lookup c.in-None.is)
