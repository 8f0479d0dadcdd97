use Rattle.toml_working.proofs.Got.{item_found}
use Rattle.toml_working.proofs.Put.{last_line, no_last_line}
use Rattle.toml_working.proofs.lines.Slot.is_last.Goals as goal

pub returns-in-Some : goal.returns-in-Some
returns-in-Some c =
    last_line c.args.self.now c.in-Lines.lines c.args.index c.in-Some.line.now c.is_last.result c.in-Lines.is
    (item_found _ _ c.args.index c.get.result _ c.deref.ensures.value c.get.ensures.lookup c.in-Some.is) c.is_last.ensures

pub returns-in-None : goal.returns-in-None
returns-in-None c =
    no_last_line c.args.self.now c.in-Lines.lines c.args.index c.in-Lines.is
    (item_found _ _ c.args.index c.get.result _ c.deref.ensures.value c.get.ensures.lookup c.in-None.is)
