use Rattle.std.proofs.Common.{false}
use Rattle.toml_working.proofs.Got.{item_found}
use Rattle.toml_working.proofs.NoBytes.{kept_slot_told, line_told, no_line_told}
use Rattle.toml_working.proofs.lines.Slot.has_no_bytes.Goals as goal

pub returns-in-Kept : goal.returns-in-Kept
returns-in-Kept c = kept_slot_told c.args.self.now c.in-Kept.kept c.args.index c.in-Kept.is

pub returns-in-Some : goal.returns-in-Some
returns-in-Some c =
    line_told c.args.self.now c.in-Lines.lines c.args.index c.in-Some.line.now c.has_no_bytes.result c.in-Lines.is
    (item_found _ _ c.args.index c.get.result _ c.deref.ensures.value c.get.ensures.lookup c.in-Some.is) c.has_no_bytes.ensures

pub returns-in-None : goal.returns-in-None
returns-in-None c =
    no_line_told c.args.self.now c.in-Lines.lines c.args.index false c.in-Lines.is
    (item_found _ _ c.args.index c.get.result _ c.deref.ensures.value c.get.ensures.lookup c.in-None.is)
