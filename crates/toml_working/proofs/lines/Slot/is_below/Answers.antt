use Rattle.std.proofs.Common.{◌∙◌, List, ap, sym}
use Rattle.std.specs.List.{list_any}
use Rattle.toml_working.specs.declared.lines.Line.{Line}
use Rattle.toml_working.specs.declared.lines.Slot.{Slot}
use Rattle.toml_working.specs.Seeing.{read_by}
use Rattle.toml_working.specs.Standing.{is_below, lies_below, slot_standing}
use Rattle.toml_working.proofs.Renamed.{any_below}
use Rattle.toml_working.proofs.lines.Slot.is_below.Goals as goal

pub returns-in-Lines : goal.returns-in-Lines
returns-in-Lines c lines =
    let below = λ (l : Line). lies_below c.args.at.now l.address in
    let read = read_by c.args.units.now lines in
    c.is_any_below.ensures ∙ ap (λ (ls : List Line). list_any below ls) c.deref.ensures.value ∙ any_below c.args.at.now read c.in-Lines.lines.items
    ∙ ap (λ (s : Slot). list_any (is_below c.args.at.now) (slot_standing read s)) (sym c.in-Lines.is)
