use Rattle.std.proofs.Common.{◌∙◌, List, ap, sym}
use Rattle.std.specs.List.{list_any}
use Rattle.toml_working.specs.declared.lines.Line.{Line}
use Rattle.toml_working.specs.declared.lines.Slot.{Slot}
use Rattle.toml_working.specs.RemoveStanding.{makes_apart}
use Rattle.toml_working.specs.Seeing.{read_by}
use Rattle.toml_working.proofs.MadeBeside.{any_made, has_maker}
use Rattle.toml_working.proofs.lines.Slot.is_made.Goals as goal

pub returns-in-Lines : goal.returns-in-Lines
returns-in-Lines c lines =
    let makes = λ (l : Line). makes_apart c.args.address.now c.args.other.now l.base l.address in
    let read = read_by c.args.units.now lines in
    c.is_any_made.ensures ∙ ap (λ (ls : List Line). list_any makes ls) c.deref.ensures.value
    ∙ any_made c.args.address.now c.args.other.now read c.in-Lines.lines.items
    ∙ ap (λ (s : Slot). has_maker c.args.address.now c.args.other.now read s) (sym c.in-Lines.is)
