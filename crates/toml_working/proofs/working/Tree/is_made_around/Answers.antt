use Rattle.std.proofs.Common.{◌∙◌, ◌||◌, ◌++◌, List, ap, ap₂, sym}
use Rattle.std.proofs.lemmas.List.{take-append-drop}
use Rattle.std.specs.List.{list_any}
use Rattle.toml_working.specs.declared.lines.Slot.{Slot}
use Rattle.toml_working.specs.RemoveStanding.{makes_beside}
use Rattle.toml_working.specs.Seeing.{read_by}
use Rattle.toml_working.specs.Standing.{slots_standing}
use Rattle.toml_working.proofs.MadeBeside.{parts_have}
use Rattle.toml_working.proofs.working.Tree.is_made_around.Goals as goal

pub returns-then-is_made_above : goal.returns-then-is_made_above
returns-then-is_made_above c lines =
    let read = read_by c.args.before.units.now lines in
    let q = c.args.address.now in
    let p = c.args.other.now in
    let parts = ap₂ {A = List Slot} (λ x y. x ++ y) c.split_at.ensures.front c.split_at.ensures.back ∙ take-append-drop _ c.deref.result.now ∙ c.deref.ensures.value in
    c.if-is_made_above.true
    ∙ sym (parts_have q p read c.split_at.result.0.now c.split_at.result.1.now c.args.self.now.slots.items (sym parts)
    ∙ ap (λ b. b || list_any (makes_beside q p) (slots_standing read c.split_at.result.1.now)) (sym (c.is_made_above.ensures lines) ∙ c.if-is_made_above.true))

pub returns-else-is_made_above : goal.returns-else-is_made_above
returns-else-is_made_above c lines =
    let read = read_by c.args.before.units.now lines in
    let parts = ap₂ {A = List Slot} (λ x y. x ++ y) c.split_at.ensures.front c.split_at.ensures.back ∙ take-append-drop _ c.deref.result.now ∙ c.deref.ensures.value in
    sym (parts_have c.args.address.now c.args.other.now read c.split_at.result.0.now c.split_at.result.1.now c.args.self.now.slots.items (sym parts)
    ∙ ap₂ (λ a b. a || b) (sym (c.is_made_above.ensures lines) ∙ c.if-is_made_above.false) (sym (c.is_made_in.ensures lines)))
