use Rattle.std.proofs.Common.{◌∙◌, ◌++◌, ◌∷◌, [], ap₂, sym, subst, refl}
use Rattle.toml_working.specs.declared.lines.Slot.TheVariants.{Lines}
use Rattle.toml_working.specs.Stands.{OpensSlot}
use Rattle.toml_working.proofs.lines.Slot.open.Goals as goal

pub returns-in_ok-push : goal.returns-in_ok-push
returns-in_ok-push c =
    subst (λ s. OpensSlot c.args.units.now s (Lines c.push.new.self)) (sym c.in-Kept.is)
    (c.push.new.self, refl, c.in_ok-push.ensures.items ∙ ap₂ (λ xs l. xs ++ l ∷ []) c.in_ok-lines.ensures.items c.in_ok-line.ensures)

pub returns-in_default : goal.returns-in_default
returns-in_default c = subst (λ s. OpensSlot c.args.units.now s s) (sym c.in_default.is) refl
