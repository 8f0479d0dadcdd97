use Rattle.std.proofs.Common.{subst, sym}
use Rattle.std.specs.Prelude.{IfSome, MatchOption, slice_get}
use Rattle.toml_working.specs.Seeing.{FindsLine, LacksSought, read_by}
use Rattle.toml_working.specs.Standing.{slot_standing}
use Rattle.toml_working.specs.TablePlaces.{IsDottedPlace}
use Rattle.toml_working.specs.declared.lines.Sought.TheVariants.{Dotted}
use Rattle.toml_working.proofs.Alone.{never_dotted}
use Rattle.toml_working.proofs.working.Tree.dotted_in.Goals as goal

pub returns-clause-meets : goal.returns-clause-meets
returns-clause-meets c lines headed =
    absurd (never_dotted c.args.at.now c.args.before.units.now c.args.self.now.slots.items c.args.slot c.line_in.result _ c.line_in.ensures.finds c.in_ok-place.was lines headed)

pub returns-in_err-place-clause-dotted : goal.returns-in_err-place-clause-dotted
returns-in_err-place-clause-dotted c lines =
    let finds = c.line_in.ensures.finds in
    subst (λ o. MatchOption o (IfSome (slice_get c.args.self.now.slots.items c.args.slot) (λ s. LacksSought Dotted c.args.at.now (slot_standing (read_by c.args.before.units.now lines) s))) IsDottedPlace)
    (sym c.from_residual.ensures)
    (subst (FindsLine Dotted c.args.at.now c.args.before.units.now c.args.self.now.slots.items c.args.slot) c.in_err-place.was finds lines)
