use Rattle.std.proofs.Common.{subst, sym}
use Rattle.std.specs.Prelude.{IfSome, MatchOption, slice_get}
use Rattle.toml_working.specs.Seeing.{FindsLine, LacksSought, read_by}
use Rattle.toml_working.specs.Standing.{slot_standing}
use Rattle.toml_working.specs.TablePlaces.{IsImpliedIn}
use Rattle.toml_working.specs.declared.lines.Sought.TheVariants.{HeaderBelow}
use Rattle.toml_working.proofs.working.Tree.implicit_in.Goals as goal

pub returns-in_err-place-clause-implied : goal.returns-in_err-place-clause-implied
returns-in_err-place-clause-implied c lines =
    let read = read_by c.args.before.units.now lines in
    let slots = c.args.self.now.slots.items in
    subst (λ o. MatchOption o (IfSome (slice_get slots c.args.slot) (λ s. LacksSought HeaderBelow c.args.at.now (slot_standing read s))) (IsImpliedIn c.args.at.now read slots c.args.slot))
    (sym c.from_residual.ensures)
    (subst (FindsLine HeaderBelow c.args.at.now c.args.before.units.now slots c.args.slot) c.in_err-place.was c.line_in.ensures.finds lines)
