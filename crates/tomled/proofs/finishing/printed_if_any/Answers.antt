use Rattle.std.proofs.Common.{Ok, refl, subst, sym}
use Rattle.tomled.specs.Ending.{IsPrintedIfAny}
use Rattle.tomled.proofs.finishing.printed_if_any.Goals as goal

pub returns-in-Ok : goal.returns-in-Ok
returns-in-Ok g c =
    subst (λ o. IsPrintedIfAny g.F.Write.contents g.O.Write.contents g.E.Write.contents c.args.streams.now c.printed.new.streams o (Ok c.printed.result)) (sym c.in-Ok.is) (c.printed.result, refl, c.printed.ensures)
