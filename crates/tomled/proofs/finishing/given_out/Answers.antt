use Rattle.std.proofs.Common.{subst}
use Rattle.tomled.specs.Ending.{TellsUnopened}
use Rattle.tomled.proofs.Ended.{is_given, not_given}
use Rattle.tomled.proofs.finishing.given_out.Goals as goal

pub returns-in-Ok : goal.returns-in-Ok
returns-in-Ok g c =
    is_given g.F.Write.contents g.O.Write.contents g.E.Write.contents c.args.streams.now c.written_out.new.streams c.args.request.now c.args.left c.in-Ok.given _ _ c.in-Ok.ensures

pub returns : goal.returns
returns g c =
    not_given g.F.Write.contents g.O.Write.contents g.E.Write.contents c.args.streams.now c.printed_if_any.new.streams c.args.request.now c.written_out.new.streams c.args.left c.in-Err.fault
    c.unopened-told.result c.printed_if_any.result (subst (λ e. TellsUnopened e c.in-Err.fault c.unopened-told.result) c.explains.ensures c.unopened-told.ensures) c.printed_if_any.ensures
    _ _ c.in-Err.ensures
