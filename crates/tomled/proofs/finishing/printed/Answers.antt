use Rattle.std.proofs.Common.{◌∙◌}
use Rattle.tomled.proofs.Ended.{printed_alone}
use Rattle.tomled.proofs.finishing.printed.Goals as goal

pub returns : goal.returns
returns g c =
    printed_alone g.F.Write.contents g.O.Write.contents g.E.Write.contents c.args.streams.now (record { out = c.deliver-status.new.out; err = c.deliver-status.new.err }) _ _
    (c.as_mut_slice.ensures.value ∙ c.new-none.ensures.items) c.args.outcome c.without_files-outcome.result c.without_files-outcome.ensures.rest _ c.new.ensures.items c.deliver-status.ensures
