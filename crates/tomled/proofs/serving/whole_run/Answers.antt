use Rattle.std.proofs.Common.{Ok, Err, map, string_bytes, refl}
use Rattle.tomled.proofs.Ended.{whole_run}
use Rattle.tomled.proofs.serving.whole_run.Goals as goal

pub returns-in-Ok : goal.returns-in-Ok
returns-in-Ok g c =
    whole_run g.F.Write.contents g.O.Write.contents g.E.Write.contents c.args.streams.now c.obeyed.new.streams c.obeyed.new.streams (map string_bytes c.args.words.now) (Ok c.in-Ok.given) c.in-Ok.given
    (refl, refl) _ _ _ _ _ _ c.in-Ok.ensures

pub returns-in-Err : goal.returns-in-Err
returns-in-Err g c =
    whole_run g.F.Write.contents g.O.Write.contents g.E.Write.contents c.args.streams.now c.obeyed.new.streams (record { out = c.obeyed.new.streams.out; err = c.tell.new.err })
    (map string_bytes c.args.words.now) (Err c.in-Err.fault) (c.tell.result, c.new.result)
    (record { tried = c.tell.ensures.tried; same_out = refl; status = c.tell.ensures.status; files = c.new.ensures.items }) _ _ _ _ _ _ c.in-Err.ensures
