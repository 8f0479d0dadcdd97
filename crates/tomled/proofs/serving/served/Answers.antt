use Rattle.std.proofs.Common.{Ok, Err, subst}
use Rattle.toml_replace.specs.Calls.{Made}
use Rattle.tomled.specs.Finishing.{IsSettled}
use Rattle.tomled.proofs.Ended.{all_served, none_left, none_served}
use Rattle.tomled.proofs.serving.served.Goals as goal

pub returns-in-Err : goal.returns-in-Err
returns-in-Err g c =
    none_served g.F.Write.contents g.O.Write.contents g.E.Write.contents c.args.streams.now c.args.request.now _ _ (g.D.Disk.calls c.args.system.now.disk) (g.D.Disk.calls c.args.system.now.disk)
    c.in-Err.fault (g.S.Opener.opened c.args.system.now.opener) c.in-Err.ensures

pub returns-in-Ok-settled : goal.returns-in-Ok-settled
returns-in-Ok-settled g c =
    let request = c.args.request.now in
    let made =
    subst (λ inputs. Made (g.D.Disk.calls c.args.system.now.disk) (g.D.Disk.calls c.settled.new.disk) (IsSettled request inputs c.in-Ok.reply.outcome (Ok c.in-Ok-settled.left))) c.deref.ensures.value
    c.in-Ok-settled.ensures in
    all_served g.F.Write.contents g.O.Write.contents g.E.Write.contents c.args.streams.now request _ _ _ _ c.given_out.new.streams c.in-Ok.reply c.in-Ok-settled.left c.given_out.result _ _
    c.in-Ok.ensures made c.given_out.ensures

pub returns : goal.returns
returns g c =
    let request = c.args.request.now in
    let made =
    subst (λ inputs. Made (g.D.Disk.calls c.args.system.now.disk) (g.D.Disk.calls c.settled.new.disk) (IsSettled request inputs c.in-Ok.reply.outcome (Err c.in-Err-settled.fault))) c.deref.ensures.value
    c.in-Err-settled.ensures in
    none_left g.F.Write.contents g.O.Write.contents g.E.Write.contents c.args.streams.now request _ _ _ _ c.in-Ok.reply c.in-Err-settled.fault (g.S.Opener.opened c.args.system.now.opener)
    c.in-Ok.ensures made
