use Rattle.std.proofs.Common.{Err, refl}
use Rattle.tomled.specs.Opening.{IsCreated}
use Rattle.tomled.specs.declared.reading.FileFault.TheVariants.{Failed}
use Rattle.tomled.proofs.Asking.{one}
use Rattle.tomled.proofs.opening.created.Goals as goal

pub returns-in-Err : goal.returns-in-Err
returns-in-Err g c =
    one (IsCreated {F = g.row.F.Denot} c.args.word.now (Err (Failed c.args.word c.in-Err.error))) (record { path = c.args.word.now; gave = Err c.in-Err.error })
    (g.S.Opener.opened c.args.opener.now) (g.S.Opener.opened c.create.new.self) c.in-Err.ensures (refl, refl)
