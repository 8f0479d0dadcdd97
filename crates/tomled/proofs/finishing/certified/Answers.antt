use Rattle.tomled.proofs.Settled.{is_certified, not_certified, without_path}
use Rattle.tomled.proofs.finishing.certified.Goals as goal

pub returns-in_default : goal.returns-in_default
returns-in_default g c =
    without_path c.args.before.now c.args.edits.now c.args.after.now c.args.cert c.in_default.is c.args.outcome c.without_files.result (c.without_files.ensures.files, c.without_files.ensures.rest)
    (g.D.Disk.calls c.args.disk.now)

pub returns-in-Ok : goal.returns-in-Ok
returns-in-Ok g c =
    is_certified c.args.before.now c.args.edits.now c.args.after.now c.args.cert c.in-Some.path c.in-Some.is c.args.outcome c.if-outcome-ne0.false _ _ c.in-Ok.ensures

pub returns-in-Err : goal.returns-in-Err
returns-in-Err g c =
    not_certified c.args.before.now c.args.edits.now c.args.after.now c.args.cert c.in-Some.path c.in-Some.is c.args.outcome c.if-outcome-ne0.false c.in-Err.error c.failed.result c.failed.ensures
    _ _ c.in-Err.ensures
