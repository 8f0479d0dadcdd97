use Rattle.std.proofs.Common.{true, arith, subst}
use Rattle.tomled.specs.Finishing.{IsFileFault}
use Rattle.tomled.proofs.Settled.{is_placed, is_refused}
use Rattle.tomled.proofs.finishing.edited.Goals as goal

pub returns-in-Err : goal.returns-in-Err
returns-in-Err g c =
    is_refused c.args.file.now c.args.list c.args.destination c.args.inputs.now c.args.outcome (omega arith) c.in-Err.error c.failed.result
    (subst (λ word. IsFileFault true word c.failed.result) c.path_or.ensures c.failed.ensures) _ _ c.in-Err.ensures

pub returns : goal.returns
returns g c =
    is_placed c.args.file.now c.args.list c.args.destination c.args.inputs.now c.args.outcome (omega arith) c.placed.result _ _ _ c.in_default.ensures c.placed.ensures
