use Rattle.std.proofs.Common.{Ok, Err, refl, ap, ◌∙◌}
use Rattle.tomled.specs.Finishing.{certificate_at}
use Rattle.tomled.proofs.Settled.{was_replaced}
use Rattle.tomled.proofs.finishing.replaced.Goals as goal

pub returns-in-Ok : goal.returns-in-Ok
returns-in-Ok g c =
    let pair = c.certificate_at-shown.ensures ∙ ap (certificate_at c.args.certificate) c.deref.ensures.value in
    was_replaced c.args.file.now c.args.certificate c.args.outcome c.deref-2.result.now _ c.deref-2.ensures.value pair (Ok c.in-Ok.field-0)
    (Ok c.without_files.result) (
      c.without_files.result,
      refl,
      (
        c.without_text.result,
        (c.without_text.ensures.out, c.without_text.ensures.rest),
        (c.without_files.ensures.files, c.without_files.ensures.rest),
      ),
    ) _ _ c.in-Ok.ensures

pub returns-in-Err : goal.returns-in-Err
returns-in-Err g c =
    let pair = c.certificate_at-shown.ensures ∙ ap (certificate_at c.args.certificate) c.deref.ensures.value in
    was_replaced c.args.file.now c.args.certificate c.args.outcome c.deref-2.result.now _ c.deref-2.ensures.value pair (Err c.in-Err.fault) c.unreplaced.result
    c.unreplaced.ensures _ _ c.in-Err.ensures
