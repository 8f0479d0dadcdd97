use Rattle.std.proofs.Common.{Ok, Err, refl, subst}
use Rattle.std.proofs.lemmas.Result.{err_from_is_err_and}
use Rattle.toml_commands.specs.Explaining.{IsValidated}
use Rattle.toml_delivery.specs.declared.fault.RunFault.TheVariants.{Memory}
use Rattle.tomled.specs.Validating.{IsOneTold}
use Rattle.tomled.proofs.Asking.{one}
use Rattle.tomled.proofs.Validated.{told_fault}
use Rattle.tomled.proofs.validate.validated_file.Goals as goal

pub returns-in_err-validated_bytes-in-Ok : goal.returns-in_err-validated_bytes-in-Ok
returns-in_err-validated_bytes-in-Ok g c =
    let p = err_from_is_err_and c.from_residual.result c.from_residual.ensures.1 in
    rw (p.1, p.2) (one (IsOneTold c.args.profile c.args.file.now (Err Memory)) _ _ _ c.in-Ok.ensures.added refl)

pub returns-in_ok-validated_bytes-in-Ok : goal.returns-in_ok-validated_bytes-in-Ok
returns-in_ok-validated_bytes-in-Ok g c =
    let o = c.in_ok-validated_bytes-in-Ok.field-0 in
    one (IsOneTold c.args.profile c.args.file.now (Ok o)) _ _ _ c.in-Ok.ensures.added (
      _,
      refl,
      refl,
      (refl, subst (λ bytes. IsValidated c.args.profile c.args.file.now bytes o) c.deref.ensures.value c.in_ok-validated_bytes-in-Ok.ensures),
    )

pub returns-in-Err : goal.returns-in-Err
returns-in-Err g c =
    one (IsOneTold c.args.profile c.args.file.now c.outcome.result) _ _ _ c.in-Err.ensures.added (told_fault c.args.profile _ refl c.in-Err.fault c.in-Err.ensures.word c.outcome.result c.outcome.ensures)
