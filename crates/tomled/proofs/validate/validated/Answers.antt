use Rattle.std.proofs.Common.{◌≡◌, ◌+◌, ◌++◌, [], Err, take, refl, sym, ap, ◌∙◌, subst}
use Rattle.std.specs.Prelude.{max}
use Rattle.std.proofs.lemmas.Result.{err_from_is_err_and}
use Rattle.toml_delivery.specs.declared.fault.RunFault.TheVariants.{Memory}
use Rattle.tomled.specs.Asking.{Asked}
use Rattle.tomled.specs.Validating.{IsOneTold, IsValidation, words_of}
use Rattle.tomled.proofs.Asking.{more}
use Rattle.tomled.proofs.Validated.{SoFar, more_told}
use Rattle.tomled.proofs.validate.validated.Goals as goal

pub returns-in_err-outcome : goal.returns-in_err-outcome
returns-in_err-outcome g c =
    let p = err_from_is_err_and c.from_residual.result c.from_residual.ensures.1 in
    let words = words_of c.args.files.now in
    let fault = c.in_err-outcome.field-0.0 in
    rw (p.1, p.2)
    (more (SoFar c.args.profile (take c.loop-file.file-index words) c.loop-file.status c.loop-file.text.items) (IsOneTold c.args.profile [] (Err fault)) (IsValidation c.args.profile words (Err fault))
    _ _ _ c.loop-file.invariant c.in_err-outcome.ensures (λ xs ys h q. q))

pub returns-in_err-extend_from_slice : goal.returns-in_err-extend_from_slice
returns-in_err-extend_from_slice g c =
    let p = err_from_is_err_and c.from_residual-in_err-extend_from_slice.result c.from_residual-in_err-extend_from_slice.ensures.1 in
    let words = words_of c.args.files.now in
    rw (p.1, p.2)
    (more (SoFar c.args.profile (take c.loop-file.file-index words) c.loop-file.status c.loop-file.text.items) _ (IsValidation c.args.profile words (Err Memory))
    _ _ _ c.loop-file.invariant c.in_ok-outcome.ensures (λ xs ys h q. refl))

pub loop-file-preserved : goal.loop-file-preserved
loop-file-preserved g c =
    let words = words_of c.args.files.now in
    let i = c.loop-file.file-index in
    let s = c.loop-file.status in
    let text = c.loop-file.text.items in
    let o = c.in_ok-outcome.outcome in
    let before = g.I.Inputs.reads c.args.inputs.now in
    let after = g.I.Inputs.reads c.validated_file.new.inputs in
    let items : c.extend_from_slice.new.self.items ≡ text ++ o.err.items = c.in_ok-extend_from_slice.ensures.items ∙ ap (λ l. text ++ l) c.deref.ensures.value in
    subst (λ n. Asked before after (SoFar c.args.profile (take (i + 1) words) n c.extend_from_slice.new.self.items)) (sym c.max-status.ensures)
    (subst (λ l. Asked before after (SoFar c.args.profile (take (i + 1) words) (max o.status s) l)) (sym items)
    (more (SoFar c.args.profile (take i words) s text) _ (SoFar c.args.profile (take (i + 1) words) (max o.status s) (text ++ o.err.items))
    _ _ _ c.loop-file.invariant c.in_ok-outcome.ensures (more_told c.args.profile c.args.files.now i _ s text o c.loop-file-test.true)))
