use Rattle.std.proofs.Common.{◌∙◌, Ok, Err, ap, inl, map, refl, subst}
use Rattle.std.proofs.lemmas.Result.{err_from_is_err_and}
use Rattle.toml_delivery.specs.declared.fault.RunFault.TheVariants.{Memory}
use Rattle.toml_commands.specs.Answering.{sought}
use Rattle.tomled.specs.Replies.{IsReplyFrom}
use Rattle.tomled.specs.Validating.{IsOutcomeOf}
use Rattle.tomled.specs.declared.replying.Reply.{Reply}
use Rattle.tomled.proofs.Asking.{nothing}
use Rattle.tomled.proofs.Replied.{all_read, one_unread}
use Rattle.tomled.proofs.replying.reply_from.Goals as goal

pub returns-in_err-sources : goal.returns-in_err-sources
returns-in_err-sources g c =
    let p = err_from_is_err_and c.from_residual.result c.from_residual.ensures.1 in
    rw (p.1, p.2) (nothing (IsReplyFrom c.args.request.now (Err Memory)) (g.I.Inputs.reads c.args.inputs.now) (inl refl))

pub returns-in-Ok : goal.returns-in-Ok
returns-in-Ok g c =
    all_read c.args.request.now c.deref.result.now (ap (map sought) c.deref.ensures.value ∙ c.in_ok-sources.ensures) c.in-Ok.read c.reply_by.result c.reply_by.ensures _ _ c.in-Ok.ensures

pub returns : goal.returns
returns g c =
    let reply : Reply = record { inputs = c.new.result; outcome = c.in_ok-outcome-in-Err.outcome } in
    one_unread c.args.request.now c.deref.result.now (ap (map sought) c.deref.ensures.value ∙ c.in_ok-sources.ensures) c.in-Err.fault reply
    (subst (λ e. IsOutcomeOf e c.in-Err.fault (Ok reply.outcome)) c.explains.ensures c.in_ok-outcome-in-Err.ensures) _ _ c.in-Err.ensures
