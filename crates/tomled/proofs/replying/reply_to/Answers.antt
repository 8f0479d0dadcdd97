use Rattle.std.proofs.Common.{Ok, subst}
use Rattle.tomled.specs.Asking.{Asked}
use Rattle.tomled.specs.Validating.{IsValidation, words_of}
use Rattle.tomled.specs.declared.replying.Reply.{Reply}
use Rattle.tomled.proofs.Replied.{file_by_file, read_whole}
use Rattle.tomled.proofs.replying.reply_to.Goals as goal

pub returns-in-Validate : goal.returns-in-Validate
returns-in-Validate g c =
    let reply : Reply = record { inputs = c.new.result; outcome = c.in_ok-outcome.outcome } in
    file_by_file c.args.request.now c.in-Validate.files c.in-Validate.profile c.in-Validate.is reply _ _
    (subst (λ files. Asked (g.I.Inputs.reads c.args.inputs.now) (g.I.Inputs.reads c.validated.new.inputs) (IsValidation c.in-Validate.profile (words_of files) (Ok reply.outcome)))
    c.deref.ensures.value c.in_ok-outcome.ensures)

pub returns : goal.returns
returns g c = read_whole c.args.request.now c.in_default.not-Validate c.reply_from.result _ _ c.reply_from.ensures
