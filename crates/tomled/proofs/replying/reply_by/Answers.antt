use Rattle.std.proofs.Common.{Some, refl, subst}
use Rattle.toml_words.specs.Request.{asked_by}
use Rattle.toml_commands.specs.Answering.{AnswersRequest}
use Rattle.toml_commands.specs.Explaining.{IsExplained}
use Rattle.toml_delivery.specs.Outcomes.{texts_of}
use Rattle.tomled.proofs.replying.reply_by.Goals as goal

pub returns : goal.returns
returns c =
    let request = c.args.request.now in
    let plain = c.in-Some.plain in
    let given = subst (AnswersRequest (asked_by request) (texts_of c.deref.result.now)) c.in-Some.is c.in_ok-plain.ensures in
    let answer = subst (λ l. AnswersRequest (asked_by request) (texts_of l) (Some plain)) c.deref.ensures.value given in
    let said = subst (λ l. IsExplained request l plain c.in_ok-outcome.outcome) c.deref-2.ensures.value c.in_ok-outcome.ensures in
    (refl, plain, answer, said)
